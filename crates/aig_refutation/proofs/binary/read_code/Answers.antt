use Rattle.aig_base.proofs.Words.{◌∙◌, ◌∷◌, [], ◌+◌, ◌-◌, ◌*◌, ◌%◌, ℕ, None, sym, ap, arith, pow_more}
use Rattle.aig_format.specs.Parse.{parse_delta}
use Rattle.aig_lexer.specs.Takes.{feed}
use Rattle.aig_lexer.proofs.Deltas.{groups_following, delta_starts, delta_ends, delta_gives, delta_overflows, delta_goes, delta_too_long, group_fits, place_fits}
use Rattle.aig_lexer.proofs.Feeds.{steps_byte}
use Rattle.aig_lexer.proofs.Going.{goes_start, goes_taken, goes_done, goes_end, goes_nowhere, goes_same}
use Rattle.aig_refutation.proofs.Groups.{misses_code, takes_code}
use Rattle.aig_refutation.proofs.binary.read_code.Goals as goal

pub loop-init : goal.loop-init
loop-init g c = record {
  goes_on = goes_same parse_delta parse_delta (groups_following 0 1 5) _ (feed g.R.Source.left
      g.R.Source.failed g.R.Source.pulls c.args.buffer.now c.args.r.now) (goes_start parse_delta _)
      delta_starts;
  small = omega arith;
  place = omega arith;
}

pub returns-in_default-clause-code : goal.returns-in_default-clause-code
returns-in_default-clause-code g c =
    let at = feed g.R.Source.left g.R.Source.failed g.R.Source.pulls in
    let before = at c.args.buffer.now c.args.r.now in
    let now = at c.loop.buffer c.loop.r in
    let after = at c.next.new.self c.next.new.r in
    misses_code before after
    (goes_end parse_delta (groups_following c.loop.code c.loop.place (5 - c.loop.counter)) before
    now after c.in_ok-byte.field-0 c.loop.invariant.goes_on c.in_ok-byte.ensures.steps c.in_default.is
    (delta_ends c.loop.code c.loop.place c.loop.counter c.loop-test.true))

pub overflow_mul-code : goal.overflow_mul-code
overflow_mul-code g c =
    omega (
      arith,
      group_fits c.loop.code c.loop.place c.in-Some.byte c.loop.invariant.small,
      place_fits c.loop.place c.loop.counter c.loop-test.true c.loop.invariant.place,
    )

pub overflow_add-code : goal.overflow_add-code
overflow_add-code g c =
    omega (
      arith,
      group_fits c.loop.code c.loop.place c.in-Some.byte c.loop.invariant.small,
      place_fits c.loop.place c.loop.counter c.loop-test.true c.loop.invariant.place,
    )

pub returns-then-code-clause-code : goal.returns-then-code-clause-code
returns-then-code-clause-code g c =
    let at = feed g.R.Source.left g.R.Source.failed g.R.Source.pulls in
    let before = at c.args.buffer.now c.args.r.now in
    let now = at c.loop.buffer c.loop.r in
    let after = at c.next.new.self c.next.new.r in
    let byte = c.in-Some.byte in
    misses_code before after
    (goes_nowhere parse_delta before after
    (goes_taken parse_delta (groups_following c.loop.code c.loop.place (5 - c.loop.counter))
    (λ bs. None) before now after (byte ∷ []) c.loop.invariant.goes_on
    (steps_byte now after c.in_ok-byte.field-0 c.in_ok-byte.ensures.steps byte c.in-Some.is)
    (λ bs. delta_overflows c.loop.code c.loop.place c.loop.counter byte bs c.loop-test.true
    c.if-byte-lt128.true (omega arith))))

pub returns-then-byte-lt128-clause-code : goal.returns-then-byte-lt128-clause-code
returns-then-byte-lt128-clause-code g c =
    let at = feed g.R.Source.left g.R.Source.failed g.R.Source.pulls in
    let before = at c.args.buffer.now c.args.r.now in
    let now = at c.loop.buffer c.loop.r in
    let after = at c.next.new.self c.next.new.r in
    let byte = c.in-Some.byte in
    takes_code before after (c.loop.code + c.loop.place * (byte % 128))
    (goes_done parse_delta (c.loop.code + c.loop.place * (byte % 128)) before after
    (goes_taken parse_delta (groups_following c.loop.code c.loop.place (5 - c.loop.counter)) _
    before now after (byte ∷ []) c.loop.invariant.goes_on
    (steps_byte now after c.in_ok-byte.field-0 c.in_ok-byte.ensures.steps byte c.in-Some.is)
    (λ bs. delta_gives c.loop.code c.loop.place c.loop.counter byte bs c.loop-test.true
    c.if-byte-lt128.true (omega arith))))

pub overflow_mul-place : goal.overflow_mul-place
overflow_mul-place g c =
    omega (arith, place_fits c.loop.place c.loop.counter c.loop-test.true c.loop.invariant.place)

pub loop-preserved : goal.loop-preserved
loop-preserved g c =
    let at = feed g.R.Source.left g.R.Source.failed g.R.Source.pulls in
    let before = at c.args.buffer.now c.args.r.now in
    let now = at c.loop.buffer c.loop.r in
    let after = at c.next.new.self c.next.new.r in
    let byte = c.in-Some.byte in
    record {
      goes_on = goes_taken parse_delta (groups_following c.loop.code c.loop.place
          (5 - c.loop.counter)) (groups_following (c.loop.code + c.loop.place * (byte % 128))
          (c.loop.place * 128) (5 - (c.loop.counter + 1))) before now after (byte ∷ [])
          c.loop.invariant.goes_on
          (steps_byte now after c.in_ok-byte.field-0 c.in_ok-byte.ensures.steps byte c.in-Some.is)
          (λ bs. delta_goes c.loop.code c.loop.place c.loop.counter byte bs c.loop-test.true
          (omega arith) (omega arith));
      small = group_fits c.loop.code c.loop.place byte c.loop.invariant.small;
      place = ap (λ (p : ℕ). p * 128) c.loop.invariant.place ∙ sym (pow_more 128 c.loop.counter);
    }

pub returns-clause-code : goal.returns-clause-code
returns-clause-code g c =
    let at = feed g.R.Source.left g.R.Source.failed g.R.Source.pulls in
    let before = at c.args.buffer.now c.args.r.now in
    let now = at c.loop.buffer c.loop.r in
    misses_code before now
    (goes_nowhere parse_delta before now
    (goes_same parse_delta (groups_following c.loop.code c.loop.place (5 - c.loop.counter))
    (λ bs. None) before now c.loop.invariant.goes_on
    (delta_too_long c.loop.code c.loop.place c.loop.counter (omega arith))))
