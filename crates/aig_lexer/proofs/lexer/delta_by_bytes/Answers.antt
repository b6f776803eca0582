use Rattle.aig_base.proofs.Words.{◌∙◌, ◌∷◌, [], ◌+◌, ◌-◌, ◌*◌, ◌%◌, ℕ, None, sym, ap, arith, pow_more, err_from_is_err_and}
use Rattle.aig_format.specs.Parse.{parse_delta}
use Rattle.aig_lexer.specs.Takes.{feed}
use Rattle.aig_lexer.proofs.Deltas.{groups_following, delta_starts, delta_ends, delta_gives, delta_overflows, delta_goes, delta_too_long, group_fits, place_fits}
use Rattle.aig_lexer.proofs.Going.{goes_start, goes_taken, goes_done, goes_nowhere, goes_same}
use Rattle.aig_lexer.proofs.Taking.{byte_came, goes_short}
use Rattle.aig_lexer.specs.Faults.{word_cause}
use Rattle.aig_lexer.proofs.Faults.{tells-weaker}
use Rattle.aig_lexer.proofs.lexer.delta_by_bytes.Goals as goal

pub loop-init : goal.loop-init
loop-init g c = record {
  goes_on = goes_same parse_delta parse_delta (groups_following 0 1 5) _ (feed g.R.Source.left g.R.Source.failed g.R.Source.pulls c.args.buffer.now c.args.r.now) (goes_start parse_delta _) delta_starts;
  small = omega arith;
  place = omega arith;
}

pub returns-in_err-b : goal.returns-in_err-b
returns-in_err-b g c =
    let p = err_from_is_err_and c.from_residual.result c.from_residual.ensures.1 in
    rw (p.1, p.2) (tells-weaker (word_cause c.in_err-b.field-0.0) _ _ _
    (goes_short parse_delta (groups_following c.loop.difference c.loop.place (5 - c.loop.counter)) _ _ c.loop.invariant.goes_on (delta_ends c.loop.difference c.loop.place c.loop.counter c.loop-test.true))
    c.in_err-b.ensures)

pub overflow_mul-difference : goal.overflow_mul-difference
overflow_mul-difference g c =
    omega (arith, group_fits c.loop.difference c.loop.place c.in_ok-b.b c.loop.invariant.small, place_fits c.loop.place c.loop.counter c.loop-test.true c.loop.invariant.place)

pub overflow_add-difference : goal.overflow_add-difference
overflow_add-difference g c =
    omega (arith, group_fits c.loop.difference c.loop.place c.in_ok-b.b c.loop.invariant.small, place_fits c.loop.place c.loop.counter c.loop-test.true c.loop.invariant.place)

pub returns-then-difference : goal.returns-then-difference
returns-then-difference g c =
    goes_nowhere parse_delta _ _
    (goes_taken parse_delta (groups_following c.loop.difference c.loop.place (5 - c.loop.counter)) (λ bs. None) _ _ _ (c.in_ok-b.b ∷ []) c.loop.invariant.goes_on (byte_came _ _ c.in_ok-b.b c.in_ok-b.ensures)
    (λ bs. delta_overflows c.loop.difference c.loop.place c.loop.counter c.in_ok-b.b bs c.loop-test.true c.if-b-lt128.true (omega arith)))

pub returns-then-b-lt128 : goal.returns-then-b-lt128
returns-then-b-lt128 g c =
    goes_done parse_delta (c.loop.difference + c.loop.place * (c.in_ok-b.b % 128)) _ _
    (goes_taken parse_delta (groups_following c.loop.difference c.loop.place (5 - c.loop.counter)) _ _ _ _ (c.in_ok-b.b ∷ []) c.loop.invariant.goes_on (byte_came _ _ c.in_ok-b.b c.in_ok-b.ensures)
    (λ bs. delta_gives c.loop.difference c.loop.place c.loop.counter c.in_ok-b.b bs c.loop-test.true c.if-b-lt128.true (omega arith)))

pub overflow_mul-place : goal.overflow_mul-place
overflow_mul-place g c = omega (arith, place_fits c.loop.place c.loop.counter c.loop-test.true c.loop.invariant.place)

pub loop-preserved : goal.loop-preserved
loop-preserved g c = record {
  goes_on = goes_taken parse_delta (groups_following c.loop.difference c.loop.place (5 - c.loop.counter)) (groups_following (c.loop.difference + c.loop.place * (c.in_ok-b.b % 128)) (c.loop.place * 128) (5 - (c.loop.counter + 1))) _ _ _ (c.in_ok-b.b ∷ []) c.loop.invariant.goes_on (byte_came _ _ c.in_ok-b.b c.in_ok-b.ensures)
      (λ bs. delta_goes c.loop.difference c.loop.place c.loop.counter c.in_ok-b.b bs c.loop-test.true (omega arith) (omega arith));
  small = group_fits c.loop.difference c.loop.place c.in_ok-b.b c.loop.invariant.small;
  place = ap (λ (p : ℕ). p * 128) c.loop.invariant.place ∙ sym (pow_more 128 c.loop.counter);
}

pub returns : goal.returns
returns g c =
    goes_nowhere parse_delta _ (feed g.R.Source.left g.R.Source.failed g.R.Source.pulls c.loop.buffer c.loop.r)
    (goes_same parse_delta (groups_following c.loop.difference c.loop.place (5 - c.loop.counter)) (λ bs. None) _ (feed g.R.Source.left g.R.Source.failed g.R.Source.pulls c.loop.buffer c.loop.r) c.loop.invariant.goes_on (delta_too_long c.loop.difference c.loop.place c.loop.counter (omega arith)))
