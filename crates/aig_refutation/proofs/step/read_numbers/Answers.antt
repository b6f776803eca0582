use Rattle.aig_base.proofs.Words.{◌≡◌, ℕ, List, Err, true, false, sym, ap, ◌∙◌, arith, ne_eqb, err_from_is_err_and}
use Rattle.aig_refutation.specs.Proofs.{clause_number, is_zero}
use Rattle.aig_refutation.specs.Reading.{reads_numbers}
use Rattle.aig_refutation.specs.Skipping.{end_line}
use Rattle.aig_refutation.specs.Tokens.{next_number, place, said_number}
use Rattle.aig_refutation.proofs.LineParts.{numbers_broken, numbers_done, numbers_more, numbers_not_done, numbers_refused}
use Rattle.aig_refutation.proofs.ReadersInTurn.{gives_after, gives_same, gives_wrong, on_on, on_read, on_start, part_wrong}
use Rattle.aig_refutation.proofs.step.read_numbers.Goals as goal

pub loop-number-init : goal.loop-number-init
loop-number-init g c = record {
  fewer = omega arith;
  goes = on_start (reads_numbers clause_number (said_number c.args.first)
      c.args.numbers.now.items) (place g.R.Source.left g.R.Source.failed g.R.Source.pulls
      c.args.words.now c.args.r.now);
}

pub returns-in_err-clause_number-clause-numbers : goal.returns-in_err-clause_number-clause-numbers
returns-in_err-clause_number-clause-numbers g c =
    let at = place g.R.Source.left g.R.Source.failed g.R.Source.pulls in
    let before = at c.args.words.now c.args.r.now in
    let now = at c.loop-number.words c.loop-number.r in
    let q = reads_numbers clause_number (said_number c.args.first) c.args.numbers.now.items in
    let n = said_number c.loop-number.number in
    let numbers = c.loop-number.numbers.items in
    let s = reads_numbers clause_number n numbers in
    let view = λ (done : Unit {0}). numbers in
    let e = c.in_err-clause_number.field-0.0 in
    let p = err_from_is_err_and c.from_residual.result c.from_residual.ensures.1 in
    let more : is_zero n ≡ false = ne_eqb c.loop-number.number.value 0 c.loop-number-test.true in
    rw (p.1, p.2) (gives_wrong q s before now now view e c.loop-number.invariant.goes (λ last ws.
    numbers_refused clause_number last n numbers ws more e
    c.in_err-clause_number.ensures.number))

pub returns-in_err-number-clause-numbers : goal.returns-in_err-number-clause-numbers
returns-in_err-number-clause-numbers g c =
    let at = place g.R.Source.left g.R.Source.failed g.R.Source.pulls in
    let before = at c.args.words.now c.args.r.now in
    let now = at c.loop-number.words c.loop-number.r in
    let q = reads_numbers clause_number (said_number c.args.first) c.args.numbers.now.items in
    let n = said_number c.loop-number.number in
    let numbers = c.loop-number.numbers.items in
    let s = reads_numbers clause_number n numbers in
    let view = λ (done : Unit {0}). numbers in
    let more : is_zero n ≡ false = ne_eqb c.loop-number.number.value 0 c.loop-number-test.true in
    let after = at c.number.new.self c.number.new.r in
    let e = c.in_err-number.field-0.0 in
    let p = err_from_is_err_and c.from_residual-in_err-number.result
    c.from_residual-in_err-number.ensures.1 in
    rw (p.1, p.2)
    (gives_after q s before now after view (Err e) c.loop-number.invariant.goes
    (part_wrong next_number s now after after said_number view e c.in_err-number.ensures.number (λ
    last ws. numbers_broken clause_number last n numbers ws more
    c.in_ok-clause_number.field-0 c.in_ok-clause_number.ensures.number e)))

pub loop-number-preserved : goal.loop-number-preserved
loop-number-preserved g c =
    let at = place g.R.Source.left g.R.Source.failed g.R.Source.pulls in
    let before = at c.args.words.now c.args.r.now in
    let now = at c.loop-number.words c.loop-number.r in
    let q = reads_numbers clause_number (said_number c.args.first) c.args.numbers.now.items in
    let n = said_number c.loop-number.number in
    let numbers = c.loop-number.numbers.items in
    let s = reads_numbers clause_number n numbers in
    let more : is_zero n ≡ false = ne_eqb c.loop-number.number.value 0 c.loop-number-test.true in
    let after = at c.number.new.self c.number.new.r in
    let m = said_number c.in_ok-number.number in
    let t = reads_numbers clause_number m c.push.new.list.items in
    record {
      fewer = let less = c.in_ok-number.ensures.fewer in omega (
        arith,
        less,
        c.loop-number.invariant.fewer,
      );
      goes =
          on_on q s before now after t c.loop-number.invariant.goes
          (on_read s t now after after next_number m c.in_ok-number.ensures.number
          (λ last ws rest is. numbers_more clause_number last n numbers ws more
          c.in_ok-clause_number.field-0 c.in_ok-clause_number.ensures.number m rest is
          ∙ ap (λ (items : List ℕ). reads_numbers clause_number m items last rest) (sym
          c.in_ok-push.ensures.items)));
    }

pub returns-clause-numbers : goal.returns-clause-numbers
returns-clause-numbers g c =
    let at = place g.R.Source.left g.R.Source.failed g.R.Source.pulls in
    let before = at c.args.words.now c.args.r.now in
    let now = at c.loop-number.words c.loop-number.r in
    let q = reads_numbers clause_number (said_number c.args.first) c.args.numbers.now.items in
    let n = said_number c.loop-number.number in
    let numbers = c.loop-number.numbers.items in
    let s = reads_numbers clause_number n numbers in
    let view = λ (done : Unit {0}). numbers in
    let after = at c.finish.new.self c.finish.new.r in
    let zero : is_zero n ≡ true = ap (λ v. is_zero (true, v)) c.loop-number-test.false in
    gives_after q s before now after view c.finish.result c.loop-number.invariant.goes
    (gives_same end_line s now after (λ (end : Unit {0}). end) view c.finish.result
    c.finish.ensures.ended
    (λ last ws rest done. numbers_done clause_number last n numbers ws zero rest done) (λ last ws e.
    numbers_not_done clause_number last n numbers ws zero e))
