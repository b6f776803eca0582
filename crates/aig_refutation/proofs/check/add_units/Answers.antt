use Rattle.aig_base.proofs.Words.{[], ◌∷◌, err_from_is_err_and}
use Rattle.aig_refutation.proofs.Keeping.{adds_stays}
use Rattle.aig_refutation.proofs.Kept.{kept_on, more_kept}
use Rattle.aig_refutation.proofs.check.add_units.Goals as goal

pub returns-in_err-number-clause-ahead : goal.returns-in_err-number-clause-ahead
returns-in_err-number-clause-ahead c clauses ahead =
    let p = err_from_is_err_and c.from_residual-in_err-number.result
    c.from_residual-in_err-number.ensures.1 in
    rw (p.1, p.2) (c.in_err-number.ensures.ahead clauses (c.loop.invariant.ahead clauses ahead))

pub loop-preserved : goal.loop-preserved
loop-preserved c =
    let before = c.loop.invariant in
    let then = c.in_ok-number.ensures in
    record {
      keeps = λ live h.
          let now = before.keeps live h in
          kept_on live now.0 c.add_next.new.self.table now.2
          (more_kept now.0 (c.in-Some.lit ∷ []) c.add_next.new.self.table c.in_ok-number.field-0
          (then.keeps now.0 now.1));
      ahead = λ clauses ahead.
          adds_stays clauses (c.in-Some.lit ∷ []) c.add_next.new.self.table c.in_ok-number.field-0
          (then.ahead clauses (before.ahead clauses ahead));
    }
