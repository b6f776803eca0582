use Rattle.aig_base.proofs.Words.{◌≡◌, false, sym, ap, ◌∙◌, arith, err_from_is_err_and}
use Rattle.aig_refutation.specs.Checking.{are_all_in}
use Rattle.aig_refutation.specs.declared.error.RefutationError.TheVariants as errors
use Rattle.aig_refutation.proofs.Following.{put_more}
use Rattle.aig_refutation.proofs.Formulas.{formula_more, one_out}
use Rattle.aig_refutation.proofs.Known.{tells_on}
use Rattle.aig_refutation.proofs.check.assume_all.Goals as goal

pub loop-i-preserved : goal.loop-i-preserved
loop-i-preserved c =
    let so_far = c.loop-i.invariant in
    let old = c.loop-i.checker in
    let new = c.assume.new.self in
    let clause = c.clause.result.now in
    record {
      clauses =
          c.in_ok-assume.ensures.assumed
          ∙ put_more c.args.checker.now.table.clauses c.loop-i.checker.table.clauses
          c.args.clauses.now c.loop-i.i c.clause.result.now (omega arith) c.clause.ensures
          so_far.clauses;
      variables = c.in_ok-assume.ensures.variables ∙ so_far.variables;
      formula = λ h.
          let before = so_far.formula h in
          formula_more old new clause before c.in_ok-assume.ensures.assumed
          c.in_ok-assume.ensures.variables (c.in_ok-assume.ensures.holds before.holds)
          (c.in_ok-assume.ensures.refused before.holds);
    }

pub returns-in_err-assume-clause-variables : goal.returns-in_err-assume-clause-variables
returns-in_err-assume-clause-variables c = c.in_err-assume.ensures.variables ∙
    c.loop-i.invariant.variables

pub returns-in_err-assume-clause-refused : goal.returns-in_err-assume-clause-refused
returns-in_err-assume-clause-refused c h =
    let so_far = c.loop-i.invariant in
    let e = c.in_err-assume.field-0.0 in
    let p = err_from_is_err_and c.from_residual.result c.from_residual.ensures.1 in
    let clauses = c.args.clauses.now in
    rw (p.1, p.2)
    (tells_on e _ ((e ≡ errors.Variable) × (are_all_in c.args.checker.now.variables clauses ≡
    false))
    (λ wrong. (
      wrong.0,
      sym (ap (λ n. are_all_in n clauses) so_far.variables) ∙ one_out c.loop-i.checker.variables
          clauses c.loop-i.i c.clause.result.now c.clause.ensures wrong.1,
    )) (c.in_err-assume.ensures.refused (so_far.formula h).holds))

pub returns-clause-variables : goal.returns-clause-variables
returns-clause-variables c = c.loop-i.invariant.variables

pub returns-clause-holds : goal.returns-clause-holds
returns-clause-holds c = c.loop-i.invariant.formula
