use Rattle.std.proofs.Common.{◌≡◌, ◌++◌, false, slice_get, sym, ap, ◌∙◌, arith}
use Rattle.aig_base.proofs.Words.{err_from_is_err_and}
use Rattle.aig_base.specs.Formula.{clauses_in}
use Rattle.aig_refutation.specs.Checking.{are_all_in}
use Rattle.aig_refutation.specs.declared.error.RefutationError.TheVariants as errors
use Rattle.aig_refutation.proofs.Following.{clauses_in_more}
use Rattle.aig_refutation.proofs.Formulas.{part_out, refused_last}
use Rattle.aig_refutation.proofs.Known.{tells_on}
use Rattle.aig_refutation.proofs.check.number_clauses.Goals as goal

pub loop-i-preserved : goal.loop-i-preserved
loop-i-preserved c = record {
  clauses =
      c.in_ok-assume_all.ensures.assumed
      ∙ clauses_in_more c.loop-i.checker.table.clauses c.args.cnf.now c.loop-i.i
      c.clauses_of.result.now (omega (arith, c.num_vars-i-end.ensures.count)) (ap (slice_get
      c.args.cnf.now) (sym c.new-var.ensures) ∙ c.clauses_of.ensures) c.loop-i.invariant.clauses;
  variables = c.in_ok-assume_all.ensures.variables ∙ c.loop-i.invariant.variables;
  formula = λ h. c.in_ok-assume_all.ensures.holds (c.loop-i.invariant.formula h);
}

pub returns-in_err-assume_all-clause-variables : goal.returns-in_err-assume_all-clause-variables
returns-in_err-assume_all-clause-variables c = c.in_err-assume_all.ensures.variables ∙
    c.loop-i.invariant.variables

pub returns-in_err-assume_all-clause-refused : goal.returns-in_err-assume_all-clause-refused
returns-in_err-assume_all-clause-refused c h =
    let so_far = c.loop-i.invariant in
    let e = c.in_err-assume_all.field-0.0 in
    let p = err_from_is_err_and c.from_residual.result c.from_residual.ensures.1 in
    let clauses = clauses_in c.args.cnf.now ++ c.args.extra.now in
    rw (p.1, p.2)
    (tells_on e _ ((e ≡ errors.Variable) × (are_all_in c.args.checker.now.variables clauses ≡
    false))
    (λ wrong. (
      wrong.0,
      sym (ap (λ n. are_all_in n clauses) so_far.variables) ∙ part_out c.loop-i.checker.variables
          c.args.cnf.now c.args.extra.now c.loop-i.i c.clauses_of.result.now (ap (slice_get
          c.args.cnf.now) (sym c.new-var.ensures) ∙ c.clauses_of.ensures) wrong.1,
    )) (c.in_err-assume_all.ensures.refused (so_far.formula h)))

pub returns-clause-variables : goal.returns-clause-variables
returns-clause-variables c = c.assume_all-2.ensures.variables ∙ c.loop-i.invariant.variables

pub returns-clause-holds : goal.returns-clause-holds
returns-clause-holds c h = c.assume_all-2.ensures.holds (c.loop-i.invariant.formula h)

pub returns-clause-refused : goal.returns-clause-refused
returns-clause-refused c h =
    let so_far = c.loop-i.invariant in
    refused_last c.loop-i.checker.variables c.args.checker.now.variables so_far.variables
    (clauses_in c.args.cnf.now) c.args.extra.now c.assume_all-2.result
    (c.assume_all-2.ensures.refused (so_far.formula h))
