use Rattle.std.proofs.Common.{sym, ap, subst, ◌∙◌}
use Rattle.aig_refutation.specs.Concluding.{IsFormula}
use Rattle.aig_refutation.specs.Tables.{Checked}
use Rattle.aig_refutation.proofs.Formulas.{formula_empty}
use Rattle.aig_refutation.proofs.check.check_refutation.Goals as goal

pub returns-clause-shown : goal.returns-clause-shown
returns-clause-shown g c =
    c.check_clauses.ensures.shown (subst (λ (checker : Checked). IsFormula checker) (sym
    c.in_ok-checker.ensures) (formula_empty c.num_vars.result)) (ap (λ checker. checker.variables)
    c.in_ok-checker.ensures ∙ c.num_vars.ensures.count) c.new-step.ensures

pub returns-clause-refuted : goal.returns-clause-refuted
returns-clause-refuted g c =
    c.check_clauses.ensures.refuted (subst (λ (checker : Checked). IsFormula checker) (sym
    c.in_ok-checker.ensures) (formula_empty c.num_vars.result))
