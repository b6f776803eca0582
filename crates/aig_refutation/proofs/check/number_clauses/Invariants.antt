use Rattle.std.proofs.Common.{◌≡◌, take}
use Rattle.aig_base.specs.Formula.{clauses_in}
use Rattle.aig_refutation.specs.Concluding.{IsFormula}
use Rattle.aig_refutation.proofs.check.number_clauses.Given as goal

abbrev pub invariant-loop-i : goal.invariant-loop-i
invariant-loop-i l = record {
  clauses : l.checker.table.clauses ≡ clauses_in (take l.i l.cnf);
  variables : l.checker.variables ≡ l.fn.checker.variables;
  formula : IsFormula l.fn.checker → IsFormula l.checker;
}
