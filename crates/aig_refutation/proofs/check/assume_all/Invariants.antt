use Rattle.std.proofs.Common.{◌≡◌, ◌++◌, take}
use Rattle.aig_refutation.specs.Concluding.{IsFormula}
use Rattle.aig_refutation.proofs.check.assume_all.Given as goal

abbrev pub invariant-loop-i : goal.invariant-loop-i
invariant-loop-i l = record {
  clauses : l.checker.table.clauses ≡ l.fn.checker.table.clauses ++ take l.i l.clauses;
  variables : l.checker.variables ≡ l.fn.checker.variables;
  formula : IsFormula l.fn.checker → IsFormula l.checker;
}
