use Rattle.std.proofs.Common.{List}
use Rattle.aig_base.specs.declared.logic.literal.Lit.{Lit}
use Rattle.aig_refutation.specs.Ahead.{IsAhead}
use Rattle.aig_refutation.specs.Checking.{Live}
use Rattle.aig_refutation.specs.Kept.{IsKept}
use Rattle.aig_refutation.specs.Tables.{Holds}
use Rattle.aig_refutation.proofs.check.add_units.Given as goal

abbrev pub invariant-loop : goal.invariant-loop
invariant-loop l = record {
  keeps : (live : Live) → Holds l.fn.checker.table live → IsKept live l.checker.table;
  ahead : (clauses : List (List Lit)) → IsAhead clauses l.fn.checker.table
      → IsAhead clauses l.checker.table;
}
