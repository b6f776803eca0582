use Rattle.std.proofs.Common.{◌≤◌, ◌^◌, List}
use Rattle.aig_base.specs.declared.logic.literal.Lit.{Lit}
use Rattle.aig_lexer.specs.Takes.{feed}
use Rattle.aig_refutation.specs.Ahead.{IsAhead}
use Rattle.aig_refutation.specs.Checking.{Live}
use Rattle.aig_refutation.specs.Kept.{IsKept}
use Rattle.aig_refutation.specs.Tables.{Holds}
use Rattle.aig_refutation.proofs.BinarySteps.{GoesBinary}
use Rattle.aig_refutation.proofs.check.take_binary.Given as goal

abbrev pub invariant-steps : goal.invariant-steps
invariant-steps g l = record {
  most : l.bound ≤ 2 ^ 31;
  keeps : (live : Live) → Holds l.fn.checker.table live → IsKept live l.checker.table;
  plain : (clauses : List (List Lit)) → IsAhead clauses l.fn.checker.table
      → record {
        now : List (List Lit);
        ahead : IsAhead now l.checker.table;
        goes : GoesBinary l.variables clauses (feed g.R.Source.left g.R.Source.failed
            g.R.Source.pulls l.fn.buffer l.fn.r) l.bound now (feed g.R.Source.left g.R.Source.failed
            g.R.Source.pulls l.buffer l.r);
      };
}

abbrev pub decreases-steps : goal.decreases-steps
decreases-steps g l = (feed g.R.Source.left g.R.Source.failed g.R.Source.pulls l.buffer l.r).most
