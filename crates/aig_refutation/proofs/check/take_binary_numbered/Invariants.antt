use Rattle.std.proofs.Common.{◌≤◌, ◌^◌}
use Rattle.aig_lexer.specs.Takes.{feed}
use Rattle.aig_refutation.specs.Checking.{Live}
use Rattle.aig_refutation.specs.ReadingBinary.{Passes}
use Rattle.aig_refutation.specs.Tables.{Holds}
use Rattle.aig_refutation.specs.Taken.{KeepsLive}
use Rattle.aig_refutation.proofs.NumberedSteps.{numbered_shown}
use Rattle.aig_refutation.proofs.check.take_binary_numbered.Given as goal

abbrev pub invariant-steps : goal.invariant-steps
invariant-steps g l = record {
  most : l.bound ≤ 2 ^ 31;
  shown : (live : Live) → Holds l.fn.checker.table live
      → record {
        now : Live;
        holds : Holds l.checker.table now;
        keeps : KeepsLive live now;
        goes : Passes (numbered_shown l.variables live) (numbered_shown l.bound now)
            (feed g.R.Source.left g.R.Source.failed g.R.Source.pulls l.fn.buffer l.fn.r)
            (feed g.R.Source.left g.R.Source.failed g.R.Source.pulls l.buffer l.r);
      };
}

abbrev pub decreases-steps : goal.decreases-steps
decreases-steps g l = (feed g.R.Source.left g.R.Source.failed g.R.Source.pulls l.buffer l.r).most
