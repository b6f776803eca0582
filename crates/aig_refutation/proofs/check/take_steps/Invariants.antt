use Rattle.std.proofs.Common.{◌≡◌, ◌≤◌, ◌^◌, List, None}
use Rattle.std.specs.Prelude.{IsSome}
use Rattle.aig_base.specs.declared.logic.literal.Lit.{Lit}
use Rattle.aig_refutation.specs.Ahead.{IsAhead}
use Rattle.aig_refutation.specs.Checking.{Live}
use Rattle.aig_refutation.specs.Kept.{IsKept}
use Rattle.aig_refutation.specs.Reading.{said_by}
use Rattle.aig_refutation.specs.Tables.{Holds}
use Rattle.aig_refutation.specs.Taken.{KeepsLive}
use Rattle.aig_refutation.specs.Tokens.{place, rest}
use Rattle.aig_refutation.proofs.Outcomes.{GoesOn}
use Rattle.aig_refutation.proofs.Plainly.{GoesPlain}
use Rattle.aig_refutation.proofs.check.take_steps.Given as goal

abbrev pub invariant-steps : goal.invariant-steps
invariant-steps g l = record {
  most : l.bound ≤ 2 ^ 31;
  keeps : (live : Live) → IsSome l.fn.search → Holds l.fn.checker.table live
      → IsSome l.search × IsKept live l.checker.table;
  shown : (live : Live) → l.fn.search ≡ None → Holds l.fn.checker.table live
      → record {
        search : l.search ≡ None;
        now : Live;
        holds : Holds l.checker.table now;
        keeps : KeepsLive live now;
        goes : GoesOn l.variables live (said_by l.fn.step) (place g.R.Source.left g.R.Source.failed
            g.R.Source.pulls l.fn.words l.fn.r) l.bound now (said_by l.step) (place g.R.Source.left
            g.R.Source.failed g.R.Source.pulls l.words l.r);
      };
  plain : (clauses : List (List Lit)) → IsSome l.fn.search → IsAhead clauses l.fn.checker.table
      → record {
        search : IsSome l.search;
        now : List (List Lit);
        ahead : IsAhead now l.checker.table;
        goes : GoesPlain l.variables clauses (said_by l.fn.step) (place g.R.Source.left
            g.R.Source.failed g.R.Source.pulls l.fn.words l.fn.r) l.bound now (said_by l.step) (place
            g.R.Source.left g.R.Source.failed g.R.Source.pulls l.words l.r);
      };
}

abbrev pub decreases-steps : goal.decreases-steps
decreases-steps g l = rest g.R.Source.pulls l.words l.r
