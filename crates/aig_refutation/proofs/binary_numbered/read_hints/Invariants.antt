use Rattle.aig_base.proofs.Words.{◌≡◌, ◌≤◌, ℕ, Bool, List, []}
use Rattle.aig_lexer.specs.Takes.{feed}
use Rattle.aig_refutation.specs.BinaryNumbered.{hint_by}
use Rattle.aig_refutation.specs.Proofs.{groups_at, hints_at}
use Rattle.aig_refutation.specs.Tokens.{said_numbers}
use Rattle.aig_refutation.proofs.BinarySteps.{ReadsOn}
use Rattle.aig_refutation.proofs.binary_numbered.read_hints.Given as goal

abbrev pub invariant-loop-code : goal.invariant-loop-code
invariant-loop-code g l = record {
  fewer : (feed g.R.Source.left g.R.Source.failed g.R.Source.pulls l.buffer l.r).most
      ≤ (feed g.R.Source.left g.R.Source.failed g.R.Source.pulls l.fn.buffer l.fn.r).most;
  goes : l.fn.hints.items ≡ [] → l.fn.groups.items ≡ []
      → record {
        numbers : List (Bool × ℕ);
        hints : hints_at numbers ≡ l.hints.items;
        groups : groups_at numbers ≡ said_numbers l.groups.items;
        on : ReadsOn hint_by [] (feed g.R.Source.left g.R.Source.failed g.R.Source.pulls
            l.fn.buffer l.fn.r) numbers (feed g.R.Source.left g.R.Source.failed g.R.Source.pulls
            l.buffer l.r);
      };
}

abbrev pub decreases-loop-code : goal.decreases-loop-code
decreases-loop-code g l =
    (feed g.R.Source.left g.R.Source.failed g.R.Source.pulls l.buffer l.r).most
