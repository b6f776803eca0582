use Rattle.aig_base.proofs.Words.{◌≡◌, ◌≤◌, ℕ, Bool, List, []}
use Rattle.aig_refutation.specs.Proofs.{groups_at, hint_number, hints_at}
use Rattle.aig_refutation.specs.Reading.{reads_numbers}
use Rattle.aig_refutation.specs.Tokens.{place, rest, said_number, said_numbers}
use Rattle.aig_refutation.proofs.ReadersInTurn.{GoesOn}
use Rattle.aig_refutation.proofs.step.read_hints.Given as goal

abbrev pub invariant-loop-number : goal.invariant-loop-number
invariant-loop-number g l = record {
  fewer : rest g.R.Source.pulls l.words l.r ≤ rest g.R.Source.pulls l.fn.words l.fn.r;
  goes : l.fn.hints.items ≡ [] → l.fn.groups.items ≡ []
      → record {
        numbers : List (Bool × ℕ);
        hints : hints_at numbers ≡ l.hints.items;
        groups : groups_at numbers ≡ said_numbers l.groups.items;
        on : GoesOn (reads_numbers hint_number (said_number l.fn.first) [])
            (reads_numbers hint_number (said_number l.number) numbers) (place g.R.Source.left
            g.R.Source.failed g.R.Source.pulls l.fn.words l.fn.r) (place g.R.Source.left
            g.R.Source.failed g.R.Source.pulls l.words l.r);
      };
}

abbrev pub decreases-loop-number : goal.decreases-loop-number
decreases-loop-number g l = rest g.R.Source.pulls l.words l.r
