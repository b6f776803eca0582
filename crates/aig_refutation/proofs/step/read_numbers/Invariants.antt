use Rattle.std.proofs.Common.{◌≤◌}
use Rattle.aig_refutation.specs.Proofs.{clause_number}
use Rattle.aig_refutation.specs.Reading.{reads_numbers}
use Rattle.aig_refutation.specs.Tokens.{place, rest, said_number}
use Rattle.aig_refutation.proofs.ReadersInTurn.{GoesOn}
use Rattle.aig_refutation.proofs.step.read_numbers.Given as goal

abbrev pub invariant-loop-number : goal.invariant-loop-number
invariant-loop-number g l = record {
  fewer : rest g.R.Source.pulls l.words l.r ≤ rest g.R.Source.pulls l.fn.words l.fn.r;
  goes : GoesOn (reads_numbers clause_number (said_number l.fn.first) l.fn.numbers.items)
      (reads_numbers clause_number (said_number l.number) l.numbers.items) (place g.R.Source.left
      g.R.Source.failed g.R.Source.pulls l.fn.words l.fn.r) (place g.R.Source.left
      g.R.Source.failed g.R.Source.pulls l.words l.r);
}

abbrev pub decreases-loop-number : goal.decreases-loop-number
decreases-loop-number g l = rest g.R.Source.pulls l.words l.r
