use Rattle.std.proofs.Common.{◌≡◌, ◌≤◌, true}
use Rattle.aig_refutation.specs.Checking.{are_in}
use Rattle.aig_refutation.specs.Reading.{reads_clause}
use Rattle.aig_refutation.specs.Tokens.{place, rest, said_number}
use Rattle.aig_refutation.proofs.ReadersInTurn.{GoesOn}
use Rattle.aig_refutation.proofs.step.read_clause.Given as goal

abbrev pub invariant-loop-number : goal.invariant-loop-number
invariant-loop-number g l = record {
  fewer : rest g.R.Source.pulls l.words l.r ≤ rest g.R.Source.pulls l.fn.words l.fn.r;
  goes : GoesOn (reads_clause l.fn.variables (said_number l.fn.first) l.fn.clause.items)
      (reads_clause l.fn.variables (said_number l.number) l.clause.items) (place g.R.Source.left
      g.R.Source.failed g.R.Source.pulls l.fn.words l.fn.r) (place g.R.Source.left
      g.R.Source.failed g.R.Source.pulls l.words l.r);
  inside : are_in l.fn.variables l.fn.clause.items ≡ true
      → are_in l.fn.variables l.clause.items ≡ true;
}

abbrev pub decreases-loop-number : goal.decreases-loop-number
decreases-loop-number g l = rest g.R.Source.pulls l.words l.r
