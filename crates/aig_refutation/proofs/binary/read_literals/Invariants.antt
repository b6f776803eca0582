use Rattle.std.proofs.Common.{◌≡◌, ◌≤◌, true}
use Rattle.aig_lexer.specs.Takes.{feed}
use Rattle.aig_refutation.specs.Binary.{literal_by}
use Rattle.aig_refutation.specs.Checking.{are_in}
use Rattle.aig_refutation.proofs.BinarySteps.{ReadsOn}
use Rattle.aig_refutation.proofs.binary.read_literals.Given as goal

abbrev pub invariant-loop-code : goal.invariant-loop-code
invariant-loop-code g l = record {
  goes : ReadsOn (literal_by l.variables) l.fn.clause.items (feed g.R.Source.left g.R.Source.failed
      g.R.Source.pulls l.fn.buffer l.fn.r) l.clause.items (feed g.R.Source.left g.R.Source.failed
      g.R.Source.pulls l.buffer l.r);
  fewer : (feed g.R.Source.left g.R.Source.failed g.R.Source.pulls l.buffer l.r).most
      ≤ (feed g.R.Source.left g.R.Source.failed g.R.Source.pulls l.fn.buffer l.fn.r).most;
  inside : are_in l.variables l.fn.clause.items ≡ true → are_in l.variables l.clause.items ≡ true;
}

abbrev pub decreases-loop-code : goal.decreases-loop-code
decreases-loop-code g l =
    (feed g.R.Source.left g.R.Source.failed g.R.Source.pulls l.buffer l.r).most
