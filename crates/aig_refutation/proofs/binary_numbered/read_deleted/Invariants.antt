use Rattle.aig_base.proofs.Words.{◌≤◌}
use Rattle.aig_lexer.specs.Takes.{feed}
use Rattle.aig_refutation.specs.BinaryNumbered.{deleted_by}
use Rattle.aig_refutation.proofs.BinarySteps.{ReadsOn}
use Rattle.aig_refutation.proofs.binary_numbered.read_deleted.Given as goal

abbrev pub invariant-loop-code : goal.invariant-loop-code
invariant-loop-code g l = record {
  goes : ReadsOn deleted_by l.fn.numbers.items (feed g.R.Source.left g.R.Source.failed
      g.R.Source.pulls l.fn.buffer l.fn.r) l.numbers.items (feed g.R.Source.left g.R.Source.failed
      g.R.Source.pulls l.buffer l.r);
  fewer : (feed g.R.Source.left g.R.Source.failed g.R.Source.pulls l.buffer l.r).most
      ≤ (feed g.R.Source.left g.R.Source.failed g.R.Source.pulls l.fn.buffer l.fn.r).most;
}

abbrev pub decreases-loop-code : goal.decreases-loop-code
decreases-loop-code g l =
    (feed g.R.Source.left g.R.Source.failed g.R.Source.pulls l.buffer l.r).most
