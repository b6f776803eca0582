use Rattle.std.proofs.Common.{◌≡◌, ◌≤◌}
use Rattle.aig_lexer.specs.Takes.{feed}
use Rattle.aig_refutation.specs.Text.{lines_of}
use Rattle.aig_refutation.specs.Tokens.{Leaves}
use Rattle.aig_refutation.proofs.words.skip_blanks.Given as goal

abbrev pub invariant-loop-byte : goal.invariant-loop-byte
invariant-loop-byte g l = record {
  fewer : (feed g.R.Source.left g.R.Source.failed g.R.Source.pulls l.buffer l.r).most ≤ (feed
      g.R.Source.left g.R.Source.failed g.R.Source.pulls l.fn.buffer l.fn.r).most;
  lines : Leaves (feed g.R.Source.left g.R.Source.failed g.R.Source.pulls l.fn.buffer l.fn.r) (feed
      g.R.Source.left g.R.Source.failed g.R.Source.pulls l.buffer l.r) (λ bytes rest. lines_of
      bytes ≡ lines_of rest);
}

abbrev pub decreases-loop-byte : goal.decreases-loop-byte
decreases-loop-byte g l = (feed g.R.Source.left g.R.Source.failed g.R.Source.pulls l.buffer
    l.r).most
