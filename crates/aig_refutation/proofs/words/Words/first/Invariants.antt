use Rattle.std.proofs.Common.{◌≡◌, ◌≤◌, None}
use Rattle.aig_lexer.specs.Takes.{feed}
use Rattle.aig_refutation.specs.Text.{lines_of}
use Rattle.aig_refutation.specs.Tokens.{Leaves, lines_at, lines_past}
use Rattle.aig_refutation.proofs.words.Words.first.Given as goal

abbrev pub invariant-loop-byte : goal.invariant-loop-byte
invariant-loop-byte g l = record {
  fewer : (feed g.R.Source.left g.R.Source.failed g.R.Source.pulls l.self.held l.r).most ≤ (feed
      g.R.Source.left g.R.Source.failed g.R.Source.pulls l.fn.self.held l.fn.r).most;
  open_line : l.self.end ≡ None;
  lines : Leaves (feed g.R.Source.left g.R.Source.failed g.R.Source.pulls l.fn.self.held l.fn.r)
      (feed g.R.Source.left g.R.Source.failed g.R.Source.pulls l.self.held l.r) (λ bytes rest.
      lines_past (lines_at l.fn.self.end bytes) ≡ lines_past (lines_of rest));
}

abbrev pub decreases-loop-byte : goal.decreases-loop-byte
decreases-loop-byte g l = (feed g.R.Source.left g.R.Source.failed g.R.Source.pulls l.self.held
    l.r).most
