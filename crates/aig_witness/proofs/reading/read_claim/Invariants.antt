use Rattle.std.proofs.Common.{false}
use Rattle.aig_lexer.specs.Takes.{feed}
use Rattle.aig_lexer.proofs.Going.{GoesOn}
use Rattle.aig_witness.proofs.Going.{past_comments}
use Rattle.aig_witness.proofs.reading.read_claim.Given as goal

abbrev pub invariant-loop-b : goal.invariant-loop-b
invariant-loop-b g l =
    GoesOn (past_comments false) (feed g.R.Source.left g.R.Source.failed g.R.Source.pulls
    l.fn.buffer l.fn.r) (past_comments l.inside)
    (feed g.R.Source.left g.R.Source.failed g.R.Source.pulls l.buffer l.r)

abbrev pub decreases-loop-b : goal.decreases-loop-b
decreases-loop-b g l = (feed g.R.Source.left g.R.Source.failed g.R.Source.pulls l.buffer l.r).most
