use Rattle.aig_lexer.specs.Takes.{feed}
use Rattle.aig_witness.proofs.LineStarts.{LinesPassed}
use Rattle.aig_witness.proofs.solutions.reading.first_byte.Given as goal

abbrev pub invariant-loop-b : goal.invariant-loop-b
invariant-loop-b g l = LinesPassed (feed g.R.Source.left g.R.Source.failed g.R.Source.pulls
    l.fn.buffer l.fn.r) (feed g.R.Source.left g.R.Source.failed g.R.Source.pulls l.buffer l.r)
    l.is_comment

abbrev pub decreases-loop-b : goal.decreases-loop-b
decreases-loop-b g l = (feed g.R.Source.left g.R.Source.failed g.R.Source.pulls l.buffer l.r).most
