use Rattle.aig_lexer.specs.Takes.{feed}
use Rattle.aig_witness.proofs.LineStarts.{LinesTaken}
use Rattle.aig_witness.proofs.solutions.reading.read_lines.Given as goal

abbrev pub invariant-loop-first : goal.invariant-loop-first
invariant-loop-first g l = LinesTaken (feed g.R.Source.left g.R.Source.failed g.R.Source.pulls
    l.fn.buffer l.fn.r) (feed g.R.Source.left g.R.Source.failed g.R.Source.pulls l.buffer l.r)
    l.fn.values l.is_answered l.values

abbrev pub decreases-loop-first : goal.decreases-loop-first
decreases-loop-first g l = (feed g.R.Source.left g.R.Source.failed g.R.Source.pulls l.buffer
    l.r).most
