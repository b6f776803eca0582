use Rattle.aig_lexer.specs.Takes.{feed}
use Rattle.aig_witness.proofs.ValueLines.{ValuesTaken}
use Rattle.aig_witness.proofs.solutions.values.read_literals.Given as goal

abbrev pub invariant-loop-b : goal.invariant-loop-b
invariant-loop-b g l = ValuesTaken (feed g.R.Source.left g.R.Source.failed g.R.Source.pulls
    l.fn.buffer l.fn.r) (feed g.R.Source.left g.R.Source.failed g.R.Source.pulls l.buffer l.r)
    l.fn.values l.values

abbrev pub decreases-loop-b : goal.decreases-loop-b
decreases-loop-b g l = (feed g.R.Source.left g.R.Source.failed g.R.Source.pulls l.buffer l.r).most
