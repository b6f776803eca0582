use Rattle.std.proofs.Common.{[]}
use Rattle.aig_lexer.specs.Takes.{feed}
use Rattle.aig_lexer.proofs.Going.{GoesOn}
use Rattle.aig_witness.specs.Reading.{parse_steps_after}
use Rattle.aig_witness.specs.Witness.{rows_of}
use Rattle.aig_witness.proofs.reading.read_steps.Given as goal

abbrev pub invariant-loop-steps : goal.invariant-loop-steps
invariant-loop-steps g l =
    GoesOn (parse_steps_after [] []) (feed g.R.Source.left g.R.Source.failed g.R.Source.pulls l.fn.buffer l.fn.r) (parse_steps_after (rows_of l.steps.items) []) (feed g.R.Source.left g.R.Source.failed g.R.Source.pulls l.buffer l.r)

abbrev pub decreases-loop-steps : goal.decreases-loop-steps
decreases-loop-steps g l = (feed g.R.Source.left g.R.Source.failed g.R.Source.pulls l.buffer l.r).most
