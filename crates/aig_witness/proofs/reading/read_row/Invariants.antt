use Rattle.std.proofs.Common.{[], ◌∷◌}
use Rattle.aig_lexer.specs.Takes.{feed}
use Rattle.aig_lexer.proofs.Going.{GoesOn}
use Rattle.aig_witness.specs.Reading.{parse_row_after}
use Rattle.aig_witness.proofs.reading.read_row.Given as goal

abbrev pub invariant-loop-letter : goal.invariant-loop-letter
invariant-loop-letter g l =
    GoesOn (λ bs. parse_row_after [] (l.fn.first ∷ bs)) (feed g.R.Source.left g.R.Source.failed g.R.Source.pulls l.fn.buffer l.fn.r) (λ bs. parse_row_after l.row.items (l.letter ∷ bs)) (feed g.R.Source.left g.R.Source.failed g.R.Source.pulls l.buffer l.r)

abbrev pub decreases-loop-letter : goal.decreases-loop-letter
decreases-loop-letter g l = (feed g.R.Source.left g.R.Source.failed g.R.Source.pulls l.buffer l.r).most
