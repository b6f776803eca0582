use Rattle.std.specs.BTreeSet.{contains}
use Rattle.aig_lexer.specs.Takes.{feed}
use Rattle.aig_circuit.proofs.Words.{latch_leaves, names_of}
use Rattle.aig_lexer.specs.Header.{numbers_of}
use Rattle.aig_symbols.proofs.KeptNames.{spot_cmp}
use Rattle.aig_symbols.proofs.SoFar.{SoFar}
use Rattle.aig_symbols.proofs.names.read_names.Given as goal

abbrev pub invariant-loop-place : goal.invariant-loop-place
invariant-loop-place g l =
    SoFar (numbers_of l.header) l.inputs (latch_leaves l.latchs) (feed g.R.Source.left g.R.Source.failed g.R.Source.pulls l.fn.buffer l.fn.r) (feed g.R.Source.left g.R.Source.failed g.R.Source.pulls l.buffer l.r) (contains spot_cmp l.places) (names_of l.names.entries)

abbrev pub decreases-loop-place : goal.decreases-loop-place
decreases-loop-place g l = (feed g.R.Source.left g.R.Source.failed g.R.Source.pulls l.buffer l.r).most
