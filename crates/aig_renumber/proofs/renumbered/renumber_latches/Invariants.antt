use Rattle.std.proofs.Common.{◌≡◌, ◌++◌, map, take}
use Rattle.std.specs.Prelude.{drop}
use Rattle.aig_circuit.specs.Renumber.{renumbered_latch}
use Rattle.aig_renumber.proofs.renumbered.renumber_latches.Given as goal

abbrev pub invariant-loop-latch : goal.invariant-loop-latch
invariant-loop-latch g l = l.latchs ≡ map (renumbered_latch (g.N.Numbering.number_of l.numbers)) (take l.latch-index l.fn.latchs) ++ drop l.latch-index l.fn.latchs
