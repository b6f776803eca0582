use Rattle.std.proofs.Common.{◌≡◌, take}
use Rattle.aig_circuit.specs.Circuit.{latch_leaves}
use Rattle.aig_witness_circuits.proofs.sharing.shared.leaves_of.Given as goal

abbrev pub invariant-loop-latch : goal.invariant-loop-latch
invariant-loop-latch l = l.leaves.items ≡ latch_leaves (take l.latch-index l.latchs)
