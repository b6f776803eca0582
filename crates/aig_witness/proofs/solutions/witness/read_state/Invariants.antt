use Rattle.std.proofs.Common.{◌≡◌, map, take}
use Rattle.aig_circuit.specs.declared.node.AigLatch.{AigLatch}
use Rattle.aig_witness.specs.Solutions.{value_at}
use Rattle.aig_witness.proofs.solutions.witness.read_state.Given as goal

abbrev pub invariant-loop-latch : goal.invariant-loop-latch
invariant-loop-latch l = l.state.items ≡ map (λ (latch : AigLatch). value_at l.values latch.input) (take l.latch-index l.latchs)
