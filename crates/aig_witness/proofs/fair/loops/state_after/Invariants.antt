use Rattle.aig_base.proofs.Words.{◌≡◌, map, take}
use Rattle.aig_circuit.specs.declared.node.AigLatch.{AigLatch}
use Rattle.aig_ternary.specs.Ternary.{value_in}
use Rattle.aig_witness.proofs.fair.loops.state_after.Given as goal

abbrev pub invariant-loop-latch : goal.invariant-loop-latch
invariant-loop-latch l = l.state.items
    ≡ map (λ (latch : AigLatch). value_in l.simulation latch.next) (take l.latch-index l.latchs)
