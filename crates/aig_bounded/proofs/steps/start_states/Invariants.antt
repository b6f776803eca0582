use Rattle.std.proofs.Common.{◌≡◌, None, length}
use Rattle.std.specs.Prelude.{replicate}
use Rattle.aig_circuit.specs.declared.node.AigLatch.{AigLatch}
use Rattle.aig_bounded.specs.Steps.{SetsStates}
use Rattle.aig_bounded.proofs.steps.start_states.Given as goal

abbrev pub invariant-loop-latch : goal.invariant-loop-latch
invariant-loop-latch l = record {
  count : length l.states.items ≡ length l.circuit.nodes;
  set : SetsStates l.latch-items l.latch-index (λ (latch : AigLatch). latch.init) (replicate (length l.circuit.nodes) None) l.states.items;
}
