use Rattle.std.proofs.Common.{◌≡◌, Some, false}
use Rattle.aig_circuit.specs.declared.node.AigLatch.{AigLatch}
use Rattle.aig_unroll.specs.Frame.{image_in}
use Rattle.aig_bounded.specs.Steps.{SetsStates}
use Rattle.aig_bounded.proofs.steps.advance.Given as goal

abbrev pub invariant-loop-latch : goal.invariant-loop-latch
invariant-loop-latch l = record {
  sets : SetsStates l.latch-items l.latch-index
      (λ (latch : AigLatch). Some (image_in l.images latch.next)) l.fn.states l.states;
  same : l.changed ≡ false → l.states ≡ l.fn.states;
}
