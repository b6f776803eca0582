use Rattle.std.proofs.Common.{ap, ◌∙◌, arith}
use Rattle.aig_circuit.specs.declared.node.AigLatch.{AigLatch}
use Rattle.aig_witness.specs.Solutions.{value_at}
use Rattle.aig_witness.proofs.Steps.{map_more, map_whole}
use Rattle.aig_witness.proofs.solutions.witness.read_state.Goals as goal

pub loop-latch-preserved : goal.loop-latch-preserved
loop-latch-preserved c =
    let values = c.args.values.now in
    map_more (λ (latch : AigLatch). value_at values latch.input) _ _ c.latchs-latchs.result.now c.loop-latch.latch-index _ _ c.loop-latch-test.true c.loop-latch.invariant c.in_ok-push.ensures.items (c.value_of.ensures ∙ ap (value_at values) c.input.ensures)

pub returns : goal.returns
returns c = map_whole (λ (latch : AigLatch). value_at c.args.values.now latch.input) _ c.latchs-latchs.result.now _ c.loop-latch.latch-index (omega (arith, c.loop-latch-test.false)) c.loop-latch.invariant c.latchs-latchs.ensures.value
