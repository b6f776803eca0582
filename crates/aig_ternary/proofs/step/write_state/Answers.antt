use Rattle.aig_base.proofs.Words.{◌≡◌, ◌<◌, length, get_or, sym, ◌∙◌, arith, length-map}
use Rattle.aig_circuit.specs.declared.node.AigLatch.{AigLatch}
use Rattle.aig_circuit.specs.Circuit.{latch_leaves}
use Rattle.aig_circuit.proofs.Circuits.{leaf-read}
use Rattle.aig_ternary.proofs.Stepping.{with_given-next}
use Rattle.aig_ternary.proofs.step.write_state.Goals as goal

pub bounds-values-input : goal.bounds-values-input
bounds-values-input c =
    let latchs = c.args.latchs.now in
    let i = c.loop-i.i in
    let there : i < length (latch_leaves latchs) = omega (arith, length-map latchs (λ (latch : AigLatch). latch.input)) in
    let leaf : get_or (latch_leaves latchs) i 0 ≡ c.input.result = leaf-read latchs i _ c.loop-i-test.true ∙ sym c.input.ensures in
    omega (arith, c.requires.leaves i 0 there)

pub loop-i-preserved : goal.loop-i-preserved
loop-i-preserved c =
    let latchs = c.args.latchs.now in
    let i = c.loop-i.i in
    let there : i < length (latch_leaves latchs) = omega (arith, length-map latchs (λ (latch : AigLatch). latch.input)) in
    let leaf : get_or (latch_leaves latchs) i 0 ≡ c.input.result = leaf-read latchs i _ c.loop-i-test.true ∙ sym c.input.ensures in
    let next = rw leaf at (with_given-next c.loop-i.values (latch_leaves latchs) c.args.state.now i there (omega arith)) in
    sym next ∙ c.loop-i.invariant
