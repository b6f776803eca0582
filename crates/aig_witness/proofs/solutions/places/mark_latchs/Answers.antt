use Rattle.aig_base.proofs.Words.{ℕ, ◌<◌, List, length, sym, subst, ◌∙◌, arith, All}
use Rattle.std.proofs.Math.ListN.{length-set}
use Rattle.aig_circuit.specs.declared.node.AigLatch.{AigLatch}
use Rattle.aig_circuit.specs.Circuit.{IsLatch}
use Rattle.aig_witness.proofs.Turning.{latch_within, mark_more}
use Rattle.aig_witness.proofs.solutions.places.mark_latchs.Goals as goal

pub index_mut-requires : goal.index_mut-requires
index_mut-requires g c =
    let circuit = g.C.HasLeaves.circuit c.args.circuit.now in
    let all = subst (λ (latchs : List AigLatch). All (IsLatch circuit.nodes) latchs) (sym c.latchs-latchs.ensures.value) c.latchs-latchs.ensures.circuit.latchs in
    let Within : ℕ → Type 0 = λ n. n < length circuit.nodes in
    let within = subst Within (sym c.input.ensures) (latch_within circuit.nodes c.latchs-latchs.result.now c.loop-latch.latch-index _ all c.loop-latch-test.true) in
    omega (arith, within, c.loop-latch.invariant.count)

pub loop-latch-preserved : goal.loop-latch-preserved
loop-latch-preserved g c =
    let before = c.loop-latch.invariant in
    record {
      count = length-set _ _ _ ∙ before.count;
      each = λ n d low. mark_more _ c.latchs-latchs.result.now c.loop-latch.latch-index _ n _ _ d c.loop-latch-test.true c.input.ensures before.count low (before.each n d low);
    }
