use Rattle.std.proofs.Common.{◌∙◌, arith, ap}
use Rattle.aig_unroll.proofs.Table.{next_images_more, no_latch}
use Rattle.aig_circuit.specs.declared.node.AigLatch.{AigLatch}
use Rattle.aig_unroll.specs.Step.{image_in}
use Rattle.aig_unroll.proofs.entries.set_next_images.Goals as goal

pub loop-i-preserved : goal.loop-i-preserved
loop-i-preserved c =
    let new = c.new.ensures in
    let done = next_images_more c.args.images.now c.args.others.now c.args.latchs.now c.loop-i.latchs c.loop-i.i no_latch no_latch c.new.result (omega arith) (omega arith) c.loop-i.invariant.leaves c.loop-i.invariant.starts c.loop-i.invariant.next
    (ap (λ (l : AigLatch). l.input) new ∙ c.input.ensures) (ap (λ (l : AigLatch). l.init) new ∙ c.init.ensures) (ap (λ (l : AigLatch). l.next) new ∙ c.image_of-next.ensures ∙ ap (image_in c.args.images.now) c.next.ensures) in
    record { leaves = done.0; starts = done.1; next = done.2 }
