use Rattle.aig_base.proofs.Words.{◌++◌, ◌∙◌, ap, ◌∷◌, [], append-nil, sym, take_all}
use Rattle.aig_circuit.specs.declared.node.AigLatch.{AigLatch}
use Rattle.aig_circuit.specs.Circuit.{latch_leaves}
use Rattle.aig_circuit.proofs.Lists.{mapped_more}
use Rattle.aig_cone.proofs.refine.push_leaves.Goals as goal

pub loop-latch-init : goal.loop-latch-init
loop-latch-init c = sym (append-nil c.args.roots.now.items)

pub loop-latch-preserved : goal.loop-latch-preserved
loop-latch-preserved c =
    mapped_more (λ (latch : AigLatch). latch.input) c.args.latchs.now c.loop-latch.latch-index _ c.args.roots.now.items c.loop-latch.roots.items c.push.new.self.items c.loop-latch-test.true c.loop-latch.invariant
    (c.in_ok-push.ensures.items ∙ ap (λ n. c.loop-latch.roots.items ++ n ∷ []) c.input.ensures)

pub returns : goal.returns
returns c = c.loop-latch.invariant ∙ ap (λ latchs. c.args.roots.now.items ++ latch_leaves latchs) (take_all c.loop-latch.latch-index c.args.latchs.now c.loop-latch-test.false)
