use Rattle.aig_base.proofs.Words.{ℕ, List, [], ◌∷◌, ◌++◌, append_assoc, sym, ap, ap₂, ◌∙◌, map_more, take_all, take}
use Rattle.aig_circuit.specs.declared.node.AigLatch.{AigLatch}
use Rattle.aig_circuit.specs.Circuit.{latch_leaves}
use Rattle.aig_renumber.proofs.reencoding.push_leaves.Goals as goal

pub loop-latch-preserved : goal.loop-latch-preserved
loop-latch-preserved c =
    let latchs = c.args.latchs.now in
    let i = c.loop-latch.latch-index in
    let before = c.args.order.now.items in
    let leaf = λ (latch : AigLatch). latch.input in
    let longer = ap₂ (λ (ns : List ℕ) (n : ℕ). ns ++ n ∷ []) c.loop-latch.invariant c.input.ensures in
    c.in_ok-push.ensures.items ∙ longer ∙ append_assoc before (latch_leaves (take i latchs)) _
    ∙ ap (λ (ns : List ℕ). before ++ ns) (sym (map_more leaf latchs i _ c.loop-latch-test.true))

pub returns : goal.returns
returns c =
    let before = c.args.order.now.items in
    c.loop-latch.invariant ∙ ap (λ (latchs : List AigLatch). before ++ latch_leaves latchs) (take_all c.loop-latch.latch-index c.args.latchs.now c.loop-latch-test.false)
