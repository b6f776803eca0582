use Rattle.aig_base.proofs.Words.{◌≡◌, ◌∙◌, ap, subst, take, length, replicate, None, List, take_all}
use Rattle.aig_circuit.specs.declared.node.AigNode.{AigNode}
use Rattle.aig_cone.proofs.Searching.{HoldNext, HoldNext-start, HoldNext-step, leaf_within, none_alone}
use Rattle.aig_cone.proofs.search.next_states.Goals as goal

pub loop-latch-init : goal.loop-latch-init
loop-latch-init c =
    HoldNext-start c.args.circuit.now.nodes c.in_ok-table.table.items
    (c.in_ok-table.ensures.items_if_clones_equal (none_alone _ (λ n h. h)) ∙ ap (λ (nodes : List AigNode). replicate (length nodes) None) c.nodes.ensures.value)

pub loop-latch-preserved : goal.loop-latch-preserved
loop-latch-preserved c =
    let circuit = c.latchs-latch-items.ensures.circuit in
    let same = c.latchs-latch-items.ensures.value in
    let latchs = c.latchs-latch-items.result.now in
    let i = c.loop-latch.latch-index in
    rw (c.node_id.ensures, c.next.ensures, c.input.ensures)
    (HoldNext-step c.args.circuit.now.nodes latchs i _ c.loop-latch.table.items (rw same circuit.latchs_distinct) c.loop-latch-test.true
    (rw c.loop-latch.invariant.count (leaf_within c.args.circuit.now.nodes latchs i _ c.loop-latch-test.true (rw same circuit.latchs))) c.loop-latch.invariant)

pub returns : goal.returns
returns c =
    let whole : take c.loop-latch.latch-index c.latchs-latch-items.result.now ≡ c.args.circuit.now.latchs = take_all c.loop-latch.latch-index c.latchs-latch-items.result.now c.loop-latch-test.false ∙ c.latchs-latch-items.ensures.value in
    let all = subst (λ ls. HoldNext c.args.circuit.now.nodes ls c.loop-latch.table.items) whole c.loop-latch.invariant in
    record { count = all.count; exactly = all.exactly }

pub index_mut-requires : goal.index_mut-requires
index_mut-requires c =
    let circuit = c.latchs-latch-items.ensures.circuit in
    rw (c.input.ensures, c.loop-latch.table.ok.0, c.loop-latch.invariant.count) (leaf_within c.args.circuit.now.nodes c.latchs-latch-items.result.now c.loop-latch.latch-index _ c.loop-latch-test.true (rw c.latchs-latch-items.ensures.value circuit.latchs))
