use Rattle.std.proofs.Common.{ℕ, List, length, refl, slice_index, take, sym, ap, ◌∙◌, arith}
use Rattle.aig_base.proofs.Words.{length-take, take_all}
use Rattle.aig_circuit.specs.declared.node.AigNodeType.TheVariants.{False}
use Rattle.aig_circuit.specs.Renumber.{nodes_in_order}
use Rattle.aig_circuit.proofs.Trees.{kind_at-read}
use Rattle.aig_renumber.proofs.NodesInOrder.{length-nodes_in_order, nodes-turn}
use Rattle.aig_renumber.proofs.nodes.nodes_in_order.Goals as goal

pub loop-i-preserved : goal.loop-i-preserved
loop-i-preserved c =
    let more = c.push_renumbered.new.nodes in
    record {
      made = nodes-turn c.args.nodes.now (slice_index c.args.numbers.now.numbers.now) c.args.order.now c.loop-i.i _ c.loop-i.new.items more.items _ c.loop-i-test.true (c.requires.there c.loop-i.i 0 c.loop-i-test.true) c.loop-i.invariant.made refl c.push_renumbered.ensures.items;
      room = omega (arith, c.push_renumbered.ensures.capacity, c.loop-i.invariant.room);
    }

pub push_renumbered-requires-clause-room : goal.push_renumbered-requires-clause-room
push_renumbered-requires-clause-room c =
    let number = slice_index c.args.numbers.now.numbers.now in
    let order = c.args.order.now in
    let count = ap length c.loop-i.invariant.made ∙ length-nodes_in_order c.args.nodes.now number 0 (take c.loop-i.i order) in
    omega (arith, c.loop-i.new.ok.0, count, length-take c.loop-i.i order, c.loop-i.invariant.room)

pub push_renumbered-requires-clause-number : goal.push_renumbered-requires-clause-number
push_renumbered-requires-clause-number c = λ is.
    let there = c.requires.there c.loop-i.i 0 c.loop-i-test.true in
    c.requires.false_first c.loop-i.i c.loop-i-test.true (c.requires.sound.false_once _ (kind_at-read c.args.nodes.now _ _ False there (sym is)))

pub returns : goal.returns
returns c =
    let number = slice_index c.args.numbers.now.numbers.now in
    c.loop-i.invariant.made ∙ ap (λ (order : List ℕ). nodes_in_order c.args.nodes.now number 0 order) (take_all c.loop-i.i c.args.order.now c.loop-i-test.false)
