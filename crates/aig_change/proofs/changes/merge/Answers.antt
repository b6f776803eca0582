use Rattle.aig_base.proofs.Words.{◌≡◌, ◌<◌, Vec, Global, List, ◌++◌, ◌∙◌, ap, length, map, subst, sym, All}
use Rattle.aig_circuit.specs.declared.edge.AigEdge.{AigEdge}
use Rattle.aig_circuit.specs.declared.node.AigNode.{AigNode}
use Rattle.aig_circuit.proofs.Words.{append_properties, map_properties, renumbered_edge, lists_circuit, properties_of}
use Rattle.aig_renumber.specs.Numbers.{IsLatchIn}
use Rattle.aig_renumber.proofs.Circuits.{SpeaksOf-nodes}
use Rattle.aig_change.specs.Merge.{shifted}
use Rattle.aig_change.proofs.Merged.{merged_over}
use Rattle.aig_change.proofs.changes.merge.Goals as goal

pub sets-requires : goal.sets-requires
sets-requires c = rw (c.nodes.ensures.value, c.justice.ensures.value) c.justice.ensures.circuit.properties.justice

pub nodes-requires-3-clause-sound : goal.nodes-requires-3-clause-sound
nodes-requires-3-clause-sound c = rw c.nodes-2.ensures.value c.nodes-2.ensures.circuit.nodes

pub nodes-requires-3-clause-room : goal.nodes-requires-3-clause-room
nodes-requires-3-clause-room c = rw c.nodes-2.ensures.value c.in_ok-reserve.ensures.room.nodes

pub inputs-requires-2 : goal.inputs-requires-2
inputs-requires-2 c = rw (c.nodes.ensures.value, c.inputs.ensures.value) (record {
  below = (SpeaksOf-nodes c.args.other.now c.inputs.ensures.circuit).inputs;
  room = c.in_ok-reserve.ensures.room.inputs;
})

pub latchs-requires-2-clause-below : goal.latchs-requires-2-clause-below
latchs-requires-2-clause-below c =
    subst (λ (nodes : List AigNode). All (IsLatchIn (λ n. n < length nodes)) c.latchs.result.now) (sym c.nodes.ensures.value)
    (subst (All (IsLatchIn (λ n. n < length c.args.other.now.nodes))) (sym c.latchs.ensures.value) (SpeaksOf-nodes c.args.other.now c.latchs.ensures.circuit).latchs)

pub latchs-requires-2-clause-room : goal.latchs-requires-2-clause-room
latchs-requires-2-clause-room c = rw c.latchs.ensures.value c.in_ok-reserve.ensures.room.latchs

pub properties-requires : goal.properties-requires
properties-requires c =
    let room = c.in_ok-reserve.ensures.room.properties in
    record {
      size = ap (λ (nodes : List AigNode). length nodes) c.nodes.ensures.value;
      room = record { outputs = room.outputs; bads = room.bads; constraints = room.constraints; fairness = room.fairness };
    }

pub returns-clause-merged : goal.returns-clause-merged
returns-clause-merged c =
    let lists = lists_circuit c.reserve.new.lists in
    let other = c.args.other.now in
    let edge = renumbered_edge (shifted c.len.result) in
    let items = λ (set : Vec AigEdge Global). set.items in
    let whole = append_properties lists.properties (map_properties edge other.properties) in
    let sets = c.in_ok-sets.ensures.ok ∙ ap (λ (added : List (List AigEdge)). map items c.reserve.new.lists.properties.justice.items ++ map (map edge) added) c.justice.ensures.value in
    let properties : properties_of c.properties.new.all ≡ whole = c.properties.ensures ∙ ap (λ (justice : List (List AigEdge)). record whole { justice = justice }) sets in
    merged_over lists (lists_circuit c.args.first.now) other c.in_ok-reserve.ensures.same c.len.result (c.len.ensures ∙ c.args.first.now.nodes.ok.0)
    c.nodes-3.new.all.items c.inputs-2.new.all.items c.latchs-2.new.all.items (properties_of c.properties.new.all)
    (rw c.nodes-2.ensures.value at c.nodes-3.ensures) (rw c.inputs.ensures.value at c.inputs-2.ensures) (rw c.latchs.ensures.value at c.latchs-2.ensures) properties
