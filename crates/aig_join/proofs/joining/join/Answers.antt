use Rattle.std.proofs.Common.{◌≡◌, ℕ, List, ◌++◌, ◌∙◌, ap, subst, sym, length, drop, map, slice_index}
use Rattle.aig_base.proofs.Words.{take_rest}
use Rattle.aig_circuit.specs.declared.edge.AigEdge.{AigEdge}
use Rattle.aig_circuit.specs.declared.node.AigLatch.{AigLatch}
use Rattle.aig_circuit.specs.declared.node.AigNode.{AigNode}
use Rattle.aig_circuit.proofs.Words.{AreNodes, IsCircuit, Properties, append_properties, map_properties, nodes_in_order, renumbered_edge, renumbered_latch, lists_circuit, names_of, properties_of}
use Rattle.aig_join.specs.Joined.{added_numbers, first_leaves, other_numbers, shared_of_first, shared_of_second}
use Rattle.aig_join.specs.Numbers.{AreJointNumbers}
use Rattle.aig_join.proofs.Joined.{IsCircuit-joined}
use Rattle.aig_join.proofs.Made.{added-some, added-there, joined_over, made-shared, properties-in, rest-inputs, rest-latches}
use Rattle.aig_join.proofs.joining.join.Goals as goal

pub joint_numbers-requires-clause-shared : goal.joint_numbers-requires-clause-shared
joint_numbers-requires-clause-shared c =
    let first = c.args.first.now in
    let second = c.args.second.now in
    let latches = c.args.latches in
    made-shared latches first second c.inputs-inputs.ensures.circuit c.nodes-2.ensures.circuit
    c.requires c.nodes-2.result.now c.deref.result.now c.deref-2.result.now
    c.nodes-2.ensures.value
    (c.deref.ensures.value ∙ c.in_ok-shared.ensures
    ∙ ap (λ (l : List ℕ). first_leaves (length l) latches second) c.inputs-inputs.ensures.value)
    (c.deref-2.ensures.value ∙ c.in_ok-theirs.ensures
    ∙ ap (λ (l : List ℕ). first_leaves (length l) latches first) c.inputs-inputs.ensures.value)

pub push_nodes-requires : goal.push_nodes-requires
push_nodes-requires c =
    let first = c.args.first.now in
    let second = c.args.second.now in
    let latches = c.args.latches in
    let is = c.inputs-inputs.ensures.circuit in
    let other = c.nodes-2.ensures.circuit in
    let shared_is = c.deref.ensures.value ∙ c.in_ok-shared.ensures
    ∙ ap (λ (l : List ℕ). first_leaves (length l) latches second)
    c.inputs-inputs.ensures.value in
    let others_are = c.deref-4.ensures.value ∙ c.in_ok-table.ensures.others
    ∙ ap (λ (l : List ℕ). other_numbers l c.nodes-2.result.now) shared_is
    ∙ ap (other_numbers (shared_of_second latches first second)) c.nodes-2.ensures.value in
    record {
      sound = subst (λ (l : List AigNode). AreNodes l) (sym c.nodes-3.ensures.value) other.nodes;
      table = ap length c.deref-3.ensures.value ∙ c.in_ok-table.ensures.table.long
          ∙ ap length (c.nodes-2.ensures.value ∙ sym c.nodes-3.ensures.value);
      there = added-there latches first second is other c.requires c.nodes-3.result.now
          c.deref-4.result.now c.nodes-3.ensures.value others_are;
      no_false = added-some latches first second is other c.requires c.deref-4.result.now
          others_are;
    }

pub push_inputs-requires : goal.push_inputs-requires
push_inputs-requires c =
    rest-inputs c.args.latches c.args.first.now c.args.second.now c.inputs-inputs.ensures.circuit
    c.nodes-2.ensures.circuit c.requires c.inputs.result.now (length c.inputs-inputs.result.now)
    (length c.deref-3.result.now) c.inputs.ensures.value
    (ap length c.deref-3.ensures.value ∙ c.in_ok-table.ensures.table.long
    ∙ ap length c.nodes-2.ensures.value)

pub push_latches-requires : goal.push_latches-requires
push_latches-requires c =
    rest-latches c.args.latches c.args.first.now c.args.second.now c.inputs-inputs.ensures.circuit
    c.nodes-2.ensures.circuit c.requires c.latchs.result.now c.args.latches
    (length c.deref-3.result.now) c.latchs.ensures.value
    (ap length c.deref-3.ensures.value ∙ c.in_ok-table.ensures.table.long
    ∙ ap length c.nodes-2.ensures.value)

pub push_properties-requires : goal.push_properties-requires
push_properties-requires c =
    properties-in c.args.latches c.args.first.now c.args.second.now c.inputs-inputs.ensures.circuit
    c.nodes-2.ensures.circuit c.requires (properties_of c.properties.result.now)
    (length c.deref-3.result.now) c.properties.ensures.value
    (ap length c.deref-3.ensures.value ∙ c.in_ok-table.ensures.table.long
    ∙ ap length c.nodes-2.ensures.value)

pub returns-clause-joined : goal.returns-clause-joined
returns-clause-joined c =
    let first = c.args.first.now in
    let second = c.args.second.now in
    let latches = c.args.latches in
    let is = c.inputs-inputs.ensures.circuit in
    let other = c.nodes-2.ensures.circuit in
    let table = c.deref-3.result.now in
    let others = c.deref-4.result.now in
    let lists = lists_circuit c.in_ok-lists.lists in
    let shared_is : c.deref.result.now ≡ shared_of_second latches first second =
    c.deref.ensures.value ∙ c.in_ok-shared.ensures
    ∙ ap (λ (l : List ℕ). first_leaves (length l) latches second)
    c.inputs-inputs.ensures.value in
    let theirs_is : c.deref-2.result.now
    ≡ shared_of_first latches first second = c.deref-2.ensures.value ∙ c.in_ok-theirs.ensures
    ∙ ap (λ (l : List ℕ). first_leaves (length l) latches first)
    c.inputs-inputs.ensures.value in
    let others_are : others ≡ added_numbers latches first second = c.deref-4.ensures.value
    ∙ c.in_ok-table.ensures.others ∙ ap (λ (l : List ℕ). other_numbers l c.nodes-2.result.now)
    shared_is
    ∙ ap (other_numbers (shared_of_second latches first second)) c.nodes-2.ensures.value in
    let numbers : AreJointNumbers second.nodes (shared_of_second latches first second)
    (shared_of_first latches first second) (length first.nodes) table =
    subst (AreJointNumbers second.nodes (shared_of_second latches first second)
    (shared_of_first latches first second) (length first.nodes)) (sym c.deref-3.ensures.value)
    (subst (λ (ns : List AigNode). AreJointNumbers second.nodes
    (shared_of_second latches first second) (shared_of_first latches first second) (length ns)
    c.in_ok-table.table.items) c.nodes.ensures.value
    (subst (λ (ts : List ℕ). AreJointNumbers second.nodes (shared_of_second latches first second) ts
    (length c.nodes.result.now) c.in_ok-table.table.items) theirs_is
    (subst (λ (ss : List ℕ). AreJointNumbers second.nodes ss c.deref-2.result.now
    (length c.nodes.result.now) c.in_ok-table.table.items) shared_is
    (subst (λ (ns : List AigNode). AreJointNumbers ns c.deref.result.now c.deref-2.result.now
    (length c.nodes.result.now) c.in_ok-table.table.items) c.nodes-2.ensures.value
    c.in_ok-table.ensures.table)))) in
    joined_over latches first second is other c.requires lists c.in_ok-lists.ensures.copy table
    others numbers others_are
    c.push_nodes.new.all.items c.push_inputs.new.all.items c.push_latches.new.all.items
    (properties_of c.push_properties.new.all) (names_of c.push_names.new.names.entries)
    (c.in_ok-push_nodes.ensures ∙ ap (λ (ns : List AigNode). lists.nodes
    ++ nodes_in_order ns (slice_index table) (length lists.nodes) others)
    c.nodes-3.ensures.value)
    (c.in_ok-push_inputs.ensures ∙ ap (λ (l : List ℕ). lists.inputs ++ map (slice_index table) l)
    (take_rest c.inputs.result.now (length c.inputs-inputs.result.now)
    ∙ ap (λ (l : List ℕ). drop (length l) c.inputs.result.now) c.inputs-inputs.ensures.value
    ∙ ap (drop (length first.inputs)) c.inputs.ensures.value))
    (c.in_ok-push_latches.ensures ∙ ap (λ (l : List AigLatch). lists.latchs
    ++ map (renumbered_latch (slice_index table)) l)
    (take_rest c.latchs.result.now latches ∙ ap (drop latches) c.latchs.ensures.value))
    (c.in_ok-push_properties.ensures ∙ ap (λ (p : Properties AigEdge). append_properties
    lists.properties (map_properties (renumbered_edge (slice_index table)) p))
    c.properties.ensures.value) c.in_ok-push_names.ensures

pub returns-clause-circuit : goal.returns-clause-circuit
returns-clause-circuit c = subst IsCircuit (sym (returns-clause-joined c))
    (IsCircuit-joined c.args.latches c.args.first.now c.args.second.now
    c.inputs-inputs.ensures.circuit c.nodes-2.ensures.circuit c.requires)
