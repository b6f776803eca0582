use Rattle.aig_base.proofs.Words.{◌≡◌, List, Some, sym, ap, subst, ◌∙◌, arith, All}
use Rattle.aig_circuit.specs.declared.edge.AigEdge.{AigEdge}
use Rattle.aig_circuit.proofs.Words.{FoldsOrAddsAll, JoinsByAnd, IsInRange, lists_circuit}
use Rattle.aig_circuit.proofs.Building.{Grows-longer, Grows-then}
use Rattle.aig_change.specs.Changes.{constraints_held_latch}
use Rattle.aig_change.proofs.Moving.{All-grown, moved_lists}
use Rattle.aig_change.proofs.changes.fold_constraints.Goals as goal

pub new_ands_node-requires : goal.new_ands_node-requires
new_ands_node-requires c = record {
  sound = c.in_ok-leaf.ensures.grows.sound;
  edges = subst (All (IsInRange c.new_leaf_node.new.nodes.items)) (sym c.requires.constraints) (All-grown _ _ _ c.in_ok-leaf.ensures.grows c.requires.circuit.properties.constraints);
}

pub new_and_node-requires-clause-sound : goal.new_and_node-requires-clause-sound
new_and_node-requires-clause-sound c = c.in_ok-constraint.ensures.gates.grows.sound

pub new_and_node-requires-clause-second : goal.new_and_node-requires-clause-second
new_and_node-requires-clause-second c = c.in_ok-constraint.ensures.joins.gives.there

pub join_first-requires-clause-sound : goal.join_first-requires-clause-sound
join_first-requires-clause-sound c = c.in_ok-next.ensures.gates.grows.sound

pub join_first-requires-clause-next_edge : goal.join_first-requires-clause-next_edge
join_first-requires-clause-next_edge c = c.in_ok-next.ensures.gives.there

pub join_first-requires-clause-edges : goal.join_first-requires-clause-edges
join_first-requires-clause-edges c = All-grown _ _ _ (Grows-then _ _ _ (Grows-then _ _ _ c.in_ok-leaf.ensures.grows c.in_ok-constraint.ensures.gates.grows) c.in_ok-next.ensures.gates.grows) c.requires.circuit.properties.bads

pub join_first-requires-2-clause-sound : goal.join_first-requires-2-clause-sound
join_first-requires-2-clause-sound c = c.in_ok-join_first.ensures.gates.grows.sound

pub join_first-requires-2-clause-next_edge : goal.join_first-requires-2-clause-next_edge
join_first-requires-2-clause-next_edge c = omega (arith, c.in_ok-next.ensures.gives.there, Grows-longer _ _ c.in_ok-join_first.ensures.gates.grows)

pub join_first-requires-2-clause-edges : goal.join_first-requires-2-clause-edges
join_first-requires-2-clause-edges c =
    All-grown _ _ _
    (Grows-then _ _ _ (Grows-then _ _ _ (Grows-then _ _ _ c.in_ok-leaf.ensures.grows c.in_ok-constraint.ensures.gates.grows) c.in_ok-next.ensures.gates.grows) c.in_ok-join_first.ensures.gates.grows)
    c.requires.circuit.properties.outputs

pub returns : goal.returns
returns c =
    let rule = subst (λ (es : List AigEdge). FoldsOrAddsAll c.new_leaf_node.new.nodes.items es c.new_ands_node.new.nodes.items c.in_ok-constraint.constraint) c.requires.constraints c.in_ok-constraint.ensures.rule in
    let joins = subst (λ (es : List AigEdge). JoinsByAnd c.new_leaf_node.new.nodes.items c.new_ands_node.new.nodes.items es c.in_ok-constraint.constraint) c.requires.constraints c.in_ok-constraint.ensures.joins in
    let latch : c.new.result ≡ constraints_held_latch c.in_ok-leaf.leaf c.in_ok-next.next = c.new.ensures ∙ ap (λ (e : AigEdge). record { input = c.in_ok-leaf.leaf; next = c.in_ok-next.next; init = Some e }) c.constant.ensures in
    moved_lists (lists_circuit c.args.lists.now) c.requires.circuit
    c.new_leaf_node.new.nodes.items c.new_ands_node.new.nodes.items c.new_and_node.new.nodes.items c.join_first.new.nodes.items c.join_first-2.new.nodes.items
    c.in_ok-leaf.leaf c.from.result c.in_ok-constraint.constraint c.in_ok-next.next c.new.result c.push.new.self.items c.join_first.new.edges.items c.join_first-2.new.edges.items c.clear.new.self.items
    c.in_ok-leaf.ensures.number c.in_ok-leaf.ensures.ok c.in_ok-constraint.ensures.gates rule joins c.from.ensures
    c.in_ok-next.ensures.gates c.in_ok-next.ensures.rule c.in_ok-next.ensures.gives
    c.in_ok-join_first.ensures.gates c.in_ok-join_first.ensures.joins c.in_ok-join_first-2.ensures.gates c.in_ok-join_first-2.ensures.joins
    latch c.in_ok-push.ensures.items c.clear.ensures.items
