use Rattle.aig_base.proofs.Words.{◌≡◌, List, [], ◌∷◌, Some, sym, ap, subst, ◌∙◌, ◌++◌, arith, All}
use Rattle.aig_circuit.specs.declared.edge.AigEdge.{AigEdge}
use Rattle.aig_circuit.proofs.Words.{FoldsOrAddsAll, Grows, IsInRange, JoinsByAnd, lists_circuit}
use Rattle.aig_circuit.proofs.Building.{Grows-then}
use Rattle.aig_change.specs.Changes.{constraints_held_latch}
use Rattle.aig_change.proofs.Moving.{All-grown}
use Rattle.aig_join.specs.Constraints.{AreJoined}
use Rattle.aig_join.proofs.DeferredCircuit.{deferred-circuit, deferred-lists}
use Rattle.aig_join.proofs.constraints.defer.Goals as goal
use Rattle.aig_join.proofs.constraints.defer.Goals.{After-deref-2, After-deref-3}

pub new_ands_node-requires : goal.new_ands_node-requires
new_ands_node-requires c = record {
  sound = c.in_ok-leaf.ensures.grows.sound;
  edges = subst (All (IsInRange c.new_leaf_node.new.nodes.items)) (sym c.deref.ensures.value)
      (All-grown _ _ _ c.in_ok-leaf.ensures.grows c.requires.properties.constraints);
}

pub new_and_node-requires-clause-sound : goal.new_and_node-requires-clause-sound
new_and_node-requires-clause-sound c = c.in_ok-all.ensures.gates.grows.sound

pub new_and_node-requires-clause-second : goal.new_and_node-requires-clause-second
new_and_node-requires-clause-second c = c.in_ok-all.ensures.joins.gives.there

-- nodes are added before the outputs are joined
to_next : (c : After-deref-2)
    → Grows c.args.lists.now.nodes.items c.new_and_node.new.nodes.items
to_next c = Grows-then _ _ _ (Grows-then _ _ _ c.in_ok-leaf.ensures.grows
    c.in_ok-all.ensures.gates.grows) c.in_ok-next.ensures.gates.grows

pub joined_each-requires : goal.joined_each-requires
joined_each-requires c = record {
  sound = c.in_ok-next.ensures.gates.grows.sound;
  edges = subst (All (IsInRange c.new_and_node.new.nodes.items)) (sym c.deref-2.ensures.value)
      (All-grown _ _ _ (to_next (goal.at.joined_each-requires c).After-deref-2)
      c.requires.properties.outputs);
  all = omega (
    arith,
    c.in_ok-all.ensures.joins.gives.there,
    c.in_ok-next.ensures.gates.grows.longer,
  );
}

pub joined_each-requires-2 : goal.joined_each-requires-2
joined_each-requires-2 c = record {
  sound = c.in_ok-outputs.ensures.gates.grows.sound;
  edges = subst (All (IsInRange c.joined_each.new.nodes.items)) (sym c.deref-3.ensures.value)
      (All-grown _ _ _ (Grows-then _ _ _
      (to_next (goal.at.joined_each-requires-2 c).After-deref-2)
      c.in_ok-outputs.ensures.gates.grows) c.requires.properties.bads);
  all = omega (
    arith,
    c.in_ok-all.ensures.joins.gives.there,
    c.in_ok-next.ensures.gates.grows.longer,
    c.in_ok-outputs.ensures.gates.grows.longer,
  );
}

pub returns-clause-defers : goal.returns-clause-defers
returns-clause-defers c =
    let lists = lists_circuit c.args.lists.now in
    let zero = c.new_leaf_node.new.nodes.items in
    let one = c.new_ands_node.new.nodes.items in
    let two = c.new_and_node.new.nodes.items in
    let three = c.joined_each.new.nodes.items in
    let four = c.joined_each-2.new.nodes.items in
    let all = c.in_ok-all.all in
    let latch : c.new.result ≡ constraints_held_latch c.in_ok-leaf.leaf c.in_ok-next.next =
    c.new.ensures ∙ ap (λ (e : AigEdge). record {
      input = c.in_ok-leaf.leaf;
      next = c.in_ok-next.next;
      init = Some e;
    }) c.constant.ensures in
    deferred-lists lists zero one two three four c.in_ok-leaf.leaf c.from-held.result all
    c.in_ok-next.next c.new.result c.push.new.self.items c.in_ok-outputs.outputs.items
    c.insert.new.self.items c.in_ok-bads.bads.items c.push-2.new.self.items
    c.in_ok-leaf.ensures.number c.in_ok-leaf.ensures.ok c.in_ok-all.ensures.gates
    (subst (λ (es : List AigEdge). FoldsOrAddsAll zero es one all) c.deref.ensures.value
    c.in_ok-all.ensures.rule)
    (subst (λ (es : List AigEdge). JoinsByAnd zero one es all) c.deref.ensures.value
    c.in_ok-all.ensures.joins)
    c.from-held.ensures c.in_ok-next.ensures.gates c.in_ok-next.ensures.rule
    c.in_ok-next.ensures.gives
    (subst (λ (es : List AigEdge). AreJoined two all es c.in_ok-outputs.outputs.items three)
    c.deref-2.ensures.value c.in_ok-outputs.ensures.joins)
    (subst (λ (es : List AigEdge). AreJoined three all es c.in_ok-bads.bads.items four)
    c.deref-3.ensures.value c.in_ok-bads.ensures.joins)
    latch c.in_ok-push.ensures.items c.in_ok-insert.ensures.items
    (c.in_ok-push-2.ensures.items ∙ ap (λ es. es ++ c.from-held.result ∷ []) c.clear.ensures.items)

pub returns-clause-circuit : goal.returns-clause-circuit
returns-clause-circuit c = deferred-circuit _ _ c.requires (returns-clause-defers c)
