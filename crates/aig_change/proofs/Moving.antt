-- The constraints joined to the first bad and the first output edge, from what the builders promise.
use Rattle.aig_base.proofs.Words.{◌≡◌, ℕ, ◌<◌, Bool, false, ◌&&◌, Some, List, [], ◌∷◌, ◌++◌, length, get_or, refl, sym, ap, subst, ◌∙◌, arith, All, slice_get, and_comm, All-nil, get_or_from_slice_get, slice_get_within, list_all}
use Rattle.aig_circuit.specs.declared.edge.AigEdge.{AigEdge}
use Rattle.aig_circuit.specs.declared.node.AigNode.{AigNode}
use Rattle.aig_circuit.specs.declared.node.AigNodeType.TheVariants.{False, Leaf}
use Rattle.aig_circuit.specs.declared.node.AigLatch.{AigLatch}
use Rattle.aig_circuit.proofs.Words.{edge_to, edge_value, Circuit, IsCircuit, IsInRange, AllProperties, AddsGates, FoldsOrAdds, FoldsOrAddsAll, GivesEdge, Grows, JoinsByAnd, with_node}
use Rattle.aig_circuit.proofs.Building.{AddsGates-then, Grows-itself, Grows-leaf, Grows-longer, edge_value-Grows}
use Rattle.aig_circuit.proofs.Circuits.{IsCircuit-grown, IsFree-fresh}
use Rattle.aig_circuit.proofs.Trees.{kind_at-within, node_value-leaf}
use Rattle.aig_circuit.proofs.Writing.{IsCircuit-add_latch}
use Rattle.aig_change.specs.Changes.{FoldsConstraints, constraints_held_latch}
use Rattle.aig_change.specs.Joining.{JoinsFirst, JoinsInSteps}
use Rattle.aig_change.proofs.Grown.{AddsLeaf, AddsLeaf-gates}
use Rattle.aig_change.proofs.Held.{AddsHeld, AreOldRuns-held, JoinsConstraints-held}
use Rattle.aig_change.proofs.Lists.{list_all-agrees}

module _ (old : Circuit) (is : IsCircuit old) (one two three four : List AigNode) (constraint next : AigEdge) (bads outputs : List AigEdge) (b : JoinsInSteps old one two three four constraint next bads outputs) where
  abbrev leaf : ℕ
  leaf = length old.nodes

  abbrev pub moved : Circuit
  moved = record old { nodes = four; latchs = old.latchs ++ constraints_held_latch leaf next ∷ []; properties = record old.properties { outputs = outputs; bads = bads; constraints = [] } }

  to_two : AddsGates (with_node old.nodes Leaf) two
  to_two = AddsGates-then (with_node old.nodes Leaf) one two b.first b.second

  to_three : AddsGates (with_node old.nodes Leaf) three
  to_three = AddsGates-then (with_node old.nodes Leaf) two three to_two b.third

  to_four : AddsGates (with_node old.nodes Leaf) four
  to_four = AddsGates-then (with_node old.nodes Leaf) three four to_three b.fourth

  grown : (nodes : List AigNode) → AddsGates (with_node old.nodes Leaf) nodes
      → AddsLeaf old.nodes nodes leaf
  grown nodes adds = AddsLeaf-gates old.nodes nodes is.nodes adds

  two_to_four : Grows two four
  two_to_four = (AddsGates-then two three four b.third b.fourth).grows

  constraint_is : (x : ℕ → Bool)
      → edge_value one x constraint ≡ list_all (edge_value old.nodes x) old.properties.constraints
  constraint_is x = b.joins.gives.value x ∙ list_all-agrees (edge_value (with_node old.nodes Leaf) x) (edge_value old.nodes x) old.properties.constraints
      (λ k d h. edge_value-Grows old.nodes (with_node old.nodes Leaf) is.nodes (Grows-leaf old.nodes is.nodes) x (get_or old.properties.constraints k d) (is.properties.constraints k d h))

  leaf_is : (x : ℕ → Bool) → edge_value one x (edge_to leaf false) ≡ x leaf
  leaf_is x = node_value-leaf one x leaf (grown one b.first).there

  next_kept : (x : ℕ → Bool) → edge_value four x next ≡ edge_value two x next
  next_kept x = edge_value-Grows two four to_two.grows.sound two_to_four x next b.gives.there

  adds_held : AddsHeld old moved leaf next
  adds_held = record {
    nodes = grown four to_four;
    latchs = refl;
    value = λ x. next_kept x ∙ b.gives.value x ∙ ap (λ v. v && edge_value one x constraint) (leaf_is x) ∙ ap (λ v. x leaf && v) (constraint_is x);
  }

  -- a joined edge has its value in the end
  joined_value : (before after : List AigNode) (edges joint : List AigEdge) → All (IsInRange old.nodes) edges → AddsGates (with_node old.nodes Leaf) before → Grows two before → AddsGates (with_node old.nodes Leaf) after → Grows after four → JoinsFirst before after next edges joint
      → (e f : AigEdge) → slice_get edges 0 ≡ Some e → slice_get joint 0 ≡ Some f → (x : ℕ → Bool) → edge_value four x f ≡ (edge_value four x next && edge_value old.nodes x e)
  joined_value before after edges joint range to_before from_two to_after to_end j e f is_e is_f x =
      let gives = j.gives e f is_e is_f in
      let e_there : IsInRange old.nodes e = subst (IsInRange old.nodes) (get_or_from_slice_get edges 0 e e is_e) (range 0 e (slice_get_within edges 0 e is_e)) in
      edge_value-Grows after four to_after.grows.sound to_end x f gives.there
      ∙ gives.value x
      ∙ and_comm (edge_value before x e) (edge_value before x next)
      ∙ ap (λ v. v && edge_value before x e) (edge_value-Grows two before to_two.grows.sound from_two x next b.gives.there ∙ sym (next_kept x))
      ∙ ap (λ v. edge_value four x next && v) (edge_value-Grows old.nodes before is.nodes (grown before to_before).grows x e e_there)

  -- the constraints are moved
  pub FoldsConstraints-built : FoldsConstraints old moved
  FoldsConstraints-built = record {
    next = next;
    latchs = refl;
    nodes = to_four;
    steps = (one, two, three, constraint, b);
    constraints = refl;
    bads = JoinsConstraints-held old moved leaf next is adds_held old.properties.bads bads b.joins_bads.others b.joins_bads.count
        (joined_value two three old.properties.bads bads is.properties.bads to_two (Grows-itself two to_two.grows.sound) to_three b.fourth.grows b.joins_bads);
    outputs = JoinsConstraints-held old moved leaf next is adds_held old.properties.outputs outputs b.joins_outputs.others b.joins_outputs.count
        (joined_value three four old.properties.outputs outputs is.properties.outputs to_three b.third.grows to_four (Grows-itself four to_four.grows.sound) b.joins_outputs);
    rest = refl;
    runs = AreOldRuns-held old moved leaf next is adds_held;
  }

  -- and the result is a circuit
  pub IsCircuit-built : IsCircuit moved
  IsCircuit-built =
      let over = IsCircuit-grown old four is (grown four to_four).grows in
      let here : 0 < length four = kind_at-within four 0 False to_four.grows.sound.false_first in
      let next_there : IsInRange four next = let low = b.gives.there in omega (arith, Grows-longer two four two_to_four) in
      let latched = IsCircuit-add_latch (record old { nodes = four }) (constraints_held_latch leaf next) over (record { leaf = (grown four to_four).there; next = next_there; init = here }) (IsFree-fresh old is) in
      let bads_there : All (IsInRange four) bads = λ k d h. let low = b.joins_bads.there k d h in omega (arith, Grows-longer three four b.fourth.grows) in
      let none = All-nil (IsInRange four) in
      let properties : AllProperties (IsInRange four) (record old.properties { outputs = outputs; bads = bads; constraints = [] }) = assumption (latched.properties, b.joins_outputs.there, bads_there, none) in
      assumption (latched, properties)

-- edges to old nodes are in range of grown ones
pub All-grown : (xs ys : List AigNode) (es : List AigEdge) → Grows xs ys → All (IsInRange xs) es
    → All (IsInRange ys) es
All-grown xs ys es grows all k d h = let low = all k d h in omega (arith, Grows-longer xs ys grows)

-- what is built over the lists of a circuit
pub moved_lists : (lists : Circuit) → IsCircuit lists → (zero one two three four : List AigNode) (id : ℕ) (leaf_edge constraint next : AigEdge) (latch : AigLatch) (latchs : List AigLatch) (bads outputs constraints : List AigEdge)
    → id ≡ length lists.nodes → zero ≡ with_node lists.nodes Leaf → AddsGates zero one → FoldsOrAddsAll zero lists.properties.constraints one constraint → JoinsByAnd zero one lists.properties.constraints constraint → leaf_edge ≡ edge_to id false
    → AddsGates one two → FoldsOrAdds one two leaf_edge constraint next → GivesEdge two (λ x. edge_value one x leaf_edge && edge_value one x constraint) next
    → AddsGates two three → JoinsFirst two three next lists.properties.bads bads → AddsGates three four → JoinsFirst three four next lists.properties.outputs outputs
    → latch ≡ constraints_held_latch id next → latchs ≡ lists.latchs ++ latch ∷ [] → constraints ≡ []
    → IsCircuit (record lists { nodes = four; latchs = latchs; properties = record lists.properties { outputs = outputs; bads = bads; constraints = constraints } })
    × FoldsConstraints lists (record lists { nodes = four; latchs = latchs; properties = record lists.properties { outputs = outputs; bads = bads; constraints = constraints } })
moved_lists lists was zero one two three four id leaf_edge constraint next latch latchs bads outputs constraints leaf_is zero_is first joins_rule joins edge_is second rule gives third joins_bads fourth joins_outputs latch_is latchs_are none =
    let builds : JoinsInSteps lists one two three four constraint next bads outputs = record {
      first = subst (λ z. AddsGates z one) zero_is first;
      joins_rule = subst (λ z. FoldsOrAddsAll z lists.properties.constraints one constraint) zero_is joins_rule;
      joins = subst (λ z. JoinsByAnd z one lists.properties.constraints constraint) zero_is joins;
      second = second;
      rule = subst (λ e. FoldsOrAdds one two e constraint next) (edge_is ∙ ap (λ n. edge_to n false) leaf_is) rule;
      gives = subst (λ e. GivesEdge two (λ x. edge_value one x e && edge_value one x constraint) next) (edge_is ∙ ap (λ n. edge_to n false) leaf_is) gives;
      third = third;
      joins_bads = joins_bads;
      fourth = fourth;
      joins_outputs = joins_outputs;
    } in
    let added : latchs ≡ lists.latchs ++ constraints_held_latch (length lists.nodes) next ∷ [] = latchs_are ∙ ap (λ l. lists.latchs ++ l ∷ []) (latch_is ∙ ap (λ n. constraints_held_latch n next) leaf_is) in
    let result : moved lists was one two three four constraint next bads outputs builds ≡ record lists { nodes = four; latchs = latchs; properties = record lists.properties { outputs = outputs; bads = bads; constraints = constraints } } =
    ap (λ ls. record lists { nodes = four; latchs = ls; properties = record lists.properties { outputs = outputs; bads = bads; constraints = [] } }) (sym added)
    ∙ ap (λ es. record lists { nodes = four; latchs = latchs; properties = record lists.properties { outputs = outputs; bads = bads; constraints = es } }) (sym none) in
    let moves = FoldsConstraints-built lists was one two three four constraint next bads outputs builds in (
      subst IsCircuit result (IsCircuit-built lists was one two three four constraint next bads outputs builds),
      subst (FoldsConstraints lists) result moves,
    )
