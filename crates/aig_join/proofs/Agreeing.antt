-- Two functions that agree on every number of the second circuit join alike.
use Rattle.aig_base.proofs.Words.{◌≡◌, ℕ, ◌+◌, ◌<◌, Option, Some, None, List, [], ◌∷◌, ◌++◌, length, drop, get_or, refl, ap, ◌∙◌, arith, IfSome, option_map, All-append, All-drop, All-map}
use Rattle.aig_circuit.specs.declared.edge.AigEdge.{AigEdge}
use Rattle.aig_circuit.specs.declared.node.AigNodeType.{AigNodeType}
use Rattle.aig_circuit.specs.declared.node.AigNodeType.TheVariants.{False, Leaf, And}
use Rattle.aig_circuit.specs.declared.node.AigNode.{AigNode}
use Rattle.aig_circuit.specs.declared.node.AigLatch.{AigLatch}
use Rattle.aig_circuit.proofs.Words.{edge_to, kind_at, and_of, Circuit, IsCircuit, latch_leaves, append_properties, nodes_in_order, renumbered_edge, renumbered_kind, renumbered_latch}
use Rattle.aig_circuit.proofs.Listed.{AllProperties-weaker, map_properties-agree}
use Rattle.aig_circuit.proofs.Lists.{map-agrees}
use Rattle.aig_circuit.proofs.Trees.{kind_at-within}
use Rattle.aig_renumber.specs.Numbers.{IsEdgeIn, IsLatchIn}
use Rattle.aig_renumber.proofs.Circuits.{SpeaksOf-nodes}
use Rattle.aig_join.specs.Joined.{further_leaves, joined_by}
use Rattle.aig_join.specs.Names.{is_taken}
use Rattle.aig_join.proofs.Naming.{with_names-agree}

module _ (S : ℕ → Type 0) (f g : ℕ → ℕ) (agree : (n : ℕ) → S n → f n ≡ g n) where
  edge-agrees : (e : AigEdge) → IsEdgeIn S e → renumbered_edge f e ≡ renumbered_edge g e
  edge-agrees e s = ap (λ n. edge_to n e.compl) (agree e.node_id s)

  init-agrees : (o : Option AigEdge) → IfSome o (IsEdgeIn S) → option_map (renumbered_edge f) o
      ≡ option_map (renumbered_edge g) o
  init-agrees (Some e) s = ap Some (edge-agrees e s)
  init-agrees None s = refl

  latch-agrees : (l : AigLatch) → IsLatchIn S l → renumbered_latch f l ≡ renumbered_latch g l
  latch-agrees l s =
      let a = agree l.input s.leaf in
      let b = edge-agrees l.next s.next in
      let d = init-agrees l.init s.init in
      λ i. record { input = a i; next = b i; init = d i }

  module _ (nodes : List AigNode) (operands : (n : ℕ) (a b : AigEdge) → kind_at nodes n
      ≡ Some (And a b) → S a.node_id × S b.node_id) where
    kind-agrees : (n : ℕ) (o : Option AigNodeType) → kind_at nodes n ≡ o → renumbered_kind f o
        ≡ renumbered_kind g o
    kind-agrees n (Some (And a b)) is =
        let s = operands n a b is in
        ap (λ e. and_of e (renumbered_edge f b)) (edge-agrees a s.0)
        ∙ ap (and_of (renumbered_edge g a)) (edge-agrees b s.1)
    kind-agrees n (Some Leaf) is = refl
    kind-agrees n (Some False) is = refl
    kind-agrees n None is = refl

    nodes-agree : (v : ℕ) (ns : List ℕ) → nodes_in_order nodes f v ns ≡ nodes_in_order nodes g v ns
    nodes-agree v [] = refl
    nodes-agree v (n ∷ ns) =
        ap (λ (k : AigNodeType). record { node_id = v; typ = k } ∷ nodes_in_order nodes f (v + 1)
        ns) (kind-agrees n (kind_at nodes n) refl)
        ∙ ap (λ l. record { node_id = v; typ = renumbered_kind g (kind_at nodes n) } ∷ l)
        (nodes-agree (v + 1) ns)

-- the joint circuits are the same
pub joined_by-agrees : (f g : ℕ → ℕ) (added : List ℕ) (latches : ℕ) (first second : Circuit)
    → IsCircuit second → ((n : ℕ) → n < length second.nodes → f n ≡ g n)
    → joined_by f added latches first second ≡ joined_by g added latches first second
joined_by-agrees f g added latches first second is agree =
    let S : ℕ → Type 0 = λ n. n < length second.nodes in
    let speaks = SpeaksOf-nodes second is in
    let rest = drop (length first.inputs) second.inputs in
    let rest_latchs = drop latches second.latchs in
    let rest_in = All-drop S (length first.inputs) second.inputs speaks.inputs in
    let latchs_in = All-drop (IsLatchIn S) latches second.latchs speaks.latchs in
    let a = nodes-agree S f g agree second.nodes (λ n a b at.
    let low = is.nodes.ordered.first_before n a b at in
    let also = is.nodes.ordered.second_before n a b at in
    let within = kind_at-within second.nodes n (And a b) at in
    (omega arith, omega arith)) (length first.nodes) added in
    let b = map-agrees f g rest (λ k d h. agree (get_or rest k d) (rest_in k d h)) in
    let l = map-agrees (renumbered_latch f) (renumbered_latch g) rest_latchs
    (λ k d h. latch-agrees S f g agree (get_or rest_latchs k d) (latchs_in k d h)) in
    let p = map_properties-agree (renumbered_edge f) (renumbered_edge g) second.properties
    (AllProperties-weaker (IsEdgeIn S) (λ e. renumbered_edge f e ≡ renumbered_edge g e)
    (edge-agrees S f g agree) second.properties speaks.properties) in
    let names = with_names-agree (is_taken first) second.names f g first.names
    (further_leaves latches first second) (All-append (λ n. f n ≡ g n) rest
    (latch_leaves rest_latchs) (λ k d h. agree (get_or rest k d) (rest_in k d h))
    (All-map (λ n. f n ≡ g n) (λ (l : AigLatch). l.input) rest_latchs
    (λ k d h. agree (get_or rest_latchs k d).input (latchs_in k d h).leaf))) in
    λ i. record {
      nodes = first.nodes ++ a i;
      inputs = first.inputs ++ b i;
      latchs = first.latchs ++ l i;
      properties = append_properties first.properties (p i);
      names = names i;
    }
