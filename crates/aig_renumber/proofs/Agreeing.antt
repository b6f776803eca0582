-- Two functions that agree on every number of a circuit renumber it alike.
use Rattle.aig_base.proofs.Words.{◌≡◌, ℕ, suc, ◌+◌, Option, Some, None, List, [], ◌∷◌, get_or, refl, ap, ◌∙◌, arith, All, IfSome, option_map, entries, from_entries}
use Rattle.aig_circuit.specs.declared.edge.AigEdge.{AigEdge}
use Rattle.aig_circuit.specs.declared.node.AigNodeType.{AigNodeType}
use Rattle.aig_circuit.specs.declared.node.AigNodeType.TheVariants.{False, Leaf, And}
use Rattle.aig_circuit.specs.declared.node.AigNode.{AigNode}
use Rattle.aig_circuit.specs.declared.node.AigLatch.{AigLatch}
use Rattle.aig_circuit.proofs.Words.{edge_to, kind_at, and_of, Circuit, nodes_in_order, renumbered_circuit, renumbered_edge, renumbered_kind, renumbered_latch}
use Rattle.aig_renumber.specs.Numbers.{IsEdgeIn, IsLatchIn, SpeaksOf}
use Rattle.aig_circuit.proofs.Listed.{AllProperties-weaker, map_properties-agree}
use Rattle.aig_circuit.proofs.Lists.{map-agrees}
use Rattle.aig_renumber.proofs.Names.{names_in_circuit}

module _ (S : ℕ → Type 0) (f g : ℕ → ℕ) (agree : (n : ℕ) → S n → f n ≡ g n) where
  edge-agrees : (e : AigEdge) → IsEdgeIn S e → renumbered_edge f e ≡ renumbered_edge g e
  edge-agrees e s = ap (λ n. edge_to n e.compl) (agree e.node_id s)

  init-agrees : (o : Option AigEdge) → IfSome o (IsEdgeIn S) → option_map (renumbered_edge f) o ≡ option_map (renumbered_edge g) o
  init-agrees (Some e) s = ap Some (edge-agrees e s)
  init-agrees None s = refl

  latch-agrees : (l : AigLatch) → IsLatchIn S l → renumbered_latch f l ≡ renumbered_latch g l
  latch-agrees l s =
      let a = agree l.input s.leaf in
      let b = edge-agrees l.next s.next in
      let d = init-agrees l.init s.init in
      λ i. record { input = a i; next = b i; init = d i }

  -- the nodes that P holds of have their operands in S
  module _ (nodes : List AigNode) (P : ℕ → Type 0) (operands : (n : ℕ) (a b : AigEdge) → P n → kind_at nodes n ≡ Some (And a b) → S a.node_id × S b.node_id) where
    kind-agrees : (n : ℕ) → P n → (o : Option AigNodeType) → kind_at nodes n ≡ o → renumbered_kind f o ≡ renumbered_kind g o
    kind-agrees n has (Some (And a b)) is =
        let s = operands n a b has is in
        ap (λ e. and_of e (renumbered_edge f b)) (edge-agrees a s.0) ∙ ap (and_of (renumbered_edge g a)) (edge-agrees b s.1)
    kind-agrees n has (Some Leaf) is = refl
    kind-agrees n has (Some False) is = refl
    kind-agrees n has None is = refl

    nodes-agree : (v : ℕ) (ns : List ℕ) → All P ns → nodes_in_order nodes f v ns ≡ nodes_in_order nodes g v ns
    nodes-agree v [] all = refl
    nodes-agree v (n ∷ ns) all =
        ap (λ (k : AigNodeType). record { node_id = v; typ = k } ∷ nodes_in_order nodes f (v + 1) ns) (kind-agrees n (all 0 n (omega arith)) (kind_at nodes n) refl)
        ∙ ap (λ l. record { node_id = v; typ = renumbered_kind g (kind_at nodes n) } ∷ l) (nodes-agree (v + 1) ns (λ k d h. all (suc k) d (omega arith)))

  -- the circuits of nodes that P holds of are the same
  pub kept-agree : (c : Circuit) (ns : List ℕ) (P : ℕ → Type 0) → All P ns → SpeaksOf S c → ((n : ℕ) (a b : AigEdge) → P n → kind_at c.nodes n ≡ Some (And a b) → S a.node_id × S b.node_id) → renumbered_circuit f ns c ≡ renumbered_circuit g ns c
  kept-agree c ns P all speaks operands =
      let a = nodes-agree c.nodes P operands 0 ns all in
      let b = map-agrees f g c.inputs (λ k d h. agree (get_or c.inputs k d) (speaks.inputs k d h)) in
      let l = map-agrees (renumbered_latch f) (renumbered_latch g) c.latchs (λ k d h. latch-agrees (get_or c.latchs k d) (speaks.latchs k d h)) in
      let p = map_properties-agree (renumbered_edge f) (renumbered_edge g) c.properties (AllProperties-weaker (IsEdgeIn S) (λ e. renumbered_edge f e ≡ renumbered_edge g e) edge-agrees c.properties speaks.properties) in
      let named = map-agrees (λ (e : ℕ × List ℕ). (f e.0, e.1)) (λ (e : ℕ × List ℕ). (g e.0, e.1)) (entries c.names) (λ k d h. ap (λ n. (n, (get_or (entries c.names) k d).1)) (agree (get_or (entries c.names) k d).0 (names_in_circuit S c.names speaks.named k d h))) in
      let t = ap from_entries named in
      λ i. record { nodes = a i; inputs = b i; latchs = l i; properties = p i; names = t i }

  -- so they are where the operands of every gate are in S
  pub circuits-agree : (c : Circuit) (ns : List ℕ) → SpeaksOf S c → ((n : ℕ) (a b : AigEdge) → kind_at c.nodes n ≡ Some (And a b) → S a.node_id × S b.node_id) → renumbered_circuit f ns c ≡ renumbered_circuit g ns c
  circuits-agree c ns speaks operands = kept-agree c ns (λ n. Unit {0}) (λ k d h. tt) speaks (λ n a b h. operands n a b)
