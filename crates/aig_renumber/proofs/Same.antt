-- A circuit under its own numbers is itself.
use Rattle.aig_base.proofs.Words.{◌≡◌, ℕ, ◌+◌, ◌<◌, Bool, true, false, cond, nat_cmp, Option, Some, None, List, length, get_or, refl, sym, ap, ◌∙◌, arith, inl, inr, IsTrue, IfSome, is_some, option_map, FinMap, contains_key, entries, get, get-retain_keys, nat_cmp-IsAntisymmetric, retain_keys, same_map, false≢true, nat_cmp_total, same_lists, exact_unsigned, get_or_from_slice_get, slice_get-get_or}
use Rattle.aig_circuit.specs.declared.edge.AigEdge.{AigEdge}
use Rattle.aig_circuit.specs.declared.node.AigNodeType.{AigNodeType}
use Rattle.aig_circuit.specs.declared.node.AigNodeType.TheVariants.{False, Leaf, And}
use Rattle.aig_circuit.specs.declared.node.AigNode.{AigNode}
use Rattle.aig_circuit.specs.declared.node.AigLatch.{AigLatch}
use Rattle.aig_circuit.proofs.Words.{kind_at, and_of, Circuit, IsCircuit, IsInRange, IsLatch, nodes_in_order, renumbered_circuit, renumbered_edge, renumbered_kind, renumbered_latch}
use Rattle.aig_circuit.proofs.Building.{and_of-cases}
use Rattle.aig_circuit.proofs.Trees.{kind_at-within}
use Rattle.aig_renumber.proofs.Names.{names-kept, names_in_circuit}
use Rattle.aig_renumber.proofs.NodesInOrder.{get-nodes_in_order, length-nodes_in_order, node_in_order}
use Rattle.aig_circuit.proofs.Listed.{AllProperties-weaker, map_properties-same}
use Rattle.aig_circuit.proofs.Lists.{map-same}

-- names are kept where each key passes the test
pub retained-all : (names : FinMap nat_cmp (List ℕ)) (test : ℕ → Bool) → ((n : ℕ) → IsTrue (contains_key names n) → test n ≡ true) → retain_keys names test ≡ names
retained-all names test all = same_map nat_cmp_total nat_cmp-IsAntisymmetric _ _ (λ q.
    get-retain_keys names test q (λ k e. let same : q ≡ k = exact_unsigned q k e in ap test (sym same)) ∙ by_test q (test q) refl (get names q) refl)
  where
    by_test : (q : ℕ) (b : Bool) → test q ≡ b → (o : Option (List ℕ)) → get names q ≡ o → cond b o None ≡ o
    by_test q true passes o is = refl
    by_test q false fails None is = refl
    by_test q false fails (Some v) is = absurd (false≢true (sym fails ∙ all q (ap is_some is)))

module _ (c : Circuit) (is : IsCircuit c) (number : ℕ → ℕ) (same : (n : ℕ) → n < length c.nodes → number n ≡ n) where
  edge-same : (e : AigEdge) → IsInRange c.nodes e → renumbered_edge number e ≡ e
  edge-same e h = ap (λ n. record e { node_id = n }) (same e.node_id h)

  init-same : (o : Option AigEdge) → IfSome o (IsInRange c.nodes) → option_map (renumbered_edge number) o ≡ o
  init-same (Some e) h = ap Some (edge-same e h)
  init-same None h = refl

  latch-same : (l : AigLatch) → IsLatch c.nodes l → renumbered_latch number l ≡ l
  latch-same l h =
      let a = same l.input (kind_at-within c.nodes l.input Leaf h.leaf) in
      let b = edge-same l.next h.next in
      let d = init-same l.init h.init in
      λ i. record { input = a i; next = b i; init = d i }

  kind-same : (n : ℕ) (k : AigNodeType) → kind_at c.nodes n ≡ Some k → renumbered_kind number (Some k) ≡ k
  kind-same n False at = refl
  kind-same n Leaf at = refl
  kind-same n (And a b) at =
      let within = kind_at-within c.nodes n (And a b) at in
      let first = edge-same a (let low = is.nodes.ordered.first_before n a b at in omega arith) in
      let second = edge-same b (let low = is.nodes.ordered.second_before n a b at in omega arith) in
      ap (λ e. and_of e (renumbered_edge number b)) first ∙ ap (and_of a) second ∙ in_order
    where
      in_order : and_of a b ≡ And a b
      in_order = elim (and_of-cases a b) [
        | inl p ↦ (let le = is.nodes.ordered.in_order n a b at in absurd (omega (arith, p.1)))
        | inr p ↦ p.0
      ]

  nodes-same : (ns : List ℕ) → ((i : ℕ) → i < length ns → get_or ns i 0 ≡ i) → length ns ≡ length c.nodes → nodes_in_order c.nodes number 0 ns ≡ c.nodes
  nodes-same ns places long =
      let count = length-nodes_in_order c.nodes number 0 ns ∙ long in
      same_lists (nodes_in_order c.nodes number 0 ns) c.nodes count (λ k d h.
      let low : k < length c.nodes = omega (arith, count) in
      let within : k < length ns = omega (arith, long) in
      let node = get_or c.nodes k d in
      let old = slice_get-get_or c.nodes k d low in
      let id : node.node_id ≡ k = is.nodes.numbered k node old in
      let kind : kind_at c.nodes k ≡ Some node.typ = ap (option_map (λ (x : AigNode). x.typ)) old in
      let start : 0 + k ≡ k = omega arith in
      let at : get_or ns k 0 ≡ k = places k within in
      let same_id : 0 + k ≡ node.node_id = start ∙ sym id in
      let same_typ : renumbered_kind number (kind_at c.nodes (get_or ns k 0)) ≡ node.typ =
      ap (λ n. renumbered_kind number (kind_at c.nodes n)) at ∙ ap (renumbered_kind number) kind ∙ kind-same k node.typ kind
      in
      get_or_from_slice_get (nodes_in_order c.nodes number 0 ns) k (node_in_order c.nodes number (0 + k) (get_or ns k 0)) d (get-nodes_in_order c.nodes number 0 ns k within)
      ∙ (λ i. record { node_id = same_id i; typ = same_typ i }))

  pub renumbered-same : (ns : List ℕ) → ((i : ℕ) → i < length ns → get_or ns i 0 ≡ i) → length ns ≡ length c.nodes → renumbered_circuit number ns c ≡ c
  renumbered-same ns places long =
      let a = nodes-same ns places long in
      let b = map-same number c.inputs (λ k d h. same (get_or c.inputs k d) (kind_at-within c.nodes (get_or c.inputs k d) Leaf (is.inputs k d h))) in
      let l = map-same (renumbered_latch number) c.latchs (λ k d h. latch-same (get_or c.latchs k d) (is.latchs k d h)) in
      let p = map_properties-same (renumbered_edge number) c.properties (AllProperties-weaker (IsInRange c.nodes) (λ e. renumbered_edge number e ≡ e) edge-same c.properties is.properties) in
      let t = names-kept number c.names (λ k d h. same (get_or (entries c.names) k d).0 (names_in_circuit (λ n. n < length c.nodes) c.names is.named k d h)) in
      λ i. record { nodes = a i; inputs = b i; latchs = l i; properties = p i; names = t i }
