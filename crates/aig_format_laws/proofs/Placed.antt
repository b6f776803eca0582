-- A circuit whose inputs, latches and gates are numbered in this order has a binary file: each literal is that of its place.
use Rattle.aig_base.proofs.Words.{◌≡◌, ℕ, zero, suc, ◌+◌, ◌-◌, ◌*◌, ◌<◌, ◌≤◌, Some, List, [], ◌∷◌, ◌++◌, length, map, refl, sym, ap, subst, ◌∙◌, arith, inl, inr, same_Some, cases_lt, get_or_default, All-contains}
use Rattle.std.specs.Prelude.{Contains, EachIndex, slice_index}
use Rattle.aig_circuit.specs.declared.edge.AigEdge.{AigEdge}
use Rattle.aig_circuit.specs.declared.node.AigNodeType.{AigNodeType}
use Rattle.aig_circuit.specs.declared.node.AigNodeType.TheVariants.{False, Leaf, And}
use Rattle.aig_circuit.specs.declared.node.AigNode.{AigNode}
use Rattle.aig_circuit.proofs.Words.{kind_at, Circuit, IsCircuit, IsLeaf, latch_leaves, IsReencoded}
use Rattle.aig_circuit.proofs.Circuits.{AreLeaves-of_circuit}
use Rattle.aig_circuit.proofs.Trees.{kind_at-there}
use Rattle.aig_format.specs.declared.FileKind.TheVariants.{Binary}
use Rattle.aig_format.proofs.Words.{defined, Placed, places, file_of, IsWritable}
use Rattle.aig_format.proofs.Places.{length-places, places-append}
use Rattle.aig_format_laws.proofs.Gates.{AreNumbered, LineCase, has_line, lefts, line_case, lines_for, no_line}
use Rattle.aig_format_laws.proofs.Nodes.{numbered}
use Rattle.aig_format_laws.proofs.Written.{defined_leaves}
use Rattle.aig_renumber.proofs.Order.{tail_numbered}

-- numbers in a row, doubled
doubled_places : (v : ℕ) (ns : List ℕ) → EachIndex ns (λ i. slice_index ns i ≡ v + i) → map (λ n. 2 * n) ns ≡ places (length ns) v
doubled_places v [] each = refl
doubled_places v (n ∷ ns) each =
    let first : n ≡ v = omega (arith, each 0 (omega arith)) in
    rw (first, doubled_places (v + 1) ns (λ i h. omega (arith, each (suc i) (omega arith)))) refl

-- a row of gates
gates_places : (v : ℕ) (nodes : List AigNode) → AreNumbered v nodes → ((i : ℕ) → i < length nodes → (a : AigEdge) × (b : AigEdge) × (kind_at nodes i ≡ Some (And a b))) → lefts (lines_for nodes) ≡ places (length nodes) v
gates_places v [] are each = refl
gates_places v (x ∷ xs) are each =
    let next : suc v ≡ v + 1 = omega arith in
    by_case (line_case v x (omega (arith, are zero x refl))) (subst (λ k. lefts (lines_for xs) ≡ places (length xs) k) next (gates_places (suc v) xs (tail_numbered v x xs are) (λ i h. each (suc i) (omega arith))))
  where
    by_case : LineCase v x → lefts (lines_for xs) ≡ places (length xs) (v + 1) → lefts (lines_for (x ∷ xs)) ≡ 2 * v ∷ places (length xs) (v + 1)
    by_case (has_line a b is line) rest = rw line (ap (λ (l : List ℕ). 2 * v ∷ l) rest)
    by_case (no_line none line) rest = let gate = each 0 (omega arith) in absurd (none gate.0 gate.1 (same_Some _ _ gate.2))

-- so many nodes that are no gates, and then a row of gates
gates_following : (d v : ℕ) (nodes : List AigNode) → AreNumbered v nodes → ((i : ℕ) (a b : AigEdge) → kind_at nodes i ≡ Some (And a b) → d ≤ i)
    → ((i : ℕ) → i < length nodes → d ≤ i → (a : AigEdge) × (b : AigEdge) × (kind_at nodes i ≡ Some (And a b))) → lefts (lines_for nodes) ≡ places (length nodes - d) (v + d)
gates_following zero v nodes are none each =
    let e : v ≡ v + 0 = omega arith in let f : length nodes ≡ length nodes - 0 = omega arith in
    subst (λ k. lefts (lines_for nodes) ≡ places (length nodes - 0) k) e (subst (λ k. lefts (lines_for nodes) ≡ places k v) f (gates_places v nodes are (λ i h. each i h (omega arith))))
gates_following (suc d) v [] are none each = let e : 0 - suc d ≡ 0 = omega arith in rw e refl
gates_following (suc d) v (x ∷ xs) are none each =
    let place : suc v + d ≡ v + suc d = omega arith in
    let count : length xs - d ≡ suc (length xs) - suc d = omega arith in
    by_case (line_case v x (omega (arith, are zero x refl)))
    (subst (λ k. lefts (lines_for xs) ≡ places (suc (length xs) - suc d) k) place (subst (λ k. lefts (lines_for xs) ≡ places k (suc v + d)) count
    (gates_following d (suc v) xs (tail_numbered v x xs are) (λ i a b h. omega (arith, none (suc i) a b h)) (λ i h low. each (suc i) (omega arith) (omega arith)))))
  where
    by_case : LineCase v x → lefts (lines_for xs) ≡ places (suc (length xs) - suc d) (v + suc d) → lefts (lines_for (x ∷ xs)) ≡ places (suc (length xs) - suc d) (v + suc d)
    by_case (has_line a b is line) rest = let low = none 0 a b (ap Some is) in absurd (omega arith)
    by_case (no_line gate line) rest = rw line rest

module _ (c : Circuit) (is : IsCircuit c) (w : IsWritable c) (placed : IsReencoded c) where
  abbrev leaves : List ℕ
  leaves = c.inputs ++ latch_leaves c.latchs

  -- the leaf at a place
  leaf_at : (i : ℕ) → i < length leaves → Contains leaves (i + 1)
  leaf_at i h = (i, h, get_or_default leaves i (i + 1) 0 h ∙ placed i h)

  leaf_within : (m : ℕ) → Contains leaves m → (0 < m) × (m ≤ length leaves)
  leaf_within m h = let at : m ≡ h.0 + 1 = sym h.2 ∙ get_or_default leaves h.0 m 0 h.1 ∙ placed h.0 h.1 in let low = h.1 in (omega arith, omega arith)

  -- a leaf is none of the gates
  no_leaf : (i : ℕ) (a b : AigEdge) → kind_at c.nodes i ≡ Some (And a b) → ¬ Contains leaves i
  no_leaf i a b gate has =
      let leaf = All-contains (IsLeaf c.nodes) leaves i (AreLeaves-of_circuit c is).leaves has in
      let both : Leaf ≡ And a b = same_Some _ _ (sym leaf ∙ gate) in
      absurd cc

  -- the gates come after the leaves
  gate_above : (i : ℕ) (a b : AigEdge) → kind_at c.nodes i ≡ Some (And a b) → length leaves + 1 ≤ i
  gate_above zero a b gate = let both : False ≡ And a b = same_Some _ _ (sym is.nodes.false_first ∙ gate) in absurd cc
  gate_above (suc k) a b gate = elim (cases_lt k (length leaves)) [
    | inl low ↦ (let e : k + 1 ≡ suc k = omega arith in absurd (no_leaf (suc k) a b gate (subst (Contains leaves) e (leaf_at k low))))
    | inr high ↦ omega arith
  ]

  -- and every node after the leaves is one
  gate_there : (i : ℕ) → i < length c.nodes → length leaves + 1 ≤ i → (a : AigEdge) × (b : AigEdge) × (kind_at c.nodes i ≡ Some (And a b))
  gate_there i h above = let k = kind_at-there c.nodes i h in by_kind k.0 k.1
    where
      by_kind : (k : AigNodeType) → kind_at c.nodes i ≡ Some k → (a : AigEdge) × (b : AigEdge) × (kind_at c.nodes i ≡ Some (And a b))
      by_kind (And a b) is_and = (a, b, is_and)
      by_kind Leaf is_leaf = let low = (leaf_within i (w.closed i is_leaf)).1 in absurd (omega arith)
      by_kind False is_false = let zeroth = is.nodes.false_once i is_false in absurd (omega arith)

  -- the literals are those of their places
  pub Placed-circuit : Placed Binary (defined (file_of Binary c))
  Placed-circuit =
      let gates = lefts (lines_for c.nodes) in
      let first : map (λ n. 2 * n) leaves ≡ places (length leaves) 1 = doubled_places 1 leaves (λ i h. omega (arith, placed i h)) in
      let rest = gates_following (length leaves + 1) 0 c.nodes (numbered c.nodes is.nodes) gate_above gate_there in
      let from : 0 + (length leaves + 1) ≡ 1 + length leaves = omega arith in
      let whole : defined (file_of Binary c) ≡ places (length leaves) 1 ++ places (length c.nodes - (length leaves + 1)) (1 + length leaves) =
      ap (λ (ns : List ℕ). ns ++ gates) (defined_leaves c) ∙ ap (λ (ns : List ℕ). ns ++ gates) first ∙ ap (λ (ns : List ℕ). places (length leaves) 1 ++ ns) (rest ∙ ap (places (length c.nodes - (length leaves + 1))) from) in
      let row = places-append (length leaves) (length c.nodes - (length leaves + 1)) 1 in
      let all = whole ∙ sym row in
      all ∙ ap (λ n. places n 1) (sym (ap (λ (ns : List ℕ). length ns) all ∙ length-places _ 1))
