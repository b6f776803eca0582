use Rattle.std.proofs.Common.{◌≡◌, ◌≢◌, ℕ, ◌<◌, ◌≤◌, ◌⊎◌, Option, Some, None, List, ◌++◌, ◌∷◌, [], length, get_or, set, refl, sym, ap, subst, ◌∙◌, inl, inr, arith, length-set, get_or-set_same, get_or-set_other}
use Rattle.aig_base.proofs.Words.{All, AllPairs, Contains, IfSome, IsSomeAnd, option_map, slice_get, cases_lt, cases_eq, slice_get-get_or, slice_get_past, same_Some, map-append, All-push, All-set, Contains-get_or, all_pairs_push}
use Rattle.std.proofs.Math.Seq.{map-set_same}
use Rattle.aig_circuit.specs.declared.edge.AigEdge.{AigEdge}
use Rattle.aig_circuit.specs.declared.node.AigNodeType.{AigNodeType}
use Rattle.aig_circuit.specs.declared.node.AigNodeType.TheVariants.{False, Leaf, And}
use Rattle.aig_circuit.specs.declared.node.AigNode.{AigNode}
use Rattle.aig_circuit.specs.declared.node.AigLatch.{AigLatch}
use Rattle.aig_circuit.specs.Node.{kind_at, FitsBelow, IsOrdered, IsSameKind, Admits}
use Rattle.aig_circuit.proofs.Words.{Circuit, IsCircuit, AreNodes, IsInRange, IsLeaf, IsLatch, IsFree, latch_leaves, with_node}
use Rattle.aig_circuit.proofs.Trees.{kind_at-within, kind_at-last}
use Rattle.aig_circuit.proofs.Building.{Grows-leaf, Grows-longer}
use Rattle.aig_circuit.proofs.Circuits.{IsCircuit-over, IsCircuit-grown, IsFree-fresh, init_grown}

-- a circuit stays one under other latches with the same leaves
pub IsCircuit-latchs : (c : Circuit) (latchs : List AigLatch) → IsCircuit c → All (IsLatch c.nodes) latchs → latch_leaves latchs ≡ latch_leaves c.latchs → IsCircuit (record c { latchs = latchs })
IsCircuit-latchs c latchs is h same =
    let distinct = subst (AllPairs (λ m n. m ≢ n)) (sym same) is.latchs_distinct in
    let apart = subst (All (λ n. ¬ Contains c.inputs n)) (sym same) is.apart in
    assumption (is, h, distinct, apart)

IsCircuit-set_latch : (c : Circuit) (i : ℕ) (d latch : AigLatch) → IsCircuit c → IsLatch c.nodes latch → latch.input ≡ (get_or c.latchs i d).input → IsCircuit (record c { latchs = set c.latchs i latch })
IsCircuit-set_latch c i d latch is h same =
    IsCircuit-latchs c (set c.latchs i latch) is (All-set (IsLatch c.nodes) c.latchs i latch h is.latchs) (map-set_same (λ (l : AigLatch). l.input) c.latchs i latch d same)

-- a latch may have another next edge, or another initial edge, in range
pub IsCircuit-set_next : (c : Circuit) (i : ℕ) (latch : AigLatch) (e : AigEdge) → IsCircuit c → i < length c.latchs → latch ≡ get_or c.latchs i latch → IsInRange c.nodes e → IsCircuit (record c { latchs = set c.latchs i (record latch { next = e }) })
IsCircuit-set_next c i latch e is h at in_range =
    let was : IsLatch c.nodes latch = subst (IsLatch c.nodes) (sym at) (is.latchs i latch h) in
    IsCircuit-set_latch c i latch (record latch { next = e }) is (record { leaf = was.leaf; next = in_range; init = was.init }) (ap (λ (l : AigLatch). l.input) at)

pub IsCircuit-set_init : (c : Circuit) (i : ℕ) (latch : AigLatch) (init : Option AigEdge) → IsCircuit c → i < length c.latchs → latch ≡ get_or c.latchs i latch → IfSome init (IsInRange c.nodes) → IsCircuit (record c { latchs = set c.latchs i (record latch { init = init }) })
IsCircuit-set_init c i latch init is h at in_range =
    let was : IsLatch c.nodes latch = subst (IsLatch c.nodes) (sym at) (is.latchs i latch h) in
    IsCircuit-set_latch c i latch (record latch { init = init }) is (record { leaf = was.leaf; next = was.next; init = in_range }) (ap (λ (l : AigLatch). l.input) at)

-- a list that was written at one place
get-set_same : {X : Type 0} (xs : List X) (i : ℕ) (x : X) → i < length xs → slice_get (set xs i x) i ≡ Some x
get-set_same xs i x h = let within : i < length (set xs i x) = rw length-set h in slice_get-get_or (set xs i x) i x within ∙ ap Some (get_or-set_same xs i x x h)

get-set_other : {X : Type 0} (xs : List X) (i n : ℕ) (x : X) → n ≢ i → slice_get (set xs i x) n ≡ slice_get xs n
get-set_other xs i n x ne = elim (cases_lt n (length xs)) [
  | inl h ↦ (let within : n < length (set xs i x) = rw length-set h in slice_get-get_or (set xs i x) n x within ∙ ap Some (get_or-set_other xs i n x x ne) ∙ sym (slice_get-get_or xs n x h))
  | inr h ↦ (let past : length (set xs i x) ≤ n = rw length-set h in slice_get_past (set xs i x) n past ∙ sym (slice_get_past xs n h))
]

-- nodes of one kind are false, leaves or gates alike
same_false : (k l : AigNodeType) → IsSameKind k l → k ≡ False → l ≡ False
same_false k l h e = by l (subst (λ (x : AigNodeType). IsSameKind x l) e h)
  where
    by : (m : AigNodeType) → IsSameKind False m → m ≡ False
    by False g = refl
    by Leaf g = elim g [ ]
    by (And a b) g = elim g [ ]

false_same : (k l : AigNodeType) → IsSameKind k l → l ≡ False → k ≡ False
false_same k l h e = by k (subst (IsSameKind k) e h)
  where
    by : (m : AigNodeType) → IsSameKind m False → m ≡ False
    by False g = refl
    by Leaf g = elim g [ ]
    by (And a b) g = elim g [ ]

same_leaf : (k l : AigNodeType) → IsSameKind k l → k ≡ Leaf → l ≡ Leaf
same_leaf k l h e = by l (subst (λ (x : AigNodeType). IsSameKind x l) e h)
  where
    by : (m : AigNodeType) → IsSameKind Leaf m → m ≡ Leaf
    by Leaf g = refl
    by False g = elim g [ ]
    by (And a b) g = elim g [ ]

-- what a node that is admitted stands in place of
admitted : (nodes : List AigNode) (i : ℕ) (node : AigNode) → Admits nodes i node → (k : AigNodeType) × (kind_at nodes i ≡ Some k) × IsSameKind k node.typ
admitted nodes i node h = by (kind_at nodes i) refl h.kind
  where
    by : (o : Option AigNodeType) → kind_at nodes i ≡ o → IsSomeAnd o (λ k. IsSameKind k node.typ) → (k : AigNodeType) × (kind_at nodes i ≡ Some k) × IsSameKind k node.typ
    by (Some k) is same = (k, is, same)
    by None is same = elim same [ ]

-- what node n is after a node was put in place of node i
kind_at-set : (nodes : List AigNode) (i n : ℕ) (node : AigNode) (k : AigNodeType) → i < length nodes → kind_at (set nodes i node) n ≡ Some k → ((n ≡ i) × (node.typ ≡ k)) ⊎ ((n ≢ i) × (kind_at nodes n ≡ Some k))
kind_at-set nodes i n node k h is = elim (cases_eq n i) [
  | inl e ↦ inl (e, same_Some _ _ (ap (option_map (λ (x : AigNode). x.typ)) (sym (get-set_same nodes i node h)) ∙ subst (λ m. kind_at (set nodes i node) m ≡ Some k) e is))
  | inr ne ↦ inr (ne, ap (option_map (λ (x : AigNode). x.typ)) (sym (get-set_other nodes i n node ne)) ∙ is)
]

pub leaf-set : (nodes : List AigNode) (i : ℕ) (node : AigNode) → Admits nodes i node → (n : ℕ) → IsLeaf nodes n → IsLeaf (set nodes i node) n
leaf-set nodes i node h n leaf =
    let was = admitted nodes i node h in
    let within = kind_at-within nodes i was.0 was.1 in
    elim (cases_eq n i) [
      | inl e ↦ (
          let is : kind_at nodes i ≡ Some Leaf = subst (λ m. kind_at nodes m ≡ Some Leaf) e leaf in
          let kind : node.typ ≡ Leaf = same_leaf was.0 node.typ was.2 (same_Some _ _ (sym was.1 ∙ is)) in
          rw e (ap (option_map (λ (x : AigNode). x.typ)) (get-set_same nodes i node within) ∙ ap Some kind))
      | inr ne ↦ ap (option_map (λ (x : AigNode). x.typ)) (get-set_other nodes i n node ne) ∙ leaf
    ]

IsOrdered-set : (nodes : List AigNode) (i : ℕ) (node : AigNode) → IsOrdered nodes → i < length nodes → FitsBelow i node.typ → IsOrdered (set nodes i node)
IsOrdered-set nodes i node o h fits = record {
  first_before = λ n a b is. elim (kind_at-set nodes i n node (And a b) h is) [ inl p ↦ rw p.0 (fits.first a b p.1) | inr p ↦ o.first_before n a b p.1 ];
  second_before = λ n a b is. elim (kind_at-set nodes i n node (And a b) h is) [ inl p ↦ rw p.0 (fits.second a b p.1) | inr p ↦ o.second_before n a b p.1 ];
  in_order = λ n a b is. elim (kind_at-set nodes i n node (And a b) h is) [ inl p ↦ fits.in_order a b p.1 | inr p ↦ o.in_order n a b p.1 ];
}

AreNodes-set : (nodes : List AigNode) (i : ℕ) (node : AigNode) → AreNodes nodes → Admits nodes i node → AreNodes (set nodes i node)
AreNodes-set nodes i node s h =
    let was = admitted nodes i node h in
    let within = kind_at-within nodes i was.0 was.1 in
    record {
      false_first = elim (cases_eq 0 i) [
        | inl e ↦ (
            let is : kind_at nodes i ≡ Some False = subst (λ m. kind_at nodes m ≡ Some False) e s.false_first in
            let kind : node.typ ≡ False = same_false was.0 node.typ was.2 (same_Some _ _ (sym was.1 ∙ is)) in
            rw e (ap (option_map (λ (x : AigNode). x.typ)) (get-set_same nodes i node within) ∙ ap Some kind))
        | inr ne ↦ ap (option_map (λ (x : AigNode). x.typ)) (get-set_other nodes i 0 node ne) ∙ s.false_first
      ];
      false_once = λ n is. elim (kind_at-set nodes i n node False within is) [
        | inl p ↦ p.0 ∙ s.false_once i (was.1 ∙ ap Some (false_same was.0 node.typ was.2 p.1))
        | inr p ↦ s.false_once n p.1
      ];
      numbered = λ n x is. elim (cases_eq n i) [
        | inl e ↦ (
            let same : node ≡ x = same_Some _ _ (sym (get-set_same nodes i node within) ∙ subst (λ m. slice_get (set nodes i node) m ≡ Some x) e is) in
            ap (λ (y : AigNode). y.node_id) (sym same) ∙ h.number ∙ sym e)
        | inr ne ↦ s.numbered n x (sym (get-set_other nodes i n node ne) ∙ is)
      ];
      ordered = IsOrdered-set nodes i node s.ordered within h.operands;
    }

-- a circuit stays one when a node takes the place of another
pub IsCircuit-set_node : (c : Circuit) (i : ℕ) (node : AigNode) → IsCircuit c → Admits c.nodes i node → IsCircuit (record c { nodes = set c.nodes i node })
IsCircuit-set_node c i node is h =
    let longer : length c.nodes ≤ length (set c.nodes i node) = rw length-set (omega arith) in
    IsCircuit-over c (set c.nodes i node) is (AreNodes-set c.nodes i node is.nodes h) longer (leaf-set c.nodes i node h)

-- a free leaf may become a latch's
pub IsCircuit-add_latch : (c : Circuit) (latch : AigLatch) → IsCircuit c → IsLatch c.nodes latch → IsFree c.inputs c.latchs latch.input → IsCircuit (record c { latchs = c.latchs ++ latch ∷ [] })
IsCircuit-add_latch c latch is h free =
    let leaves : latch_leaves (c.latchs ++ latch ∷ []) ≡ latch_leaves c.latchs ++ latch.input ∷ [] = map-append (λ (l : AigLatch). l.input) c.latchs (latch ∷ []) in
    let latchs = All-push (IsLatch c.nodes) c.latchs latch is.latchs h in
    let distinct : AllPairs (λ m n. m ≢ n) (latch_leaves (c.latchs ++ latch ∷ [])) = rw leaves (all_pairs_push (λ m n. m ≢ n) (latch_leaves c.latchs) latch.input is.latchs_distinct (λ k d l e. free.no_latch (subst (Contains (latch_leaves c.latchs)) e (Contains-get_or (latch_leaves c.latchs) k d l)))) in
    let apart : All (λ n. ¬ Contains c.inputs n) (latch_leaves (c.latchs ++ latch ∷ [])) = rw leaves (All-push (λ n. ¬ Contains c.inputs n) (latch_leaves c.latchs) latch.input is.apart free.no_input) in
    assumption (is, latchs, distinct, apart)

-- a new leaf may be a latch's
pub IsCircuit-new_latch : (c : Circuit) (next : AigEdge) (init : Option AigEdge) → IsCircuit c → IsInRange c.nodes next → IfSome init (IsInRange c.nodes) → IsCircuit (record c { nodes = with_node c.nodes Leaf; latchs = c.latchs ++ record { input = length c.nodes; next = next; init = init } ∷ [] })
IsCircuit-new_latch c next init is in_range init_in_range =
    let grows = Grows-leaf c.nodes is.nodes in
    let longer = Grows-longer c.nodes (with_node c.nodes Leaf) grows in
    IsCircuit-add_latch (record c { nodes = with_node c.nodes Leaf }) (record { input = length c.nodes; next = next; init = init }) (IsCircuit-grown c (with_node c.nodes Leaf) is grows)
    (record { leaf = kind_at-last c.nodes _; next = omega arith; init = init_grown c.nodes (with_node c.nodes Leaf) init longer init_in_range })
    (IsFree-fresh c is)
