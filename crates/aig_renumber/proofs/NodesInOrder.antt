-- The nodes of a list of numbers, in its order.
use Rattle.aig_base.proofs.Words.{◌≡◌, ℕ, zero, suc, ◌+◌, ◌<◌, Option, Some, List, [], ◌∷◌, ◌++◌, length, get_or, refl, sym, ap, subst, ◌∙◌, arith, inl, inr, take, option_map, slice_get, same_Some, slice_get-get_or, slice_get_within, length-take-le, take_more}
use Rattle.aig_circuit.specs.declared.edge.AigEdge.{AigEdge}
use Rattle.aig_circuit.specs.declared.node.AigNodeType.{AigNodeType}
use Rattle.aig_circuit.specs.declared.node.AigNodeType.TheVariants.{False, Leaf, And}
use Rattle.aig_circuit.specs.declared.node.AigNode.{AigNode}
use Rattle.aig_circuit.proofs.Words.{kind_at, FitsBelow, IsOrdered, and_of, AreNodes, IsLeaf, nodes_in_order, renumbered_edge, renumbered_kind}
use Rattle.aig_circuit.proofs.Trees.{kind_at-there, kind_at-within}
use Rattle.aig_circuit.proofs.Building.{and_of-cases, and_of-not_false, FitsBelow-and_of}
use Rattle.aig_circuit.proofs.Values.{Renumbers}

-- ---- the nodes, place by place

pub length-nodes_in_order : (nodes : List AigNode) (number : ℕ → ℕ) (v : ℕ) (ns : List ℕ) → length (nodes_in_order nodes number v ns) ≡ length ns
length-nodes_in_order nodes number v [] = refl
length-nodes_in_order nodes number v (n ∷ ns) = ap suc (length-nodes_in_order nodes number (v + 1) ns)

-- the node that stands for the old node n at place i
abbrev pub node_in_order : List AigNode → (ℕ → ℕ) → ℕ → ℕ → AigNode
node_in_order nodes number i n = record { node_id = i; typ = renumbered_kind number (kind_at nodes n) }

pub get-nodes_in_order : (nodes : List AigNode) (number : ℕ → ℕ) (v : ℕ) (ns : List ℕ) (i : ℕ) → i < length ns → slice_get (nodes_in_order nodes number v ns) i ≡ Some (node_in_order nodes number (v + i) (get_or ns i 0))
get-nodes_in_order nodes number v [] i h = absurd (omega arith)
get-nodes_in_order nodes number v (n ∷ ns) zero h = let e : v ≡ v + 0 = omega arith in ap (λ i. Some (node_in_order nodes number i n)) e
get-nodes_in_order nodes number v (n ∷ ns) (suc i) h =
    let e : (v + 1) + i ≡ v + suc i = omega arith in
    get-nodes_in_order nodes number (v + 1) ns i (omega arith) ∙ ap (λ j. Some (node_in_order nodes number j (get_or ns i 0))) e

pub kind_at-nodes_in_order : (nodes : List AigNode) (number : ℕ → ℕ) (ns : List ℕ) (i : ℕ) → i < length ns → kind_at (nodes_in_order nodes number 0 ns) i ≡ Some (renumbered_kind number (kind_at nodes (get_or ns i 0)))
kind_at-nodes_in_order nodes number ns i h = ap (option_map (λ (node : AigNode). node.typ)) (get-nodes_in_order nodes number 0 ns i h)

-- one more number at the end
pub nodes_in_order-push : (nodes : List AigNode) (number : ℕ → ℕ) (v : ℕ) (ns : List ℕ) (n : ℕ) → nodes_in_order nodes number v (ns ++ n ∷ []) ≡ nodes_in_order nodes number v ns ++ node_in_order nodes number (v + length ns) n ∷ []
nodes_in_order-push nodes number v [] n = let e : v ≡ v + 0 = omega arith in ap (λ i. node_in_order nodes number i n ∷ []) e
nodes_in_order-push nodes number v (m ∷ ms) n =
    let e : (v + 1) + length ms ≡ v + suc (length ms) = omega arith in
    let rest = nodes_in_order-push nodes number (v + 1) ms n ∙ ap (λ i. nodes_in_order nodes number (v + 1) ms ++ node_in_order nodes number i n ∷ []) e in
    ap (λ l. node_in_order nodes number v m ∷ l) rest

-- one more number of the order
pub nodes-turn : (nodes : List AigNode) (number : ℕ → ℕ) (order : List ℕ) (i : ℕ) (d : AigNode) (before after : List AigNode) (made : AigNode) → i < length order → get_or order i 0 < length nodes
    → before ≡ nodes_in_order nodes number 0 (take i order) → made ≡ record { node_id = i; typ = renumbered_kind number (Some (get_or nodes (get_or order i 0) d).typ) } → after ≡ before ++ made ∷ []
    → after ≡ nodes_in_order nodes number 0 (take (i + 1) order)
nodes-turn nodes number order i d before after made h there so_far is appended =
    let n = get_or order i 0 in
    let kind : kind_at nodes n ≡ Some (get_or nodes n d).typ = ap (option_map (λ (x : AigNode). x.typ)) (slice_get-get_or nodes n d there) in
    let long : length (take i order) ≡ i = length-take-le i order (omega arith) in
    let place : 0 + length (take i order) ≡ i = omega arith in
    let node : node_in_order nodes number (0 + length (take i order)) n ≡ made = ap (λ j. node_in_order nodes number j n) place ∙ ap (λ (o : Option AigNodeType). record { node_id = i; typ = renumbered_kind number o }) kind ∙ sym is in
    appended ∙ ap (λ l. l ++ made ∷ []) so_far
    ∙ sym (ap (nodes_in_order nodes number 0) (take_more order i 0 h) ∙ nodes_in_order-push nodes number 0 (take i order) n ∙ ap (λ x. nodes_in_order nodes number 0 (take i order) ++ x ∷ []) node)

-- ---- numberings

-- At the new number of a node of S stands a node that is alike under the new numbers, and a leaf at its own. False comes first, and operands come before their gates.
pub record Merges (nodes : List AigNode) (S : ℕ → Type 0) (ns : List ℕ) (number : ℕ → ℕ) : Type 0 where
  pub within : (n : ℕ) → S n → number n < length ns
  pub alike : (n : ℕ) → S n → renumbered_kind number (kind_at nodes (get_or ns (number n) 0)) ≡ renumbered_kind number (kind_at nodes n)
  pub leaf_back : (n : ℕ) → S n → IsLeaf nodes n → get_or ns (number n) 0 ≡ n
  pub in_S : (i : ℕ) → i < length ns → S (get_or ns i 0)
  pub place : (i : ℕ) → i < length ns → number (get_or ns i 0) ≡ i
  pub false_in_S : S 0
  pub false_first : number 0 ≡ 0
  pub there : (n : ℕ) → S n → n < length nodes
  pub operands : (n : ℕ) (a b : AigEdge) → S n → kind_at nodes n ≡ Some (And a b) → S a.node_id × S b.node_id
  pub first_before : (i : ℕ) (a b : AigEdge) → i < length ns → kind_at nodes (get_or ns i 0) ≡ Some (And a b) → number a.node_id < i
  pub second_before : (i : ℕ) (a b : AigEdge) → i < length ns → kind_at nodes (get_or ns i 0) ≡ Some (And a b) → number b.node_id < i

and_of-not_leaf : (a b : AigEdge) → and_of a b ≡ Leaf → ⊥
and_of-not_leaf a b e = elim (and_of-cases a b) [ inl p ↦ not_leaf b a (sym p.0 ∙ e) | inr p ↦ not_leaf a b (sym p.0 ∙ e) ]
  where
    not_leaf : (a b : AigEdge) → And a b ≡ Leaf → ⊥
    not_leaf a b e = cc

pub false_back : (number : ℕ → ℕ) (k : AigNodeType) → renumbered_kind number (Some k) ≡ False → k ≡ False
false_back number False e = refl
false_back number Leaf e = cc
false_back number (And a b) e = absurd (and_of-not_false (renumbered_edge number a) (renumbered_edge number b) e)

leaf_kind_back : (number : ℕ → ℕ) (k : AigNodeType) → renumbered_kind number (Some k) ≡ Leaf → k ≡ Leaf
leaf_kind_back number False e = cc
leaf_kind_back number Leaf e = refl
leaf_kind_back number (And a b) e = absurd (and_of-not_leaf (renumbered_edge number a) (renumbered_edge number b) e)

module _ (nodes : List AigNode) (S : ℕ → Type 0) (ns : List ℕ) (number : ℕ → ℕ) (merges : Merges nodes S ns number) where
  abbrev made : List AigNode
  made = nodes_in_order nodes number 0 ns

  pub within_made : (n : ℕ) → S n → number n < length made
  within_made n s = rw length-nodes_in_order (merges.within n s)

  -- what an old node is, it is under its new number
  pub kind_at-number : (n : ℕ) (k : AigNodeType) → S n → kind_at nodes n ≡ Some k → kind_at made (number n) ≡ Some (renumbered_kind number (Some k))
  kind_at-number n k s is =
      kind_at-nodes_in_order nodes number ns (number n) (merges.within n s) ∙ ap Some (merges.alike n s)
      ∙ ap (λ o. Some (renumbered_kind number o)) is

  -- and each new node was an old one
  pub kind_at-back : (i : ℕ) (l : AigNodeType) → kind_at made i ≡ Some l → (k : AigNodeType) × (i < length ns) × (kind_at nodes (get_or ns i 0) ≡ Some k) × (renumbered_kind number (Some k) ≡ l)
  kind_at-back i l is =
      let h : i < length ns = subst (λ n. i < n) (length-nodes_in_order nodes number 0 ns) (kind_at-within made i l is) in
      let old = kind_at-there nodes (get_or ns i 0) (merges.there (get_or ns i 0) (merges.in_S i h)) in
      let same = same_Some _ _ (sym (kind_at-nodes_in_order nodes number ns i h) ∙ is) in
      (old.0, h, old.1, ap (renumbered_kind number) (sym old.1) ∙ same)

  pub Renumbers-made : Renumbers nodes made S number
  Renumbers-made = record { there = merges.there; kinds = kind_at-number; operands = merges.operands }

  -- leaves are leaves, and new leaves were leaves
  pub IsLeaf-number : (n : ℕ) → S n → IsLeaf nodes n → IsLeaf made (number n)
  IsLeaf-number n s leaf = kind_at-number n Leaf s leaf

  pub IsLeaf-back : (i : ℕ) → IsLeaf made i → (i < length ns) × IsLeaf nodes (get_or ns i 0)
  IsLeaf-back i leaf = let old = kind_at-back i Leaf leaf in (old.1, old.2 ∙ ap Some (leaf_kind_back number old.0 old.3))

  -- leaves are told apart
  pub leaves-apart : (m n : ℕ) → S m × IsLeaf nodes m → S n × IsLeaf nodes n → number m ≡ number n → m ≡ n
  leaves-apart m n s t e = sym (merges.leaf_back m s.0 s.1) ∙ ap (λ i. get_or ns i 0) e ∙ merges.leaf_back n t.0 t.1

  fits : (i : ℕ) → i < length ns → (k : AigNodeType) → kind_at nodes (get_or ns i 0) ≡ Some k → FitsBelow i (renumbered_kind number (Some k))
  fits i h False is = record { first = λ a b e. cc; second = λ a b e. cc; in_order = λ a b e. cc }
  fits i h Leaf is = record { first = λ a b e. cc; second = λ a b e. cc; in_order = λ a b e. cc }
  fits i h (And a b) is = FitsBelow-and_of i (renumbered_edge number a) (renumbered_edge number b) (merges.first_before i a b h is) (merges.second_before i a b h is)

  fits_made : (i : ℕ) (l : AigNodeType) → kind_at made i ≡ Some l → FitsBelow i l
  fits_made i l is = let old = kind_at-back i l is in subst (FitsBelow i) old.3 (fits i old.1 old.0 old.2)

  pub IsOrdered-made : IsOrdered made
  IsOrdered-made = record {
    first_before = λ n a b is. (fits_made n (And a b) is).first a b refl;
    second_before = λ n a b is. (fits_made n (And a b) is).second a b refl;
    in_order = λ n a b is. (fits_made n (And a b) is).in_order a b refl;
  }

  -- they are nodes of a circuit
  pub AreNodes-made : AreNodes nodes → AreNodes made
  AreNodes-made are = record {
    false_first = subst (λ n. kind_at made n ≡ Some False) merges.false_first (kind_at-number 0 False merges.false_in_S are.false_first);
    false_once = λ i is.
        let old = kind_at-back i False is in
        let zero_there : get_or ns i 0 ≡ 0 = are.false_once (get_or ns i 0) (old.2 ∙ ap Some (false_back number old.0 old.3)) in
        sym (merges.place i old.1) ∙ ap number zero_there ∙ merges.false_first;
    numbered = λ i node is.
        let h : i < length ns = subst (λ n. i < n) (length-nodes_in_order nodes number 0 ns) (slice_get_within made i node is) in
        let same = same_Some _ _ (sym (get-nodes_in_order nodes number 0 ns i h) ∙ is) in
        let e : 0 + i ≡ i = omega arith in
        sym (ap (λ (x : AigNode). x.node_id) same) ∙ e;
    ordered = IsOrdered-made;
  }

-- ---- numberings that merge no nodes

-- The list has the numbers in S, each once, and `number` gives each its place. False comes first, and operands come before their gates.
pub record Numbers (nodes : List AigNode) (S : ℕ → Type 0) (ns : List ℕ) (number : ℕ → ℕ) : Type 0 where
  pub within : (n : ℕ) → S n → number n < length ns
  pub back : (n : ℕ) → S n → get_or ns (number n) 0 ≡ n
  pub in_S : (i : ℕ) → i < length ns → S (get_or ns i 0)
  pub place : (i : ℕ) → i < length ns → number (get_or ns i 0) ≡ i
  pub false_in_S : S 0
  pub false_first : number 0 ≡ 0
  pub there : (n : ℕ) → S n → n < length nodes
  pub operands : (n : ℕ) (a b : AigEdge) → S n → kind_at nodes n ≡ Some (And a b) → S a.node_id × S b.node_id
  pub first_before : (n : ℕ) (a b : AigEdge) → S n → kind_at nodes n ≡ Some (And a b) → number a.node_id < number n
  pub second_before : (n : ℕ) (a b : AigEdge) → S n → kind_at nodes n ≡ Some (And a b) → number b.node_id < number n

module _ (nodes : List AigNode) (S : ℕ → Type 0) (ns : List ℕ) (number : ℕ → ℕ) (numbers : Numbers nodes S ns number) where
  -- numbers of S are told apart
  pub number-apart : (m n : ℕ) → S m → S n → number m ≡ number n → m ≡ n
  number-apart m n s t e = sym (numbers.back m s) ∙ ap (λ i. get_or ns i 0) e ∙ numbers.back n t

  -- so none are merged
  pub Merges-numbers : Merges nodes S ns number
  Merges-numbers = record {
    within = numbers.within;
    alike = λ n s. ap (λ m. renumbered_kind number (kind_at nodes m)) (numbers.back n s);
    leaf_back = λ n s leaf. numbers.back n s;
    in_S = numbers.in_S;
    place = numbers.place;
    false_in_S = numbers.false_in_S;
    false_first = numbers.false_first;
    there = numbers.there;
    operands = numbers.operands;
    first_before = λ i a b h is. subst (λ n. number a.node_id < n) (numbers.place i h) (numbers.first_before (get_or ns i 0) a b (numbers.in_S i h) is);
    second_before = λ i a b h is. subst (λ n. number b.node_id < n) (numbers.place i h) (numbers.second_before (get_or ns i 0) a b (numbers.in_S i h) is);
  }
