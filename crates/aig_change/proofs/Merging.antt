-- The nodes of one circuit but 0 after those of another.
use Rattle.aig_base.proofs.Words.{◌≡◌, ℕ, zero, suc, ◌+◌, ◌-◌, ◌<◌, ◌≤◌, ◌⊎◌, false, cond, eqb, Some, List, [], ◌∷◌, ◌++◌, length, get_or, refl, sym, ap, subst, ◌∙◌, arith, inl, inr, length-append, take, append_assoc, option_map, slice_get, cases_lt, ne_eqb, get_or-map, length-map, length-take-le, take_more, same_Some, slice_get-get_or, slice_get_within}
use Rattle.aig_circuit.specs.declared.node.AigNode.{AigNode}
use Rattle.aig_circuit.specs.declared.node.AigNodeType.{AigNodeType}
use Rattle.aig_circuit.specs.declared.node.AigNodeType.TheVariants.{False, Leaf, And}
use Rattle.aig_circuit.proofs.Words.{kind_at, FitsBelow, IsOrdered, AreNodes, IsLeaf, Grows, nodes_in_order, renumbered_edge, renumbered_kind}
use Rattle.aig_circuit.proofs.Building.{FitsBelow-and_of, grows_by_appending}
use Rattle.aig_circuit.proofs.Trees.{kind_at-append, kind_at-there, kind_at-within}
use Rattle.aig_renumber.proofs.NodesInOrder.{false_back, get-nodes_in_order, length-nodes_in_order, node_in_order, nodes_in_order-push}
use Rattle.aig_circuit.proofs.Values.{Renumbers}
use Rattle.aig_change.specs.Merge.{numbers_but_0, shifted}
use Rattle.aig_change.proofs.Lists.{get-append_left, get-append_right}

-- ---- the numbers but 0

pub length-but_0 : (ys : List AigNode) → 0 < length ys → length (numbers_but_0 ys) + 1 ≡ length ys
length-but_0 [] h = absurd (omega arith)
length-but_0 (y ∷ ys) h = omega (arith, length-map ys (λ (node : AigNode). node.node_id))

pub get-but_0 : (ys : List AigNode) → AreNodes ys → (k : ℕ) → suc k < length ys → get_or (numbers_but_0 ys) k 0 ≡ suc k
get-but_0 [] are k h = absurd (omega arith)
get-but_0 (y ∷ ys) are k h =
    let low : k < length ys = omega arith in
    get_or-map (λ (node : AigNode). node.node_id) ys k y 0 low ∙ are.numbered (suc k) (get_or ys k y) (slice_get-get_or ys k y low)

-- ---- the shift

pub shifted-suc : (count m : ℕ) → shifted count (suc m) ≡ count + m
shifted-suc count m =
    let other : eqb (suc m) 0 ≡ false = ne_eqb (suc m) 0 (λ e. absurd (omega arith)) in
    let e : suc m + count - 1 ≡ count + m = omega arith in
    ap (λ b. cond b 0 (suc m + count - 1)) other ∙ e

-- the shift keeps the order of numbers
pub shifted-is_increasing : (count m n : ℕ) → 0 < count → m < n → shifted count m < shifted count n
shifted-is_increasing count m zero low h = absurd (omega arith)
shifted-is_increasing count zero (suc n) low h = omega (arith, shifted-suc count n)
shifted-is_increasing count (suc m) (suc n) low h = omega (arith, shifted-suc count m, shifted-suc count n)

module _ (xs ys : List AigNode) (p : AreNodes xs) (q : AreNodes ys) where
  abbrev pub number : ℕ → ℕ
  number = shifted (length xs)

  abbrev pub moved : List AigNode
  moved = nodes_in_order ys number (length xs) (numbers_but_0 ys)

  abbrev pub joint : List AigNode
  joint = xs ++ moved

  some_first : 0 < length xs
  some_first = kind_at-within xs 0 False p.false_first

  some_second : 0 < length ys
  some_second = kind_at-within ys 0 False q.false_first

  pub length-joint : length joint + 1 ≡ length xs + length ys
  length-joint = omega (arith, length-append xs moved, length-nodes_in_order ys number (length xs) (numbers_but_0 ys), length-but_0 ys some_second)

  -- the node after the first ones
  node-second : (m : ℕ) → suc m < length ys → slice_get joint (length xs + m) ≡ Some (node_in_order ys number (length xs + m) (suc m))
  node-second m h =
      let low : m < length (numbers_but_0 ys) = omega (arith, length-but_0 ys some_second) in
      get-append_right xs moved (length xs + m) m refl
      ∙ get-nodes_in_order ys number (length xs) (numbers_but_0 ys) m low
      ∙ ap (λ n. Some (node_in_order ys number (length xs + m) n)) (get-but_0 ys q m h)

  pub kind-second : (m : ℕ) → suc m < length ys → kind_at joint (length xs + m) ≡ Some (renumbered_kind number (kind_at ys (suc m)))
  kind-second m h = ap (option_map (λ (node : AigNode). node.typ)) (node-second m h)

  -- what a node of the second list is, it is under its new number
  pub kind-number : (n : ℕ) (k : AigNodeType) → kind_at ys n ≡ Some k → kind_at joint (number n) ≡ Some (renumbered_kind number (Some k))
  kind-number zero k is =
      let same : False ≡ k = same_Some _ _ (sym q.false_first ∙ is) in
      kind_at-append xs moved 0 some_first ∙ p.false_first ∙ ap (λ l. Some (renumbered_kind number (Some l))) same
  kind-number (suc m) k is =
      ap (kind_at joint) (shifted-suc (length xs) m) ∙ kind-second m (kind_at-within ys (suc m) k is) ∙ ap (λ o. Some (renumbered_kind number o)) is

  -- a node of the joint list is one of the first list, or one of the second but 0
  pub kind-back : (n : ℕ) (l : AigNodeType) → kind_at joint n ≡ Some l → ((n < length xs) × (kind_at xs n ≡ Some l)) ⊎ ((m : ℕ) × (k : AigNodeType) × (number (suc m) ≡ n) × (kind_at ys (suc m) ≡ Some k) × (renumbered_kind number (Some k) ≡ l))
  kind-back n l is = elim (cases_lt n (length xs)) [
    | inl low ↦ inl (low, sym (kind_at-append xs moved n low) ∙ is)
    | inr past ↦ inr (
        let m = n - length xs in
        let place : length xs + m ≡ n = omega arith in
        let within : suc m < length ys = omega (arith, length-joint, kind_at-within joint n l is) in
        let old = kind_at-there ys (suc m) within in
        let there : kind_at joint (length xs + m) ≡ Some l = ap (kind_at joint) place ∙ is in
        (m, old.0, shifted-suc (length xs) m ∙ place, old.1, ap (renumbered_kind number) (sym old.1) ∙ same_Some _ _ (sym (kind-second m within) ∙ there)))
  ]

  fits : (m : ℕ) (k : AigNodeType) → kind_at ys (suc m) ≡ Some k → FitsBelow (number (suc m)) (renumbered_kind number (Some k))
  fits m False is = record { first = λ a b e. cc; second = λ a b e. cc; in_order = λ a b e. cc }
  fits m Leaf is = record { first = λ a b e. cc; second = λ a b e. cc; in_order = λ a b e. cc }
  fits m (And a b) is =
      FitsBelow-and_of (number (suc m)) (renumbered_edge number a) (renumbered_edge number b)
      (shifted-is_increasing (length xs) a.node_id (suc m) some_first (q.ordered.first_before (suc m) a b is))
      (shifted-is_increasing (length xs) b.node_id (suc m) some_first (q.ordered.second_before (suc m) a b is))

  kept : (n : ℕ) (l : AigNodeType) → kind_at xs n ≡ Some l → FitsBelow n l
  kept n l is = record {
    first = λ a b e. p.ordered.first_before n a b (is ∙ ap Some e);
    second = λ a b e. p.ordered.second_before n a b (is ∙ ap Some e);
    in_order = λ a b e. p.ordered.in_order n a b (is ∙ ap Some e);
  }

  fits_joint : (n : ℕ) (l : AigNodeType) → kind_at joint n ≡ Some l → FitsBelow n l
  fits_joint n l is = elim (kind-back n l is) [
    | inl r ↦ kept n l r.1
    | inr r ↦ subst (λ i. FitsBelow i l) r.2 (subst (FitsBelow (number (suc r.0))) r.4 (fits r.0 r.1 r.3))
  ]

  pub IsOrdered-joint : IsOrdered joint
  IsOrdered-joint = record {
    first_before = λ n a b is. (fits_joint n (And a b) is).first a b refl;
    second_before = λ n a b is. (fits_joint n (And a b) is).second a b refl;
    in_order = λ n a b is. (fits_joint n (And a b) is).in_order a b refl;
  }

  not_zero : (m : ℕ) → suc m ≡ 0 → ⊥
  not_zero m e = absurd (omega arith)

  numbered : (n : ℕ) (node : AigNode) → slice_get joint n ≡ Some node → node.node_id ≡ n
  numbered n node is = elim (cases_lt n (length xs)) [
    | inl low ↦ p.numbered n node (sym (get-append_left xs moved n low) ∙ is)
    | inr past ↦ (
        let m = n - length xs in
        let place : length xs + m ≡ n = omega arith in
        let within : suc m < length ys = omega (arith, length-joint, slice_get_within joint n node is) in
        let there : slice_get joint (length xs + m) ≡ Some node = ap (slice_get joint) place ∙ is in
        let same = same_Some _ _ (sym (node-second m within) ∙ there) in
        sym (ap (λ (x : AigNode). x.node_id) same) ∙ place)
  ]

  -- they are nodes of a circuit
  pub AreNodes-joint : AreNodes joint
  AreNodes-joint = record {
    false_first = kind_at-append xs moved 0 some_first ∙ p.false_first;
    false_once = λ n is. elim (kind-back n False is) [
      | inl r ↦ p.false_once n r.1
      | inr r ↦ absurd (not_zero r.0 (q.false_once (suc r.0) (r.3 ∙ ap Some (false_back number r.1 r.4))))
    ];
    numbered = numbered;
    ordered = IsOrdered-joint;
  }

  -- the first ones are kept
  pub Grows-joint : Grows xs joint
  Grows-joint = grows_by_appending xs moved AreNodes-joint

  -- and the second ones have new numbers
  pub Renumbers-joint : Renumbers ys joint (λ n. n < length ys) number
  Renumbers-joint = record {
    there = λ n s. s;
    kinds = λ n k s is. kind-number n k is;
    operands = λ n a b s is.
        let first = q.ordered.first_before n a b is in
        let second = q.ordered.second_before n a b is in
        (omega arith, omega arith);
  }

  -- leaves of the second list come after the first list
  pub leaf-past : (n : ℕ) → IsLeaf ys n → length xs ≤ number n
  leaf-past zero leaf = absurd (not_leaf (same_Some _ _ (sym q.false_first ∙ leaf)))
    where
      not_leaf : False ≡ Leaf → ⊥
      not_leaf e = cc
  leaf-past (suc m) leaf = omega (arith, shifted-suc (length xs) m)

  -- numbers of the second list are numbers of the joint one
  pub shifted-within : (n : ℕ) → n < length ys → number n < length joint
  shifted-within zero h = omega (arith, length-joint, some_first)
  shifted-within (suc m) h = omega (arith, length-joint, shifted-suc (length xs) m)

  -- and are told apart
  pub shifted-apart : (m n : ℕ) → number m ≡ number n → m ≡ n
  shifted-apart zero zero e = refl
  shifted-apart zero (suc n) e = absurd (omega (arith, e, some_first, shifted-suc (length xs) n))
  shifted-apart (suc m) zero e = absurd (omega (arith, e, some_first, shifted-suc (length xs) m))
  shifted-apart (suc m) (suc n) e = omega (arith, e, shifted-suc (length xs) m, shifted-suc (length xs) n)

  -- what is past the second list is past the joint one
  pub shifted-past : (n : ℕ) → length ys ≤ n → length joint ≤ number n
  shifted-past zero h = absurd (omega (arith, some_second))
  shifted-past (suc m) h = omega (arith, length-joint, shifted-suc (length xs) m)

  -- the number before the shift
  pub shifted-back : (n : ℕ) → number n + 1 - length xs ≡ n
  shifted-back zero = omega (arith, some_first)
  shifted-back (suc m) = omega (arith, shifted-suc (length xs) m)

-- ---- one more node after the first ones

next_node : (ys : List AigNode) → AreNodes ys → (number : ℕ → ℕ) (v k : ℕ) → suc k < length ys → nodes_in_order ys number v (take (k + 1) (numbers_but_0 ys)) ≡ nodes_in_order ys number v (take k (numbers_but_0 ys)) ++ node_in_order ys number (v + k) (suc k) ∷ []
next_node ys are number v k h =
    let ns = numbers_but_0 ys in
    let low : k < length ns = omega (arith, length-but_0 ys (omega arith)) in
    ap (nodes_in_order ys number v) (take_more ns k 0 low ∙ ap (λ n. take k ns ++ n ∷ []) (get-but_0 ys are k h))
    ∙ nodes_in_order-push ys number v (take k ns) (suc k)
    ∙ ap (λ i. nodes_in_order ys number v (take k ns) ++ node_in_order ys number (v + i) (suc k) ∷ []) (length-take-le k ns (omega arith))

pub nodes-following_turn : (first ys : List AigNode) → AreNodes ys → (i count : ℕ) (all new : List AigNode) (made d : AigNode) → 1 ≤ i → i < length ys → count ≡ length first
    → all ≡ first ++ nodes_in_order ys (shifted (length first)) (length first) (take (i - 1) (numbers_but_0 ys))
    → made ≡ record { node_id = count + i - 1; typ = renumbered_kind (shifted count) (Some (get_or ys i d).typ) } → new ≡ all ++ made ∷ []
    → new ≡ first ++ nodes_in_order ys (shifted (length first)) (length first) (take (i + 1 - 1) (numbers_but_0 ys))
nodes-following_turn first ys are zero count all new made d low h long so_far is pushed = absurd (omega arith)
nodes-following_turn first ys are (suc k) count all new made d low h long so_far is pushed =
    let ns = numbers_but_0 ys in
    let number = shifted (length first) in
    let before : suc k - 1 ≡ k = omega arith in
    let after : suc k + 1 - 1 ≡ k + 1 = omega arith in
    let id : count + suc k - 1 ≡ length first + k = omega (arith, long) in
    let kind : Some (get_or ys (suc k) d).typ ≡ kind_at ys (suc k) = sym (ap (option_map (λ (node : AigNode). node.typ)) (slice_get-get_or ys (suc k) d h)) in
    let node : made ≡ node_in_order ys number (length first + k) (suc k) =
    is ∙ ap (λ n. record { node_id = n; typ = renumbered_kind (shifted count) (Some (get_or ys (suc k) d).typ) }) id ∙ ap (λ n. record { node_id = length first + k; typ = renumbered_kind (shifted n) (Some (get_or ys (suc k) d).typ) }) long
    ∙ ap (λ o. record { node_id = length first + k; typ = renumbered_kind number o }) kind in
    pushed ∙ ap (λ l. l ++ made ∷ []) (so_far ∙ ap (λ n. first ++ nodes_in_order ys number (length first) (take n ns)) before)
    ∙ append_assoc first (nodes_in_order ys number (length first) (take k ns)) (made ∷ [])
    ∙ ap (λ x. first ++ (nodes_in_order ys number (length first) (take k ns) ++ x ∷ [])) node
    ∙ ap (λ l. first ++ l) (sym (next_node ys are number (length first) k h) ∙ ap (λ n. nodes_in_order ys number (length first) (take n ns)) (sym after))
