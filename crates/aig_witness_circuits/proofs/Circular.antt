-- Resets that go round in a circle, and others, with which latches can start.
use Rattle.aig_witness_circuits.proofs.Words.{◌≡◌, ℕ, zero, suc, ◌+◌, ◌<◌, ◌≤◌, ◌⊎◌, ◌↔◌, Bool, true, false, false≢true, ◌&&◌, Option, Some, None, IfSome, List, [], ◌∷◌, length, get_or, inl, inr, refl, sym, ap, subst, ◌∙◌, arith, All, All-contains, Contains, Contains-get_or, ap₂, below_more, map, MatchBool, AigEdge, AigLatch, AigNodeType, False, Leaf, And, Circuit, IsCircuit, IsFanin, IsInRange, IsLatch, edge_value, inverted_if, kind_at, node_value, step, kind_at-there, kind_at-within, node_value-and, node_value-false, node_value-leaf, Contains-map, AllGrounded, AreResets, HasCircle, IsGrounded, IsTable, Rests, reset_at, IsCircular, IsReset, RestsOn, AllOwn, CanStart, IsOwn, Sharing, Starts}
use Rattle.std.specs.Prelude.{IsTrue}
use Rattle.aig_circuit.proofs.Words.{root}
use Rattle.aig_witness_circuits.proofs.Walks.{From, from_itself, ground_ind, joined, no_way_back, walk_by}

module _ (shared : Sharing) (c : Circuit) (is : IsCircuit c) (resets : List (Option AigEdge))
    (are : AreResets shared c resets) where
  there : (n : ℕ) (e : AigEdge) → reset_at resets n ≡ Some e → IsInRange c.nodes e
  there n e has =
      let found = (are.exactly n e).0 has in
      let latch = All-contains (IsLatch c.nodes) c.latchs found.0 is.latchs found.1 in
      subst (λ (o : Option AigEdge). IfSome o (IsInRange c.nodes)) found.4 latch.init

  pub is_table : IsTable c.nodes resets
  is_table = record { sound = is.nodes; count = are.count; there = there }

  -- the leaf of a latch with a reset is there
  leaf_there : (n : ℕ) (e : AigEdge) → IsReset shared c n e → kind_at c.nodes n ≡ Some Leaf
  leaf_there n e found =
      let latch = All-contains (IsLatch c.nodes) c.latchs found.0 is.latchs found.1 in
      subst (λ (k : ℕ). kind_at c.nodes k ≡ Some Leaf) found.3 latch.leaf

  abbrev Public : ℕ → ℕ → Type 0
  Public = RestsOn shared c

  abbrev Private : ℕ → ℕ → Type 0
  Private = Rests c.nodes resets

  outwards : (n m : ℕ) → Private n m → Public n m
  outwards n m (inl fanin) = inl fanin
  outwards n m (inr (e, has, same)) = inr (e, (are.exactly n e).0 has, same)

  inwards : (n m : ℕ) → Public n m → Private n m
  inwards n m (inl fanin) = inl fanin
  inwards n m (inr (e, has, same)) = inr (e, (are.exactly n e).1 has, same)

  operand_below : (n m : ℕ) → IsFanin c.nodes n m → m < n
  operand_below n m (a, b, kind, inl same) =
      let low = is.nodes.ordered.first_before n a b kind in omega arith
  operand_below n m (a, b, kind, inr same) =
      let low = is.nodes.ordered.second_before n a b kind in omega arith

  -- ---- circles

  -- a walk from n to k that goes past a reset
  abbrev PastReset : ℕ → ℕ → Type 0
  PastReset n k =
      (l : ℕ) × (e : AigEdge) × IsReset shared c l e × From Public n l × From Public e.node_id k

  -- another goes down
  past_or_down : (n k : ℕ) → From Public n k → (k ≤ n) ⊎ PastReset n k
  past_or_down n k (root has) = inl (let same = only n k has in omega arith)
    where
      only : (n k : ℕ) → Contains (n ∷ []) k → n ≡ k
      only n k (zero, low, same) = same
      only n k (suc i, low, same) = absurd (omega (arith, low))
  past_or_down n k (step {n = j} reached (inr (e, has, same))) =
      inr (
        j,
        e,
        has,
        reached,
        subst (From Public e.node_id) (sym same)
            (from_itself Public e.node_id),
      )
  past_or_down n k (step {n = j} reached (inl fanin)) = elim (past_or_down n j reached) [
    | inl low ↦ inl (let below = operand_below j k fanin in omega arith)
    | inr past ↦ inr (past.0, past.1, past.2, past.3, step past.4 (inl fanin))
  ]

  -- a node that rests on itself does so past a reset
  closed : (n m : ℕ) → Public n m → From Public m n → IsCircular shared c
  closed n m (inr (e, has, same)) walk =
      (n, e, has, subst (λ (k : ℕ). From Public k n) same walk)
  closed n m (inl fanin) walk = elim (past_or_down m n walk) [
    | inl low ↦ (let below = operand_below n m fanin in absurd (omega arith))
    | inr past ↦ (
      past.0,
      past.1,
      past.2,
      joined Public past.1.node_id m past.0 (step past.4 (inl fanin)) past.3,
    )
  ]

  pub circle_found : HasCircle c.nodes resets → IsCircular shared c
  circle_found (n, m, one, walk) =
      closed n m (outwards n m one) (walk_by Private Public outwards (m ∷ []) n walk)

  pub no_circle : AllGrounded c.nodes resets → ¬ IsCircular shared c
  no_circle all (n, e, has, walk) =
      no_way_back Private n (all n (kind_at-within c.nodes n Leaf (leaf_there n e has))) e.node_id
      (inwards n e.node_id (inr (e, has, refl)))
      (walk_by Public Private inwards (e.node_id ∷ []) n walk)

  -- ---- values with which the latches start

  module _ (y : ℕ → Bool) where
    -- the value of the reset's edge under z, or where there is none, the one in y
    abbrev reset_value : (ℕ → Bool) → ℕ → Option AigEdge → Bool
    reset_value z n (Some e) = edge_value c.nodes z e
    reset_value z n None = y n

    -- the values after so many rounds of filling in
    abbrev filled : ℕ → ℕ → Bool
    filled zero n = y n
    filled (suc k) n = reset_value (filled k) n (reset_at resets n)

    abbrev value_after : ℕ → ℕ → Bool
    value_after k n = node_value c.nodes (filled k) n

    -- from round k on the node's value stays
    abbrev StaysFrom : ℕ → ℕ → Type 0
    StaysFrom k n = (i : ℕ) → k ≤ i → value_after i n ≡ value_after k n

    abbrev Stays : ℕ → Type 0
    Stays n = (k : ℕ) × StaysFrom k n

    later : (k j n : ℕ) → k ≤ j → StaysFrom k n → StaysFrom j n
    later k j n less stays i low = stays i (omega arith) ∙ sym (stays j less)

    -- a leaf without a reset has the first value
    open_stays : (n : ℕ) → reset_at resets n ≡ None → (i : ℕ) → filled i n ≡ y n
    open_stays n none zero = refl
    open_stays n none (suc i) = ap (reset_value (filled i) n) none

    -- and one with a reset that of its edge
    reset_stays : (n : ℕ) (e : AigEdge) → reset_at resets n ≡ Some e → (k : ℕ)
        → StaysFrom k e.node_id → (i : ℕ) → suc k ≤ i → filled i n ≡ edge_value c.nodes (filled k) e
    reset_stays n e has k stays zero low = absurd (omega arith)
    reset_stays n e has k stays (suc i) low =
        ap (reset_value (filled i) n) has
        ∙ ap (inverted_if e.compl) (stays i (omega (arith, low)))

    leaf_stays : (n : ℕ) → kind_at c.nodes n ≡ Some Leaf
        → ((m : ℕ) → Private n m → m < length c.nodes → Stays m) → (o : Option AigEdge)
        → reset_at resets n ≡ o → Stays n
    leaf_stays n kind below None none = (
      0,
      λ i low.
          node_value-leaf c.nodes (filled i) n kind
          ∙ open_stays n none i
          ∙ sym (node_value-leaf c.nodes (filled 0) n kind),
    )
    leaf_stays n kind below (Some e) has =
        let next = below e.node_id (inr (e, has, refl)) (there n e has) in
        let k = next.0 in (
          suc k,
          λ i low.
              node_value-leaf c.nodes (filled i) n kind
              ∙ reset_stays n e has k next.1 i low
              ∙ sym (reset_stays n e has k next.1 (suc k) (omega arith))
              ∙ sym (node_value-leaf c.nodes (filled (suc k)) n kind),
        )

    kind_stays : (n : ℕ) → ((m : ℕ) → Private n m → m < length c.nodes → Stays m)
        → (kind : AigNodeType) → kind_at c.nodes n ≡ Some kind → Stays n
    kind_stays n below False kind = (
      0,
      λ i low.
          node_value-false c.nodes (filled i) n kind
          ∙ sym (node_value-false c.nodes (filled 0) n kind),
    )
    kind_stays n below Leaf kind = leaf_stays n kind below (reset_at resets n) refl
    kind_stays n below (And a b) kind =
        let within = kind_at-within c.nodes n (And a b) kind in
        let low_a = is.nodes.ordered.first_before n a b kind in
        let low_b = is.nodes.ordered.second_before n a b kind in
        let first = below a.node_id (inl (a, b, kind, inl refl)) (omega arith) in
        let second = below b.node_id (inl (a, b, kind, inr refl)) (omega arith) in
        let k = first.0 + second.0 in (
          k,
          λ i low.
              node_value-and c.nodes is.nodes.ordered (filled i) n a b kind
              ∙ ap₂ (λ (u v : Bool). inverted_if a.compl u && inverted_if b.compl v)
              (later first.0 k a.node_id (omega arith) first.1 i low)
              (later second.0 k b.node_id (omega arith) second.1 i low)
              ∙ sym (node_value-and c.nodes is.nodes.ordered (filled k) n a b kind),
        )

    node_stays : (n : ℕ) → IsGrounded Private n → n < length c.nodes → Stays n
    node_stays =
        ground_ind Private (λ n. n < length c.nodes → Stays n)
        (λ n below low.
        let kind = kind_at-there c.nodes n low in
        kind_stays n below kind.0 kind.1)

    -- all values stay from some round on
    all_stay : AllGrounded c.nodes resets → (count : ℕ) → count ≤ length c.nodes
        → (k : ℕ) × ((n : ℕ) → n < count → StaysFrom k n)
    all_stay all zero low = (0, λ n none. absurd (omega (arith, none)))
    all_stay all (suc count) low =
        let before = all_stay all count (omega (arith, low)) in
        let within : count < length c.nodes = omega (arith, low) in
        let here = node_stays count (all count within) within in
        let k = before.0 + here.0 in (
          k,
          λ n less.
              below_more (StaysFrom k) count
              (λ m lower. later before.0 k m (omega arith) (before.1 m lower))
              (later here.0 k count (omega arith) here.1) n (omega (arith, less)),
        )

  -- the leaves of other latches have no reset
  open_shared : (n : ℕ) → Contains (map (λ (p : ℕ × ℕ). p.1) shared) n
      → (o : Option AigEdge) → reset_at resets n ≡ o → reset_at resets n ≡ None
  open_shared n shares None none = none
  open_shared n shares (Some e) has =
      let found = (are.exactly n e).0 has in
      absurd
      (found.2 (subst (Contains (map (λ (p : ℕ × ℕ). p.1) shared)) (sym found.3) shares))

  pub can_start : AllGrounded c.nodes resets → CanStart shared c
  can_start all y = (z, kept, started)
    where
      found : (k : ℕ) × ((n : ℕ) → n < length c.nodes → StaysFrom y k n)
      found = all_stay y all (length c.nodes) (omega arith)

      z : ℕ → Bool
      z = filled y found.0

      kept : All (λ p. z p.1 ≡ y p.1) shared
      kept k d h =
          let p = get_or shared k d in
          let shares =
          Contains-map (λ (q : ℕ × ℕ). q.1) shared p (Contains-get_or shared k d h) in
          open_stays y p.1 (open_shared p.1 shares (reset_at resets p.1) refl) found.0

      starts : (latch : AigLatch) → kind_at c.nodes latch.input ≡ Some Leaf
          → Contains c.latchs latch → IsOwn shared latch.input → (o : Option AigEdge)
          → latch.init ≡ o → IfSome o (λ e. edge_value c.nodes z e ≡ z latch.input)
      starts latch leaf has own None none = tt
      starts latch leaf has own (Some e) some =
          let k = found.0 in
          let reset : reset_at resets latch.input ≡ Some e =
          (are.exactly latch.input e).1 (latch, has, own, refl, some) in
          sym (ap (reset_value y z latch.input) reset)
          ∙ sym (node_value-leaf c.nodes (filled y (suc k)) latch.input leaf)
          ∙ found.1 latch.input (kind_at-within c.nodes latch.input Leaf leaf) (suc k) (omega arith)
          ∙ node_value-leaf c.nodes z latch.input leaf

      started : AllOwn shared (Starts c z) c.latchs
      started i d h own =
          let latch = get_or c.latchs i d in
          starts latch (is.latchs i d h).leaf (Contains-get_or c.latchs i d h) own latch.init refl

  -- what a search tells of the resets
  pub told : (circle : Bool)
      → MatchBool circle (HasCircle c.nodes resets) (AllGrounded c.nodes resets)
      → (IsTrue circle ↔ IsCircular shared c) × (circle ≡ false → CanStart shared c)
  told true circle =
      ((λ h. circle_found circle, λ h. refl), λ none. absurd (false≢true (sym none)))
  told false all =
      ((λ none. absurd (false≢true none), λ h. absurd (no_circle all h)), λ h. can_start all)
