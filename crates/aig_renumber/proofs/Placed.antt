-- The re-encoded circuit is placed, and a placed circuit is its own re-encoding.
use Rattle.aig_base.proofs.Words.{◌≡◌, ℕ, zero, suc, ◌+◌, ◌<◌, ◌≤◌, List, ◌∷◌, ◌++◌, length, get_or, sym, ap, subst, ◌∙◌, arith, inl, inr, add-one, length-append, cases_lt, get_or-map, length-map, get_or_append_left, get_or_default}
use Rattle.std.specs.Prelude.{All, AllPairs, EachIndex, slice_index, filter_map}
use Rattle.std.proofs.lemmas.List.Kept.{AllPairs-cons}
use Rattle.aig_circuit.proofs.Words.{Circuit, IsCircuit, IsClosed, latch_leaves, AreAsLong, KeepsRuns, IsReencoded, gate_number, new_number, order_of, reencoded}
use Rattle.aig_circuit.proofs.Circuits.{AllPairs-append}
use Rattle.aig_circuit.proofs.Trees.{by_smaller}
use Rattle.aig_renumber.proofs.Places.{rising_from}
use Rattle.aig_renumber.proofs.Same.{renumbered-same}
use Rattle.aig_renumber.proofs.NodesInOrder.{Merges, Merges-numbers}
use Rattle.aig_renumber.proofs.Circuits.{AreAsLong-renumbered, IsCircuit-renumbered, IsClosed-renumbered, KeepsRuns-renumbered, SpeaksOf-nodes, leaves-map}
use Rattle.aig_renumber.proofs.Order.{IsGate, Numbers-order, are_gates, length-order, no_gates, rising_gates}

module _ (c : Circuit) (is : IsCircuit c) (closed : IsClosed c) where
  abbrev leaves : List ℕ
  leaves = c.inputs ++ latch_leaves c.latchs

  abbrev gates : List ℕ
  gates = filter_map gate_number c.nodes

  -- ---- the re-encoded circuit

  merges : Merges c.nodes (λ n. n < length c.nodes) (order_of c) (new_number c)
  merges = Merges-numbers c.nodes (λ n. n < length c.nodes) (order_of c) (new_number c) (Numbers-order c is closed)

  pub IsCircuit-reencoded : IsCircuit (reencoded c)
  IsCircuit-reencoded = IsCircuit-renumbered c (λ n. n < length c.nodes) (order_of c) (new_number c) merges is (SpeaksOf-nodes c is)

  pub IsClosed-reencoded : IsClosed (reencoded c)
  IsClosed-reencoded = IsClosed-renumbered c (λ n. n < length c.nodes) (order_of c) (new_number c) merges is (SpeaksOf-nodes c is) closed

  pub AreAsLong-reencoded : AreAsLong c (reencoded c)
  AreAsLong-reencoded = AreAsLong-renumbered (new_number c) (order_of c) c (length-order c is closed)

  pub KeepsRuns-reencoded : KeepsRuns c (reencoded c) (new_number c)
  KeepsRuns-reencoded = KeepsRuns-renumbered c (λ n. n < length c.nodes) (order_of c) (new_number c) merges is (SpeaksOf-nodes c is) (λ n h. h)

  -- the named leaf at place i gets the number i + 1
  number-leaf : (i : ℕ) → i < length leaves → new_number c (get_or leaves i 0) ≡ i + 1
  number-leaf i h =
      let at : get_or (order_of c) (suc i) 0 ≡ get_or leaves i 0 = get_or_append_left leaves gates 0 i h in
      let low : suc i < length (order_of c) = omega (arith, length-append leaves gates) in
      ap (new_number c) (sym at) ∙ (Numbers-order c is closed).place (suc i) low ∙ sym (add-one i)

  pub IsReencoded-reencoded : IsReencoded (reencoded c)
  IsReencoded-reencoded = subst (λ (l : List ℕ). EachIndex l (λ i. slice_index l i ≡ i + 1)) (sym (leaves-map (new_number c) c)) (λ i h.
      let low : i < length leaves = subst (λ n. i < n) (length-map leaves (new_number c)) h in
      get_or-map (new_number c) leaves i 0 0 low ∙ number-leaf i low)

  -- ---- a placed circuit

  module _ (placed : IsReencoded c) where
    leaf_at : (i d : ℕ) → i < length leaves → get_or leaves i d ≡ i + 1
    leaf_at i d h = get_or_default leaves i d 0 h ∙ placed i h

    front_low : All (λ n. n < length leaves + 1) (0 ∷ leaves)
    front_low zero d h = omega arith
    front_low (suc k) d h = omega (arith, leaf_at k d (omega arith))

    front_is_increasing : AllPairs (λ m n. m < n) (0 ∷ leaves)
    front_is_increasing = AllPairs-cons (λ m n. m < n) 0 leaves (λ k d h. omega (arith, leaf_at k d h)) (λ i j d h l.
        let low : i < length leaves = omega arith in
        omega (arith, leaf_at i d low, leaf_at j d l))

    -- a gate's number is past those of the named leaves
    gate_past : (n : ℕ) → IsGate c.nodes n → length leaves < n
    gate_past n gate = elim (cases_lt (length leaves) n) [
      | inl past ↦ past
      | inr low ↦ absurd (front n low gate)
    ]
      where
        front : (n : ℕ) → n ≤ length leaves → ¬ IsGate c.nodes n
        front zero h gate = no_gates c is 0 0 (omega arith) gate
        front (suc n) h gate =
            let l : n < length leaves = omega arith in
            let at : get_or leaves n 0 ≡ suc n = leaf_at n 0 l ∙ add-one n in
            no_gates c is (suc n) 0 (omega arith) (subst (IsGate c.nodes) (sym at) gate)

    order-is_increasing : AllPairs (λ m n. m < n) (order_of c)
    order-is_increasing = AllPairs-append (λ m n. m < n) (0 ∷ leaves) gates front_is_increasing (rising_gates c is)
        (λ k d h i e l. omega (arith, front_low k d h, gate_past (get_or gates i e) (are_gates c is i e l)))

    -- every node has its own number again
    pub number-placed : (n : ℕ) → n < length c.nodes → new_number c n ≡ n
    number-placed = by_smaller (λ n. n < length c.nodes → new_number c n ≡ n) (λ n smaller h.
        let numbers = Numbers-order c is closed in
        let at = numbers.back n h in
        let low : new_number c n ≤ n = omega (arith, rising_from 0 (order_of c) order-is_increasing (λ k d l. omega arith) (new_number c n) (numbers.within n h)) in
        elim (cases_lt (new_number c n) n) [
          | inl less ↦ (
              let same = smaller (new_number c n) less (omega arith) in
              let back = numbers.back (new_number c n) (omega arith) in
              absurd (omega (arith, back, ap (λ i. get_or (order_of c) i 0) same)))
          | inr not_less ↦ omega arith
        ])

    order-at : (i : ℕ) → i < length (order_of c) → get_or (order_of c) i 0 ≡ i
    order-at i h =
        let numbers = Numbers-order c is closed in
        sym (number-placed (get_or (order_of c) i 0) (numbers.in_S i h)) ∙ numbers.place i h

    pub reencoded-placed : reencoded c ≡ c
    reencoded-placed = renumbered-same c is (new_number c) number-placed (order_of c) order-at (length-order c is closed)

-- twice is once
pub reencoded-twice : (c : Circuit) → IsCircuit c → IsClosed c → reencoded (reencoded c) ≡ reencoded c
reencoded-twice c is closed = reencoded-placed (reencoded c) (IsCircuit-reencoded c is closed) (IsClosed-reencoded c is closed) (IsReencoded-reencoded c is closed)
