-- A refined circuit is its own refinement.
use Rattle.aig_base.proofs.Words.{◌≡◌, ◌≢◌, ℕ, zero, suc, ◌<◌, ◌≤◌, ◌⊎◌, Bool, true, false, cond, Some, List, [], ◌∷◌, ◌++◌, length, map, get_or, refl, sym, ap, subst, ◌∙◌, arith, inl, inr, eqb, All, AllPairs, Contains, flat_map, cases_lt, ne_eqb, eqb-false, get_or-map, get_or_default, length-map, map-append, same_lists, Contains-append_left, Contains-append_right, Contains-append_cases, Contains-get_or, slice_get-get_or}
use Rattle.aig_circuit.specs.declared.edge.AigEdge.{AigEdge}
use Rattle.aig_circuit.specs.declared.node.AigNodeType.TheVariants.{False, Leaf, And}
use Rattle.aig_circuit.specs.declared.node.AigNode.{AigNode}
use Rattle.aig_circuit.specs.declared.node.AigLatch.{AigLatch}
use Rattle.aig_circuit.proofs.Words.{literal_of, and_of, kind_at, Circuit, IsCircuit, latch_leaves, initial_edges, property_edges, DependsOn, IsInCone, IsFanin, IsReached, root, step, is_in, only_kept, position_of, renumbered_circuit, renumbered_edge, renumbered_kind, renumbered_latch}
use Rattle.aig_circuit.proofs.Building.{and_of-cases}
use Rattle.aig_circuit.proofs.Trees.{kind_at-within}
use Rattle.aig_renumber.proofs.NodesInOrder.{kind_at-nodes_in_order, length-nodes_in_order}
use Rattle.aig_renumber.proofs.Circuits.{initial_edges-map}
use Rattle.aig_renumber.proofs.Kept.{is_in-there}
use Rattle.aig_renumber.proofs.Places.{Contains-map, Contains-map_back, filter_all, position_of-get_or, position_of-within, rising-distinct, rising_from}
use Rattle.aig_renumber.proofs.Same.{renumbered-same, retained-all}
use Rattle.aig_cone.specs.Refine.{AreKept, all_numbers, refined, refining_roots, variable_nodes}
use Rattle.aig_cone.proofs.Keeping.{Numbers-kept, Within, along, kept-there, reached_within, roots_within}
use Rattle.aig_cone.proofs.Refining.{IsCircuit-refined}

-- ---- lists under other numbers

sets-map : (f : AigEdge → AigEdge) (sets : List (List AigEdge)) → flat_map (λ (set : List AigEdge). set) (map (map f) sets) ≡ map f (flat_map (λ (set : List AigEdge). set) sets)
sets-map f [] = refl
sets-map f (es ∷ sets) = ap (λ rest. map f es ++ rest) (sets-map f sets) ∙ sym (map-append f es (flat_map (λ (set : List AigEdge). set) sets))

-- the edges of all properties follow
property_edges-refined : (kept : List ℕ) (c : Circuit) → property_edges (refined kept c) ≡ map (renumbered_edge (position_of kept)) (property_edges c)
property_edges-refined kept c = rw (sets-map (renumbered_edge (position_of kept)) c.properties.justice) (simp map-append)

-- the node of an edge that isn't constant follows
variable_nodes-map : (number : ℕ → ℕ) (es : List AigEdge) (n : ℕ) → (n ≢ 0 → number n ≢ 0) → Contains (variable_nodes es) n → Contains (variable_nodes (map (renumbered_edge number) es)) (number n)
variable_nodes-map number [] n keeps has = absurd (omega (arith, has.1))
variable_nodes-map number (e ∷ es) n keeps has = by_test (λ h. variable_nodes-map number es n keeps h) (eqb e.node_id 0) refl has
  where
    rest : Contains (variable_nodes (map (renumbered_edge number) es)) (number n) → Contains (variable_nodes (map (renumbered_edge number) (e ∷ es))) (number n)
    rest h = Contains-append_right (cond (eqb (number e.node_id) 0) [] (number e.node_id ∷ [])) (variable_nodes (map (renumbered_edge number) es)) (number n) h

    here : e.node_id ≡ n → eqb e.node_id 0 ≡ false → Contains (variable_nodes (map (renumbered_edge number) (e ∷ es))) (number n)
    here is differs =
        let not_0 : number e.node_id ≢ 0 = rw is (keeps (rw (← is) (eqb-false e.node_id 0 differs))) in
        let test : eqb (number e.node_id) 0 ≡ false = ne_eqb (number e.node_id) 0 not_0 in
        rw test (0, omega arith, ap number is)

    by_test : (Contains (variable_nodes es) n → Contains (variable_nodes (map (renumbered_edge number) es)) (number n)) → (b : Bool) → eqb e.node_id 0 ≡ b → Contains (cond b [] (e.node_id ∷ []) ++ variable_nodes es) n
        → Contains (variable_nodes (map (renumbered_edge number) (e ∷ es))) (number n)
    by_test follows true is h = rest (follows h)
    by_test follows false differs (zero, h, is) = here is differs
    by_test follows false differs (suc k, h, is) = rest (follows (k, omega arith, is))

-- a rising list of all numbers below a bound has each at its own place
rising-whole : (ns : List ℕ) (bound : ℕ) → AllPairs (λ m n. m < n) ns → All (λ n. n < bound) ns → ((n : ℕ) → n < bound → Contains ns n) → (length ns ≡ bound) × ((k : ℕ) → k < length ns → get_or ns k 0 ≡ k)
rising-whole ns bound is_increasing below all = (long, λ k h. (at k (omega (arith, long))).1)
  where
    above : (k : ℕ) → k < length ns → k ≤ get_or ns k 0
    above k h = let from = rising_from 0 ns is_increasing (λ j d l. omega arith) k h in omega (arith, from)

    at : (k : ℕ) → k < bound → (k < length ns) × (get_or ns k 0 ≡ k)
    at zero h =
        let r = all 0 h in
        let value : get_or ns r.0 0 ≡ 0 = get_or_default ns r.0 0 0 r.1 ∙ r.2 in
        let low : r.0 ≡ 0 = omega (arith, above r.0 r.1, r.2) in
        (omega (arith, r.1), subst (λ p. get_or ns p 0 ≡ 0) low value)
    at (suc k) h =
        let r = all (suc k) h in
        let value : get_or ns r.0 0 ≡ suc k = get_or_default ns r.0 0 (suc k) r.1 ∙ r.2 in
        let before = at k (omega arith) in
        let high : r.0 ≤ suc k = omega (arith, above r.0 r.1, value) in
        let same : r.0 ≡ suc k = (elim (cases_lt k r.0) [
          | inl more ↦ omega arith
          | inr low ↦ elim (cases_lt r.0 k) [
            | inl less ↦ absurd (let rise = is_increasing r.0 k 0 less before.0 in omega (arith, rise, value, before.1))
            | inr equal ↦ absurd (let here : r.0 ≡ k = omega arith in omega (arith, ap (λ p. get_or ns p 0) here, value, before.1))
          ]
        ]) in
        (omega (arith, r.1), subst (λ p. get_or ns p 0 ≡ suc k) same value)

    long : length ns ≡ bound
    long = elim (cases_lt bound (length ns)) [
      | inl more ↦ absurd (let high = above bound more in let low = below bound 0 more in omega (arith, high, low))
      | inr few ↦ elim (cases_lt (length ns) bound) [
        | inl less ↦ absurd (let r = at (length ns) less in omega (arith, r.0))
        | inr same ↦ omega arith
      ]
    ]

-- ---- what is reached is reached under the new numbers

module _ (c : Circuit) (kept : List ℕ) (is : IsCircuit c) (are : AreKept c kept) where
  abbrev number : ℕ → ℕ
  number = position_of kept

  abbrev new : Circuit
  new = refined kept c

  back : (n : ℕ) → Contains kept n → get_or kept (number n) 0 ≡ n
  back n s = (Numbers-kept c kept is are).back n s

  zero_first : number 0 ≡ 0
  zero_first = (Numbers-kept c kept is are).false_first

  in_0 : Contains kept 0
  in_0 = (are.exactly 0).1 (inl refl)

  not_0 : (n : ℕ) → Contains kept n → n ≢ 0 → number n ≢ 0
  not_0 n s ne e = ne (sym (back n s) ∙ ap (λ i. get_or kept i 0) (e ∙ sym zero_first) ∙ back 0 in_0)

  root_follows : (n : ℕ) → Contains (refining_roots c) n → Contains (refining_roots new) (number n)
  root_follows n has = elim (Contains-append_cases (map node (property_edges c) ++ latch_leaves c.latchs) (variable_nodes (initial_edges c.latchs)) n has) [
    | inl early ↦ Contains-append_left (map node (property_edges new) ++ latch_leaves new.latchs) (variable_nodes (initial_edges new.latchs)) (number n)
        (elim (Contains-append_cases (map node (property_edges c)) (latch_leaves c.latchs) n early) [
          | inl property ↦ Contains-append_left (map node (property_edges new)) (latch_leaves new.latchs) (number n) (of_property property)
          | inr leaf ↦ Contains-append_right (map node (property_edges new)) (latch_leaves new.latchs) (number n) (of_leaf leaf)
        ])
    | inr start ↦ Contains-append_right (map node (property_edges new) ++ latch_leaves new.latchs) (variable_nodes (initial_edges new.latchs)) (number n)
        (subst (λ es. Contains (variable_nodes es) (number n)) (sym (initial_edges-map number c.latchs)) (variable_nodes-map number (initial_edges c.latchs) n (not_0 n in_kept) start))
  ]
    where
      node : AigEdge → ℕ
      node e = e.node_id

      in_kept : Contains kept n
      in_kept = (are.exactly n).1 (inr (root has))

      of_property : Contains (map (λ (e : AigEdge). e.node_id) (property_edges c)) n → Contains (map (λ (e : AigEdge). e.node_id) (property_edges new)) (number n)
      of_property h =
          let r = Contains-map_back (λ (e : AigEdge). e.node_id) (property_edges c) n h in
          let f = renumbered_edge number in
          subst (λ es. Contains (map (λ (e : AigEdge). e.node_id) es) (number n)) (sym (property_edges-refined kept c))
          (subst (λ m. Contains (map (λ (e : AigEdge). e.node_id) (map f (property_edges c))) m) (ap number r.2)
          (Contains-map (λ (e : AigEdge). e.node_id) (map f (property_edges c)) (f r.0) (Contains-map f (property_edges c) r.0 r.1)))

      of_leaf : Contains (latch_leaves c.latchs) n → Contains (latch_leaves new.latchs) (number n)
      of_leaf h =
          let r = Contains-map_back (λ (l : AigLatch). l.input) c.latchs n h in
          let f = renumbered_latch number in
          subst (λ m. Contains (latch_leaves (map f c.latchs)) m) (ap number r.2)
          (Contains-map (λ (l : AigLatch). l.input) (map f c.latchs) (f r.0) (Contains-map f c.latchs r.0 r.1))

  step_follows : (n m : ℕ) → Contains kept n → DependsOn c n m → DependsOn new (number n) (number m)
  step_follows n m s (inl (a, b, kind, which)) = inl (operand (and_of-cases first second))
    where
      there : number n < length kept
      there = position_of-within kept n s

      made : kind_at new.nodes (number n) ≡ Some (renumbered_kind number (Some (And a b)))
      made = kind_at-nodes_in_order c.nodes number kept (number n) there ∙ ap (λ k. Some (renumbered_kind number (kind_at c.nodes k))) (back n s) ∙ ap (λ o. Some (renumbered_kind number o)) kind

      first : AigEdge
      first = renumbered_edge number a

      second : AigEdge
      second = renumbered_edge number b

      operand : ((and_of first second ≡ And second first) × (literal_of second < literal_of first)) ⊎ ((and_of first second ≡ And first second) × (literal_of first ≤ literal_of second)) → IsFanin new.nodes (number n) (number m)
      operand (inl turned) = (second, first, made ∙ ap Some turned.0, elim which [ inl e ↦ inr (ap number e) | inr e ↦ inl (ap number e) ])
      operand (inr same) = (first, second, made ∙ ap Some same.0, elim which [ inl e ↦ inl (ap number e) | inr e ↦ inr (ap number e) ])
  step_follows n m s (inr (latch, has, from, to)) = inr (renumbered_latch number latch, Contains-map (renumbered_latch number) c.latchs latch has, ap number from, ap number to)

  reached_follows : (n : ℕ) → IsReached (DependsOn c) (refining_roots c) n → IsReached (DependsOn new) (refining_roots new) (number n)
  reached_follows n (root has) = root (root_follows n has)
  reached_follows n (step {n = k} reached before) = step (reached_follows k reached) (step_follows k n ((are.exactly k).1 (inr reached)) before)

  -- every new number is in the cone again
  all_in_cone : (i : ℕ) → i < length kept → IsInCone new (refining_roots new) i
  all_in_cone i h =
      let n = get_or kept i 0 in
      let place : number n ≡ i = (Numbers-kept c kept is are).place i h in
      elim ((are.exactly n).0 (Contains-get_or kept i 0 h)) [
        | inl zero_is ↦ inl (sym place ∙ ap number zero_is ∙ zero_first)
        | inr reached ↦ inr (subst (λ k. IsReached (DependsOn new) (refining_roots new) k) place (reached_follows n reached))
      ]

  -- all its numbers are kept
  pub AreKept-all : AreKept new (all_numbers new)
  AreKept-all = record {
    rising = λ i j d lt h. (let second : j < length new.nodes = omega (arith, long) in omega (arith, at i d (omega arith), at j d second));
    exactly = λ n. (
      λ (k, h, is). all_in_cone n (let low : k < length new.nodes = omega (arith, long) in omega (arith, at k n low, is, size)),
      λ h. (let low : n < length new.nodes = within n h in (n, omega (arith, long), at n n low)),
    );
  }
    where
      is_made : IsCircuit new
      is_made = IsCircuit-refined c kept is are

      size : length new.nodes ≡ length kept
      size = length-nodes_in_order c.nodes number 0 kept

      long : length (all_numbers new) ≡ length new.nodes
      long = length-map new.nodes (λ (node : AigNode). node.node_id)

      at : (k d : ℕ) → k < length new.nodes → get_or (all_numbers new) k d ≡ k
      at k d low =
          let default : AigNode = record { node_id = d; typ = False } in
          get_or-map (λ (n : AigNode). n.node_id) new.nodes k default d low ∙ is_made.nodes.numbered k (get_or new.nodes k default) (slice_get-get_or new.nodes k default low)

      within : (n : ℕ) → IsInCone new (refining_roots new) n → n < length new.nodes
      within n (inl zero_is) = let first = kind_at-within new.nodes 0 False is_made.nodes.false_first in omega arith
      within n (inr reached) = reached_within (Within new is_made) (roots_within new is_made) (along new is_made) n reached

  module _ (again : List ℕ) (kept_again : AreKept new again) where
    is_new : IsCircuit new
    is_new = IsCircuit-refined c kept is are

    count : length new.nodes ≡ length kept
    count = length-nodes_in_order c.nodes number 0 kept

    has : (n : ℕ) → n < length new.nodes → Contains again n
    has n h = (kept_again.exactly n).1 (all_in_cone n (omega (arith, count)))

    whole : (length again ≡ length new.nodes) × ((k : ℕ) → k < length again → get_or again k 0 ≡ k)
    whole = rising-whole again (length new.nodes) kept_again.rising (kept-there new again is_new kept_again) has

    pub again-numbers : again ≡ map (λ (node : AigNode). node.node_id) new.nodes
    again-numbers = same_lists again (map (λ (node : AigNode). node.node_id) new.nodes) (whole.0 ∙ sym (length-map new.nodes (λ (node : AigNode). node.node_id))) (λ k d h.
        let low : k < length new.nodes = omega (arith, whole.0) in
        let default : AigNode = record { node_id = d; typ = False } in
        let node = slice_get-get_or new.nodes k default low in
        get_or_default again k d 0 h ∙ whole.1 k h ∙ sym (get_or-map (λ (n : AigNode). n.node_id) new.nodes k default d low ∙ is_new.nodes.numbered k (get_or new.nodes k default) node))

    places_same : (n : ℕ) → n < length new.nodes → position_of again n ≡ n
    places_same n h =
        let low : n < length again = omega (arith, whole.0) in
        ap (position_of again) (sym (whole.1 n low)) ∙ position_of-get_or again n (rising-distinct again kept_again.rising) low

    passes : (n : ℕ) → n < length new.nodes → is_in again n ≡ true
    passes n h = is_in-there again n (has n h)

    nothing_dropped : only_kept again new ≡ new
    nothing_dropped =
        let inputs = filter_all (is_in again) new.inputs (λ k d h. passes (get_or new.inputs k d) (kind_at-within new.nodes (get_or new.inputs k d) Leaf (is_new.inputs k d h))) in
        let names = retained-all new.names (is_in again) (λ n named. passes n (is_new.named n named)) in
        λ i. record new { inputs = inputs i; names = names i }

    pub refined-again : refined again new ≡ new
    refined-again = ap (renumbered_circuit (position_of again) again) nothing_dropped ∙ renumbered-same new is_new (position_of again) places_same again whole.1 whole.0
