-- The pairs that are shared.
use Rattle.aig_witness_circuits.proofs.Words.{◌≡◌, ◌≢◌, ℕ, zero, suc, ◌<◌, Option, List, [], ◌∷◌, ◌++◌, length, map, get_or, refl, sym, ap, ap₂, subst, ◌∙◌, arith, inl, inr, All, AllPairs, Contains, All-append, All-contains, All-same, Contains-append_cases, Contains-append_left, Contains-append_right, Contains-get_or, get_or-take, length-take, map-append, zip, AllPairs-append, latch_leaves-leaves, Circuit, IsCircuit, IsLeaf, latch_leaves, CanShareLeaves, Sharing, AreNamed, IsMapping, HasNoMapping, IsFor, IsNamed, Names, SharesByName, in_order}
use Rattle.aig_base.proofs.Words.{take}
use Rattle.aig_witness_circuits.proofs.Adding.{form_of}

-- ---- by names

module _ (node : ℕ → Option ℕ) (model witness : Circuit) (is_model : IsCircuit model)
    (is_witness : IsCircuit witness) where
  abbrev leaves : List ℕ
  leaves = witness.inputs ++ latch_leaves witness.latchs

  -- the leaves of named pairs
  named_leaves : (names : Names) (ns : List ℕ) (P : ℕ → Type 0) (pairs : Sharing)
      → AreNamed node names ns P pairs
      → ((n : ℕ) → P n → IsLeaf model.nodes n) → ((n : ℕ) → Contains ns n → IsLeaf witness.nodes n)
      → All (λ p. IsLeaf model.nodes p.0) pairs × All (λ p. IsLeaf witness.nodes p.1) pairs
  named_leaves names ns P pairs are of_model of_witness = (
    λ k d h. of_model (get_or pairs k d).0 (are.each k d h).1,
    λ k d h. of_witness (get_or pairs k d).1 (are.each k d h).2,
  )

  input_leaf : (n : ℕ) → Contains model.inputs n → IsLeaf model.nodes n
  input_leaf n has = All-contains (IsLeaf model.nodes) model.inputs n is_model.inputs has

  latch_leaf : (n : ℕ) → Contains (latch_leaves model.latchs) n → IsLeaf model.nodes n
  latch_leaf n has =
      All-contains (IsLeaf model.nodes) (latch_leaves model.latchs) n
      (latch_leaves-leaves model is_model) has

  own_input_leaf : (n : ℕ) → Contains witness.inputs n → IsLeaf witness.nodes n
  own_input_leaf n has = All-contains (IsLeaf witness.nodes) witness.inputs n is_witness.inputs has

  own_latch_leaf : (n : ℕ) → Contains (latch_leaves witness.latchs) n → IsLeaf witness.nodes n
  own_latch_leaf n has =
      All-contains (IsLeaf witness.nodes) (latch_leaves witness.latchs) n
      (latch_leaves-leaves witness is_witness) has

  pub named_can : (shared : Sharing) → SharesByName node model witness shared
      → CanShareLeaves shared model witness
  named_can shared by_name =
      let first = named_leaves witness.names witness.inputs (Contains model.inputs) by_name.inputs
      by_name.named_inputs input_leaf own_input_leaf in
      let second = named_leaves witness.names (latch_leaves witness.latchs)
      (Contains (latch_leaves model.latchs)) by_name.latches by_name.named_latches latch_leaf
      own_latch_leaf in
      record {
        sharing = by_name.sharing;
        model_leaves =
            All-same (λ p. IsLeaf model.nodes p.0) shared (by_name.inputs ++ by_name.latches)
            by_name.pairs
            (All-append (λ p. IsLeaf model.nodes p.0) by_name.inputs by_name.latches first.0
            second.0);
        witness_leaves =
            All-same (λ p. IsLeaf witness.nodes p.1) shared (by_name.inputs ++ by_name.latches)
            by_name.pairs
            (All-append (λ p. IsLeaf witness.nodes p.1) by_name.inputs by_name.latches first.1
            second.1);
      }

  -- a leaf with the form is in a pair
  in_pair : (shared : Sharing) → SharesByName node model witness shared → (n : ℕ)
      → Contains leaves n → IsNamed IsMapping witness.names n
      → Contains (map (λ (p : ℕ × ℕ). p.1) shared) n
  in_pair shared by_name n has form =
      let both : map (λ (p : ℕ × ℕ). p.1) shared
      ≡ map (λ (p : ℕ × ℕ). p.1) by_name.inputs ++ map (λ (p : ℕ × ℕ). p.1) by_name.latches =
      ap (map (λ (p : ℕ × ℕ). p.1)) by_name.pairs
      ∙ map-append (λ (p : ℕ × ℕ). p.1) by_name.inputs by_name.latches in
      subst (λ l. Contains l n) (sym both)
      (elim (Contains-append_cases witness.inputs (latch_leaves witness.latchs) n has) [
        | inl input ↦
            Contains-append_left (map (λ (p : ℕ × ℕ). p.1) by_name.inputs)
            (map (λ (p : ℕ × ℕ). p.1) by_name.latches) n (by_name.named_inputs.all n input form)
        | inr latch ↦
            Contains-append_right (map (λ (p : ℕ × ℕ). p.1) by_name.inputs)
            (map (λ (p : ℕ × ℕ). p.1) by_name.latches) n (by_name.named_latches.all n latch form)
      ])

  -- with no pair no leaf has the form
  pub none_named : (shared : Sharing) → SharesByName node model witness shared → shared ≡ []
      → HasNoMapping witness
  none_named shared by_name none k d h form =
      let has = in_pair shared by_name (get_or leaves k d) (Contains-get_or leaves k d h) form in
      let nowhere : Contains [] (get_or leaves k d) =
      subst (λ l. Contains (map (λ (p : ℕ × ℕ). p.1) l) (get_or leaves k d)) none has in
      absurd (omega (arith, nowhere.1))

  -- and with a pair one has
  pub some_named : (shared : Sharing) → SharesByName node model witness shared → (shared ≡ [] → ⊥)
      → ¬ HasNoMapping witness
  some_named shared by_name some none = by shared refl
    where
      of_list : (names : Names) (ns : List ℕ) (P : ℕ → Type 0) (pairs : Sharing)
          → AreNamed node names ns P pairs → (p : ℕ × ℕ) → Contains pairs p
          → Contains ns p.1 × IsNamed IsMapping names p.1
      of_list names ns P pairs are p has =
          let each = All-contains
          (λ (q : ℕ × ℕ). IsNamed (IsFor node q.0) names q.1 × P q.0 × Contains ns q.1) pairs p
          are.each has in
          (each.2, form_of node names p.0 p.1 each.0)

      no_pair : (p : ℕ × ℕ) → Contains shared p → ⊥
      no_pair p has =
          let cases = Contains-append_cases by_name.inputs by_name.latches p
          (subst (λ l. Contains l p) by_name.pairs has) in
          elim cases [
            | inl input ↦ (
                let named = of_list witness.names witness.inputs (Contains model.inputs)
                by_name.inputs by_name.named_inputs p input in
                All-contains (λ n. ¬ IsNamed IsMapping witness.names n) leaves p.1 none
                (Contains-append_left witness.inputs (latch_leaves witness.latchs) p.1 named.0)
                named.1)
            | inr latch ↦ (
                let named = of_list witness.names (latch_leaves witness.latchs)
                (Contains (latch_leaves model.latchs)) by_name.latches by_name.named_latches p
                latch in
                All-contains (λ n. ¬ IsNamed IsMapping witness.names n) leaves p.1 none
                (Contains-append_right witness.inputs (latch_leaves witness.latchs) p.1 named.0)
                named.1)
          ]

      by : (l : Sharing) → l ≡ shared → ⊥
      by [] is = some (sym is)
      by (p ∷ ps) is = no_pair p (subst (λ l. Contains l p) is (0, omega arith, refl))

  -- ---- by order

  firsts_in : (xs ys : List ℕ) (p : ℕ × ℕ) → Contains (zip xs ys) p → Contains xs p.0 × Contains ys
      p.1
  firsts_in [] ys p has = absurd (omega (arith, has.1))
  firsts_in (x ∷ xs) [] p has = absurd (omega (arith, has.1))
  firsts_in (x ∷ xs) (y ∷ ys) p (zero, h, is) =
      ((0, omega arith, ap (λ (q : ℕ × ℕ). q.0) is), (0, omega arith, ap (λ (q : ℕ × ℕ). q.1) is))
  firsts_in (x ∷ xs) (y ∷ ys) p (suc k, h, is) =
      let later = firsts_in xs ys p (k, omega (arith, h), is) in (
        (suc later.0.0, omega (arith, later.0.1), later.0.2),
        (suc later.1.0, omega (arith, later.1.1), later.1.2),
      )

  -- second parts are the first of the second list
  seconds_are : (xs ys : List ℕ)
      → map (λ (p : ℕ × ℕ). p.1) (zip xs ys) ≡ take (length xs) ys
  seconds_are [] ys = refl
  seconds_are (x ∷ xs) [] = refl
  seconds_are (x ∷ xs) (y ∷ ys) = ap (λ l. y ∷ l) (seconds_are xs ys)

  taken_apart : (n : ℕ) (ns : List ℕ) → AllPairs (λ a b. a ≢ b) ns
      → AllPairs (λ a b. a ≢ b) (take n ns)
  taken_apart n ns apart i j d lt less =
      let short : j < n = omega (arith, less, length-take n ns) in
      let high : j < length ns = omega (arith, less, length-take n ns) in
      let low : i < n = omega arith in
      subst (λ a. a ≢ get_or (take n ns) j d) (sym (get_or-take n ns i d low))
      (subst (λ b. get_or ns i d ≢ b) (sym (get_or-take n ns j d short)) (apart i j d lt high))

  pub order_can : CanShareLeaves (in_order model witness) model witness
  order_can = record {
    sharing =
        subst (AllPairs (λ a b. a ≢ b))
        (sym (map-append (λ (p : ℕ × ℕ). p.1) inputs latches
        ∙ ap₂ (λ (a b : List ℕ). a ++ b) (seconds_are model.inputs witness.inputs)
        (seconds_are (latch_leaves model.latchs) (latch_leaves witness.latchs))))
        (AllPairs-append (λ a b. a ≢ b) (take (length model.inputs) witness.inputs)
        (take (length (latch_leaves model.latchs)) (latch_leaves witness.latchs))
        (taken_apart (length model.inputs) witness.inputs is_witness.inputs_distinct)
        (taken_apart (length (latch_leaves model.latchs)) (latch_leaves witness.latchs)
        is_witness.latchs_distinct)
        (λ k d h i e l same.
        let n = length model.inputs in
        let m = length (latch_leaves model.latchs) in
        let low : k < n = omega (arith, h, length-take n witness.inputs) in
        let inside : k < length witness.inputs = omega (arith, h, length-take n witness.inputs) in
        let short : i < m = omega (arith, l, length-take m (latch_leaves witness.latchs)) in
        let within : i < length (latch_leaves witness.latchs) =
        omega (arith, l, length-take m (latch_leaves witness.latchs)) in
        is_witness.apart i e within
        (subst (Contains witness.inputs)
        (sym (get_or-take n witness.inputs k d low)
        ∙ same
        ∙ get_or-take m (latch_leaves witness.latchs) i e short)
        (Contains-get_or witness.inputs k d inside))));
    model_leaves =
        All-append (λ p. IsLeaf model.nodes p.0) inputs latches
        (λ k d h. input_leaf (get_or inputs k d).0
        (firsts_in model.inputs witness.inputs (get_or inputs k d) (Contains-get_or inputs k d
        h)).0)
        (λ k d h. latch_leaf (get_or latches k d).0
        (firsts_in (latch_leaves model.latchs) (latch_leaves witness.latchs) (get_or latches k d)
        (Contains-get_or latches k d h)).0);
    witness_leaves =
        All-append (λ p. IsLeaf witness.nodes p.1) inputs latches
        (λ k d h. own_input_leaf (get_or inputs k d).1
        (firsts_in model.inputs witness.inputs (get_or inputs k d) (Contains-get_or inputs k d
        h)).1)
        (λ k d h. own_latch_leaf (get_or latches k d).1
        (firsts_in (latch_leaves model.latchs) (latch_leaves witness.latchs) (get_or latches k d)
        (Contains-get_or latches k d h)).1);
  }
    where
      inputs : Sharing
      inputs = zip model.inputs witness.inputs

      latches : Sharing
      latches = zip (latch_leaves model.latchs) (latch_leaves witness.latchs)
