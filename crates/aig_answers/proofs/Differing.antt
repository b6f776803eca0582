-- States differ under an assignment that satisfies the clauses that tell them apart.
use Rattle.aig_answers.proofs.Words.{◌≡◌, ℕ, zero, suc, ◌+◌, ◌*◌, ◌<◌, Bool, true, false, not, ◌||◌, inl, inr, List, [], ◌∷◌, length, IsTrue, refl, sym, ap, subst, ◌∙◌, arith, AllByRecursion, AllZip, cases_lt, false≢true, is_true_clause, literal_value-lit_to, AigEdge, inverse, edge_in, edge_in-inverse, literal_value-lit_of, rec_append, apart_clauses, count_pairs, difference_clauses, distinct_clauses, pair_clauses, pairwise_clauses, state_at, variables_from, Holds}

-- a variable that says that two values differ is false where they don't
says_nothing : (d a b : Bool) → a ≡ b → IsTrue (not d || (a || (b || false)))
    → IsTrue (not d || (not a || (not b || false))) → d ≡ false
says_nothing false a b same first second = refl
says_nothing true true true same first second = sym second
says_nothing true true false same first second = absurd (false≢true (sym same))
says_nothing true false true same first second = absurd (false≢true same)
says_nothing true false false same first second = sym first

module _ (v : ℕ → Bool) where
  -- the edges have the same values, one for one
  abbrev pub AreSame : List AigEdge → List AigEdge → Type 0
  AreSame xs ys = AllZip (λ x y. edge_in v x ≡ edge_in v y) xs ys

  none_says : (n : ℕ) (xs ys : List AigEdge)
      → AllByRecursion (Holds v) (difference_clauses n xs ys) → AreSame xs ys
      → ¬ Holds v (variables_from n (length xs))
  none_says n [] [] hold same some = false≢true some
  none_says n [] (y ∷ ys) hold same some = absurd same
  none_says n (x ∷ xs) [] hold same some = absurd same
  none_says n (x ∷ xs) (y ∷ ys) hold same some =
      let free = literal_value-lit_to v n false in
      let nothing = says_nothing (v n) (edge_in v x) (edge_in v y) same.0
      (rw (free, literal_value-lit_of v x, literal_value-lit_of v y) at hold.0)
      (rw (
        free,
        literal_value-lit_of v (inverse x),
        literal_value-lit_of v (inverse y),
        edge_in-inverse v x,
        edge_in-inverse v y,
      ) at hold.1.0) in
      none_says (n + 1) xs ys hold.1.1 same.1
      (sym (ap (λ b. b || is_true_clause v (variables_from (n + 1) (length xs)))
      (literal_value-lit_to v n true ∙ nothing)) ∙ some)

  pair_differs : (n : ℕ) (xs ys : List AigEdge) → AllByRecursion (Holds v) (pair_clauses n xs ys)
      → ¬ AreSame xs ys
  pair_differs n xs ys hold same =
      let parts = (rec_append (Holds v) (difference_clauses n xs ys)
      (variables_from n (length xs) ∷ [])).0 hold in
      none_says n xs ys parts.0 same parts.1.0

  module _ (l : ℕ) (edges : List AigEdge) where
    -- the states at two steps differ
    abbrev pub Differ : ℕ → ℕ → Type 0
    Differ s t = ¬ AreSame (state_at l edges s) (state_at l edges t)

    apart_differ : (n t s r : ℕ) → AllByRecursion (Holds v) (apart_clauses n l edges t s) → r < s
        → Differ r t
    apart_differ n t zero r hold low = absurd (omega arith)
    apart_differ n t (suc s) r hold low =
        let parts = (rec_append (Holds v) (apart_clauses n l edges t s)
        (pair_clauses (n + s * l) (state_at l edges s) (state_at l edges t))).0 hold in
        elim (cases_lt r s) [
          | inl less ↦ apart_differ n t s r parts.0 less
          | inr high ↦ (
              let is : s ≡ r = omega arith in
              subst (λ i. Differ i t) is
              (pair_differs (n + s * l) (state_at l edges s) (state_at l edges t) parts.1)
              )
        ]

    pairwise_differ : (n steps s t : ℕ)
        → AllByRecursion (Holds v) (pairwise_clauses n l edges steps) → s < t → t < steps
        → Differ s t
    pairwise_differ n zero s t hold less low = absurd (omega arith)
    pairwise_differ n (suc last) s t hold less low =
        let m = n + count_pairs last * l in
        let parts = (rec_append (Holds v) (pairwise_clauses n l edges last)
        (apart_clauses m l edges last last)).0 hold in
        elim (cases_lt t last) [
          | inl before ↦ pairwise_differ n last s t parts.0 less before
          | inr high ↦ (
              let is : last ≡ t = omega arith in
              subst (λ i. Differ s i) is (apart_differ m last last s parts.1 (omega arith))
              )
        ]

  pub distinct_differ : (n l : ℕ) (edges : List AigEdge) (steps s t : ℕ)
      → AllByRecursion (Holds v) (distinct_clauses n l edges steps) → s < t → t < steps
      → Differ l edges s t
  distinct_differ n zero edges steps s t hold less low = absurd (false≢true hold.0)
  distinct_differ n (suc l) edges steps s t hold less low =
      pairwise_differ (suc l) edges n steps s t hold less low
