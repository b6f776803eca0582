-- The marked numbers, and the map of the kept ones.
use Rattle.std.proofs.Common.{◌≡◌, ◌≢◌, ℕ, zero, suc, ◌+◌, ◌<◌, ◌≤◌, ◌⊎◌, ◌↔◌, Bool, true, false, cond, nat_cmp, nat_eq, Some, List, [], ◌∷◌, ◌++◌, length, take, get_or, get_or-set_other, get_or-set_same, replicate, set, sym, ap, subst, ◌∙◌, arith, inl, inr}
use Rattle.std.specs.Prelude.{All, AllPairs, IsTrue, slice_get}
use Rattle.aig_base.proofs.Words.{eq_by_cmp, FinMap, get, insert, get-insert, cases_eq, cases_lt, eq-eqb, false≢true, ne_eqb, nat_cmp_total, get_or-replicate, get_or-take, length-replicate, length-take, All-set, Contains-append_left, Contains-get_or, Contains-push, Contains-push_cases, all_pairs_push, slice_get-get_or, slice_get_past}
use Rattle.aig_base.proofs.Mapping.{same_test}
use Rattle.aig_circuit.specs.Marks.{IsMarked}
use Rattle.aig_cone.specs.Marks.{AreMarked}
use Rattle.aig_cone.proofs.Marking.{Contains-nothing}

-- a mark that is there
pub marked_within : (marks : List Bool) (n : ℕ) → IsMarked marks n → n < length marks
marked_within [] n h = absurd (false≢true h)
marked_within (b ∷ bs) zero h = omega arith
marked_within (b ∷ bs) (suc n) h = let rest = marked_within bs n h in omega arith

-- of one mark more
marked-more : (marks : List Bool) (i n : ℕ)
    → IsMarked (take (i + 1) marks) n ↔ (IsMarked (take i marks) n ⊎ ((n ≡ i) × IsMarked marks i))
marked-more marks i n = (forth, back)
  where
    forth : IsMarked (take (i + 1) marks) n
        → IsMarked (take i marks) n ⊎ ((n ≡ i) × IsMarked marks i)
    forth h =
        let within = marked_within (take (i + 1) marks) n h in
        let low : n < i + 1 = omega (arith, length-take (i + 1) marks) in
        let here : IsMarked marks n = rw get_or-take at h in
        elim (cases_lt n i) [
          | inl less ↦ inl (rw get_or-take here)
          | inr more ↦ (let same : n ≡ i = omega arith in inr (same, subst (IsMarked marks) same here))
        ]

    back : IsMarked (take i marks) n ⊎ ((n ≡ i) × IsMarked marks i)
        → IsMarked (take (i + 1) marks) n
    back (inl h) =
        let within = marked_within (take i marks) n h in
        let less : n < i = omega (arith, length-take i marks) in
        let low : n < i + 1 = omega arith in
        let here : IsMarked marks n = rw get_or-take at h in
        rw get_or-take here
    back (inr (same, h)) =
        let low : n < i + 1 = omega arith in
        rw get_or-take (subst (IsMarked marks) (sym same) h)

-- one mark more that isn't set
marked-unset : (marks : List Bool) (i n : ℕ) → get_or marks i false ≡ false
    → IsMarked (take (i + 1) marks) n ↔ IsMarked (take i marks) n
marked-unset marks i n unset = (
  λ m. elim ((marked-more marks i n).0 m) [ inl was ↦ was | inr here ↦ absurd (false≢true (sym unset ∙ here.1)) ],
  λ m. (marked-more marks i n).1 (inl m),
)

-- a set that gets the number of a mark that is set
pub marked-put : (marks : List Bool) (i : ℕ) (had has : ℕ → Bool) → get_or marks i false ≡ true
    → ((q : ℕ) → has q ≡ cond (nat_eq i q) true (had q))
    → ((q : ℕ) → IsTrue (had q) ↔ IsMarked (take i marks) q) → (q : ℕ)
    → IsTrue (has q) ↔ IsMarked (take (i + 1) marks) q
marked-put marks i had has is put marked q = elim (cases_eq i q) [
  | inl e ↦ (λ h. (marked-more marks i q).1 (inr (sym e, is)), λ m. put q ∙ ap (λ b. cond b true (had q)) (eq-eqb i q e))
  | inr ne ↦
      (let same : has q ≡ had q = put q ∙ ap (λ b. cond b true (had q)) (ne_eqb i q ne) in (
        λ h. (marked-more marks i q).1 (inl ((marked q).0 (sym same ∙ h))),
        λ m. elim ((marked-more marks i q).0 m) [ inl was ↦ same ∙ (marked q).1 was | inr here ↦ absurd (ne (sym here.0)) ],
      ))
]

-- a set that stays where a mark isn't set
pub marked-passed : (marks : List Bool) (i : ℕ) (had : ℕ → Bool) → get_or marks i false ≡ false
    → ((q : ℕ) → IsTrue (had q) ↔ IsMarked (take i marks) q) → (q : ℕ)
    → IsTrue (had q) ↔ IsMarked (take (i + 1) marks) q
marked-passed marks i had unset marked q = (
  λ h. (marked-unset marks i q unset).1 ((marked q).0 h),
  λ m. (marked q).1 ((marked-unset marks i q unset).0 m),
)

-- of no mark
pub AreMarked-none : AreMarked [] []
AreMarked-none = record {
  rising = λ i j d before low. absurd (omega arith);
  exactly = λ n. ((λ has. absurd (Contains-nothing n has)), λ m. absurd (false≢true m));
}

pub AreMarked-push : (marks : List Bool) (i : ℕ) (before after : List ℕ) → i < length marks
    → get_or marks i false ≡ true → after ≡ before ++ i ∷ [] → AreMarked (take i marks) before
    → AreMarked (take (i + 1) marks) after
AreMarked-push marks i before after h is pushed are = subst (AreMarked (take (i + 1) marks)) (sym pushed) (record {
  rising = all_pairs_push (λ m n. m < n) before i are.rising (λ k d low.
      let marked = (are.exactly (get_or before k d)).0 (Contains-get_or before k d low) in
      let within = marked_within (take i marks) (get_or before k d) marked in
      omega (arith, length-take i marks));
  exactly = λ n. (
    λ has. (marked-more marks i n).1 (elim (Contains-push_cases before i n has) [ inl had ↦ inl ((are.exactly n).0 had) | inr e ↦ inr (sym e, is) ]),
    λ marked. elim ((marked-more marks i n).0 marked) [
      | inl was ↦ Contains-append_left before (i ∷ []) n ((are.exactly n).1 was)
      | inr here ↦ rw here.0 (Contains-push before i)
    ],
  );
})

pub AreMarked-skip : (marks : List Bool) (i : ℕ) (before after : List ℕ) → i < length marks
    → get_or marks i false ≡ false → after ≡ before → AreMarked (take i marks) before
    → AreMarked (take (i + 1) marks) after
AreMarked-skip marks i before after h isnt same are = subst (AreMarked (take (i + 1) marks)) (sym same) (record {
  rising = are.rising;
  exactly = λ n. (
    λ has. (marked-more marks i n).1 (inl ((are.exactly n).0 has)),
    λ marked. (are.exactly n).1 ((marked-unset marks i n isnt).0 marked),
  );
})

-- the map of one number more
pub get-more : (kept : List ℕ) (i : ℕ) (m : FinMap nat_cmp ℕ) → i < length kept
    → ((n : ℕ) → get m n ≡ slice_get (take i kept) n) → (n : ℕ)
    → get (insert m i (get_or kept i 0)) n ≡ slice_get (take (i + 1) kept) n
get-more kept i m h so_far n = get-insert nat_cmp_total m i (get_or kept i 0) n ∙ at (cases_eq n i)
  where
    long : length (take i kept) ≡ i
    long = omega (arith, length-take i kept)

    longer : length (take (i + 1) kept) ≡ i + 1
    longer = omega (arith, length-take (i + 1) kept)

    same_elsewhere : n ≢ i → (n < i) ⊎ (i ≤ n)
        → slice_get (take i kept) n ≡ slice_get (take (i + 1) kept) n
    same_elsewhere ne (inl low) =
        let less : n < i + 1 = omega arith in
        slice_get-get_or (take i kept) n 0 (omega (arith, long))
        ∙ ap Some (get_or-take i kept n 0 low ∙ sym (get_or-take (i + 1) kept n 0 less))
        ∙ sym (slice_get-get_or (take (i + 1) kept) n 0 (omega (arith, longer)))
    same_elsewhere ne (inr high) = slice_get_past (take i kept) n (omega (arith, long)) ∙ sym (slice_get_past (take (i + 1) kept) n (omega (arith, longer)))

    at : (n ≡ i) ⊎ (n ≢ i)
        → cond (eq_by_cmp nat_cmp n i) (Some (get_or kept i 0)) (get m n)
        ≡ slice_get (take (i + 1) kept) n
    at (inl e) =
        let same : nat_eq n i ≡ true = eq-eqb n i e in
        let last : slice_get (take (i + 1) kept) n ≡ Some (get_or (take (i + 1) kept) n 0) = slice_get-get_or (take (i + 1) kept) n 0 (omega (arith, longer)) in
        let low : n < i + 1 = omega arith in
        let value : get_or (take (i + 1) kept) n 0 ≡ get_or kept i 0 = get_or-take (i + 1) kept n 0 low ∙ ap (λ j. get_or kept j 0) e in
        ap (λ b. cond b (Some (get_or kept i 0)) (get m n)) (same_test n i ∙ same) ∙ sym (last ∙ ap Some value)
    at (inr ne) =
        let differs : nat_eq n i ≡ false = ne_eqb n i ne in
        ap (λ b. cond b (Some (get_or kept i 0)) (get m n)) (same_test n i ∙ differs) ∙ so_far n ∙ same_elsewhere ne (cases_lt n i)

-- ---- the places of the kept numbers

pub within-none : (kept : List ℕ) (count : ℕ) → 0 < length kept
    → All (λ n. n < length kept) (replicate count 0)
within-none kept count some k d h = subst (λ n. n < length kept) (sym (get_or-replicate count k 0 d (omega (arith, length-replicate {A = ℕ} count 0)))) some

pub within-put : (kept numbers : List ℕ) (n i : ℕ) → i < length kept
    → All (λ m. m < length kept) numbers → All (λ m. m < length kept) (set numbers n i)
within-put kept numbers n i low all = All-set (λ m. m < length kept) numbers n i low all

-- with the place of one kept number more each of them has its place
pub places-put : (kept numbers : List ℕ) (i : ℕ) → AllPairs (λ m n. m < n) kept
    → All (λ n. n < length numbers) kept → i < length kept
    → ((k : ℕ) → k < i → get_or numbers (get_or kept k 0) 0 ≡ k) → (k : ℕ) → k < i + 1
    → get_or (set numbers (get_or kept i 0) i) (get_or kept k 0) 0 ≡ k
places-put kept numbers i rising there low places k h = elim (cases_eq k i) [
  | inl e ↦
      (let here : get_or kept i 0 < length numbers = there i 0 low in
      rw e (get_or-set_same numbers (get_or kept i 0) i 0 here))
  | inr ne ↦
      (let before : k < i = omega arith in
      let less = rising k i 0 before low in
      let other : get_or kept k 0 ≢ get_or kept i 0 = λ same. absurd (omega arith) in
      get_or-set_other numbers (get_or kept i 0) (get_or kept k 0) i 0 other ∙ places k before)
]
