-- Among more numbers than there are two are the same.
use Rattle.aig_base.proofs.Words.{◌≡◌, ◌≢◌, ◌⊎◌, ℕ, zero, suc, ◌<◌, ◌≤◌, true, List, [], ◌∷◌, length, get_or, eqb, refl, sym, ap, subst, ◌∙◌, inl, inr, arith, list_any, or_cases, eqb-true, cases_eq, cases_lt, false≢true, AllPairs, IsDistinct-from_AllPairs, length-le_from_distinct_below, Decides-eqb}

-- the first so many values
values : (ℕ → ℕ) → ℕ → List ℕ
values g zero = []
values g (suc n) = g 0 ∷ values (λ i. g (suc i)) n

values-long : (g : ℕ → ℕ) (n : ℕ) → length (values g n) ≡ n
unfolding values
values-long g zero = refl
values-long g (suc n) = ap suc (values-long (λ i. g (suc i)) n)

values-at : (g : ℕ → ℕ) (n i d : ℕ) → i < n → get_or (values g n) i d ≡ g i
unfolding values
values-at g zero i d h = absurd (omega arith)
values-at g (suc n) zero d h = refl
values-at g (suc n) (suc i) d h = values-at (λ j. g (suc j)) n i d (omega arith)

values-below : (g : ℕ → ℕ) (n m : ℕ) → ((i : ℕ) → i < n → g i < m) → (q : ℕ)
    → list_any (eqb q) (values g n) ≡ true → q < m
unfolding values
values-below g zero m low q h = absurd (false≢true h)
values-below g (suc n) m low q h = by (values-below (λ i. g (suc i)) n m (λ i l. low (suc i)
    (omega arith)) q) (or_cases (eqb q (g 0)) (list_any (eqb q) (values (λ i. g (suc i)) n)) h)
  where
    by : (list_any (eqb q) (values (λ i. g (suc i)) n) ≡ true → q < m)
        → (eqb q (g 0) ≡ true) ⊎ (list_any (eqb q) (values (λ i. g (suc i)) n) ≡ true) → q < m
    by rest (inl first) = let same = eqb-true q (g 0) first in omega (
      arith,
      same,
      low 0
          (omega arith),
    )
    by rest (inr later) = rest later

-- two of the first so many values are the same
pub record Repeats (g : ℕ → ℕ) (n : ℕ) : Type 0 where
  pub i : ℕ
  pub j : ℕ
  pub order : i < j
  pub within : j < n
  pub same : g i ≡ g j

-- value j is that of one of the first i, or of none
earlier : (g : ℕ → ℕ) (j i : ℕ) → ((m : ℕ) × (m < i) × (g m ≡ g j)) ⊎ ((m : ℕ) → m < i → g m ≢ g j)
earlier g j zero = inr (λ m h e. absurd (omega (arith, h)))
earlier g j (suc i) = by (earlier g j i) (cases_eq (g i) (g j))
  where
    by : ((m : ℕ) × (m < i) × (g m ≡ g j)) ⊎ ((m : ℕ) → m < i → g m ≢ g j)
        → (g i ≡ g j) ⊎ (g i ≡ g j → ⊥)
        → ((m : ℕ) × (m < suc i) × (g m ≡ g j)) ⊎ ((m : ℕ) → m < suc i → g m ≢ g j)
    by (inl was) here = inl (was.0, omega (arith, was.1), was.2)
    by (inr none) (inl same) = inl (i, omega arith, same)
    by (inr none) (inr differ) = inr (λ m h e. by_place m h e (cases_lt m i))
      where
        by_place : (m : ℕ) → m < suc i → g m ≡ g j → (m < i) ⊎ (i ≤ m) → ⊥
        by_place m h e (inl low) = none m low e
        by_place m h e (inr high) = let at : m ≡ i = omega (arith, h, high) in differ (subst
            (λ s. g s ≡ g j) at e)

-- they repeat, or no two are the same
repeats_or_not : (g : ℕ → ℕ) (n : ℕ) → Repeats g n ⊎ ((i j : ℕ) → i < j → j < n → g i ≢ g j)
repeats_or_not g zero = inr (λ i j h l e. absurd (omega (arith, l)))
repeats_or_not g (suc n) = by (repeats_or_not g n) (earlier g n n)
  where
    by : Repeats g n ⊎ ((i j : ℕ) → i < j → j < n → g i ≢ g j)
        → ((m : ℕ) × (m < n) × (g m ≡ g n)) ⊎ ((m : ℕ) → m < n → g m ≢ g n)
        → Repeats g (suc n) ⊎ ((i j : ℕ) → i < j → j < suc n → g i ≢ g j)
    by (inl r) here = inl (record {
      i = r.i;
      j = r.j;
      order = r.order;
      within = omega
          (arith, r.within);
      same = r.same;
    })
    by (inr none) (inl found) = inl
        (record { i = found.0; j = n; order = found.1; within = omega arith; same = found.2 })
    by (inr none) (inr new) = inr (λ i j h l e. by_place i j h l e (cases_lt j n))
      where
        by_place : (i j : ℕ) → i < j → j < suc n → g i ≡ g j → (j < n) ⊎ (n ≤ j) → ⊥
        by_place i j h l e (inl low) = none i j h low e
        by_place i j h l e (inr high) =
            let at : j ≡ n = omega (arith, l, high) in
            new i (omega (arith, h, at)) (subst (λ s. g i ≡ g s) at e)

-- one more value than there are numbers below m
pub repeats : (g : ℕ → ℕ) (m : ℕ) → ((i : ℕ) → i < suc m → g i < m) → Repeats g (suc m)
repeats g m low = by (repeats_or_not g (suc m))
  where
    by : Repeats g (suc m) ⊎ ((i j : ℕ) → i < j → j < suc m → g i ≢ g j) → Repeats g (suc m)
    by (inl r) = r
    by (inr none) =
        let long = values-long g (suc m) in
        let pairs : AllPairs (λ a b. a ≢ b) (values g (suc m)) = λ i j d h l e.
        none i j h (omega (arith, l, long))
        (sym (values-at g (suc m) i d (omega (arith, h, l, long))) ∙ e
        ∙ values-at g (suc m) j d (omega (arith, l, long))) in
        let few = length-le_from_distinct_below (values g (suc m)) m
        (IsDistinct-from_AllPairs Decides-eqb (values g (suc m)) pairs) (values-below g
        (suc m) m low) in
        absurd (omega (arith, few, long))
