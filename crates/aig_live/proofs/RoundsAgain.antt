-- Rounds end again and again where each value is true again and again.
use Rattle.std.proofs.Common.{◌≡◌, ◌⊎◌, ℕ, zero, suc, ◌+◌, ◌-◌, ◌<◌, ◌≤◌, ◌&&◌, ◌||◌, max, Bool, true, false, not, cond, refl, sym, ap, subst, inl, inr, arith, IsTrue}
use Rattle.std.proofs.lemmas.Bool.{and_from, cases_lt, false≢true, or_right}
use Rattle.aig_live.specs.EndedRounds.{AreMetAgain, all_below, ends, now_of, rounds}
use Rattle.aig_live.proofs.Saving.{bool_cases}

or_first : (a b : Bool) → a ≡ true → (a || b) ≡ true
or_first true b e = refl
or_first false b e = absurd (false≢true e)

all_below-true : (m : ℕ) (p : ℕ → Bool) → ((e : ℕ) → e < m → p e ≡ true) → all_below m p ≡ true
all_below-true zero p each = refl
all_below-true (suc m) p each = and_from (all_below m p) (p m) (all_below-true m p (λ e h. each e
    (omega (arith, h)))) (each m (omega arith))

module _ (m : ℕ) (v : ℕ → ℕ → Bool) where
  -- a value that was true in a round that goes on is so still
  carried : (e s d : ℕ) → ((i : ℕ) → s ≤ i → i < s + d → ends m v i ≡ false) → v e s ≡ true
      → now_of m v (s + d) e ≡ true
  carried e s zero going is =
      let same : s + 0 ≡ s = omega arith in
      subst (λ i. now_of m v i e ≡ true) (sym same) (first s is)
    where
      first : (s : ℕ) → v e s ≡ true → now_of m v s e ≡ true
      first zero is = is
      first (suc s) is = or_right (now_of m v s e && not (all_below m (now_of m v s))) (v e
          (suc s)) is
  carried e s (suc d) going is =
      let before = carried e s d (λ i low high. going i low (omega (arith, high))) is in
      let still : ends m v (s + d) ≡ false = going (s + d) (omega arith) (omega arith) in
      let place : s + suc d ≡ suc (s + d) = omega arith in
      subst (λ i. now_of m v i e ≡ true) (sym place)
      (or_first (now_of m v (s + d) e && not (all_below m (now_of m v (s + d)))) (v e (suc (s + d)))
      (and_from (now_of m v (s + d) e) (not (all_below m (now_of m v (s + d)))) before
      (ap not still)))

  -- a round ends at one of so many steps, or at none
  ends_or_not : (t d : ℕ) → ((u : ℕ) × (t ≤ u) × (ends m v u ≡ true)) ⊎ ((i : ℕ) → t ≤ i
      → i < t + d → ends m v i ≡ false)
  ends_or_not t zero = inr (λ i low high. absurd (omega (arith, low, high)))
  ends_or_not t (suc d) = by (ends_or_not t d) (bool_cases (ends m v (t + d)))
    where
      by : ((u : ℕ) × (t ≤ u) × (ends m v u ≡ true)) ⊎ ((i : ℕ) → t ≤ i → i < t + d
          → ends m v i ≡ false)
          → (ends m v (t + d) ≡ true) ⊎ (ends m v (t + d) ≡ false)
          → ((u : ℕ) × (t ≤ u) × (ends m v u ≡ true)) ⊎ ((i : ℕ) → t ≤ i → i < t + suc d
          → ends m v i ≡ false)
      by (inl found) here = inl found
      by (inr none) (inl here) = inl (t + d, omega arith, here)
      by (inr none) (inr going) = inr (λ i low high. at i low high (cases_lt i (t + d)))
        where
          at : (i : ℕ) → t ≤ i → i < t + suc d → (i < t + d) ⊎ (t + d ≤ i) → ends m v i ≡ false
          at i low high (inl below) = none i low below
          at i low high (inr last) = let same : t + d ≡ i = omega (arith, high, last) in subst
              (λ s. ends m v s ≡ false) same going

  module _ (again : AreMetAgain m v) where
    -- a step by which each of the first values was true since t
    latest : (n : ℕ) → n ≤ m → (t : ℕ) → (u : ℕ) × (t ≤ u) × ((e : ℕ) → e < n
        → (s : ℕ) × (t ≤ s) × (s ≤ u) × (v e s ≡ true))
    latest zero h t = (t, omega arith, λ e low. absurd (omega (arith, low)))
    latest (suc n) h t =
        let before = latest n (omega (arith, h)) t in
        let one = again n t (omega (arith, h)) in
        (max before.0 one.0, omega (arith, before.1), λ e low. at e low (cases_lt e n) before one)
      where
        at : (e : ℕ) → e < suc n → (e < n) ⊎ (n ≤ e)
            → (before : (u : ℕ) × (t ≤ u) × ((e : ℕ) → e < n
            → (s : ℕ) × (t ≤ s) × (s ≤ u) × (v e s ≡ true)))
            → (one : (u : ℕ) × (t ≤ u) × IsTrue (v n u))
            → (s : ℕ) × (t ≤ s) × (s ≤ max before.0 one.0) × (v e s ≡ true)
        at e low (inl below) before one = let was = before.2 e below in (
          was.0,
          was.1,
          omega
              (arith, was.2),
          was.3,
        )
        at e low (inr last) before one =
            let same : n ≡ e = omega (arith, low, last) in
            (one.0, one.1, omega arith, subst (λ f. v f one.0 ≡ true) same one.2)

    -- a round ends at t or later
    ends_later : (t : ℕ) → (u : ℕ) × (t ≤ u) × (ends m v u ≡ true)
    ends_later t = by (latest m (omega arith) t)
      where
        by : (u : ℕ) × (t ≤ u) × ((e : ℕ) → e < m → (s : ℕ) × (t ≤ s) × (s ≤ u) × (v e s ≡ true))
            → (u : ℕ) × (t ≤ u) × (ends m v u ≡ true)
        by last = found (ends_or_not t (last.0 - t))
          where
            found : ((u : ℕ) × (t ≤ u) × (ends m v u ≡ true)) ⊎ ((i : ℕ) → t ≤ i
                → i < t + (last.0 - t) → ends m v i ≡ false)
                → (u : ℕ) × (t ≤ u) × (ends m v u ≡ true)
            found (inl is) = is
            found (inr going) = (
              last.0,
              last.1,
              all_below-true m (now_of m v last.0) (λ e low.
                  let was = last.2 e low in
                  let place : was.0 + (last.0 - was.0) ≡ last.0 = omega (arith, was.2) in
                  subst (λ i. now_of m v i e ≡ true) place
                  (carried e was.0 (last.0 - was.0) (λ i a b. going i (omega (arith, a, was.1))
                  (omega (arith, b, was.2, last.1))) was.3)),
            )

    rounds_rise : (t d : ℕ) → rounds m v t ≤ rounds m v (t + d)
    rounds_rise t zero = let same : t ≡ t + 0 = omega arith in subst
        (λ i. rounds m v t ≤ rounds m v i) same (omega arith)
    rounds_rise t (suc d) =
        let place : suc (t + d) ≡ t + suc d = omega arith in
        subst (λ i. rounds m v t ≤ rounds m v i) place (by (ends m v (t + d)) (rounds_rise t d))
      where
        by : (b : Bool) → rounds m v t ≤ rounds m v (t + d)
            → rounds m v t ≤ cond b (suc (rounds m v (t + d))) (rounds m v (t + d))
        by true h = omega (arith, h)
        by false h = h

    -- so there are as many rounds as one wants
    pub rounds_reach : (k : ℕ) → (t : ℕ) × (k ≤ rounds m v t)
    rounds_reach zero = (0, omega arith)
    rounds_reach (suc k) = by (rounds_reach k)
      where
        by : (t : ℕ) × (k ≤ rounds m v t) → (t : ℕ) × (suc k ≤ rounds m v t)
        by was =
            let next = ends_later was.0 in
            let place : was.0 + (next.0 - was.0) ≡ next.0 = omega (arith, next.1) in
            let more : rounds m v was.0 ≤ rounds m v next.0 = subst
            (λ i. rounds m v was.0 ≤ rounds m v i) place (rounds_rise was.0 (next.0 - was.0)) in
            let one : rounds m v (suc next.0) ≡ suc (rounds m v next.0) = ap (λ b. cond b (suc
            (rounds m v next.0)) (rounds m v next.0)) next.2 in
            (suc next.0, omega (arith, one, more, was.1))
