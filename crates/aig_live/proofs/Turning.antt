-- The steps of a lasso, taken without end.
use Rattle.std.proofs.Common.{◌≡◌, ◌⊎◌, ℕ, zero, suc, ◌+◌, ◌≤◌, ◌-◌, cond, ap, ◌∙◌, inl, inr, arith}
use Rattle.std.proofs.lemmas.Bool.{cases_eq, eq-eqb, ne_eqb}
use Rattle.aig_live.specs.Turning.{turn}

pub turn_last : (l k t : ℕ) → turn l k t ≡ k → turn l k (suc t) ≡ l
turn_last l k t e = ap (λ b. cond b l (suc (turn l k t))) (eq-eqb (turn l k t) k e)

pub turn_next : (l k t : ℕ) → (turn l k t ≡ k → ⊥) → turn l k (suc t) ≡ suc (turn l k t)
turn_next l k t e = ap (λ b. cond b l (suc (turn l k t))) (ne_eqb (turn l k t) k e)

module _ (l k : ℕ) (order : l ≤ k) where
  pub turn_within : (t : ℕ) → turn l k t ≤ k
  turn_within zero = omega arith
  turn_within (suc t) = by (turn_within t) (cases_eq (turn l k t) k)
    where
      by : turn l k t ≤ k → (turn l k t ≡ k) ⊎ (turn l k t ≡ k → ⊥) → turn l k (suc t) ≤ k
      by within (inl last) = omega (arith, turn_last l k t last, order)
      by within (inr more) = omega (arith, turn_next l k t more, within, more)

  -- so many steps further on, where the last step isn't passed
  turn_on : (t d : ℕ) → turn l k t + d ≤ k → turn l k (t + d) ≡ turn l k t + d
  turn_on t zero h =
      let same : t + 0 ≡ t = omega arith in
      let done : turn l k t ≡ turn l k t + 0 = omega arith in
      ap (turn l k) same ∙ done
  turn_on t (suc d) h =
      let before : turn l k (t + d) ≡ turn l k t + d = turn_on t d (omega (arith, h)) in
      let more : turn l k (t + d) ≡ k → ⊥ = λ e. omega (arith, h, e, before) in
      let place : t + suc d ≡ suc (t + d) = omega arith in
      let done : suc (turn l k (t + d)) ≡ turn l k t + suc d = omega (arith, before) in
      ap (turn l k) place ∙ turn_next l k (t + d) more ∙ done

  -- each step from l to k is taken again and again
  pub turn_again : (t s : ℕ) → l ≤ s → s ≤ k → (u : ℕ) × (t ≤ u) × (turn l k u ≡ s)
  turn_again t s low high =
      let d = k - turn l k t in
      let within = turn_within t in
      let at_end : turn l k t + d ≡ k = omega (arith, within) in
      let last : turn l k (t + d) ≡ k = turn_on t d (omega (arith, within)) ∙ at_end in
      let first : turn l k (suc (t + d)) ≡ l = turn_last l k (t + d) last in
      let there : turn l k (suc (t + d)) + (s - l) ≡ s = omega (arith, first, low) in (
        suc (t + d) + (s - l),
        omega arith,
        turn_on (suc (t + d)) (s - l) (omega (arith, first, low, high)) ∙ there,
      )
