-- A circuit that is safe for some steps, and kept safe by each window of steps, is safe.
use Rattle.aig_base.proofs.Words.{◌≡◌, ℕ, zero, suc, ◌+◌, ◌-◌, ◌<◌, ◌≤◌, All, arith, cases_lt, inl, inr, subst}
use Rattle.aig_circuit.proofs.Words.{Circuit, edge_value}
use Rattle.aig_runs.specs.Safety.{IsCircuitSafeAt}
use Rattle.aig_steps.specs.Induction.{IsBadAt, IsCircuitInductive}

module _ (c : Circuit) (k : ℕ) (base : (t : ℕ) → t ≤ k → IsCircuitSafeAt c t)
    (step : IsCircuitInductive c k) where
  -- by induction over the length of a run
  safe_before : (m n : ℕ) → n < m → IsCircuitSafeAt c n
  safe_before zero n less w = absurd (omega arith)
  safe_before (suc m) n less w = elim (cases_lt k n) [
    | inr small ↦ base n small w
    -- the last k + 2 steps are a window
    | inl large ↦ (
        let run = w.0 in
        let s = n - (k + 1) in
        let end : s + (k + 1) ≡ n = omega arith in
        step (λ t. run (s + t)) (record {
          is_run = λ t low.
              let next : s + t + 1 ≡ s + (t + 1) = omega arith in
              subst (λ i. All (λ latch. run i latch.input ≡ edge_value c.nodes (run (s + t))
              latch.next) c.latchs) next (w.1.is_run (s + t) (omega arith));
          constrained = λ t low. w.1.constraints (s + t) (omega arith);
          good = λ t low bad. safe_before m (s + t) (omega arith) (
            run,
            record {
              is_run = λ i h. w.1.is_run i (omega arith);
              start = w.1.start;
              constraints = λ i h. w.1.constraints i (omega arith);
              bad = bad;
            },
          );
        }) (subst (IsBadAt c run) (sym_end n s k end) w.1.bad))
  ]
    where
      sym_end : (n s k : ℕ) → s + (k + 1) ≡ n → n ≡ s + (k + 1)
      sym_end n s k e = omega arith

pub inductive_are_safe : (c : Circuit) (k n : ℕ) → ((t : ℕ) → t ≤ k → IsCircuitSafeAt c t)
    → IsCircuitInductive c k → IsCircuitSafeAt c n
inductive_are_safe c k n base step = safe_before c k base step (suc n) n (omega arith)
