-- A machine that is safe for some steps, and kept safe by each window of steps, is safe.
use Rattle.aig_base.proofs.Words.{◌≡◌, ℕ, zero, suc, ◌+◌, ◌-◌, ◌<◌, ◌≤◌, Bool, subst, inl, inr, arith, cases_lt}
use Rattle.aig_format.proofs.Words.{File, IsMachineRun, IsMachineInitial, Moves}
use Rattle.aig_runs.specs.Queries.{IsSafeTo}
use Rattle.aig_runs.proofs.SafeSteps.{run_cut}
use Rattle.aig_runs.specs.declared.window.Window.{Window}
use Rattle.aig_runs.specs.declared.window.Window.TheVariants.{Plain, Distinct}
use Rattle.aig_runs.specs.Safety.{IsConstrained, IsGood}
use Rattle.aig_runs.specs.Induction.{IsKInductive, IsSameState}
use Rattle.aig_runs.proofs.Splicing.{repeats_or_not, spliced, spliced-after, spliced_each, spliced_run, spliced_start}

-- the steps of a run from step s on
window : (f : File) (last s k : ℕ) (run : ℕ → ℕ → Bool) → IsMachineRun f last run → s + k ≤ last → IsMachineRun f k (λ t. run (s + t))
window f last s k run is h = record {
  steps = λ t l. is.steps (s + t) (omega arith);
  moves = λ t l.
      let next : s + t + 1 ≡ s + (t + 1) = omega arith in
      subst (λ n. Moves f (run (s + t)) (run n)) next (is.moves (s + t) (omega arith));
}

module _ (f : File) (k : ℕ) (base : IsSafeTo f k) (step : IsKInductive Distinct f k) where
  -- no bad literal holds at the end of a run from an initial state, by induction over its length
  good_at : (m n : ℕ) → n < m → (run : ℕ → ℕ → Bool) → IsMachineRun f n run → IsMachineInitial f run → ((t : ℕ) → t ≤ n → IsConstrained f (run t)) → IsGood f (run n)
  good_at zero n less run is start constraints = absurd (omega arith)
  good_at (suc m) n less run is start constraints = elim (cases_lt k n) [
    | inr small ↦ base n n run is start (omega arith) small constraints
    | inl large ↦ (elim (repeats_or_not f (λ u. run (n - (k + 1) + u)) (k + 1)) [
      -- the last k + 2 steps are a window
      | inr distinct ↦ (
          let s = n - (k + 1) in
          let end : s + (k + 1) ≡ n = omega arith in
          subst (λ t. IsGood f (run t)) end (step (λ u. run (s + u)) (record {
            is_run = window f n s (k + 1) run is (omega arith);
            constraints = λ u h. constraints (s + u) (omega arith);
            good = λ u h. good_at m (s + u) (omega arith) run (run_cut f n (s + u) run is (omega arith)) start (λ t low. constraints t (omega arith));
            states = distinct;
          })))
      -- a shorter run ends so
      | inl found ↦ (
          let s = n - (k + 1) + found.0 in
          let order = found.2 in
          let within = found.3 in
          let gap = found.1 - found.0 in
          let last = n - gap in
          let whole : n ≡ last + gap = omega arith in
          let far : n - (k + 1) + found.1 ≡ s + gap = omega arith in
          let same = subst (λ t. IsSameState f (run s) (run t)) far found.4 in
          let long = subst (λ l. IsMachineRun f l run) whole is in
          let held : (t : ℕ) → t ≤ last + gap → IsConstrained f (run t) = λ t low. constraints t (omega arith) in
          let good = good_at m last (omega arith) (spliced s gap run) (spliced_run s gap run f last long same) (spliced_start s gap run f last long same start) (spliced_each s gap run (IsConstrained f) last held) in
          let is_end = spliced-after s gap run last (omega arith) in
          subst (λ t. IsGood f (run t)) (whole_again n last gap whole) (subst (IsGood f) is_end good))
    ])
  ]
    where
      whole_again : (n last gap : ℕ) → n ≡ last + gap → last + gap ≡ n
      whole_again n last gap is = omega arith

-- a form that looks at more runs shows more
as_distinct : (form : Window) (f : File) (k : ℕ) → IsKInductive form f k → IsKInductive Distinct f k
as_distinct Plain f k step = λ run w. step run (record { is_run = w.is_run; constraints = w.constraints; good = w.good; states = tt })
as_distinct Distinct f k step = step

pub always_safe_by_windows : (form : Window) (f : File) (k : ℕ) → IsSafeTo f k → IsKInductive form f k → (n : ℕ) → IsSafeTo f n
always_safe_by_windows form f k base step n last t run is start low within constraints =
    good_at f k base (as_distinct form f k step) (suc t) t (omega arith) run (run_cut f last t run is low) start constraints
