-- An inductive invariant holds at each step of a run from an initial state, and one that says that nothing is
-- bad is kept by each window of two steps.
use Rattle.std.proofs.Common.{◌≡◌, ◌↔◌, ℕ, zero, suc, ◌+◌, ◌<◌, ◌≤◌, Bool, IsTrue, subst, arith}
use Rattle.aig_format.proofs.Words.{File, IsMachineRun, IsMachineInitial, IsStep, Moves}
use Rattle.aig_runs.specs.Queries.{IsSafeTo}
use Rattle.aig_runs.specs.declared.window.Window.TheVariants.{Plain}
use Rattle.aig_runs.specs.Induction.{IsKInductive, IsWindow}
use Rattle.aig_runs.specs.Inductive.{IsInductive}
use Rattle.aig_runs.specs.Safety.{IsConstrained, IsGood}

module _ (f : File) (invariant : (ℕ → Bool) → Bool) (is : IsInductive f invariant) (last : ℕ) (run : ℕ → ℕ → Bool) (runs : IsMachineRun f last run) (start : IsMachineInitial f run) where
  holds_at : (t : ℕ) → t ≤ last → ((s : ℕ) → s ≤ t → IsConstrained f (run s)) → IsTrue (invariant (run t))
  holds_at zero low constraints = is.base (run 0) (runs.steps 0 low) start (constraints 0 (omega arith))
  holds_at (suc t) low constraints =
      let next : t + 1 ≡ suc t = omega arith in
      let moves = subst (λ n. Moves f (run t) (run n)) next (runs.moves t (omega arith)) in
      let before = holds_at t (omega arith) (λ s h. constraints s (omega arith)) in
      is.step (run t) (run (suc t)) (runs.steps t (omega arith)) (runs.steps (suc t) low) moves (constraints t (omega arith)) (constraints (suc t) (omega arith)) before

pub always_safe : (f : File) (invariant : (ℕ → Bool) → Bool) → IsInductive f invariant → (n : ℕ) → IsSafeTo f n
always_safe f invariant is n last t run runs start low within constraints =
    is.safe (run t) (runs.steps t low) (constraints t (omega arith)) (holds_at f invariant is last run runs start t low constraints)

-- ---- windows of two steps

-- one step, and one after it
abbrev two_steps : (ℕ → Bool) → (ℕ → Bool) → ℕ → ℕ → Bool
two_steps values after zero = values
two_steps values after (suc t) = after

two_steps-window : (f : File) (values after : ℕ → Bool) → IsStep f values → IsStep f after
    → Moves f values after → IsConstrained f values → IsConstrained f after → IsGood f values
    → IsWindow Plain f 0 (two_steps values after)
two_steps-window f values after step step_after move holds holds_after good = record {
  is_run = record { steps = steps; moves = moves };
  constraints = constraints;
  good = λ t low. good_first t low;
  states = tt;
}
  where
    steps : (t : ℕ) → t ≤ 0 + 1 → IsStep f (two_steps values after t)
    steps zero low = step
    steps (suc t) low = step_after

    moves : (t : ℕ) → t < 0 + 1 → Moves f (two_steps values after t) (two_steps values after (t + 1))
    moves zero low = move
    moves (suc t) low = absurd (omega arith)

    constraints : (t : ℕ) → t ≤ 0 + 1 → IsConstrained f (two_steps values after t)
    constraints zero low = holds
    constraints (suc t) low = holds_after

    good_first : (t : ℕ) → t ≤ 0 → IsGood f (two_steps values after t)
    good_first zero low = good
    good_first (suc t) low = absurd (omega arith)

module _ (f : File) (invariant : (ℕ → Bool) → Bool)
    (same : (values : ℕ → Bool) → IsTrue (invariant values) ↔ IsGood f values) where
  shown_by_windows : IsSafeTo f 0 → IsKInductive Plain f 0 → IsInductive f invariant
  shown_by_windows base step = record {
    base = λ values is starting holds.
        let stays = λ (t : ℕ). values in
        let run : IsMachineRun f 0 stays = record {
          steps = λ t low. is;
          moves = λ t low. absurd (omega arith);
        } in
        let good = base 0 0 stays run starting (omega arith) (omega arith) (λ s low. holds) in
        (same values).1 good;
    step = λ values after is is_after move holds holds_after here.
        let good = (same values).0 here in
        let window = two_steps-window f values after is is_after move holds holds_after good in
        (same after).1 (step (two_steps values after) window);
    safe = λ values is holds here. (same values).0 here;
  }

  kept_by_windows : IsInductive f invariant → IsKInductive Plain f 0
  kept_by_windows is run w =
      let steps = w.is_run.steps in
      let holds = w.constraints in
      let here = (same (run 0)).1 (w.good 0 (omega arith)) in
      let move = w.is_run.moves 0 (omega arith) in
      let next = is.step (run 0) (run 1) (steps 0 (omega arith)) (steps 1 (omega arith)) move
      (holds 0 (omega arith)) (holds 1 (omega arith)) here in
      (same (run 1)).0 next

  pub is_shown_by_windows : IsInductive f invariant ↔ (IsSafeTo f 0 × IsKInductive Plain f 0)
  is_shown_by_windows = (
    λ is. (always_safe f invariant is 0, kept_by_windows is),
    λ both. shown_by_windows both.0 both.1,
  )
