-- Part of what is promised.
-- Safety at every step, by induction over windows of steps. (Temporal induction, k-induction, and
-- its form over runs without a repeated state: Sheeran, Singh and Stålmarck, 2000; Bjesse and
-- Claessen, 2000.)
use Rattle.std.specs.Prelude.{◌≡◌, ℕ, ◌+◌, ◌/◌, ◌<◌, ◌≤◌, Bool}
use Rattle.std.specs.List.{AllByRecursion}
use Rattle.aig_format.specs.File.{File}
use Rattle.aig_format.specs.Machine.{IsMachineRun}
use Rattle.aig_runs.specs.declared.window.Window.{Window}
use Rattle.aig_runs.specs.declared.window.Window.TheVariants.{Plain, Distinct}
use Rattle.aig_runs.specs.Safety.{IsConstrained, IsGood}

-- the latches have the same values
abbrev pub IsSameState : File → (ℕ → Bool) → (ℕ → Bool) → Type 0
IsSameState f values other =
    AllByRecursion (λ l. values (l.literal / 2) ≡ other (l.literal / 2)) f.latches

-- of the steps 0 to last no two have the same state
abbrev pub HasDistinctStates : File → ℕ → (ℕ → ℕ → Bool) → Type 0
HasDistinctStates f last run = (s t : ℕ) → s < t → t ≤ last → ¬ IsSameState f (run s) (run t)

-- the form looks at the run
abbrev pub Regards : Window → File → ℕ → (ℕ → ℕ → Bool) → Type 0
Regards Plain f last run = Unit {0}
Regards Distinct f last run = HasDistinctStates f last run

-- a run of k + 2 steps, from any state, at which the form looks, with every constraint at each
-- step, and no bad literal at the steps 0 to k
pub record IsWindow (form : Window) (f : File) (k : ℕ) (run : ℕ → ℕ → Bool) : Type 0 where
  pub is_run : IsMachineRun f (k + 1) run
  pub constraints : (t : ℕ) → t ≤ k + 1 → IsConstrained f (run t)
  pub good : (t : ℕ) → t ≤ k → IsGood f (run t)
  pub states : Regards form f (k + 1) run

-- no window has a bad literal at its last step
abbrev pub IsKInductive : Window → File → ℕ → Type 0
IsKInductive form f k = (run : ℕ → ℕ → Bool) → IsWindow form f k run → IsGood f (run (k + 1))
