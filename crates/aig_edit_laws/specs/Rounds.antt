-- Part of what is promised.
-- Runs of a file's machine in which so many rounds end. (AIGER 1.9, "Properties": justice and
-- fairness. k-liveness.)
use Rattle.std.specs.Prelude.{ℕ, suc, ◌≤◌, Bool, List, length, slice_index_or}
use Rattle.aig_edit_laws.specs.Shown.{IsAllowedMachineRun}
use Rattle.aig_format.specs.File.{File}
use Rattle.aig_format.specs.Machine.{value_of_literal}
use Rattle.aig_live.specs.EndedRounds.{rounds}
use Rattle.aig_edit_laws.specs.Fair.{AreAskedBy}
use Rattle.aig_edit_laws.specs.declared.fairness.Fairness.{Fairness}

-- A run of k + 1 steps from an initial state, with every constraint at each step, in which so many
-- rounds end: a round ends with the step by which each of the literals was true in it.
pub record IsMachineRounds (f : File) (literals : List ℕ) (count k : ℕ) (run : ℕ → ℕ → Bool)
    : Type 0 where
  pub allowed : IsAllowedMachineRun f k run
  pub ended : count
      ≤ rounds (length literals)
      (λ i t. value_of_literal (run t) (slice_index_or literals i 0)) (suc k)

-- there is such a run for the literals that are asked for
abbrev pub HasMachineRounds : File → Fairness → ℕ → ℕ → Type 0
HasMachineRounds f fairness count k =
    (literals : List ℕ) × AreAskedBy f fairness literals
    × ((run : ℕ → ℕ → Bool) × IsMachineRounds f literals count k run)
