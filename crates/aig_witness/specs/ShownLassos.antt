-- Part of what is promised.
-- Witnesses of justice properties of a file's machine. (AIGER 1.9, "Witness format".)
use Rattle.std.specs.Prelude.{ℕ, ◌-◌, ◌<◌, Bool, List, length}
use Rattle.aig_format.specs.File.{File}
use Rattle.aig_format.specs.Machine.{IsMachineRun}
use Rattle.aig_edit_laws.specs.Fair.{AreAskedBy, IsFairLasso}
use Rattle.aig_edit_laws.specs.declared.fairness.Fairness.TheVariants.{Justice}
use Rattle.aig_witness.specs.Machine.{HasGiven}
use Rattle.aig_witness.specs.Witness.{Witness}

-- The witness shows a fair lasso of the justice property of its number, with a loop that starts at
-- step l: there is a run with the values that are given, and each such run is one.
pub record ShowsLasso (f : File) (w : Witness) (l : ℕ) : Type 0 where
  pub some : 0 < length w.steps
  pub there : (run : ℕ → ℕ → Bool) × IsMachineRun f (length w.steps - 1) run × HasGiven f w run
  pub asked : (literals : List ℕ) × AreAskedBy f (Justice w.bad) literals
  pub each : (run : ℕ → ℕ → Bool) → IsMachineRun f (length w.steps - 1) run → HasGiven f w run
      → IsFairLasso f asked.0 l (length w.steps - 1) run
