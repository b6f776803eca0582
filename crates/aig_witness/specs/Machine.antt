-- Part of what is promised.
-- Witnesses of a file's machine. (AIGER 1.9, "Witness format".)
use Rattle.std.specs.Prelude.{◌≡◌, ◌≢◌, ℕ, ◌-◌, ◌/◌, ◌<◌, Bool, Some, IsTrue, List, length, slice_get}
use Rattle.std.specs.List.{AllByRecursion, AllZip}
use Rattle.aig_base.specs.declared.logic.three.Lbool.TheVariants.{NONE}
use Rattle.aig_base.specs.declared.logic.three.Lbool.{Lbool}
use Rattle.aig_base.specs.Three.{Agrees}
use Rattle.aig_format.specs.File.{File}
use Rattle.aig_format.specs.Machine.{IsMachineRun, value_of_literal}
use Rattle.aig_runs.specs.Queries.{IsWitness}
use Rattle.aig_witness.specs.Witness.{Witness}

-- the run has the values that are given, of the state at step 0 and of the inputs at each step
pub record HasGiven (f : File) (w : Witness) (run : ℕ → ℕ → Bool) : Type 0 where
  pub state : AllZip (λ l known. Agrees known (run 0 (l.literal / 2))) f.latches w.state
  pub inputs : (t : ℕ) (line : List Lbool) → slice_get w.steps t ≡ Some line
      → AllZip (λ e known. Agrees known (run t (e / 2))) f.inputs line

-- The witness shows a bad state: there is a run with the values that are given, and each such run
-- is from an initial state, meets every constraint, and has the named bad literal at its last step.
pub record ShowsBad (f : File) (w : Witness) : Type 0 where
  pub some : 0 < length w.steps
  pub there : (run : ℕ → ℕ → Bool) × IsMachineRun f (length w.steps - 1) run × HasGiven f w run
  pub named : (e : ℕ) × (slice_get f.properties.bads w.bad ≡ Some e)
  pub each : (run : ℕ → ℕ → Bool) → IsMachineRun f (length w.steps - 1) run → HasGiven f w run
      → IsWitness f (length w.steps - 1) run
      × IsTrue (value_of_literal (run (length w.steps - 1)) named.0)

-- every value is known
pub record IsGiven (w : Witness) : Type 0 where
  pub state : AllByRecursion (λ known. known ≢ NONE) w.state
  pub steps : AllByRecursion (AllByRecursion (λ known. known ≢ NONE)) w.steps
