-- Part of what is promised.
-- Machines of two files that have the same inputs, and whose outputs and bad states are the same.
use Rattle.std.specs.Prelude.{◌≡◌, ℕ, ◌/◌, ◌≤◌, Bool, ◌++◌, length}
use Rattle.std.specs.List.{AllZip}
use Rattle.aig_format.specs.File.{File}
use Rattle.aig_format.specs.Machine.{IsMachineInitial, IsMachineRun, value_of_literal}
use Rattle.aig_runs.specs.Safety.{IsConstrained}

-- the files have as many inputs, as many outputs and as many bad literals
pub record HaveSameFileCounts (f g : File) : Type 0 where
  pub inputs : length f.inputs ≡ length g.inputs
  pub outputs : length f.properties.outputs ≡ length g.properties.outputs
  pub bads : length f.properties.bads ≡ length g.properties.bads

-- the file has as many inputs and latches as the other, or more
pub record HasLinesOf (g f : File) : Type 0 where
  pub inputs : length f.inputs ≤ length g.inputs
  pub latches : length f.latches ≤ length g.latches

-- the inputs have the same values, one for one
abbrev pub HaveSameFileInputs : File → File → (ℕ → Bool) → (ℕ → Bool) → Type 0
HaveSameFileInputs f g values other =
    AllZip (λ d e. values (d / 2) ≡ other (e / 2)) f.inputs g.inputs

-- outputs and bad literals have the same values, one for one
abbrev pub FilesCompareEqual : File → File → (ℕ → Bool) → (ℕ → Bool) → Type 0
FilesCompareEqual f g values other =
    AllZip (λ d e. value_of_literal values d ≡ value_of_literal other e)
    (f.properties.outputs ++ f.properties.bads) (g.properties.outputs ++ g.properties.bads)

-- a run of k + 1 steps from an initial state that meets the constraints at each step
pub record IsAllowedMachineRun (f : File) (k : ℕ) (run : ℕ → ℕ → Bool) : Type 0 where
  pub is_run : IsMachineRun f k run
  pub start : IsMachineInitial f run
  pub constraints : (t : ℕ) → t ≤ k → IsConstrained f (run t)

-- on all such runs of both machines that have the same inputs at each step, outputs and bad
-- literals are the same at step k
abbrev pub AreEqualMachinesAt : File → File → ℕ → Type 0
AreEqualMachinesAt f g k =
    (run other : ℕ → ℕ → Bool) → IsAllowedMachineRun f k run → IsAllowedMachineRun g k other
    → ((t : ℕ) → t ≤ k → HaveSameFileInputs f g (run t) (other t))
    → FilesCompareEqual f g (run k) (other k)
