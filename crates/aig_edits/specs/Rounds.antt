-- Part of what is promised.
-- The file whose bad states are rounds of one file, made and printed. (AIGER 1.9, "Properties":
-- justice and fairness. k-liveness.)
use Rattle.std.specs.Prelude.{◌≡◌, ℕ, ◌^◌, ◌<◌, ◌↔◌, Bool, false, List, length, map, Option, Result, Ok, Err}
use Rattle.std.specs.Io.KnownBytes.{Appends}
use Rattle.aig_circuit.specs.Circuit.{Circuit}
use Rattle.aig_circuit.specs.View.{lists_circuit}
use Rattle.aig_circuit.specs.declared.view.CircuitLists.{CircuitLists}
use Rattle.aig_edit_laws.specs.Shown.{HasWitness}
use Rattle.aig_format.specs.Circuit.{IsReadAgain, circuit_of, edge_of, file_of, text_of}
use Rattle.aig_format.specs.declared.FileKind.TheVariants.{Text}
use Rattle.aig_format.specs.File.{File}
use Rattle.aig_format.specs.Writable.{FitsFormat}
use Rattle.aig_live.specs.Rounds.{IsRoundsOf, rounds_size}
use Rattle.aig_edit_laws.specs.Fair.{AreAskedBy, HasFairRun}
use Rattle.aig_edit_laws.specs.declared.fairness.Fairness.{Fairness}
use Rattle.aig_edit_laws.specs.Rounds.{HasMachineRounds}
use Rattle.aig_output.specs.Sinks.{Stops}
use Rattle.aig_edits.specs.Lives.{IsUnasked}
use Rattle.aig_edits.specs.declared.edit_error.EditError.{EditError}
use Rattle.aig_edits.specs.declared.edit_error.EditError.TheVariants as errors

-- The circuit counts so many rounds of what is asked for of the file, and its text is a file; its
-- machine reaches its bad state at step k exactly where so many end in a run of k + 1 steps. Where
-- it never does, there is no fair run.
pub record IsRoundsFile (fairness : Fairness) (count : ℕ) (f : File) (m : Circuit) : Type 0 where
  pub literals : List ℕ
  pub asked : AreAskedBy f fairness literals
  pub rounds : IsRoundsOf (map (edge_of f) literals) count (circuit_of f) m
  pub small : FitsFormat m
  pub again : IsReadAgain m (file_of Text m)
  pub shows : (k : ℕ) → HasWitness (file_of Text m) k ↔ HasMachineRounds f fairness count k
  pub none : ((k : ℕ) → ¬ HasWitness (file_of Text m) k) → ¬ HasFairRun f fairness

-- Why there is none. What is made depends on what is folded: that it is too large is said exactly
-- where the bound of its size passes the format's numbers.
abbrev pub IsRoundsRefusal : Fairness → ℕ → File → EditError → Type 0
IsRoundsRefusal fairness count f errors.TooLarge =
    (literals : List ℕ) × AreAskedBy f fairness literals
    × (2 ^ 31 < rounds_size (circuit_of f) (length literals) count)
IsRoundsRefusal fairness count f e = IsUnasked f.properties fairness e

-- the lists are those of the circuit that counts its rounds, or it is said why there are none
abbrev pub GivesRounds : Fairness → ℕ → File → Result CircuitLists EditError → Type 0
GivesRounds fairness count f (Ok lists) = IsRoundsFile fairness count f (lists_circuit lists)
GivesRounds fairness count f (Err e) = IsRoundsRefusal fairness count f e

-- its text was written, and the writer has not failed; or a beginning of it, and it has; or it is
-- said why there is none
abbrev pub PrintsRounds : {W : Type 0} → (W → Option (List ℕ)) → (W → Bool) → Fairness → ℕ → W → W
    → File → Result Unit EditError → Type 0
PrintsRounds held failed fairness count w made f (Ok done) =
    (m : Circuit) × IsRoundsFile fairness count f m
    × Appends (held w) (held made) (text_of m)
    × (failed made ≡ false)
PrintsRounds held failed fairness count w made f (Err errors.Write) =
    (m : Circuit) × IsRoundsFile fairness count f m
    × Stops (held w) (held made) (failed made) (text_of m)
PrintsRounds held failed fairness count w made f (Err e) = IsRoundsRefusal fairness count f e
