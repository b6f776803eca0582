-- Part of what is promised.
-- The file whose bad states are the fair lassos of one file, made and printed. (AIGER 1.9,
-- "Properties": justice and fairness. Liveness to safety.)
use Rattle.std.specs.Prelude.{◌≡◌, ℕ, ◌^◌, ◌<◌, ◌↔◌, Bool, false, List, length, map, Option, Result, Ok, Err}
use Rattle.std.specs.Io.KnownBytes.{Appends}
use Rattle.aig_circuit.specs.Circuit.{Circuit}
use Rattle.aig_circuit.specs.Properties.{Properties}
use Rattle.aig_circuit.specs.View.{lists_circuit}
use Rattle.aig_circuit.specs.declared.view.CircuitLists.{CircuitLists}
use Rattle.aig_edit_laws.specs.Shown.{HasWitness}
use Rattle.aig_format.specs.Circuit.{IsReadAgain, circuit_of, edge_of, file_of, text_of}
use Rattle.aig_format.specs.declared.FileKind.TheVariants.{Text}
use Rattle.aig_format.specs.File.{File}
use Rattle.aig_format.specs.Writable.{FitsFormat}
use Rattle.aig_live.specs.Live.{IsLiveOf, live_size}
use Rattle.aig_edit_laws.specs.Fair.{AreAskedBy, HasFairLasso, LacksJustice}
use Rattle.aig_edit_laws.specs.declared.fairness.Fairness.{Fairness}
use Rattle.aig_output.specs.Sinks.{Stops}
use Rattle.aig_edits.specs.declared.edit_error.EditError.{EditError}
use Rattle.aig_edits.specs.declared.edit_error.EditError.TheVariants as errors

-- The circuit is the live one of what is asked for of the file, and its text is a file, whose
-- machine reaches its bad state at step k exactly where there is a fair lasso of k + 1 steps.
pub record IsLiveFile (fairness : Fairness) (f : File) (m : Circuit) : Type 0 where
  pub literals : List ℕ
  pub asked : AreAskedBy f fairness literals
  pub live : IsLiveOf (map (edge_of f) literals) (circuit_of f) m
  pub small : FitsFormat m
  pub again : IsReadAgain m (file_of Text m)
  pub shows : (k : ℕ) → HasWitness (file_of Text m) k ↔ HasFairLasso f fairness k

-- why nothing is asked for: there is no such justice property, or memory was refused where there is
abbrev pub IsUnasked : {E : Type 0} → Properties E → Fairness → EditError → Type 0
IsUnasked properties fairness errors.NoJustice = LacksJustice properties fairness
IsUnasked properties fairness errors.Memory = ¬ LacksJustice properties fairness
IsUnasked properties fairness e = ⊥

-- Why there is none. What is made depends on what is folded: that it is too large is said exactly
-- where the bound of its size passes the format's numbers.
abbrev pub IsLiveRefusal : Fairness → File → EditError → Type 0
IsLiveRefusal fairness f errors.TooLarge =
    (literals : List ℕ) × AreAskedBy f fairness literals
    × (2 ^ 31 < live_size (circuit_of f) (length literals))
IsLiveRefusal fairness f e = IsUnasked f.properties fairness e

-- the lists are those of the live circuit, or it is said why there are none
abbrev pub GivesLive : Fairness → File → Result CircuitLists EditError → Type 0
GivesLive fairness f (Ok lists) = IsLiveFile fairness f (lists_circuit lists)
GivesLive fairness f (Err e) = IsLiveRefusal fairness f e

-- its text was written, and the writer has not failed; or a beginning of it, and it has; or it is
-- said why there is none
abbrev pub PrintsLive : {W : Type 0} → (W → Option (List ℕ)) → (W → Bool) → Fairness → W → W
    → File → Result Unit EditError → Type 0
PrintsLive held failed fairness w made f (Ok done) =
    (m : Circuit) × IsLiveFile fairness f m × Appends (held w) (held made) (text_of m)
    × (failed made ≡ false)
PrintsLive held failed fairness w made f (Err errors.Write) =
    (m : Circuit) × IsLiveFile fairness f m
    × Stops (held w) (held made) (failed made) (text_of m)
PrintsLive held failed fairness w made f (Err e) = IsLiveRefusal fairness f e
