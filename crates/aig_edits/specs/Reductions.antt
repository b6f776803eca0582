-- Part of what is promised.
-- What of one file its query needs, printed. (AIGER 1.9, "Properties" and "Reset logic"; the cone of
-- influence reduction; structural hashing.)
use Rattle.std.specs.Prelude.{◌≡◌, ℕ, Bool, false, List, Option, Result, Ok, Err}
use Rattle.std.specs.Io.KnownBytes.{Appends}
use Rattle.aig_circuit.specs.Circuit.{Circuit}
use Rattle.aig_format.specs.Circuit.{IsReadAgain, circuit_of, file_of, text_of}
use Rattle.aig_format.specs.declared.FileKind.TheVariants.{Text}
use Rattle.aig_format.specs.File.{File}
use Rattle.aig_format.specs.Writable.{FitsFormat}
use Rattle.aig_output.specs.Sinks.{Stops}
use Rattle.aig_edit_laws.specs.Reduction.{IsReduced}
use Rattle.aig_edits.specs.declared.edit_error.EditError.{EditError}
use Rattle.aig_edits.specs.declared.edit_error.EditError.TheVariants as errors
use Rattle.aig_edits.specs.Edits.{AreAsSafe}

-- the circuit is the reduction of the file's, and its text is a file, whose machine is as safe at
-- each step
pub record IsReductionOf (f : File) (m : Circuit) : Type 0 where
  pub reduced : IsReduced (circuit_of f) m
  pub small : FitsFormat m
  pub again : IsReadAgain m (file_of Text m)
  pub shows : AreAsSafe f (file_of Text m)

-- its text was written, and the writer has not failed; or a beginning of it, and it has; or memory
-- was refused
abbrev pub PrintsReduction : {W : Type 0} → (W → Option (List ℕ)) → (W → Bool) → W → W → File
    → Result Unit EditError → Type 0
PrintsReduction held failed w made f (Ok done) =
    (m : Circuit) × IsReductionOf f m × Appends (held w) (held made) (text_of m)
    × (failed made ≡ false)
PrintsReduction held failed w made f (Err errors.Write) =
    (m : Circuit) × IsReductionOf f m × Stops (held w) (held made) (failed made) (text_of m)
PrintsReduction held failed w made f (Err errors.Memory) = Unit {0}
PrintsReduction held failed w made f (Err e) = ⊥
