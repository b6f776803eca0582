-- Part of what is promised.
-- The question of a bounded check of one file, printed. (Bounded model checking; AIGER 1.9,
-- "Properties" and "Reset logic".)
use Rattle.std.specs.Prelude.{◌≡◌, ◌≢◌, ℕ, ◌<◌, ◌≤◌, ◌↔◌, Bool, false, List, [], length, Option, Result, Ok, Err}
use Rattle.std.specs.Io.KnownBytes.{Appends}
use Rattle.aig_bounded.specs.Question.{IsQuestion, question_size}
use Rattle.aig_bounded.specs.declared.place.Place.{Place}
use Rattle.aig_circuit.specs.Circuit.{Circuit}
use Rattle.aig_circuit.specs.declared.edge.AigEdge.{AigEdge}
use Rattle.aig_edit_laws.specs.Shown.{HasOutput, HasWitness}
use Rattle.aig_format.specs.Circuit.{IsReadAgain, circuit_of, file_of, text_of}
use Rattle.aig_format.specs.declared.FileKind.TheVariants.{Text}
use Rattle.aig_format.specs.File.{File}
use Rattle.aig_output.specs.Sinks.{Stops}
use Rattle.aig_edits.specs.declared.edit_error.EditError.{EditError}
use Rattle.aig_edits.specs.declared.edit_error.EditError.TheVariants as errors

-- The circuit asks whether the machine of a file with a bad literal reaches a bad state up to step
-- k. Its text is a file within the limit, whose output can be true exactly where it does.
pub record IsQuestionOf (k limit : ℕ) (f : File) (m : Circuit) : Type 0 where
  pub bads : f.properties.bads ≢ []
  pub output : AigEdge
  pub places : List Place
  pub asks : IsQuestion (circuit_of f) k m output places
  pub small : length m.nodes ≤ limit
  pub again : IsReadAgain m (file_of Text m)
  pub shows : HasOutput (file_of Text m) 0 ↔ ((t : ℕ) × (t ≤ k) × HasWitness f t)

-- Why there is no question. What is too large depends on what is folded: it is said only where the
-- bound of what is made passes the limit.
abbrev pub IsQuestionRefusal : ℕ → ℕ → File → EditError → Type 0
IsQuestionRefusal k limit f errors.NoBads = f.properties.bads ≡ []
IsQuestionRefusal k limit f errors.QuestionTooLarge =
    (f.properties.bads ≢ []) × (limit < question_size (circuit_of f) k)
IsQuestionRefusal k limit f errors.Memory = f.properties.bads ≢ []
IsQuestionRefusal k limit f e = ⊥

-- its text was written, and the writer has not failed; or a beginning of it, and it has; or it is
-- said why there is none
abbrev pub PrintsQuestion : {W : Type 0} → (W → Option (List ℕ)) → (W → Bool) → ℕ → ℕ → W → W
    → File → Result Unit EditError → Type 0
PrintsQuestion held failed k limit w made f (Ok done) =
    (m : Circuit) × IsQuestionOf k limit f m × Appends (held w) (held made) (text_of m)
    × (failed made ≡ false)
PrintsQuestion held failed k limit w made f (Err errors.Write) =
    (m : Circuit) × IsQuestionOf k limit f m
    × Stops (held w) (held made) (failed made) (text_of m)
PrintsQuestion held failed k limit w made f (Err e) = IsQuestionRefusal k limit f e
