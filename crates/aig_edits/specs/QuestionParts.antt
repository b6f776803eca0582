-- Serves private clauses alone.
-- What the parts of a call that prints a question do.
use Rattle.std.specs.Prelude.{◌≡◌, ◌≢◌, ℕ, ◌<◌, ◌≤◌, List, [], length, Result, Ok, Err}
use Rattle.std.specs.FinMap.{empty}
use Rattle.aig_bounded.specs.Question.{IsQuestion, question_size}
use Rattle.aig_bounded.specs.declared.place.Place.{Place}
use Rattle.aig_circuit.specs.Circuit.{Circuit}
use Rattle.aig_circuit.specs.View.{lists_circuit}
use Rattle.aig_circuit.specs.declared.edge.AigEdge.{AigEdge}
use Rattle.aig_circuit.specs.declared.view.CircuitLists.{CircuitLists}
use Rattle.aig_edits.specs.declared.edit_error.EditError.{EditError}
use Rattle.aig_edits.specs.declared.edit_error.EditError.TheVariants as errors

-- the circuit without names
abbrev pub unnamed : Circuit → Circuit
unnamed c = record c { names = empty }

-- the question of a circuit with a bad edge, without names and within the limit
pub record IsPlainQuestion (k limit : ℕ) (c m : Circuit) : Type 0 where
  pub bads : c.properties.bads ≢ []
  pub output : AigEdge
  pub places : List Place
  pub asks : IsQuestion c k m output places
  pub small : length m.nodes ≤ limit
  pub names : m.names ≡ empty

-- the lists are its, or it is said why there is none
abbrev pub AsksOf : ℕ → ℕ → Circuit → Result CircuitLists EditError → Type 0
AsksOf k limit c (Ok lists) = IsPlainQuestion k limit c (lists_circuit lists)
AsksOf k limit c (Err errors.NoBads) = c.properties.bads ≡ []
AsksOf k limit c (Err errors.QuestionTooLarge) =
    (c.properties.bads ≢ []) × (limit < question_size c k)
AsksOf k limit c (Err errors.Memory) = c.properties.bads ≢ []
AsksOf k limit c (Err e) = ⊥
