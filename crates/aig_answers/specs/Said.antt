-- Part of what is promised.
-- The witness that a solver's answer to the clauses of a file's question says. (Bounded model
-- checking; AIGER 1.9, "Witness format".)
use Rattle.std.specs.Prelude.{◌≡◌, ◌≢◌, ℕ, ◌↔◌, Bool, IsTrue, Option, Some, MatchOption, List, slice_get, slice_index}
use Rattle.std.specs.List.{AllZip}
use Rattle.aig_base.specs.declared.logic.three.Lbool.{Lbool}
use Rattle.aig_base.specs.declared.logic.three.Lbool.TheVariants.{TRUE, NONE}
use Rattle.aig_circuit.specs.declared.node.AigLatch.{AigLatch}
use Rattle.aig_circuit.specs.Circuit.{Circuit}
use Rattle.aig_bounded.specs.declared.place.Place.{Place}
use Rattle.aig_format.specs.Circuit.{circuit_of}
use Rattle.aig_format.specs.File.{File}
use Rattle.aig_witness.specs.Shown.{known_of}
use Rattle.aig_witness.specs.Witness.{Witness}
use Rattle.aig_answers.specs.declared.bounded_checks.clauses.BoundedClauses.{BoundedClauses}
use Rattle.aig_answers.specs.Asking.{AreSaid, AsksBounded, assigned}

-- y makes an input of the question true that stands at this leaf at the step
abbrev pub IsSaidTrue : List ℕ → List Place → (ℕ → Bool) → ℕ → ℕ → Type 0
IsSaidTrue inputs places y step leaf =
    (i : ℕ) × (slice_get places i ≡ Some (record { step = step; leaf = leaf }))
    × IsTrue (y (slice_index inputs i))

-- the value is true where it does, and else false: also where no input stands there
abbrev pub IsSaid : List ℕ → List Place → (ℕ → Bool) → ℕ → ℕ → Lbool → Type 0
IsSaid inputs places y step leaf value =
    (value ≢ NONE) × ((value ≡ TRUE) ↔ IsSaidTrue inputs places y step leaf)

-- so is that of a latch at step 0, unless it has an initial edge: then it is this edge's
abbrev pub IsSaidStart : List ℕ → List Place → (ℕ → Bool) → AigLatch → Lbool → Type 0
IsSaidStart inputs places y latch value =
    MatchOption latch.init (IsSaid inputs places y 0 latch.input value)
    (λ e. value ≡ known_of e.compl)

-- the values of the witness are those that y says of the latches at step 0, and of the inputs at
-- each step that it has
pub record SaysRun (c : Circuit) (inputs : List ℕ) (places : List Place) (y : ℕ → Bool)
    (w : Witness) : Type 0 where
  pub state : AllZip (IsSaidStart inputs places y) c.latchs w.state
  pub steps : (t : ℕ) (row : List Lbool) → slice_get w.steps t ≡ Some row
      → AllZip (IsSaid inputs places y t) c.inputs row

-- a solver's answer to the clauses says the witness; a variable that it leaves unknown is false
abbrev pub SaysValues : Option (List ℕ) → BoundedClauses → Circuit → Witness → Type 0
SaysValues text made c w =
    (values : List Lbool) × AreSaid text made values
    × SaysRun c made.question.circuit.inputs.items made.question.places.items (assigned values) w

-- the file has a question, and the answer to the clauses of each says the witness
-- (`bounded_clauses_are_one`)
abbrev pub SaysWitness : Option (List ℕ) → ℕ → Bool → File → Witness → Type 0
SaysWitness text k optimize f w =
    ((made : BoundedClauses) × AsksBounded f k optimize made)
    × ((made : BoundedClauses) → AsksBounded f k optimize made
    → SaysValues text made (circuit_of f) w)
