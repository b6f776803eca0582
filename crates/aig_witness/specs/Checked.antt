-- Part of what is promised.
-- The witness that a solver's answer says, and why it is refused. (Bounded model checking; AIGER
-- 1.9, "Witness format".)
use Rattle.std.specs.Prelude.{◌≡◌, ℕ, Bool, List, length, Option, IfSome, Ok, Err}
use Rattle.aig_base.specs.declared.logic.three.Lbool.{Lbool}
use Rattle.aig_encode.specs.declared.encoding.Encoded.{Encoded}
use Rattle.aig_runs.specs.Queries.{last_bads}
use Rattle.aig_witness.specs.declared.solutions.error.SolutionError.{SolutionError}
use Rattle.aig_witness.specs.declared.solutions.error.SolutionError.TheVariants as errors
use Rattle.aig_witness.specs.SolverAnswers.{GivesSolution, solution_in}
use Rattle.aig_witness.specs.Solutions.{HasNoTrue, IsWitnessIn}
use Rattle.aig_witness.specs.Witness.{Witness}
use Rattle.aig_witness.specs.Answers.{IsWrong}

-- there is a value for each variable of the clauses; where the bytes of a solver's answer are
-- known, these are the values that they say
abbrev pub AreSaid : Option (List ℕ) → Encoded → List Lbool → Type 0
AreSaid text e values =
    (length values ≡ length e.clauses)
    × IfSome text (λ bytes. solution_in (length e.clauses) bytes ≡ Ok values)

-- the witness is the one that such values say
pub record SaysWitness (text : Option (List ℕ)) (e : Encoded) (k : ℕ) (w : Witness) : Type 0 where
  pub values : List Lbool
  pub said : AreSaid text e values
  pub is : IsWitnessIn e.circuit e.unrolled k values w

-- why no witness is said: no bad edge of step k is true in the values, or there are none
abbrev pub RefusesValues : Option (List ℕ) → Encoded → ℕ → Bool → SolutionError → Type 0
RefusesValues text e k failed (errors.Check fault) = ⊥
RefusesValues text e k failed errors.NoBad =
    (values : List Lbool) × AreSaid text e values
    × HasNoTrue (last_bads e.circuit k e.unrolled) values
RefusesValues text e k failed error = GivesSolution text (length e.clauses) failed (Err error)

-- and why it isn't taken: it has a fault
abbrev pub RefusesSolution : Option (List ℕ) → Encoded → ℕ → Bool → SolutionError → Type 0
RefusesSolution text e k failed (errors.Check fault) =
    (w : Witness) × SaysWitness text e k w × IsWrong e.circuit w fault
RefusesSolution text e k failed error = RefusesValues text e k failed error
