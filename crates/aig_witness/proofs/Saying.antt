-- What a refusal of a solver's answer tells of the witness.
use Rattle.std.proofs.Common.{◌≡◌, ℕ, Bool, Option, List, length, Err, subst}
use Rattle.aig_encode.specs.declared.encoding.Encoded.{Encoded}
use Rattle.aig_witness.specs.declared.solutions.error.SolutionError.{SolutionError}
use Rattle.aig_witness.specs.declared.solutions.error.SolutionError.TheVariants as errors
use Rattle.aig_witness.specs.Checked.{RefusesSolution, RefusesValues}
use Rattle.aig_witness.specs.SolverAnswers.{GivesSolution}

module _ (text : Option (List ℕ)) (encoded : Encoded) (k : ℕ) (failed : Bool) where
  of_reading : (e : SolutionError) → GivesSolution text (length encoded.clauses) failed (Err e)
      → RefusesValues text encoded k failed e
  of_reading (errors.Check fault) h = h
  of_reading errors.NoBad h = absurd h
  of_reading e h = h

  pub values_refused : (variables : ℕ) (e : SolutionError) → variables ≡ length encoded.clauses
      → GivesSolution text variables failed (Err e) → RefusesValues text encoded k failed e
  values_refused variables e is h = of_reading e (subst (λ (n : ℕ). GivesSolution text n failed
      (Err e)) is h)

  pub solution_refused : (e : SolutionError) → RefusesValues text encoded k failed e
      → RefusesSolution text encoded k failed e
  solution_refused (errors.Check fault) h = absurd h
  solution_refused e h = h
