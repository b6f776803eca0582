-- Serves private clauses alone.
-- What is made of a circuit that was read.
use Rattle.std.specs.Prelude.{◌<◌, ◌≤◌, ℕ, Bool, List, Result, Ok, Err}
use Rattle.aig_base.specs.declared.logic.literal.Lit.{Lit}
use Rattle.aig_circuit.specs.Circuit.{Circuit}
use Rattle.aig_cnf.specs.Cnf.{FixesRoots, HasClauses, NodeValuesSatisfy}
use Rattle.aig_unroll.specs.Places.{unrolled_size}
use Rattle.aig_unroll.specs.Unroll.{UnrollsTo}
use Rattle.aig_encode.specs.declared.error.EncodeError.{EncodeError}
use Rattle.aig_encode.specs.declared.error.EncodeError.TheVariants as errors

-- a circuit with its further steps, and that circuit's clauses by variable
abbrev pub Parts : Type 0
Parts = Circuit × List (List (List Lit))

-- these are the circuit with k further steps, and the clauses of that
pub record EncodesCircuit (of : Circuit) (k : ℕ) (optimize : Bool) (made : Parts) : Type 0 where
  pub steps : UnrollsTo of k made.0
  pub clauses : HasClauses made.0 optimize made.1
  pub fixes : FixesRoots made.0 made.1
  pub satisfied : NodeValuesSatisfy made.0 made.1

-- such parts, or want of memory, within the limit, and a refusal beyond it
abbrev pub EncodesOrRefuses : Circuit → ℕ → ℕ → Bool → Result Parts EncodeError → Type 0
EncodesOrRefuses of limit k optimize (Ok made) =
    EncodesCircuit of k optimize made × (unrolled_size of k ≤ limit)
EncodesOrRefuses of limit k optimize (Err errors.Memory) = unrolled_size of k ≤ limit
EncodesOrRefuses of limit k optimize (Err errors.TooLarge) = limit < unrolled_size of k
EncodesOrRefuses of limit k optimize (Err (errors.Read e)) = ⊥
