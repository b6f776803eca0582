-- Serves private clauses alone.
-- A file's circuit with further steps, as it is read before its clauses are printed.
use Rattle.std.specs.Prelude.{◌<◌, ◌≤◌, ℕ, Result, Ok, Err}
use Rattle.aig_circuit.specs.Circuit.{Circuit}
use Rattle.aig_encode.specs.declared.error.EncodeError.{EncodeError}
use Rattle.aig_encode.specs.declared.error.EncodeError.TheVariants as errors
use Rattle.aig_unroll.specs.Places.{unrolled_size}
use Rattle.aig_runs.specs.Unrolled.{UnrolledCircuit, Unrolls}

-- it has the further steps, or memory is wanting, within the limit, and it is refused beyond that
abbrev pub UnrollsOrRefuses : Circuit → ℕ → ℕ → Result UnrolledCircuit EncodeError → Type 0
UnrollsOrRefuses of limit k (Ok u) = Unrolls of k u × (unrolled_size of k ≤ limit)
UnrollsOrRefuses of limit k (Err errors.Memory) = unrolled_size of k ≤ limit
UnrollsOrRefuses of limit k (Err errors.TooLarge) = limit < unrolled_size of k
UnrollsOrRefuses of limit k (Err (errors.Read e)) = ⊥
