-- Part of what is promised.
-- A machine that meets no bad state at a step. (AIGER 1.9, "Properties"; bounded model checking.)
use Rattle.std.specs.Prelude.{◌≡◌, ℕ, Bool, false, IsTrue}
use Rattle.std.specs.List.{AllByRecursion}
use Rattle.aig_format.specs.File.{File}
use Rattle.aig_format.specs.Machine.{value_of_literal}
use Rattle.aig_circuit.specs.Circuit.{Circuit}
use Rattle.aig_runs.specs.CircuitQueries.{HasCircuitWitness}
use Rattle.aig_runs.specs.Queries.{IsWitness}

-- every constraint holds
abbrev pub IsConstrained : File → (ℕ → Bool) → Type 0
IsConstrained f values =
    AllByRecursion (λ e. IsTrue (value_of_literal values e)) f.properties.constraints

-- no bad literal holds
abbrev pub IsGood : File → (ℕ → Bool) → Type 0
IsGood f values = AllByRecursion (λ e. value_of_literal values e ≡ false) f.properties.bads

-- no run of k + 1 steps from an initial state meets every constraint and, at step k, some bad
-- literal
abbrev pub IsSafeAt : File → ℕ → Type 0
IsSafeAt f k = ¬ ((run : ℕ → ℕ → Bool) × IsWitness f k run)

-- no run of k + 1 steps of the circuit from an initial state meets every constraint and, at step k,
-- some bad edge
abbrev pub IsCircuitSafeAt : Circuit → ℕ → Type 0
IsCircuitSafeAt c k = ¬ HasCircuitWitness c k
