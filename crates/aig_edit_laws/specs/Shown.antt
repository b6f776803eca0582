-- Part of what is promised.
-- What runs of a file's machine, and of a circuit, show. (AIGER 1.9, "Properties"; bounded model
-- checking.)
use Rattle.std.specs.Prelude.{◌≡◌, ℕ, ◌≤◌, Bool, true, IsTrue, Some, IsSomeAnd, List, [], ◌∷◌, slice_get}
use Rattle.std.specs.List.{list_any}
use Rattle.aig_circuit.specs.declared.edge.AigEdge.{AigEdge}
use Rattle.aig_circuit.specs.Circuit.{Circuit}
use Rattle.aig_circuit.specs.Edge.{edge_to}
use Rattle.aig_circuit.specs.Properties.{no_properties}
use Rattle.aig_circuit.specs.Tree.{edge_value}
use Rattle.aig_change.specs.Runs.{IsAllowedRun}
use Rattle.aig_cone.specs.Refine.{AreKept, refined}
use Rattle.aig_runs.specs.Safety.{IsConstrained}
use Rattle.aig_format.specs.File.{File}
use Rattle.aig_format.specs.Machine.{value_of_literal, IsMachineInitial, IsMachineRun}
use Rattle.aig_runs.specs.Queries.{IsWitness}

-- ---- of a machine

-- a run of k + 1 steps from an initial state, with every constraint at each of them
pub record IsAllowedMachineRun (f : File) (k : ℕ) (run : ℕ → ℕ → Bool) : Type 0 where
  pub is_run : IsMachineRun f k run
  pub start : IsMachineInitial f run
  pub allowed : (t : ℕ) → t ≤ k → IsConstrained f (run t)

-- there is such a run
abbrev pub HasRun : File → ℕ → Type 0
HasRun f k = (run : ℕ → ℕ → Bool) × IsAllowedMachineRun f k run

-- such a run has some output at step k
abbrev pub HasOutput : File → ℕ → Type 0
HasOutput f k =
    (run : ℕ → ℕ → Bool) × IsAllowedMachineRun f k run
    × IsTrue (list_any (value_of_literal (run k)) f.properties.outputs)

-- such a run has output n, of those from 0 on, at step k
abbrev pub HasOutputAt : File → ℕ → ℕ → Type 0
HasOutputAt f n k =
    (run : ℕ → ℕ → Bool) × IsAllowedMachineRun f k run
    × IsSomeAnd (slice_get f.properties.outputs n) (λ e. IsTrue (value_of_literal (run k) e))

-- such a run has bad literal n, of those from 0 on, at step k
abbrev pub HasBadAt : File → ℕ → ℕ → Type 0
HasBadAt f n k =
    (run : ℕ → ℕ → Bool) × IsAllowedMachineRun f k run
    × IsSomeAnd (slice_get f.properties.bads n) (λ e. IsTrue (value_of_literal (run k) e))

-- such a run has some bad literal at one of its steps
abbrev pub HasBadBy : File → ℕ → Type 0
HasBadBy f k =
    (run : ℕ → ℕ → Bool) × IsAllowedMachineRun f k run
    × ((t : ℕ) × (t ≤ k) × IsTrue (list_any (value_of_literal (run t)) f.properties.bads))

-- such a run has some bad literal at step k
abbrev pub HasWitness : File → ℕ → Type 0
HasWitness f k = (run : ℕ → ℕ → Bool) × IsWitness f k run

-- ---- of a circuit

-- there is such a run of a circuit
abbrev pub HasCircuitRun : Circuit → ℕ → Type 0
HasCircuitRun c k = (x : ℕ → ℕ → Bool) × IsAllowedRun c k x

-- the same of an output of a circuit
abbrev pub HasCircuitOutput : Circuit → ℕ → Type 0
HasCircuitOutput c k =
    (x : ℕ → ℕ → Bool) × IsAllowedRun c k x
    × IsTrue (list_any (edge_value c.nodes (x k)) c.properties.outputs)

-- and of output n
abbrev pub HasCircuitOutputAt : Circuit → ℕ → ℕ → Type 0
HasCircuitOutputAt c n k =
    (x : ℕ → ℕ → Bool) × IsAllowedRun c k x
    × IsSomeAnd (slice_get c.properties.outputs n) (λ e. IsTrue (edge_value c.nodes (x k) e))

-- and of bad edge n
abbrev pub HasCircuitBadAt : Circuit → ℕ → ℕ → Type 0
HasCircuitBadAt c n k =
    (x : ℕ → ℕ → Bool) × IsAllowedRun c k x
    × IsSomeAnd (slice_get c.properties.bads n) (λ e. IsTrue (edge_value c.nodes (x k) e))

-- and of a bad edge at one of the steps
abbrev pub HasCircuitBadBy : Circuit → ℕ → Type 0
HasCircuitBadBy c k =
    (x : ℕ → ℕ → Bool) × IsAllowedRun c k x
    × ((t : ℕ) × (t ≤ k) × IsTrue (list_any (edge_value c.nodes (x t)) c.properties.bads))

-- the circuit with its outputs as its bad edges, and no outputs
abbrev pub outputs_as_bads : Circuit → Circuit
outputs_as_bads c =
    record c {
      properties = record c.properties { outputs = []; bads = c.properties.outputs };
    }

-- the circuit with this edge as its only bad edge
abbrev pub bad_alone : Circuit → AigEdge → Circuit
bad_alone c e = record c { properties = record c.properties { bads = e ∷ [] } }

-- the circuit with its bad edge n as the only one
pub record IsPropertyOf (n : ℕ) (c new : Circuit) : Type 0 where
  pub bad : AigEdge
  pub there : slice_get c.properties.bads n ≡ Some bad
  pub exact : new ≡ bad_alone c bad

-- the circuit with true as its only bad edge: bad wherever a run has come
abbrev pub always_bad : Circuit → Circuit
always_bad c = bad_alone c (edge_to 0 true)

-- the circuit with this output and its constraints as the only properties
abbrev pub output_alone : Circuit → AigEdge → Circuit
output_alone c e =
    record c {
      properties =
          record no_properties { outputs = e ∷ []; constraints = c.properties.constraints };
    }

-- the circuit of what output n, the constraints, the latches and the initial edges that aren't
-- constant reach, with that output and the constraints as the only properties
pub record IsConeOf (n : ℕ) (c cone : Circuit) : Type 0 where
  pub output : AigEdge
  pub there : slice_get c.properties.outputs n ≡ Some output
  pub kept : List ℕ
  pub are_kept : AreKept (output_alone c output) kept
  pub exact : cone ≡ refined kept (output_alone c output)
