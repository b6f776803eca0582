-- Part of what is promised.
-- What the clauses of an unrolled circuit say of the runs of a file's machine. (AIGER format
-- 20071012; AIGER 1.9; bounded model checking.) The circuit is the file's; a variable of the
-- clauses is a node of the unrolled circuit, and an assignment gives each a truth value.
use Rattle.std.specs.Prelude.{◌≡◌, ℕ, ◌/◌, ◌≤◌, Bool, List}
use Rattle.std.specs.List.{AllZip}
use Rattle.aig_base.specs.declared.logic.literal.Lit.{Lit}
use Rattle.aig_base.specs.Clauses.{Satisfies}
use Rattle.aig_circuit.specs.declared.edge.AigEdge.{AigEdge}
use Rattle.aig_circuit.specs.Circuit.{Circuit, IsLeaf}
use Rattle.aig_cnf.specs.Cnf.{edge_in}
use Rattle.aig_format.specs.File.{File}
use Rattle.aig_format.specs.Machine.{value_of_literal, IsMachineRun}
use Rattle.aig_format_laws.specs.MachineRuns.{AgreeOnKnown}
use Rattle.aig_unroll.specs.Places.{place_at}
use Rattle.aig_unroll.specs.Unroll.{PropertiesStandAtSteps}
use Rattle.aig_runs.specs.Circuits.{AreNodeValues}

-- The run has the leaf values v: the file's j-th input, which is the circuit's, has at each step
-- the value of its place, and each latch at step 0 the value of its leaf.
pub record HasLeafValues (f : File) (circuit unrolled : Circuit) (k : ℕ) (v : ℕ → Bool)
    (run : ℕ → ℕ → Bool) : Type 0 where
  pub inputs : (t : ℕ) → t ≤ k
      → AllZip (λ e n. run t (e / 2) ≡ v (place_at circuit unrolled t n)) f.inputs circuit.inputs
  pub latches : AllZip (λ l latch. run 0 (l.literal / 2) ≡ v latch.input) f.latches circuit.latchs

-- The edges of the unrolled circuit give each property literal at each step, and each next literal
-- at step k, its value on the run.
pub record HasRunValues (f : File) (unrolled : Circuit) (k : ℕ) (value : AigEdge → Bool)
    (run : ℕ → ℕ → Bool) : Type 0 where
  pub properties : PropertiesStandAtSteps k (λ t. value_of_literal (run t)) f.properties value
      unrolled.properties
  pub state : AllZip (λ l latch. value latch.next ≡ value_of_literal (run k) l.next) f.latches
      unrolled.latchs

-- The assignment v is one run of k + 1 steps of the file's machine: there is one with its leaf
-- values, and on that run each property literal at each step, and the state after step k, has the
-- value that v gives it.
pub record IsOneRun (f : File) (circuit unrolled : Circuit) (k : ℕ) (v : ℕ → Bool) : Type 0 where
  pub run : ℕ → ℕ → Bool
  pub is_run : IsMachineRun f k run
  pub leaves : HasLeafValues f circuit unrolled k v run
  pub only : (other : ℕ → ℕ → Bool) → IsMachineRun f k other
      → HasLeafValues f circuit unrolled k v other → AgreeOnKnown f k run other
  pub shows : HasRunValues f unrolled k (edge_in v) run

-- each assignment that satisfies the clauses is one run of the machine
abbrev pub AssignmentsAreRuns : File → Circuit → Circuit → ℕ → List (List (List Lit)) → Type 0
AssignmentsAreRuns f circuit unrolled k clauses =
    (v : ℕ → Bool) → Satisfies v clauses → IsOneRun f circuit unrolled k v

-- The run is one assignment: there is one that gives each leaf of the unrolled circuit the run's
-- value, and each node its value under those of the leaves, and it satisfies the clauses.
pub record IsOneAssignment (f : File) (circuit unrolled : Circuit) (k : ℕ)
    (clauses : List (List (List Lit))) (run : ℕ → ℕ → Bool) : Type 0 where
  pub values : ℕ → Bool
  pub leaves : HasLeafValues f circuit unrolled k values run
  pub only : (other : ℕ → Bool) → HasLeafValues f circuit unrolled k other run → (n : ℕ)
      → IsLeaf unrolled.nodes n → values n ≡ other n
  pub of_nodes : AreNodeValues unrolled values
  pub satisfies : Satisfies values clauses

-- each run of the machine, from any state, is one assignment
abbrev pub RunsAreAssignments : File → Circuit → Circuit → ℕ → List (List (List Lit)) → Type 0
RunsAreAssignments f circuit unrolled k clauses =
    (run : ℕ → ℕ → Bool) → IsMachineRun f k run → IsOneAssignment f circuit unrolled k clauses run
