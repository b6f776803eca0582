-- Part of what is promised.
-- What the clauses of an unrolled circuit say of the circuit's runs. (Bounded model checking.)
-- A variable of the clauses is a node of the unrolled circuit, and an assignment gives each a truth
-- value.
use Rattle.std.specs.Prelude.{◌≡◌, ℕ, ◌<◌, Bool, List, length}
use Rattle.aig_base.specs.declared.logic.literal.Lit.{Lit}
use Rattle.aig_base.specs.Clauses.{Satisfies}
use Rattle.aig_circuit.specs.Circuit.{Circuit, IsLeaf}
use Rattle.aig_circuit.specs.Tree.{node_value}
use Rattle.aig_circuit.specs.Runs.{AgreeOnLeaves, IsRun}
use Rattle.aig_cnf.specs.Cnf.{edge_in}
use Rattle.aig_unroll.specs.Places.{Reads}
use Rattle.aig_unroll.specs.Unroll.{HasStepValues}

-- The assignment v is one run of k + 1 steps: there is one with its leaf values, and on that run
-- each property at each step, and the state after step k, has the value that v gives it.
pub record IsOneCircuitRun (c unrolled : Circuit) (k : ℕ) (v : ℕ → Bool) : Type 0 where
  pub run : ℕ → ℕ → Bool
  pub is_run : IsRun c k run
  pub reads : Reads c unrolled k v run
  pub only : (other : ℕ → ℕ → Bool) → IsRun c k other → Reads c unrolled k v other
      → AgreeOnLeaves c k run other
  pub shows : HasStepValues c unrolled k (edge_in v) run

-- each assignment that satisfies the clauses is one run
abbrev pub AssignmentsAreCircuitRuns : Circuit → Circuit → ℕ → List (List (List Lit)) → Type 0
AssignmentsAreCircuitRuns c unrolled k clauses =
    (v : ℕ → Bool) → Satisfies v clauses → IsOneCircuitRun c unrolled k v

-- each node of the circuit has in v its value under the leaf values of v
abbrev pub AreNodeValues : Circuit → (ℕ → Bool) → Type 0
AreNodeValues c v = (n : ℕ) → n < length c.nodes → v n ≡ node_value c.nodes v n

-- The run is one assignment: there is one that gives each leaf of the unrolled circuit the run's
-- value, and each node its value under those of the leaves, and it satisfies the clauses.
pub record IsOneCircuitAssignment (c unrolled : Circuit) (k : ℕ) (clauses : List (List (List Lit)))
    (run : ℕ → ℕ → Bool) : Type 0 where
  pub values : ℕ → Bool
  pub reads : Reads c unrolled k values run
  pub only : (other : ℕ → Bool) → Reads c unrolled k other run → (n : ℕ) → IsLeaf unrolled.nodes n
      → values n ≡ other n
  pub of_nodes : AreNodeValues unrolled values
  pub satisfies : Satisfies values clauses

-- each run, from any state, is one assignment
abbrev pub CircuitRunsAreAssignments : Circuit → Circuit → ℕ → List (List (List Lit)) → Type 0
CircuitRunsAreAssignments c unrolled k clauses =
    (run : ℕ → ℕ → Bool) → IsRun c k run → IsOneCircuitAssignment c unrolled k clauses run
