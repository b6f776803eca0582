-- Part of what is promised.
-- What a query asks of a circuit: a run from an initial state on which every constraint holds and,
-- at the last step, some bad edge. (AIGER 1.9, "Properties" and "Reset logic"; bounded model
-- checking.)
use Rattle.std.specs.Prelude.{◌≡◌, ℕ, ◌≤◌, ◌↔◌, Bool, IsTrue, List, All}
use Rattle.std.specs.List.{list_any}
use Rattle.aig_base.specs.declared.logic.literal.Lit.{Lit}
use Rattle.aig_circuit.specs.Circuit.{Circuit}
use Rattle.aig_circuit.specs.Runs.{IsRun, IsInitial}
use Rattle.aig_circuit.specs.Tree.{edge_value}
use Rattle.aig_unroll.specs.Places.{Reads}
use Rattle.aig_runs.specs.Queries.{SatisfiesBoth, query_clauses}

-- a run from an initial state, whose initial edges may be any, with every constraint at the steps 0
-- to k, and some bad edge at step k
pub record IsCircuitWitness (c : Circuit) (k : ℕ) (run : ℕ → ℕ → Bool) : Type 0 where
  pub is_run : IsRun c k run
  pub start : IsInitial c (run 0)
  pub constraints : (t : ℕ) → t ≤ k
      → All (λ e. IsTrue (edge_value c.nodes (run t) e)) c.properties.constraints
  pub bad : IsTrue (list_any (edge_value c.nodes (run k)) c.properties.bads)

-- the circuit has a witness of k + 1 steps
abbrev pub HasCircuitWitness : Circuit → ℕ → Type 0
HasCircuitWitness c k = (run : ℕ → ℕ → Bool) × IsCircuitWitness c k run

-- The clauses of the circuit unrolled and the further ones ask for the circuit's witnesses.
pub record AsksOfCircuit (c : Circuit) (k : ℕ) (unrolled : Circuit)
    (clauses : List (List (List Lit))) (extra : List (List Lit)) : Type 0 where
  -- which query clauses there are, and in which order
  pub exact : extra ≡ query_clauses c k unrolled
  -- some assignment satisfies both exactly where there is a witness
  pub satisfiable : ((v : ℕ → Bool) × SatisfiesBoth v clauses extra) ↔ HasCircuitWitness c k
  -- and the run that such an assignment's leaf values read is a witness
  pub read_off : (v : ℕ → Bool) → SatisfiesBoth v clauses extra → (run : ℕ → ℕ → Bool)
      → IsRun c k run → Reads c unrolled k v run → IsCircuitWitness c k run
