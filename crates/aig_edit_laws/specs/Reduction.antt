-- Part of what is promised.
-- What of a circuit a query needs. (AIGER 1.9, "Properties" and "Reset logic"; the cone of influence
-- reduction; structural hashing.)
use Rattle.std.specs.Prelude.{◌≡◌, ℕ, ◌≤◌, ◌↔◌, List, [], ◌++◌, length, filter, Contains}
use Rattle.aig_circuit.specs.declared.edge.AigEdge.{AigEdge}
use Rattle.aig_circuit.specs.Circuit.{Circuit}
use Rattle.aig_circuit.specs.Edges.{initial_edges, nodes_of}
use Rattle.aig_circuit.specs.Reach.{IsInCone}
use Rattle.aig_circuit.specs.Renumber.{is_in}
use Rattle.aig_cone.specs.Refine.{AreKept, refined}
use Rattle.aig_runs.specs.CircuitQueries.{HasCircuitWitness}
use Rattle.aig_strash.specs.Strash.{strashed}

-- at each step one circuit has a witness exactly where the other has one
abbrev pub HaveSameWitnesses : Circuit → Circuit → Type 0
HaveSameWitnesses c d = (k : ℕ) → HasCircuitWitness c k ↔ HasCircuitWitness d k

-- the edges that a query asks about: bad edges, constraints and initial edges
abbrev pub asked_edges : Circuit → List AigEdge
asked_edges c = c.properties.bads ++ c.properties.constraints ++ initial_edges c.latchs

-- the numbers are those of the cone of influence of these edges
abbrev pub IsAskedCone : Circuit → List ℕ → Type 0
IsAskedCone c cone = (n : ℕ) → Contains cone n ↔ IsInCone c (nodes_of (asked_edges c)) n

-- the circuit with the latches alone whose leaves are in the cone, and with its bad edges and
-- constraints as the only properties
abbrev pub asked_alone : List ℕ → Circuit → Circuit
asked_alone cone c =
    record c {
      latchs = filter (λ latch. is_in cone latch.input) c.latchs;
      properties = record c.properties { outputs = []; justice = []; fairness = [] };
    }

-- The circuit of the latches that are in the cone of influence of the bad edges, the constraints
-- and the initial edges, and of what these latches and properties reach; gates share a node exactly
-- where their trees are equal up to exchange.
-- At each step it has a witness exactly where the old one has.
pub record IsReduced (old new : Circuit) : Type 0 where
  pub cone : List ℕ
  pub is_cone : IsAskedCone old cone
  pub kept : List ℕ
  pub are_kept : AreKept (asked_alone cone old) kept
  pub exact : new ≡ strashed (refined kept (asked_alone cone old))
  pub witnesses : HaveSameWitnesses old new
  -- it has no more nodes and latches, and as many bad edges
  pub nodes : length new.nodes ≤ length old.nodes
  pub latchs : length new.latchs ≤ length old.latchs
  pub bads : length new.properties.bads ≡ length old.properties.bads
