-- Part of what is promised.
-- The clauses of an unrolled circuit, step by step: those of a step depend on no later one, and so
-- a solver that goes on from step to step is given each clause once. (Bounded model checking and
-- Tseitin encoding; AIGER 1.9, "Properties" for constraints and bad states, "Reset logic" for
-- initial values.) A variable of the clauses is a node of the unrolled circuit, by its number.
use Rattle.std.specs.Prelude.{◌≡◌, ℕ, zero, suc, ◌+◌, ◌≤◌, ◌↔◌, Bool, false, IsTrue, List, [], ◌∷◌, ◌++◌, length, map, drop, All}
use Rattle.std.specs.List.{flat_map}
use Rattle.aig_base.specs.declared.logic.literal.Lit.{Lit}
use Rattle.aig_base.specs.Clauses.{are_true, lit_to}
use Rattle.aig_circuit.specs.declared.edge.AigEdge.{AigEdge}
use Rattle.aig_circuit.specs.declared.node.AigNode.{AigNode}
use Rattle.aig_circuit.specs.declared.node.AigNodeType.{AigNodeType}
use Rattle.aig_circuit.specs.declared.node.AigNodeType.TheVariants.{False, Leaf, And}
use Rattle.aig_circuit.specs.Edge.{inverse, lit_of}
use Rattle.aig_circuit.specs.Circuit.{Circuit}
use Rattle.aig_circuit.specs.Runs.{IsInitial, IsRun}
use Rattle.aig_circuit.specs.Tree.{edge_value}
use Rattle.aig_cnf.specs.Cnf.{clauses_of}
use Rattle.aig_cnf.specs.declared.form.Form.TheVariants.{AndOf}
use Rattle.aig_unroll.specs.Frame.{with_steps}
use Rattle.aig_unroll.specs.Places.{Reads}
use Rattle.aig_runs.specs.Circuits.{IsOneCircuitAssignment, IsOneCircuitRun}
use Rattle.aig_runs.specs.Queries.{asking_clauses, last_bads, start_clauses, unit_clauses}
use Rattle.aig_runs.specs.WindowClauses.{first_bads}

-- ---- the clauses

-- the clauses of node n of this kind: that false is false, and that a gate is the and of its
-- operands; a leaf has none
abbrev pub kind_clauses : ℕ → AigNodeType → List (List Lit)
kind_clauses n False = (lit_to n false ∷ []) ∷ []
kind_clauses n Leaf = []
kind_clauses n (And a b) = clauses_of n (AndOf a b)

-- the clauses of the node
abbrev pub node_clauses : AigNode → List (List Lit)
node_clauses node = kind_clauses node.node_id node.typ

-- the clauses of a time frame: those of its nodes, and that each of its constraints holds
abbrev pub frame_clauses : List AigNode → List AigEdge → List (List Lit)
frame_clauses nodes constraints = flat_map node_clauses nodes ++ unit_clauses constraints

-- the clauses of the nodes and constraints that come behind those of the old circuit
abbrev pub further_clauses : Circuit → Circuit → List (List Lit)
further_clauses old new =
    frame_clauses (drop (length old.nodes) new.nodes)
    (drop (length old.properties.constraints) new.properties.constraints)

-- the clauses of step k alone
abbrev pub step_clauses : Circuit → ℕ → List (List Lit)
step_clauses c zero = frame_clauses c.nodes c.properties.constraints
step_clauses c (suc k) = further_clauses (with_steps c k) (with_steps c (suc k))

-- the clauses of the steps 0 to k, one step after another
abbrev pub stepwise_clauses : Circuit → ℕ → List (List Lit)
stepwise_clauses c zero = step_clauses c zero
stepwise_clauses c (suc k) = stepwise_clauses c k ++ step_clauses c (suc k)

-- the clauses that each latch with an initial edge has its value at step 0
abbrev pub initial_clauses : Circuit → List (List Lit)
initial_clauses c = flat_map start_clauses c.latchs

-- the bad edges of step k
abbrev pub bads_at : Circuit → ℕ → List AigEdge
bads_at c k = last_bads c k (with_steps c k)

-- all that ask for a bad state at step k, in order: the clauses of the steps 0 to k, the initial
-- values, and one clause of the bad edges of step k
abbrev pub stepwise_query : Circuit → ℕ → List (List Lit)
stepwise_query c k = stepwise_clauses c k ++ asking_clauses c.latchs [] (bads_at c k)

-- all that ask for k + 2 steps from any state that are bad first at the last one, in order: the
-- clauses of the steps 0 to k + 1, that each bad edge of the steps 0 to k is false, and one clause
-- of the bad edges of step k + 1 (temporal induction: Sheeran, Singh and Stålmarck, 2000)
abbrev pub stepwise_window : Circuit → ℕ → List (List Lit)
stepwise_window c k =
    stepwise_clauses c (k + 1)
    ++ unit_clauses (map inverse (first_bads c k (with_steps c (k + 1))))
    ++ map lit_of (last_bads c (k + 1) (with_steps c (k + 1))) ∷ []

-- ---- what they say

-- every constraint holds at the steps 0 to k of the run
abbrev pub IsConstrainedTo : Circuit → ℕ → (ℕ → ℕ → Bool) → Type 0
IsConstrainedTo c k run =
    (t : ℕ) → t ≤ k → All (λ e. IsTrue (edge_value c.nodes (run t) e)) c.properties.constraints

-- the assignment is one run, on which every constraint holds
pub record IsOneConstrainedRun (c unrolled : Circuit) (k : ℕ) (v : ℕ → Bool) : Type 0 where
  pub one : IsOneCircuitRun c unrolled k v
  pub constrained : IsConstrainedTo c k one.run

-- Assignments that satisfy the clauses of the steps 0 to k are, by the places of leaf values, the
-- runs of k + 1 steps on which every constraint holds: each of the one kind is one of the other.
pub record AsksForRuns (c unrolled : Circuit) (k : ℕ) : Type 0 where
  pub assignments : (v : ℕ → Bool) → IsTrue (are_true v (stepwise_clauses c k))
      → IsOneConstrainedRun c unrolled k v
  pub runs : (run : ℕ → ℕ → Bool) → IsRun c k run → IsConstrainedTo c k run
      → IsOneCircuitAssignment c unrolled k (stepwise_clauses c k ∷ []) run
  -- and the initial values hold exactly on those that begin in an initial state
  pub starts : (v : ℕ → Bool) (run : ℕ → ℕ → Bool) → IsTrue (are_true v (stepwise_clauses c k))
      → IsRun c k run → Reads c unrolled k v run
      → IsTrue (are_true v (initial_clauses c)) ↔ IsInitial c (run 0)

-- the first list begins the second
abbrev pub Begins : {X : Type 0} → List X → List X → Type 0
Begins {X} first all = (rest : List X) × (all ≡ first ++ rest)

-- With more steps the clauses that were handed out stay, and variables stay the nodes that they
-- were.
pub record GoesOn (c : Circuit) (j k : ℕ) : Type 0 where
  pub clauses : Begins (stepwise_clauses c j) (stepwise_clauses c k)
  pub nodes : Begins (with_steps c j).nodes (with_steps c k).nodes
