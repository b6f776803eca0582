-- Clauses of small circuits step by step, computed; and what no steps of theirs have.
use Rattle.aig_base.proofs.Words.{◌≡◌, ◌≢◌, ℕ, false, Some, List, [], ◌∷◌, map, ap, refl, empty}
use Rattle.aig_base.specs.declared.logic.literal.Lit.{Lit}
use Rattle.aig_circuit.specs.declared.node.AigNode.{AigNode}
use Rattle.aig_circuit.specs.declared.node.AigNodeType.{AigNodeType}
use Rattle.aig_circuit.specs.declared.node.AigNodeType.TheVariants.{False, Leaf, And}
use Rattle.aig_circuit.proofs.Words.{Circuit, edge_to, no_properties}
use Rattle.aig_steps.specs.Stepwise.{Begins, bads_at, initial_clauses, step_clauses, stepwise_query, stepwise_window}

abbrev node : ℕ → AigNodeType → AigNode
node n kind = record { node_id = n; typ = kind }

-- the numbers of the literals, clause for clause
abbrev codes_of : List (List Lit) → List (List ℕ)
codes_of = map (map (λ (lit : Lit). lit.code))

-- latch 2 starts as false, and goes on as gate 3, the and of input 1 and of itself; the gate is
-- bad, and the input has to be true
abbrev kept_while : Circuit
kept_while =
    record {
      nodes =
          node 0 False ∷ node 1 Leaf ∷ node 2 Leaf
          ∷ node 3 (And (edge_to 1 false) (edge_to 2 false)) ∷ [];
      inputs = 1 ∷ [];
      latchs = record { input = 2; next = edge_to 3 false; init = Some (edge_to 0 false) } ∷ [];
      properties =
          record no_properties {
            bads = edge_to 3 false ∷ [];
            constraints = edge_to 1 false ∷ [];
          };
      names = empty;
    }

-- node 0 is false, the gate is an and, and the input is true
kept_while-0 : codes_of (step_clauses kept_while 0)
    ≡ (1 ∷ []) ∷ (7 ∷ 2 ∷ []) ∷ (7 ∷ 4 ∷ []) ∷ (6 ∷ 3 ∷ 5 ∷ []) ∷ (2 ∷ []) ∷ []
kept_while-0 = refl

-- at step 1 the input is node 4, and the gate is node 5, the and of nodes 3 and 4
kept_while-1 : codes_of (step_clauses kept_while 1)
    ≡ (11 ∷ 6 ∷ []) ∷ (11 ∷ 8 ∷ []) ∷ (10 ∷ 7 ∷ 9 ∷ []) ∷ (8 ∷ []) ∷ []
kept_while-1 = refl

-- the initial value is no step's
kept_while-initial : codes_of (initial_clauses kept_while) ≡ (5 ∷ []) ∷ []
kept_while-initial = refl

kept_while-bads : bads_at kept_while 1 ≡ edge_to 5 false ∷ []
kept_while-bads = refl

-- a window asks for a gate that is bad first at step 1, from any state
kept_while-window : codes_of (stepwise_window kept_while 0)
    ≡ (1 ∷ []) ∷ (7 ∷ 2 ∷ []) ∷ (7 ∷ 4 ∷ []) ∷ (6 ∷ 3 ∷ 5 ∷ []) ∷ (2 ∷ []) ∷ (11 ∷ 6 ∷ [])
    ∷ (11 ∷ 8 ∷ []) ∷ (10 ∷ 7 ∷ 9 ∷ []) ∷ (8 ∷ []) ∷ (7 ∷ []) ∷ (10 ∷ []) ∷ []
kept_while-window = refl

-- ---- what no steps have

-- the initial value
no_initial_value : codes_of (step_clauses kept_while 0)
    ≢ (1 ∷ []) ∷ (7 ∷ 2 ∷ []) ∷ (7 ∷ 4 ∷ []) ∷ (6 ∷ 3 ∷ 5 ∷ []) ∷ (2 ∷ []) ∷ (5 ∷ []) ∷ []
no_initial_value e = cc

-- node 0 again
no_false_again : codes_of (step_clauses kept_while 1)
    ≢ (1 ∷ []) ∷ (11 ∷ 6 ∷ []) ∷ (11 ∷ 8 ∷ []) ∷ (10 ∷ 7 ∷ 9 ∷ []) ∷ (8 ∷ []) ∷ []
no_false_again e = cc

-- the constraint of step 0 alone
no_constraint_of_step_0 : codes_of (step_clauses kept_while 1)
    ≢ (11 ∷ 6 ∷ []) ∷ (11 ∷ 8 ∷ []) ∷ (10 ∷ 7 ∷ 9 ∷ []) ∷ (2 ∷ []) ∷ []
no_constraint_of_step_0 e = cc

-- A query doesn't begin that of the next step: its initial values and its bad edges are asked for
-- behind all steps.
no_query_goes_on : ¬ Begins (stepwise_query kept_while 0) (stepwise_query kept_while 1)
no_query_goes_on (rest, e) = let codes = ap codes_of e in cc
