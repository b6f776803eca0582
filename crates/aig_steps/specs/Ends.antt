-- Serves private clauses alone.
-- What each step of an unrolled circuit has, and its clauses behind that of node 0.
use Rattle.std.specs.Prelude.{◌≡◌, ℕ, zero, suc, ◌*◌, ◌<◌, ◌^◌, false, List, [], ◌∷◌, ◌++◌, length, drop, take}
use Rattle.aig_base.specs.declared.logic.literal.Lit.{Lit}
use Rattle.aig_base.specs.Clauses.{lit_to}
use Rattle.aig_circuit.specs.declared.edge.AigEdge.{AigEdge}
use Rattle.aig_circuit.specs.declared.node.AigNode.{AigNode}
use Rattle.aig_circuit.specs.declared.node.AigNodeType.TheVariants.{And}
use Rattle.aig_circuit.specs.Circuit.{Circuit}
use Rattle.aig_unroll.specs.Frame.{with_steps}
use Rattle.aig_steps.specs.Stepwise.{frame_clauses}

-- the entries of step t, where each step has so many
abbrev pub entries_at : {X : Type 0} → ℕ → ℕ → List X → List X
entries_at count t entries = take count (drop (t * count) entries)

-- the first node of step t but for node 0
abbrev pub first_later : Circuit → ℕ → ℕ
first_later c zero = 1
first_later c (suc t) = length (with_steps c t).nodes

-- the nodes of step t but for node 0
abbrev pub later_nodes : Circuit → ℕ → List AigNode
later_nodes c t = drop (first_later c t) (with_steps c t).nodes

-- the constraints of step t
abbrev pub constraints_at : Circuit → ℕ → List AigEdge
constraints_at c zero = c.properties.constraints
constraints_at c (suc t) =
    drop (length (with_steps c t).properties.constraints)
    (with_steps c (suc t)).properties.constraints

-- the node and its operands have variables
pub record HasVariables (node : AigNode) : Type 0 where
  pub own : node.node_id < 2 ^ 31
  pub first : (a b : AigEdge) → node.typ ≡ And a b → a.node_id < 2 ^ 31
  pub second : (a b : AigEdge) → node.typ ≡ And a b → b.node_id < 2 ^ 31

-- the clause of node 0, at step 0
abbrev pub first_clauses : ℕ → List (List Lit)
first_clauses zero = (lit_to 0 false ∷ []) ∷ []
first_clauses (suc k) = []

-- the clauses of step k but that of node 0
abbrev pub later_clauses : Circuit → ℕ → List (List Lit)
later_clauses c k = frame_clauses (later_nodes c k) (constraints_at c k)

-- those of the first so many steps
abbrev pub all_later : Circuit → ℕ → List (List Lit)
all_later c zero = []
all_later c (suc k) = all_later c k ++ later_clauses c k
