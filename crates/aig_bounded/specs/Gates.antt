-- Serves private clauses alone.
-- A table of gates by the literals of their operands.
use Rattle.std.specs.Prelude.{◌≡◌, ℕ, ◌&&◌, Bool, nat_eq, None, Some, List}
use Rattle.std.specs.HashMap.{HashMap, get}
use Rattle.aig_circuit.specs.declared.edge.AigEdge.{AigEdge}
use Rattle.aig_circuit.specs.declared.node.AigNode.{AigNode}
use Rattle.aig_circuit.specs.declared.node.AigNodeType.{AigNodeType}
use Rattle.aig_circuit.specs.declared.node.AigNodeType.TheVariants.{False, Leaf, And}
use Rattle.aig_circuit.specs.Circuit.{AreNodes}
use Rattle.aig_circuit.specs.Edge.{literal_of}
use Rattle.aig_circuit.specs.Node.{kind_at}
use Rattle.aig_unroll.specs.Frame.{folded}

-- the literals of a gate's operands
abbrev pub operand_literals : AigNodeType → ℕ × ℕ
operand_literals (And a b) = (literal_of a, literal_of b)
operand_literals False = (0, 0)
operand_literals Leaf = (0, 0)

abbrev pub are_same : ℕ × ℕ → ℕ × ℕ → Bool
are_same p q = nat_eq p.0 q.0 && nat_eq p.1 q.1

-- sound nodes, and the numbers of all their gates by the literals of their operands; no gate folds
pub record HasGates {S : Type 0} (nodes : List AigNode) (gates : HashMap (ℕ × ℕ) ℕ S)
    : Type 0 where
  pub sound : AreNodes nodes
  pub each : (n : ℕ) (a b : AigEdge) → kind_at nodes n ≡ Some (And a b)
      → get are_same gates (literal_of a, literal_of b) ≡ Some n
  pub only : (q : ℕ × ℕ) (n : ℕ) → get are_same gates q ≡ Some n
      → (a : AigEdge) × (b : AigEdge) × (kind_at nodes n ≡ Some (And a b))
      × ((literal_of a, literal_of b) ≡ q)
  pub apart : (n : ℕ) (a b : AigEdge) → kind_at nodes n ≡ Some (And a b) → folded a b ≡ None
