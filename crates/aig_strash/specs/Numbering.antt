-- Serves private clauses alone.
-- How far a pass over the nodes has numbered them, with the gates by the literals of their
-- operands.
use Rattle.std.specs.Prelude.{◌≡◌, ℕ, ◌+◌, ◌*◌, ◌<◌, ◌≤◌, IsSome, Some, List, length, slice_index, map, take}
use Rattle.aig_circuit.specs.declared.edge.AigEdge.{AigEdge}
use Rattle.aig_circuit.specs.declared.node.AigNodeType.{AigNodeType}
use Rattle.aig_circuit.specs.declared.node.AigNodeType.TheVariants.{False, Leaf, And}
use Rattle.aig_circuit.specs.declared.node.AigNode.{AigNode}
use Rattle.aig_circuit.specs.Edge.{literal_of}
use Rattle.aig_circuit.specs.Node.{kind_at}
use Rattle.aig_circuit.specs.Renumber.{renumbered_kind}
use Rattle.aig_strash.specs.Exchange.{IsGate, image_of, kept_before, node_numbers}
use Rattle.aig_strash.specs.Tables.{Gates, Literals, gate_table, literal_limit, number_of_gate, number_table}
use Rattle.aig_strash.specs.declared.numbers.Tables.{Tables}
use Rattle.aig_strash.specs.declared.hashing.Numbering.{Numbering}

-- the edge's node has a number, and the tables have room for its literals
pub record HasSmallLiteral (tables : Tables) (edge : AigEdge) : Type 0 where
  pub there : edge.node_id < length (number_table tables)
  pub small : 2 * slice_index (number_table tables) edge.node_id + 1 < literal_limit tables

-- the literals of a gate's operands
abbrev pub operand_literals : AigNodeType → Literals
operand_literals (And a b) = (literal_of a, literal_of b)
operand_literals False = (0, 0)
operand_literals Leaf = (0, 0)

-- those of gate n under the new numbers
abbrev pub gate_literals : List AigNode → ℕ → Literals
gate_literals nodes n = operand_literals (renumbered_kind (image_of nodes) (kind_at nodes n))

-- the map has the new number of each gate among the first n nodes, by its operands' literals, and
-- nothing else
pub record HasGates (nodes : List AigNode) (n : ℕ) (gates : Gates) : Type 0 where
  pub each : (m : ℕ) → m < n → IsGate nodes m
      → number_of_gate gates (gate_literals nodes m) ≡ Some (image_of nodes m)
  pub no_more : (q : Literals) → IsSome (number_of_gate gates q)
      → (m : ℕ) × (m < n) × IsGate nodes m × (gate_literals nodes m ≡ q)

-- the first n nodes are numbered, and the tables have room for the literals of all
pub record HasNumbered (nodes : List AigNode) (n : ℕ) (numbering : Numbering) : Type 0 where
  pub numbers : number_table numbering.tables ≡ map (image_of nodes) (take n (node_numbers nodes))
  pub count : numbering.count ≡ kept_before nodes n
  pub gates : HasGates nodes n (gate_table numbering.tables)
  pub limit : 2 * length nodes ≤ literal_limit numbering.tables
