-- Serves private clauses alone.
-- Nodes whose literals fit 64 bits, under the numbers of a table.
use Rattle.std.specs.Prelude.{◌≡◌, ℕ, ◌*◌, ◌^◌, ◌<◌, ◌≤◌, List, length, IfSome}
use Rattle.aig_circuit.specs.declared.edge.AigEdge.{AigEdge}
use Rattle.aig_circuit.specs.declared.node.AigNodeType.TheVariants.{And}
use Rattle.aig_circuit.specs.declared.node.AigNode.{AigNode}
use Rattle.aig_circuit.specs.declared.node.AigLatch.{AigLatch}
use Rattle.aig_circuit.specs.Edge.{literal_of}
use Rattle.aig_circuit.specs.Circuit.{Circuit}
use Rattle.aig_circuit.specs.Renumber.{renumbered_edge}
use Rattle.aig_writer.specs.Numbering.{written_number}

-- twice the node's number, and one more, fits 64 bits
abbrev pub HasLiteral : List ℕ → ℕ → Type 0
HasLiteral table n = written_number table n < 2 ^ 63

-- the edge's literal fits
abbrev pub IsSmallEdge : List ℕ → AigEdge → Type 0
IsSmallEdge table e = HasLiteral table e.node_id

-- the latch's own literal and those of its edges fit
pub record IsSmallLatch (table : List ℕ) (latch : AigLatch) : Type 0 where
  pub leaf : HasLiteral table latch.input
  pub next : IsSmallEdge table latch.next
  pub init : IfSome latch.init (IsSmallEdge table)

-- the node's own literal and those of its operands fit
pub record IsSmallNode (table : List ℕ) (node : AigNode) : Type 0 where
  pub own : HasLiteral table node.node_id
  pub operands : (a b : AigEdge) → node.typ ≡ And a b → IsSmallEdge table a × IsSmallEdge table b

-- no operand's literal is above the gate's own, so that differences can be written
pub record FallsBelow (table : List ℕ) (node : AigNode) : Type 0 where
  pub own : 2 * written_number table node.node_id < 2 ^ 32
  pub operands : (a b : AigEdge) → node.typ ≡ And a b
      → (literal_of (renumbered_edge (written_number table) a)
      ≤ 2 * written_number table node.node_id)
      × (literal_of (renumbered_edge (written_number table) b)
      ≤ 2 * written_number table node.node_id)

-- the literal of each node fits
abbrev pub HasSmallNumbers : Circuit → List ℕ → Type 0
HasSmallNumbers c table = (n : ℕ) → n < length c.nodes → HasLiteral table n
