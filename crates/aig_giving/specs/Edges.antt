-- Part of what is promised.
-- Edges, latches and nodes as C has them. (AIGER format 20071012, "Header": literals.)
use Rattle.std.specs.Prelude.{ℕ, ◌/◌, ◌%◌, ◌==◌, not, true, false, Option, Some, None}
use Rattle.aig_circuit.specs.declared.edge.AigEdge.{AigEdge}
use Rattle.aig_circuit.specs.declared.node.AigLatch.{AigLatch}
use Rattle.aig_circuit.specs.declared.node.AigNode.{AigNode}
use Rattle.aig_circuit.specs.declared.node.AigNodeType.{AigNodeType}
use Rattle.aig_circuit.specs.declared.node.AigNodeType.TheVariants.{False, Leaf, And}
use Rattle.aig_circuit.specs.Edge.{edge_to, literal_of}
use Rattle.aig_giving.specs.declared.lists.GivenLatch.{GivenLatch}
use Rattle.aig_giving.specs.declared.lists.GivenNode.{GivenNode}

-- the edge of a literal: to the node of half its number, inverted where it is odd
abbrev pub edge_of : ℕ → AigEdge
edge_of literal = edge_to (literal / 2) (not (literal % 2 == 0))

-- a latch: without an initial edge its literal is 0
abbrev pub latch_with : ℕ → AigEdge → Option AigEdge → GivenLatch
latch_with input next None =
    record { input = input; next = literal_of next; init = 0; has_init = false }
latch_with input next (Some init) =
    record { input = input; next = literal_of next; init = literal_of init; has_init = true }

abbrev pub given_latch : AigLatch → GivenLatch
given_latch l = latch_with l.input l.next l.init

-- what a node is: without operands their literals are 0
abbrev pub node_with : AigNodeType → GivenNode
node_with False = record { kind = 0; fanin0 = 0; fanin1 = 0 }
node_with Leaf = record { kind = 1; fanin0 = 0; fanin1 = 0 }
node_with (And a b) = record { kind = 2; fanin0 = literal_of a; fanin1 = literal_of b }

abbrev pub given_node : AigNode → GivenNode
given_node node = node_with node.typ
