-- Serves private clauses alone.
-- The lists of a circuit, made of the lines of a file, with each variable as its own number.
use Rattle.std.specs.Prelude.{ℕ, ◌+◌, ◌/◌, ◌%◌, ◌==◌, if◌then◌else◌, List, map, Option, Some, None}
use Rattle.aig_circuit.specs.declared.edge.AigEdge.{AigEdge}
use Rattle.aig_circuit.specs.declared.node.AigNodeType.{AigNodeType}
use Rattle.aig_circuit.specs.declared.node.AigNodeType.TheVariants.{False, Leaf}
use Rattle.aig_circuit.specs.declared.node.AigNode.{AigNode}
use Rattle.aig_circuit.specs.declared.node.AigLatch.{AigLatch}
use Rattle.aig_circuit.specs.Edge.{edge_to}
use Rattle.aig_circuit.specs.Node.{and_of}
use Rattle.aig_format.specs.File.{LatchLine, GateLine}
use Rattle.aig_format.specs.Variables.{gate_among}
use Rattle.aig_format.specs.Numbering.{numbers_from}
use Rattle.aig_format.specs.Circuit.{initial_of}

-- a literal's variable
abbrev pub variable_of_literal : ℕ → ℕ
variable_of_literal e = e / 2

-- a literal's edge
abbrev pub edge_from : ℕ → AigEdge
edge_from e = edge_to (e / 2) (e % 2 == 1)

-- a latch
abbrev pub latch_of_line : LatchLine → AigLatch
latch_of_line l = record { input = l.literal / 2; next = edge_from l.next; init = initial_of l }

-- a gate is the and of its operands, put in order; a variable that no gate defines is a leaf
abbrev pub kind_of_line : Option GateLine → AigNodeType
kind_of_line (Some g) = and_of (edge_from g.rhs0) (edge_from g.rhs1)
kind_of_line None = Leaf

-- what a variable is, where these gates are defined
abbrev pub kind_among : List GateLine → ℕ → AigNodeType
kind_among gates v = if v == 0 then False else kind_of_line (gate_among gates v)

-- the node of a variable, which has its number
abbrev pub node_from : List GateLine → ℕ → AigNode
node_from gates v = record { node_id = v; typ = kind_among gates v }

-- the nodes of n variables in a row, from v on
abbrev pub nodes_in_row : List GateLine → ℕ → ℕ → List AigNode
nodes_in_row gates n v = map (node_from gates) (numbers_from n v)

-- the nodes of the variables 0 to the greatest
abbrev pub nodes_of_variables : ℕ → List GateLine → List AigNode
nodes_of_variables greatest gates = nodes_in_row gates (greatest + 1) 0
