-- Serves private clauses alone.
-- The gates of a file's variables, by the literals of their operands.
use Rattle.std.specs.Prelude.{ℕ, ◌+◌, ◌==◌, if◌then◌else◌, max, min, List, [], ◌∷◌, Option, Some, None}
use Rattle.aig_circuit.specs.declared.node.AigNodeType.{AigNodeType}
use Rattle.aig_circuit.specs.declared.node.AigNodeType.TheVariants.{False, Leaf}
use Rattle.aig_circuit.specs.declared.node.AigNode.{AigNode}
use Rattle.aig_circuit.specs.Node.{and_of}
use Rattle.aig_ordering.specs.declared.gates.Operands.{Operands}
use Rattle.aig_ordering.specs.Lists.{edge_from}

-- the operands, the greater one first
abbrev pub falling : Operands → Operands
falling gate = record { rhs0 = max gate.rhs0 gate.rhs1; rhs1 = min gate.rhs0 gate.rhs1 }

-- the first operand of a gate, and 0 of none
abbrev pub greater_in : Option Operands → ℕ
greater_in (Some gate) = gate.rhs0
greater_in None = 0

-- the second operand of a gate, and 1 of none
abbrev pub lesser_in : Option Operands → ℕ
lesser_in (Some gate) = gate.rhs1
lesser_in None = 1

-- what a variable is: with a gate the and of its operands, put in order; else 0 is false, and any
-- other a leaf
abbrev pub kind_of_operands : ℕ → Option Operands → AigNodeType
kind_of_operands v (Some gate) = and_of (edge_from gate.rhs0) (edge_from gate.rhs1)
kind_of_operands v None = if v == 0 then False else Leaf

-- the node of a variable, which has its number
abbrev pub node_in : ℕ → Option Operands → AigNode
node_in v gate = record { node_id = v; typ = kind_of_operands v gate }

-- the nodes of variables in a row, from v on
abbrev pub nodes_in_from : ℕ → List (Option Operands) → List AigNode
nodes_in_from v [] = []
nodes_in_from v (gate ∷ gates) = node_in v gate ∷ nodes_in_from (v + 1) gates

-- the nodes of the variables from 0 on
abbrev pub nodes_in : List (Option Operands) → List AigNode
nodes_in gates = nodes_in_from 0 gates
