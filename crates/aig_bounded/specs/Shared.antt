-- Part of what is promised.
-- Gates that are folded and shared while they are made. (Constant propagation and structural
-- hashing.)
use Rattle.std.specs.Prelude.{ℕ, ◌==◌, ◌&&◌, Bool, false, Option, Some, None, List, [], ◌∷◌, length, find, option_map}
use Rattle.aig_circuit.specs.declared.edge.AigEdge.{AigEdge}
use Rattle.aig_circuit.specs.declared.node.AigNode.{AigNode}
use Rattle.aig_circuit.specs.declared.node.AigNodeType.{AigNodeType}
use Rattle.aig_circuit.specs.declared.node.AigNodeType.TheVariants.{False, Leaf, And}
use Rattle.aig_circuit.specs.Build.{with_node}
use Rattle.aig_circuit.specs.Edge.{edge_to, inverse, literal_of}
use Rattle.aig_circuit.specs.Node.{and_of}
use Rattle.aig_unroll.specs.Frame.{folded}
use Rattle.aig_bounded.specs.declared.place.Place.{Place}

-- nodes, and the inputs among them with their places, one for one
pub record Netlist : Type 0 where
  pub nodes : List AigNode
  pub inputs : List ℕ
  pub places : List Place

-- a netlist, and an edge in it
pub record Made : Type 0 where
  pub net : Netlist
  pub edge : AigEdge

abbrev pub made_in : Netlist → AigEdge → Made
made_in net e = record { net = net; edge = e }

-- both kinds are the and of the same operands
abbrev pub is_same_gate : AigNodeType → AigNodeType → Bool
is_same_gate (And a b) (And c d) = literal_of a == literal_of c && literal_of b == literal_of d
is_same_gate (And a b) False = false
is_same_gate (And a b) Leaf = false
is_same_gate False other = false
is_same_gate Leaf other = false

-- the number of the first node that is the same gate, if there is one
abbrev pub gate_among : List AigNode → AigNodeType → Option ℕ
gate_among nodes kind =
    option_map (λ node. node.node_id) (find (λ node. is_same_gate node.typ kind) nodes)

-- the netlist with one node more of this kind
abbrev pub with_gate : Netlist → AigNodeType → Netlist
with_gate net kind = record net { nodes = with_node net.nodes kind }

-- the edge that was folded to, or else the gate that is there, or else a new one
abbrev pub made_by : Option AigEdge → Option ℕ → AigNodeType → Netlist → Made
made_by (Some e) there kind net = made_in net e
made_by None (Some n) kind net = made_in net (edge_to n false)
made_by None None kind net = made_in (with_gate net kind) (edge_to (length net.nodes) false)

-- the and of two edges
abbrev pub shared_and : Netlist → AigEdge → AigEdge → Made
shared_and net a b = made_by (folded a b) (gate_among net.nodes (and_of a b)) (and_of a b) net

-- the or of two edges: the inverse of the and of their inverses
abbrev pub shared_or : Netlist → AigEdge → AigEdge → Made
shared_or net a b =
    let none = shared_and net (inverse a) (inverse b) in
    made_in none.net (inverse none.edge)

-- the and of an edge and each of these, from the left
abbrev pub shared_ands : Made → List AigEdge → Made
shared_ands made [] = made
shared_ands made (e ∷ es) = shared_ands (shared_and made.net made.edge e) es

-- the or of an edge and each of these, from the left
abbrev pub shared_ors : Made → List AigEdge → Made
shared_ors made [] = made
shared_ors made (e ∷ es) = shared_ors (shared_or made.net made.edge e) es
