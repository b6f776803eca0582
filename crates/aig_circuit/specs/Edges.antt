-- Part of what is promised.
-- Which edges a circuit names: those of its properties, its next edges and its initial edges; which
-- nodes edges name.
-- (AIGER 1.9: "Properties" and "Reset logic".)
use Rattle.std.specs.Prelude.{◌≢◌, ◌≡◌, ℕ, option_to_list, IfSome, IsSomeAnd, List, ◌∷◌, ◌++◌, map, Contains}
use Rattle.std.specs.List.{flat_map}
use Rattle.aig_circuit.specs.declared.edge.AigEdge.{AigEdge}
use Rattle.aig_circuit.specs.declared.node.AigLatch.{AigLatch}
use Rattle.aig_circuit.specs.Circuit.{Circuit}
use Rattle.aig_circuit.specs.Properties.{entries_of}

-- the nodes of the edges
abbrev pub nodes_of : List AigEdge → List ℕ
nodes_of es = map (λ e. e.node_id) es

-- one of the edges names node n
abbrev pub ReferTo : List AigEdge → ℕ → Type 0
ReferTo es n = Contains (nodes_of es) n

-- the edges of all properties
abbrev pub property_edges : Circuit → List AigEdge
property_edges c = entries_of c.properties

-- a latch's next edge, and its initial edge if it has one
abbrev pub latch_edges : AigLatch → List AigEdge
latch_edges latch = latch.next ∷ option_to_list latch.init

-- the initial edges that are there
abbrev pub initial_edges : List AigLatch → List AigEdge
initial_edges latchs = flat_map (λ latch. option_to_list latch.init) latchs

-- all properties, all next and all initial edges
abbrev pub roots_of : Circuit → List AigEdge
roots_of c = property_edges c ++ flat_map latch_edges c.latchs

-- the latch has an initial edge that isn't constant
abbrev pub HasNonConstantInit : AigLatch → Type 0
HasNonConstantInit latch = IsSomeAnd latch.init (λ e. e.node_id ≢ 0)

-- its initial edge is constant, or it has none
abbrev pub HasConstantInit : AigLatch → Type 0
HasConstantInit latch = IfSome latch.init (λ e. e.node_id ≡ 0)
