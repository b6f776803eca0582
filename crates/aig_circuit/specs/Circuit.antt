-- Part of what is promised.
-- Circuits: nodes, inputs, latches, and properties.
-- (The crate aig; AIGER 1.9: "Reset logic" for initial edges, "Properties" for all properties but
-- outputs.)
use Rattle.std.specs.Prelude.{◌≡◌, ◌≢◌, ℕ, ◌<◌, ◌≤◌, IsTrue, Some, IfSome, List, [], ◌∷◌, ◌++◌, length, map, All, AllPairs, Contains, slice_get}
use Rattle.std.specs.Ordering.{nat_cmp}
use Rattle.std.specs.FinMap.{FinMap, contains_key, empty}
use Rattle.aig_circuit.specs.declared.edge.AigEdge.{AigEdge}
use Rattle.aig_circuit.specs.declared.node.AigNodeType.TheVariants.{False, Leaf}
use Rattle.aig_circuit.specs.declared.node.AigNode.{AigNode}
use Rattle.aig_circuit.specs.declared.node.AigLatch.{AigLatch}
use Rattle.aig_circuit.specs.Node.{kind_at, IsOrdered}
use Rattle.aig_circuit.specs.Properties.{Properties, AllProperties, no_properties}

-- an And-Inverter Graph with its lists: nodes, inputs, latches, properties, and the names of nodes
-- by their bytes
pub record Circuit : Type 0 where
  pub nodes : List AigNode
  pub inputs : List ℕ
  pub latchs : List AigLatch
  pub properties : Properties AigEdge
  pub names : FinMap nat_cmp (List ℕ)

-- node n is a leaf
abbrev pub IsLeaf : List AigNode → ℕ → Type 0
IsLeaf nodes n = kind_at nodes n ≡ Some Leaf

-- the edge's node is there
abbrev pub IsInRange : List AigNode → AigEdge → Type 0
IsInRange nodes e = e.node_id < length nodes

-- the latch's leaf is a leaf, and its edges are in range
pub record IsLatch (nodes : List AigNode) (latch : AigLatch) : Type 0 where
  pub leaf : IsLeaf nodes latch.input
  pub next : IsInRange nodes latch.next
  pub init : IfSome latch.init (IsInRange nodes)

-- the leaves of latches, in order
abbrev pub latch_leaves : List AigLatch → List ℕ
latch_leaves latchs = map (λ latch. latch.input) latchs

-- node n is neither an input nor a latch's leaf
pub record IsFree (inputs : List ℕ) (latchs : List AigLatch) (n : ℕ) : Type 0 where
  pub no_input : ¬ Contains inputs n
  pub no_latch : ¬ Contains (latch_leaves latchs) n

-- some leaf is neither an input nor a latch's leaf
abbrev pub HasFreeLeaf : List AigNode → List ℕ → List AigLatch → Type 0
HasFreeLeaf nodes inputs latchs = (n : ℕ) × IsLeaf nodes n × IsFree inputs latchs n

-- inputs and the leaves of latches are leaves, all of them distinct
pub record AreLeaves (nodes : List AigNode) (inputs : List ℕ) (latchs : List AigLatch)
    : Type 0 where
  pub leaves : All (IsLeaf nodes) (inputs ++ latch_leaves latchs)
  pub distinct : AllPairs (λ m n. m ≢ n) (inputs ++ latch_leaves latchs)

-- node 0 is false and no other is, a node's number is its place, and operands come first
pub record AreNodes (nodes : List AigNode) : Type 0 where
  pub false_first : kind_at nodes 0 ≡ Some False
  pub false_once : (n : ℕ) → kind_at nodes n ≡ Some False → n ≡ 0
  pub numbered : (n : ℕ) (node : AigNode) → slice_get nodes n ≡ Some node → node.node_id ≡ n
  pub ordered : IsOrdered nodes

-- what is true of every circuit
pub record IsCircuit (c : Circuit) : Type 0 where
  pub nodes : AreNodes c.nodes
  pub inputs : All (IsLeaf c.nodes) c.inputs
  pub inputs_distinct : AllPairs (λ m n. m ≢ n) c.inputs
  pub latchs : All (IsLatch c.nodes) c.latchs
  pub latchs_distinct : AllPairs (λ m n. m ≢ n) (latch_leaves c.latchs)
  pub apart : All (λ n. ¬ Contains c.inputs n) (latch_leaves c.latchs)
  pub properties : AllProperties (IsInRange c.nodes) c.properties
  pub named : (n : ℕ) → IsTrue (contains_key c.names n) → n < length c.nodes

-- every leaf is an input or a latch's
abbrev pub IsClosed : Circuit → Type 0
IsClosed c = (n : ℕ) → IsLeaf c.nodes n → Contains (c.inputs ++ latch_leaves c.latchs) n

-- the first nodes are those of `first`
pub record HasFirst (nodes first : List AigNode) : Type 0 where
  pub longer : length first ≤ length nodes
  pub same : (n : ℕ) → n < length first → kind_at nodes n ≡ kind_at first n

-- the first nodes are those of `from`, and the latch leaves are the same in the same order
pub record BeginsWith (circuit from : Circuit) : Type 0 where
  pub nodes : HasFirst circuit.nodes from.nodes
  pub leaves : latch_leaves circuit.latchs ≡ latch_leaves from.latchs

-- the circuit of the false node alone
abbrev pub only_false : Circuit
only_false = record {
  nodes = record { node_id = 0; typ = False } ∷ [];
  inputs = [];
  latchs = [];
  properties = no_properties;
  names = empty;
}
