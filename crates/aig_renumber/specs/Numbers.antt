-- Serves private clauses alone.
-- Lists and names under other numbers. A table gives the new number of node n at place n.
-- (For the numbering of AIGER format 20071012, "Binary encoding".)
use Rattle.std.specs.Prelude.{◌≡◌, ℕ, ◌<◌, IfSome, IsTrue, List, All, length, slice_index}
use Rattle.std.specs.FinMap.{contains_key}
use Rattle.aig_circuit.specs.declared.edge.AigEdge.{AigEdge}
use Rattle.aig_circuit.specs.declared.node.AigLatch.{AigLatch}
use Rattle.aig_circuit.specs.Properties.{AllProperties}
use Rattle.aig_circuit.specs.Circuit.{Circuit}

-- the table has a number for node n
abbrev pub IsIndex : List ℕ → ℕ → Type 0
IsIndex table n = n < length table

-- each new number is a place in the list of kept nodes, and each kept node has its place as its
-- number
pub record HavePlaces (numbers kept : List ℕ) : Type 0 where
  pub within : All (λ i. i < length kept) numbers
  pub places : (i : ℕ) → i < length kept → slice_index numbers (slice_index kept i) ≡ i

-- the edge is to a node of S
abbrev pub IsEdgeIn : (ℕ → Type 0) → AigEdge → Type 0
IsEdgeIn S e = S e.node_id

-- the latch's leaf and edges are in S
pub record IsLatchIn (S : ℕ → Type 0) (latch : AigLatch) : Type 0 where
  pub leaf : S latch.input
  pub next : IsEdgeIn S latch.next
  pub init : IfSome latch.init (IsEdgeIn S)

-- the lists and names of the circuit speak of nodes in S alone
pub record SpeaksOf (S : ℕ → Type 0) (c : Circuit) : Type 0 where
  pub inputs : All S c.inputs
  pub latchs : All (IsLatchIn S) c.latchs
  pub properties : AllProperties (IsEdgeIn S) c.properties
  pub named : (n : ℕ) → IsTrue (contains_key c.names n) → S n
