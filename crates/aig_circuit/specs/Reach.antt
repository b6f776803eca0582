-- Part of what is promised.
-- What is reached from a set of nodes, along operands, and over time along next edges. (The cone of
-- influence.)
use Rattle.std.specs.Prelude.{◌≡◌, ℕ, ◌<◌, ◌⊎◌, ◌↔◌, Bool, Some, List, length, Contains}
use Rattle.aig_circuit.specs.declared.edge.AigEdge.{AigEdge}
use Rattle.aig_circuit.specs.declared.node.AigNodeType.TheVariants.{And}
use Rattle.aig_circuit.specs.declared.node.AigNode.{AigNode}
use Rattle.aig_circuit.specs.declared.node.AigLatch.{AigLatch}
use Rattle.aig_circuit.specs.Node.{kind_at}
use Rattle.aig_circuit.specs.Circuit.{Circuit}
use Rattle.aig_circuit.specs.Marks.{IsMarked}

-- n is a gate, and m the node of one of its operands
abbrev pub IsFanin : List AigNode → ℕ → ℕ → Type 0
IsFanin nodes n m =
    (a b : AigEdge) × (kind_at nodes n ≡ Some (And a b)) × ((m ≡ a.node_id) ⊎ (m ≡ b.node_id))

-- n is a latch's leaf, and m the node of its next edge
abbrev pub IsLatchNext : List AigLatch → ℕ → ℕ → Type 0
IsLatchNext latchs n m =
    (latch : AigLatch) × Contains latchs latch × (n ≡ latch.input) × (m ≡ latch.next.node_id)

-- m is an operand's node, or the node of a latch's next edge
abbrev pub DependsOn : Circuit → ℕ → ℕ → Type 0
DependsOn c n m = IsFanin c.nodes n m ⊎ IsLatchNext c.latchs n m

-- a path of such steps, perhaps of none, leads from one of the roots to the node
pub data IsReached (Step : ℕ → ℕ → Type 0) (roots : List ℕ) : ℕ → Type 0 where
  root : {n : ℕ} → Contains roots n → IsReached Step roots n
  step : {n m : ℕ} → IsReached Step roots n → Step n m → IsReached Step roots m

-- the node is in the cone of the roots: it is 0, or it is reached along operands and next edges
abbrev pub IsInCone : Circuit → List ℕ → ℕ → Type 0
IsInCone c roots n = (n ≡ 0) ⊎ IsReached (DependsOn c) roots n

-- one mark a node, which is set exactly where P holds
pub record MarksExactly (nodes : List AigNode) (P : ℕ → Type 0) (marks : List Bool) : Type 0 where
  pub count : length marks ≡ length nodes
  pub exactly : (n : ℕ) → n < length nodes → IsMarked marks n ↔ P n
