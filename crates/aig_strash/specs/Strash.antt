-- Part of what is promised.
-- Structural hashing: gates whose trees are equal up to exchange share one node.
use Rattle.std.specs.Prelude.{◌≡◌, ℕ, ◌<◌, ◌↔◌, IsTrue, Some, List, length, map}
use Rattle.std.specs.FinMap.{get}
use Rattle.aig_circuit.specs.declared.node.AigNode.{AigNode}
use Rattle.aig_circuit.specs.Node.{kind_at}
use Rattle.aig_circuit.specs.Circuit.{Circuit, IsLeaf}
use Rattle.aig_circuit.specs.Renumber.{kept_circuit, renumbered_kind}
use Rattle.aig_circuit.specs.Tree.{tree_of}
use Rattle.aig_strash.specs.Exchange.{HaveEqualTrees, IsRepresentative, IsGate, equal_up_to_exchange, representative_of, image_of, kept_before, kept_nodes, leaves_before, with_leaves}

-- the circuit of the kept nodes, in their order; operands are put in order again, lists follow, and
-- so do names of kept nodes
abbrev pub strashed : Circuit → Circuit
strashed c = kept_circuit (image_of c.nodes) (kept_nodes c.nodes) c

-- Node n of the old circuit is node `number n` of the new one, in which no two nodes have trees
-- that are equal up to exchange.
pub record MergesTrees (old new : Circuit) (number : ℕ → ℕ) : Type 0 where
  -- an old node's tree is that of its image, each leaf named by its place among the leaves
  pub trees : (n : ℕ) → n < length old.nodes
      → IsTrue (equal_up_to_exchange
      (with_leaves (leaves_before new.nodes) (tree_of new.nodes (number n)))
      (with_leaves (leaves_before old.nodes) (tree_of old.nodes n)))
  -- nodes have one image exactly where their trees are equal
  pub merged : (m n : ℕ) → m < length old.nodes → n < length old.nodes
      → (number m ≡ number n) ↔ HaveEqualTrees old.nodes m n
  pub distinct : (m n : ℕ) → m < length new.nodes → n < length new.nodes
      → HaveEqualTrees new.nodes m n → m ≡ n
  -- each new node is the image of one
  pub onto : (m : ℕ) → m < length new.nodes → (n : ℕ) × (n < length old.nodes) × (number n ≡ m)
  -- a leaf has the place among the leaves that it had
  pub leaves : (n : ℕ) → IsLeaf old.nodes n
      → IsLeaf new.nodes (number n)
      × (leaves_before new.nodes (number n) ≡ leaves_before old.nodes n)

-- A node's representative is the least node with its tree, and of what is no gate it is the node
-- itself. Its new number is the count of the kept nodes before its representative.
pub record NumbersRepresentatives (nodes : List AigNode) (number : ℕ → ℕ) : Type 0 where
  pub first : (n : ℕ) → n < length nodes → IsRepresentative nodes n (representative_of nodes n)
  pub others : (n : ℕ) → n < length nodes → ¬ IsGate nodes n → representative_of nodes n ≡ n
  pub places : (n : ℕ) → n < length nodes → number n ≡ kept_before nodes (representative_of nodes n)

-- The new circuit has the kept nodes. A node's image is of its kind: of a gate, the and of its
-- operands' images. All inputs stay, and so do the names of kept nodes.
pub record KeepsRepresentatives (old new : Circuit) (number : ℕ → ℕ) : Type 0 where
  pub count : length new.nodes ≡ length (kept_nodes old.nodes)
  pub kinds : (n : ℕ) → n < length old.nodes
      → kind_at new.nodes (number n) ≡ Some (renumbered_kind number (kind_at old.nodes n))
  pub inputs : new.inputs ≡ map number old.inputs
  pub names : (n : ℕ) → n < length old.nodes → representative_of old.nodes n ≡ n
      → get new.names (number n) ≡ get old.names n
