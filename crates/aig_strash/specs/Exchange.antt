-- Part of what is promised.
-- Trees that are equal up to the exchange of operands (commutativity). (Structural hashing of
-- And-Inverter Graphs.)
use Rattle.std.specs.Prelude.{◌≡◌, ℕ, ◌≤◌, ◌==◌, Bool, true, false, not, ◌&&◌, ◌||◌, if◌then◌else◌, IsTrue, Some, List, length, map, find, filter, unwrap_or, count_by, take}
use Rattle.aig_circuit.specs.declared.edge.AigEdge.{AigEdge}
use Rattle.aig_circuit.specs.declared.node.AigNodeType.TheVariants.{And}
use Rattle.aig_circuit.specs.declared.node.AigNode.{AigNode}
use Rattle.aig_circuit.specs.Node.{kind_at}
use Rattle.aig_circuit.specs.Tree.{Tree, FalseTree, LeafTree, AndTree, tree_of}
use Rattle.aig_circuit.specs.Runs.{is_leaf}
use Rattle.aig_circuit.specs.Renumber.{position_of}

-- both are inverted, or none is
abbrev pub same_inversion : Bool → Bool → Bool
same_inversion i j = if i then j else not j

-- both are false, or the same leaf, or ands whose operands are equal up to exchange, pairwise or
-- crossed
abbrev pub equal_up_to_exchange : Tree → Tree → Bool
equal_up_to_exchange FalseTree FalseTree = true
equal_up_to_exchange (LeafTree m) (LeafTree n) = m == n
equal_up_to_exchange (AndTree i s j t) (AndTree k u l v) =
    same_inversion i k && equal_up_to_exchange s u && same_inversion j l && equal_up_to_exchange t v
    || same_inversion i l && equal_up_to_exchange s v && same_inversion j k
    && equal_up_to_exchange t u
equal_up_to_exchange s t = false

-- the nodes have trees that are equal up to exchange
abbrev pub HaveEqualTrees : List AigNode → ℕ → ℕ → Type 0
HaveEqualTrees nodes m n = IsTrue (equal_up_to_exchange (tree_of nodes m) (tree_of nodes n))

-- node n is a gate
abbrev pub IsGate : List AigNode → ℕ → Type 0
IsGate nodes n = (a : AigEdge) × (b : AigEdge) × (kind_at nodes n ≡ Some (And a b))

-- m is the least node with the tree of node n
pub record IsRepresentative (nodes : List AigNode) (n m : ℕ) : Type 0 where
  pub low : m ≤ n
  pub equal : HaveEqualTrees nodes m n
  pub least : (j : ℕ) → HaveEqualTrees nodes j n → m ≤ j

-- how many leaves come before node n
abbrev pub leaves_before : List AigNode → ℕ → ℕ
leaves_before nodes n = count_by (λ node. is_leaf node.typ) (take n nodes)

-- the tree with these names for its leaves
abbrev pub with_leaves : (ℕ → ℕ) → Tree → Tree
with_leaves name FalseTree = FalseTree
with_leaves name (LeafTree leaf) = LeafTree (name leaf)
with_leaves name (AndTree i s j t) = AndTree i (with_leaves name s) j (with_leaves name t)

-- the numbers of the nodes, in order
abbrev pub node_numbers : List AigNode → List ℕ
node_numbers nodes = map (λ node. node.node_id) nodes

-- the representative of node n: the least node with its tree, which is the node itself where it is
-- no gate
abbrev pub representative_of : List AigNode → ℕ → ℕ
representative_of nodes n =
    unwrap_or
    (find (λ m. equal_up_to_exchange (tree_of nodes m) (tree_of nodes n)) (node_numbers nodes)) n

-- the node is its own representative
abbrev pub is_representative : List AigNode → ℕ → Bool
is_representative nodes n = representative_of nodes n == n

-- the nodes that are kept, in their order
abbrev pub kept_nodes : List AigNode → List ℕ
kept_nodes nodes = filter (is_representative nodes) (node_numbers nodes)

-- the new number of node n: the place of its representative among the kept nodes
abbrev pub image_of : List AigNode → ℕ → ℕ
image_of nodes n = position_of (kept_nodes nodes) (representative_of nodes n)

-- how many of the first n nodes are kept
abbrev pub kept_before : List AigNode → ℕ → ℕ
kept_before nodes n = length (filter (is_representative nodes) (take n (node_numbers nodes)))
