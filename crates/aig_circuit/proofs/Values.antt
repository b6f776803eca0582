-- Values of nodes and edges: they depend on the values of leaves alone, also under other numbers.
use Rattle.std.proofs.Common.{◌≡◌, ℕ, ◌<◌, Bool, false, ◌&&◌, Option, Some, None, List, length, refl, sym, ap, ◌∙◌}
use Rattle.aig_circuit.specs.declared.edge.AigEdge.{AigEdge}
use Rattle.aig_circuit.specs.declared.node.AigNodeType.{AigNodeType}
use Rattle.aig_circuit.specs.declared.node.AigNodeType.TheVariants.{False, Leaf, And}
use Rattle.aig_circuit.specs.declared.node.AigNode.{AigNode}
use Rattle.aig_circuit.proofs.Words.{inverted_if, kind_at, IsOrdered, IsLeaf, renumbered_edge, renumbered_kind}
use Rattle.aig_circuit.specs.Tree.{tree_of, tree_of_kind, value_of_tree, node_value, edge_value}
use Rattle.aig_circuit.proofs.Trees.{by_smaller, kind_at-there, tree_of-is, node_value-false, node_value-leaf, node_value-and}
use Rattle.aig_circuit.proofs.Building.{node_value-and_of}

-- node n of S is node `number n` of the new nodes: it has its kind, and its operands are in S
pub record Renumbers (old new : List AigNode) (S : ℕ → Type 0) (number : ℕ → ℕ) : Type 0 where
  pub there : (n : ℕ) → S n → n < length old
  pub kinds : (n : ℕ) (k : AigNodeType) → S n → kind_at old n ≡ Some k → kind_at new (number n) ≡ Some (renumbered_kind number (Some k))
  pub operands : (n : ℕ) (a b : AigEdge) → S n → kind_at old n ≡ Some (And a b) → S a.node_id × S b.node_id

module _ (old new : List AigNode) (S : ℕ → Type 0) (number : ℕ → ℕ) (before : IsOrdered old) (after : IsOrdered new) (r : Renumbers old new S number) (x z : ℕ → Bool) where
  value_of_kind : ((n : ℕ) → S n → kind_at old n ≡ Some Leaf → z (number n) ≡ x n)
      → (n : ℕ) → ((m : ℕ) → m < n → S m → node_value new z (number m) ≡ node_value old x m) → S n → (k : AigNodeType) → kind_at old n ≡ Some k → node_value new z (number n) ≡ node_value old x n
  value_of_kind leaves n smaller s False is = node_value-false new z (number n) (r.kinds n False s is) ∙ sym (node_value-false old x n is)
  value_of_kind leaves n smaller s Leaf is = node_value-leaf new z (number n) (r.kinds n Leaf s is) ∙ leaves n s is ∙ sym (node_value-leaf old x n is)
  value_of_kind leaves n smaller s (And a b) is =
      let in_S = r.operands n a b s is in
      let first = smaller a.node_id (before.first_before n a b is) in_S.0 in
      let second = smaller b.node_id (before.second_before n a b is) in_S.1 in
      node_value-and_of new after z (number n) (renumbered_edge number a) (renumbered_edge number b) (r.kinds n (And a b) s is)
      ∙ ap (λ v. inverted_if a.compl v && inverted_if b.compl (node_value new z (number b.node_id))) first
      ∙ ap (λ v. inverted_if a.compl (node_value old x a.node_id) && inverted_if b.compl v) second
      ∙ sym (node_value-and old before x n a b is)

  -- nodes keep their values, where the leaves do
  pub node_value-renumbered : ((n : ℕ) → S n → kind_at old n ≡ Some Leaf → z (number n) ≡ x n) → (n : ℕ) → S n → node_value new z (number n) ≡ node_value old x n
  node_value-renumbered leaves n =
      by_smaller (λ m. S m → node_value new z (number m) ≡ node_value old x m)
      (λ m smaller s. let k = kind_at-there old m (r.there m s) in value_of_kind leaves m smaller s k.0 k.1) n

  -- and so do edges
  pub edge_value-renumbered : ((n : ℕ) → S n → kind_at old n ≡ Some Leaf → z (number n) ≡ x n) → (e : AigEdge) → S e.node_id → edge_value new z (renumbered_edge number e) ≡ edge_value old x e
  edge_value-renumbered leaves e s = ap (inverted_if e.compl) (node_value-renumbered leaves e.node_id s)

node_value-none : (nodes : List AigNode) → IsOrdered nodes → (x : ℕ → Bool) (n : ℕ) → kind_at nodes n ≡ None → node_value nodes x n ≡ false
unfolding node_value
node_value-none nodes o x n is = ap (value_of_tree x) (tree_of-is nodes o n ∙ ap (tree_of_kind (tree_of nodes) n) is)

module _ (nodes : List AigNode) (o : IsOrdered nodes) (x y : ℕ → Bool) (leaves : (n : ℕ) → IsLeaf nodes n → x n ≡ y n) where
  same_of_kind : (n : ℕ) → ((m : ℕ) → m < n → node_value nodes x m ≡ node_value nodes y m) → (k : Option AigNodeType) → kind_at nodes n ≡ k → node_value nodes x n ≡ node_value nodes y n
  same_of_kind n smaller None is = node_value-none nodes o x n is ∙ sym (node_value-none nodes o y n is)
  same_of_kind n smaller (Some False) is = node_value-false nodes x n is ∙ sym (node_value-false nodes y n is)
  same_of_kind n smaller (Some Leaf) is = node_value-leaf nodes x n is ∙ leaves n is ∙ sym (node_value-leaf nodes y n is)
  same_of_kind n smaller (Some (And a b)) is =
      node_value-and nodes o x n a b is
      ∙ ap (λ v. inverted_if a.compl v && inverted_if b.compl (node_value nodes x b.node_id)) (smaller a.node_id (o.first_before n a b is))
      ∙ ap (λ v. inverted_if a.compl (node_value nodes y a.node_id) && inverted_if b.compl v) (smaller b.node_id (o.second_before n a b is))
      ∙ sym (node_value-and nodes o y n a b is)

  -- the value of a node depends on the values of leaves alone
  pub node_value_by_leaves : (n : ℕ) → node_value nodes x n ≡ node_value nodes y n
  node_value_by_leaves = by_smaller (λ n. node_value nodes x n ≡ node_value nodes y n) (λ n smaller. same_of_kind n smaller (kind_at nodes n) refl)

  -- and so does that of an edge
  pub edge_value_by_leaves : (e : AigEdge) → edge_value nodes x e ≡ edge_value nodes y e
  edge_value_by_leaves e = ap (inverted_if e.compl) (node_value_by_leaves e.node_id)
