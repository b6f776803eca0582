-- Trees of the strashed circuit are those of the old one, and no two of them are equal.
use Rattle.aig_base.proofs.Words.{◌≡◌, ℕ, ◌<◌, Some, List, length, get_or, refl, sym, ap, subst, ◌∙◌, inl, inr, eq-eqb}
use Rattle.aig_circuit.specs.declared.node.AigNodeType.{AigNodeType}
use Rattle.aig_circuit.specs.declared.node.AigNodeType.TheVariants.{False, Leaf, And}
use Rattle.aig_circuit.specs.declared.node.AigNode.{AigNode}
use Rattle.aig_circuit.proofs.Words.{kind_at, IsOrdered, Tree, tree_of, AreNodes, Circuit, IsCircuit, IsLeaf, nodes_in_order, renumbered_edge, renumbered_kind}
use Rattle.aig_circuit.proofs.Building.{and_of-cases}
use Rattle.aig_circuit.proofs.Trees.{by_smaller, kind_at-there, kind_at-within, tree_of-false, tree_of-leaf, tree_of-and}
use Rattle.aig_renumber.proofs.NodesInOrder.{IsLeaf-number, IsOrdered-made, kind_at-number, length-nodes_in_order}
use Rattle.aig_strash.specs.Exchange.{HaveEqualTrees, image_of, kept_nodes, leaves_before, with_leaves}
use Rattle.aig_strash.specs.Strash.{MergesTrees, strashed}
use Rattle.aig_strash.proofs.Alike.{Merges-kept, operands-there}
use Rattle.aig_strash.proofs.Equal.{Equal, equal-ands, equal-then, equal-turned, equal-with_leaves, with_leaves-itself}
use Rattle.aig_strash.proofs.Firsts.{first-leaf, image-apart, image-place, image-same, kept-within, kept_at-kept}
use Rattle.aig_strash.proofs.Leaves.{leaves-kept}

-- trees that are made of equal ones are equal
made-equal : (s t u v : Tree) → s ≡ u → t ≡ v → Equal u v → Equal s t
made-equal s t u v p q h = subst (Equal s) (sym q) (subst (λ w. Equal w v) (sym p) h)

module _ (nodes : List AigNode) (are : AreNodes nodes) where
  abbrev Within : ℕ → Type 0
  Within n = n < length nodes

  abbrev kept : ℕ → ℕ
  kept i = get_or (kept_nodes nodes) i 0

  abbrev pub merged : List AigNode
  merged = nodes_in_order nodes (image_of nodes) 0 (kept_nodes nodes)

  kind : (n : ℕ) (k : AigNodeType) → Within n → kind_at nodes n ≡ Some k → kind_at merged (image_of nodes n) ≡ Some (renumbered_kind (image_of nodes) (Some k))
  kind n k h is = kind_at-number nodes Within (kept_nodes nodes) (image_of nodes) (Merges-kept nodes are) n k h is

  after : IsOrdered merged
  after = IsOrdered-made nodes Within (kept_nodes nodes) (image_of nodes) (Merges-kept nodes are)

  -- under names that agree on leaves
  module _ (old_name new_name : ℕ → ℕ) (same : (n : ℕ) → IsLeaf nodes n → new_name (image_of nodes n) ≡ old_name n) where
    abbrev new_tree : ℕ → Tree
    new_tree n = with_leaves new_name (tree_of merged (image_of nodes n))

    abbrev old_tree : ℕ → Tree
    old_tree n = with_leaves old_name (tree_of nodes n)

    tree_of_kind : (n : ℕ) → ((m : ℕ) → m < n → Within m → Equal (new_tree m) (old_tree m)) → Within n → (k : AigNodeType) → kind_at nodes n ≡ Some k → Equal (new_tree n) (old_tree n)
    tree_of_kind n smaller h False is =
        made-equal _ _ _ _ (ap (with_leaves new_name) (tree_of-false merged (image_of nodes n) (kind n False h is))) (ap (with_leaves old_name) (tree_of-false nodes n is)) refl
    tree_of_kind n smaller h Leaf is =
        made-equal _ _ _ _ (ap (with_leaves new_name) (tree_of-leaf merged (image_of nodes n) (kind n Leaf h is))) (ap (with_leaves old_name) (tree_of-leaf nodes n is)) (eq-eqb (new_name (image_of nodes n)) (old_name n) (same n is))
    tree_of_kind n smaller h (And a b) is =
        let there = operands-there nodes are n a b is in
        let first = smaller a.node_id (are.ordered.first_before n a b is) there.0 in
        let second = smaller b.node_id (are.ordered.second_before n a b is) there.1 in
        let e = renumbered_edge (image_of nodes) a in
        let f = renumbered_edge (image_of nodes) b in
        let old = ap (with_leaves old_name) (tree_of-and nodes are.ordered n a b is) in
        elim (and_of-cases e f) [
          | inl p ↦ made-equal _ _ _ _ (ap (with_leaves new_name) (tree_of-and merged after (image_of nodes n) f e (kind n (And a b) h is ∙ ap Some p.0))) old
              (equal-ands b.compl (new_tree b.node_id) a.compl (new_tree a.node_id) a.compl (old_tree a.node_id) b.compl (old_tree b.node_id) (inr (refl, second, refl, first)))
          | inr p ↦ made-equal _ _ _ _ (ap (with_leaves new_name) (tree_of-and merged after (image_of nodes n) e f (kind n (And a b) h is ∙ ap Some p.0))) old
              (equal-ands a.compl (new_tree a.node_id) b.compl (new_tree b.node_id) a.compl (old_tree a.node_id) b.compl (old_tree b.node_id) (inl (refl, first, refl, second)))
        ]

    -- each node's tree is that of its image
    pub named-trees : (n : ℕ) → Within n → Equal (new_tree n) (old_tree n)
    named-trees = by_smaller (λ n. Within n → Equal (new_tree n) (old_tree n)) (λ n smaller h. let k = kind_at-there nodes n h in tree_of_kind n smaller h k.0 k.1)

  pub kept_within : (i : ℕ) → i < length merged → i < length (kept_nodes nodes)
  kept_within i h = subst (λ n. i < n) (length-nodes_in_order nodes (image_of nodes) 0 (kept_nodes nodes)) h

  old_within : (i : ℕ) → i < length merged → Within (kept i)
  old_within i h = kept-within nodes are (kept i) (kept_at-kept nodes are i (kept_within i h))

  -- a new node's tree is the old one's, each leaf under its old name
  old-tree : (i : ℕ) → i < length merged → Equal (with_leaves kept (tree_of merged i)) (tree_of nodes (kept i))
  old-tree i h =
      let named = named-trees (λ n. n) kept (λ n leaf. (Merges-kept nodes are).leaf_back n (kind_at-within nodes n Leaf leaf) leaf) (kept i) (old_within i h) in
      subst (Equal (with_leaves kept (tree_of merged i))) (with_leaves-itself (tree_of nodes (kept i)))
      (subst (λ m. Equal (with_leaves kept (tree_of merged m)) (with_leaves (λ n. n) (tree_of nodes (kept i)))) (image-place nodes are i (kept_within i h)) named)

  -- no two new nodes have equal trees
  pub distinct-merged : (m n : ℕ) → m < length merged → n < length merged → HaveEqualTrees merged m n → m ≡ n
  distinct-merged m n h l equal =
      let named = equal-with_leaves kept (tree_of merged m) (tree_of merged n) equal in
      let first = equal-turned (with_leaves kept (tree_of merged m)) (tree_of nodes (kept m)) (old-tree m h) in
      let second = equal-then (with_leaves kept (tree_of merged m)) (with_leaves kept (tree_of merged n)) (tree_of nodes (kept n)) named (old-tree n l) in
      let old = equal-then (tree_of nodes (kept m)) (with_leaves kept (tree_of merged m)) (tree_of nodes (kept n)) first second in
      sym (image-place nodes are m (kept_within m h)) ∙ image-same nodes are (kept m) (kept n) (old_within m h) (old_within n l) old ∙ image-place nodes are n (kept_within n l)

  -- a leaf keeps its place among the leaves
  pub leaf-place : (n : ℕ) → IsLeaf nodes n → leaves_before merged (image_of nodes n) ≡ leaves_before nodes n
  leaf-place n leaf = leaves-kept nodes are n (kind_at-within nodes n Leaf leaf) (first-leaf nodes are n leaf)

pub MergesTrees-strashed : (c : Circuit) → IsCircuit c → MergesTrees c (strashed c) (image_of c.nodes)
MergesTrees-strashed c is = record {
  trees = named-trees c.nodes is.nodes (leaves_before c.nodes) (leaves_before (merged c.nodes is.nodes)) (leaf-place c.nodes is.nodes);
  merged = λ m n h l. (image-apart c.nodes is.nodes m n h l, image-same c.nodes is.nodes m n h l);
  distinct = distinct-merged c.nodes is.nodes;
  onto = λ i h. (
    get_or (kept_nodes c.nodes) i 0,
    kept-within c.nodes is.nodes (get_or (kept_nodes c.nodes) i 0) (kept_at-kept c.nodes is.nodes i (kept_within c.nodes is.nodes i h)),
    image-place c.nodes is.nodes i (kept_within c.nodes is.nodes i h),
  );
  leaves = λ n leaf. (
    IsLeaf-number c.nodes (λ m. m < length c.nodes) (kept_nodes c.nodes) (image_of c.nodes) (Merges-kept c.nodes is.nodes) n (kind_at-within c.nodes n Leaf leaf) leaf,
    leaf-place c.nodes is.nodes n leaf,
  );
}
