-- Nodes whose trees are equal are alike under their images, so the kept nodes merge the others.
use Rattle.aig_base.proofs.Words.{◌≡◌, ℕ, ◌<◌, Some, List, length, get_or, refl, sym, ap, subst, ◌∙◌, arith, inl, inr, false≢true}
use Rattle.aig_circuit.specs.declared.edge.AigEdge.{AigEdge}
use Rattle.aig_circuit.specs.declared.node.AigNodeType.{AigNodeType}
use Rattle.aig_circuit.specs.declared.node.AigNodeType.TheVariants.{False, Leaf, And}
use Rattle.aig_circuit.specs.declared.node.AigNode.{AigNode}
use Rattle.aig_circuit.proofs.Words.{edge_to, kind_at, and_of, tree_of, tree_of_kind, AreNodes, renumbered_edge, renumbered_kind}
use Rattle.aig_circuit.proofs.Building.{and_of-turned}
use Rattle.aig_circuit.proofs.Trees.{kind_at-there, kind_at-within, tree_of-is}
use Rattle.aig_renumber.proofs.NodesInOrder.{Merges}
use Rattle.aig_strash.specs.Exchange.{HaveEqualTrees, representative_of, image_of, kept_nodes}
use Rattle.aig_strash.proofs.Equal.{Equal, equal-operands}
use Rattle.aig_strash.proofs.Firsts.{first-is, first-leaf, first-within, image-0, image-back, image-below, image-place, image-same, image-within, kept-within, kept_at-kept}

module _ (nodes : List AigNode) (are : AreNodes nodes) where
  -- edges to nodes with equal trees have one image
  edge-alike : (a b : AigEdge) → a.node_id < length nodes → b.node_id < length nodes → a.compl ≡ b.compl → HaveEqualTrees nodes a.node_id b.node_id → renumbered_edge (image_of nodes) a ≡ renumbered_edge (image_of nodes) b
  edge-alike a b h l same equal = ap (λ n. edge_to n a.compl) (image-same nodes are a.node_id b.node_id h l equal) ∙ ap (edge_to (image_of nodes b.node_id)) same

  -- the operands of a gate are nodes
  pub operands-there : (n : ℕ) (a b : AigEdge) → kind_at nodes n ≡ Some (And a b) → (a.node_id < length nodes) × (b.node_id < length nodes)
  operands-there n a b is =
      let within = kind_at-within nodes n (And a b) is in
      let first = are.ordered.first_before n a b is in
      let second = are.ordered.second_before n a b is in
      (omega arith, omega arith)

  kinds-alike : (m n : ℕ) (k l : AigNodeType) → kind_at nodes m ≡ Some k → kind_at nodes n ≡ Some l → Equal (tree_of_kind (tree_of nodes) m (Some k)) (tree_of_kind (tree_of nodes) n (Some l))
      → renumbered_kind (image_of nodes) (Some k) ≡ renumbered_kind (image_of nodes) (Some l)
  kinds-alike m n False False is other equal = refl
  kinds-alike m n Leaf Leaf is other equal = refl
  kinds-alike m n (And a b) (And c d) is other equal =
      let low = operands-there m a b is in
      let high = operands-there n c d other in
      elim (equal-operands a.compl (tree_of nodes a.node_id) b.compl (tree_of nodes b.node_id) c.compl (tree_of nodes c.node_id) d.compl (tree_of nodes d.node_id) equal) [
        | inl p ↦ (
            let first = edge-alike a c low.0 high.0 p.0 p.1 in
            let second = edge-alike b d low.1 high.1 p.2 p.3 in
            ap (λ e. and_of e (renumbered_edge (image_of nodes) b)) first ∙ ap (and_of (renumbered_edge (image_of nodes) c)) second)
        | inr p ↦ (
            let first = edge-alike a d low.0 high.1 p.0 p.1 in
            let second = edge-alike b c low.1 high.0 p.2 p.3 in
            ap (λ e. and_of e (renumbered_edge (image_of nodes) b)) first ∙ ap (and_of (renumbered_edge (image_of nodes) d)) second
            ∙ and_of-turned (renumbered_edge (image_of nodes) d) (renumbered_edge (image_of nodes) c))
      ]
  kinds-alike m n k l is other equal = absurd (false≢true equal)

  -- nodes with equal trees are alike under the images
  pub nodes-alike : (m n : ℕ) → m < length nodes → n < length nodes → HaveEqualTrees nodes m n → renumbered_kind (image_of nodes) (kind_at nodes m) ≡ renumbered_kind (image_of nodes) (kind_at nodes n)
  nodes-alike m n h l equal =
      let first = kind_at-there nodes m h in
      let second = kind_at-there nodes n l in
      let one : tree_of nodes m ≡ tree_of_kind (tree_of nodes) m (Some first.0) = tree_of-is nodes are.ordered m ∙ ap (tree_of_kind (tree_of nodes) m) first.1 in
      let other : tree_of nodes n ≡ tree_of_kind (tree_of nodes) n (Some second.0) = tree_of-is nodes are.ordered n ∙ ap (tree_of_kind (tree_of nodes) n) second.1 in
      let made = subst (λ t. Equal t (tree_of_kind (tree_of nodes) n (Some second.0))) one (subst (Equal (tree_of nodes m)) other equal) in
      ap (renumbered_kind (image_of nodes)) first.1 ∙ kinds-alike m n first.0 second.0 first.1 second.1 made ∙ ap (renumbered_kind (image_of nodes)) (sym second.1)

  pub Merges-kept : Merges nodes (λ n. n < length nodes) (kept_nodes nodes) (image_of nodes)
  Merges-kept = record {
    within = image-within nodes are;
    alike = λ n h.
        ap (λ m. renumbered_kind (image_of nodes) (kind_at nodes m)) (image-back nodes are n h)
        ∙ nodes-alike (representative_of nodes n) n (first-within nodes are n h) h (first-is nodes are n h).equal;
    leaf_back = λ n h leaf. image-back nodes are n h ∙ first-leaf nodes are n leaf;
    in_S = λ i h. kept-within nodes are (get_or (kept_nodes nodes) i 0) (kept_at-kept nodes are i h);
    place = image-place nodes are;
    false_in_S = kind_at-within nodes 0 False are.false_first;
    false_first = image-0 nodes are;
    there = λ n h. h;
    operands = λ n a b h is. operands-there n a b is;
    first_before = λ i a b h is. image-below nodes are i a.node_id h (are.ordered.first_before (get_or (kept_nodes nodes) i 0) a b is);
    second_before = λ i a b h is. image-below nodes are i b.node_id h (are.ordered.second_before (get_or (kept_nodes nodes) i 0) a b is);
  }
