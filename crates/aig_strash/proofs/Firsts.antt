-- The representative of each node, the nodes that are kept, and their images.
use Rattle.aig_base.proofs.Words.{◌≡◌, ℕ, zero, suc, ◌<◌, Some, List, length, get_or, refl, sym, ap, subst, ◌∙◌, arith, AllPairs, Contains, unwrap_or, eqb-true, eq-eqb, false≢true, get_or-map, length-map, Contains-get_or, AllPairs-filter, slice_get-get_or}
use Rattle.aig_circuit.specs.declared.node.AigNodeType.{AigNodeType}
use Rattle.aig_circuit.specs.declared.node.AigNodeType.TheVariants.{False, Leaf, And}
use Rattle.aig_circuit.specs.declared.node.AigNode.{AigNode}
use Rattle.aig_circuit.proofs.Words.{kind_at, Tree, LeafTree, tree_of, AreNodes, IsLeaf, position_of}
use Rattle.aig_circuit.proofs.Trees.{kind_at-there, kind_at-within, tree_of-false, tree_of-leaf, tree_of-and}
use Rattle.aig_renumber.proofs.Places.{filter-back, get_or-position_of, position_of-within, places-rise, rising-place}
use Rattle.aig_strash.specs.Exchange.{HaveEqualTrees, IsRepresentative, equal_up_to_exchange, representative_of, image_of, is_representative, kept_nodes, node_numbers}
use Rattle.aig_strash.proofs.Equal.{Equal, equal-itself, equal-turned, equal-then}
use Rattle.aig_strash.proofs.Listing.{Counts, counting-has, counting-is_increasing, counting-within, filter-has, find-counting}

-- no tree but a leaf's is equal to a leaf's
leaf_alone : (m n : ℕ) (t : Tree) → Equal t (LeafTree n) → t ≡ LeafTree m → m ≡ n
leaf_alone m n t equal is = eqb-true m n (subst (λ s. Equal s (LeafTree n)) is equal)

module _ (nodes : List AigNode) (are : AreNodes nodes) where
  -- ---- numbers

  pub numbers-length : length (node_numbers nodes) ≡ length nodes
  numbers-length = length-map nodes (λ (node : AigNode). node.node_id)

  pub numbers-count : Counts 0 (node_numbers nodes)
  numbers-count k d h =
      let low : k < length nodes = omega (arith, numbers-length) in
      let other : AigNode = record { node_id = 0; typ = False } in
      let is = are.numbered k (get_or nodes k other) (slice_get-get_or nodes k other low) in
      let at = get_or-map (λ (node : AigNode). node.node_id) nodes k other d low in
      omega (arith, at ∙ is)

  -- ---- equal trees

  pub trees-turned : (m n : ℕ) → HaveEqualTrees nodes m n → HaveEqualTrees nodes n m
  trees-turned m n h = equal-turned (tree_of nodes m) (tree_of nodes n) h

  pub trees-then : (m n o : ℕ) → HaveEqualTrees nodes m n → HaveEqualTrees nodes n o → HaveEqualTrees nodes m o
  trees-then m n o h g = equal-then (tree_of nodes m) (tree_of nodes n) (tree_of nodes o) h g

  -- ---- representatives

  pub first-is : (n : ℕ) → n < length nodes → IsRepresentative nodes n (representative_of nodes n)
  first-is n h =
      let found = find-counting (λ m. equal_up_to_exchange (tree_of nodes m) (tree_of nodes n)) 0 (node_numbers nodes) numbers-count n (omega arith) (omega (arith, numbers-length)) (equal-itself (tree_of nodes n)) in
      let is : representative_of nodes n ≡ found.0 = ap (λ o. unwrap_or o n) found.1 in
      subst (IsRepresentative nodes n) (sym is) (record { low = found.2; equal = found.3; least = λ j at. found.4 j (omega arith) at })

  pub first-within : (n : ℕ) → n < length nodes → representative_of nodes n < length nodes
  first-within n h = omega (arith, (first-is n h).low)

  -- equal trees have one representative
  pub first-same : (m n : ℕ) → m < length nodes → n < length nodes → HaveEqualTrees nodes m n → representative_of nodes m ≡ representative_of nodes n
  first-same m n h l same =
      let one = first-is m h in
      let other = first-is n l in
      let up = one.least (representative_of nodes n) (trees-then (representative_of nodes n) n m other.equal (trees-turned m n same)) in
      let down = other.least (representative_of nodes m) (trees-then (representative_of nodes m) m n one.equal same) in
      omega (arith, up, down)

  -- nodes with one representative have equal trees
  pub first-apart : (m n : ℕ) → m < length nodes → n < length nodes → representative_of nodes m ≡ representative_of nodes n → HaveEqualTrees nodes m n
  first-apart m n h l same =
      let there = subst (λ k. HaveEqualTrees nodes k n) (sym same) (first-is n l).equal in
      trees-then m (representative_of nodes m) n (trees-turned (representative_of nodes m) m (first-is m h).equal) there

  pub first-twice : (n : ℕ) → n < length nodes → representative_of nodes (representative_of nodes n) ≡ representative_of nodes n
  first-twice n h = first-same (representative_of nodes n) n (first-within n h) h (first-is n h).equal

  pub first-0 : representative_of nodes 0 ≡ 0
  first-0 = let first = first-is 0 (kind_at-within nodes 0 False are.false_first) in omega (arith, first.low)

  -- a node with a leaf's tree is that leaf
  pub leaf-alone : (m n : ℕ) → m < length nodes → IsLeaf nodes n → HaveEqualTrees nodes m n → m ≡ n
  leaf-alone m n h leaf same = by_kind (kind_at-there nodes m h).0 (kind_at-there nodes m h).1
    where
      here : Equal (tree_of nodes m) (LeafTree n)
      here = subst (Equal (tree_of nodes m)) (tree_of-leaf nodes n leaf) same

      by_kind : (k : AigNodeType) → kind_at nodes m ≡ Some k → m ≡ n
      by_kind False is = absurd (false≢true (subst (λ t. Equal t (LeafTree n)) (tree_of-false nodes m is) here))
      by_kind Leaf is = leaf_alone m n (tree_of nodes m) here (tree_of-leaf nodes m is)
      by_kind (And a b) is = absurd (false≢true (subst (λ t. Equal t (LeafTree n)) (tree_of-and nodes are.ordered m a b is) here))

  -- a leaf is its own representative
  pub first-leaf : (n : ℕ) → IsLeaf nodes n → representative_of nodes n ≡ n
  first-leaf n leaf = let h = kind_at-within nodes n Leaf leaf in leaf-alone (representative_of nodes n) n (first-within n h) leaf (first-is n h).equal

  -- ---- kept nodes

  abbrev pub Kept : ℕ → Type 0
  Kept n = Contains (kept_nodes nodes) n

  pub kept-from : (n : ℕ) → n < length nodes → representative_of nodes n ≡ n → Kept n
  kept-from n h is = filter-has (is_representative nodes) (node_numbers nodes) n (counting-has (node_numbers nodes) numbers-count n (omega (arith, numbers-length))) (eq-eqb (representative_of nodes n) n is)

  pub kept-first : (n : ℕ) → n < length nodes → Kept (representative_of nodes n)
  kept-first n h = kept-from (representative_of nodes n) (first-within n h) (first-twice n h)

  pub kept-within : (n : ℕ) → Kept n → n < length nodes
  kept-within n kept = omega (arith, numbers-length, counting-within (node_numbers nodes) numbers-count n (filter-back (is_representative nodes) (node_numbers nodes) n kept).0)

  pub kept-is : (n : ℕ) → Kept n → representative_of nodes n ≡ n
  kept-is n kept = eqb-true (representative_of nodes n) n (filter-back (is_representative nodes) (node_numbers nodes) n kept).1

  pub kept-is_increasing : AllPairs (λ m n. m < n) (kept_nodes nodes)
  kept-is_increasing = AllPairs-filter (λ m n. m < n) (is_representative nodes) (node_numbers nodes) (counting-is_increasing (node_numbers nodes) numbers-count)

  -- the kept node at place i
  abbrev pub kept_at : ℕ → ℕ
  kept_at i = get_or (kept_nodes nodes) i 0

  pub kept_at-kept : (i : ℕ) → i < length (kept_nodes nodes) → Kept (kept_at i)
  kept_at-kept i h = Contains-get_or (kept_nodes nodes) i 0 h

  -- ---- images

  pub image-within : (n : ℕ) → n < length nodes → image_of nodes n < length (kept_nodes nodes)
  image-within n h = position_of-within (kept_nodes nodes) (representative_of nodes n) (kept-first n h)

  pub image-back : (n : ℕ) → n < length nodes → kept_at (image_of nodes n) ≡ representative_of nodes n
  image-back n h = get_or-position_of (kept_nodes nodes) (representative_of nodes n) (kept-first n h)

  pub image-place : (i : ℕ) → i < length (kept_nodes nodes) → image_of nodes (kept_at i) ≡ i
  image-place i h = ap (position_of (kept_nodes nodes)) (kept-is (kept_at i) (kept_at-kept i h)) ∙ rising-place (kept_nodes nodes) kept-is_increasing i h

  -- nodes have one image exactly where their trees are equal
  pub image-same : (m n : ℕ) → m < length nodes → n < length nodes → HaveEqualTrees nodes m n → image_of nodes m ≡ image_of nodes n
  image-same m n h l same = ap (position_of (kept_nodes nodes)) (first-same m n h l same)

  pub image-apart : (m n : ℕ) → m < length nodes → n < length nodes → image_of nodes m ≡ image_of nodes n → HaveEqualTrees nodes m n
  image-apart m n h l same = first-apart m n h l (sym (image-back m h) ∙ ap kept_at same ∙ image-back n l)

  pub images-rise : (m n : ℕ) → m < length nodes → n < length nodes → representative_of nodes m < representative_of nodes n → image_of nodes m < image_of nodes n
  images-rise m n h l low = places-rise (kept_nodes nodes) kept-is_increasing (representative_of nodes m) (representative_of nodes n) (kept-first m h) (kept-first n l) low

  -- what is below a kept node has its image below that place
  pub image-below : (i m : ℕ) → i < length (kept_nodes nodes) → m < kept_at i → image_of nodes m < i
  image-below i m h low =
      let kept = kept_at-kept i h in
      let there = kept-within (kept_at i) kept in
      let first = first-is m (omega arith) in
      let less : representative_of nodes m < representative_of nodes (kept_at i) = omega (arith, kept-is (kept_at i) kept, first.low) in
      subst (λ k. image_of nodes m < k) (image-place i h) (images-rise m (kept_at i) (omega arith) there less)

  pub image-0 : image_of nodes 0 ≡ 0
  image-0 = at (image_of nodes 0) refl
    where
      at : (p : ℕ) → image_of nodes 0 ≡ p → p ≡ 0
      at zero is = refl
      at (suc p) is =
          let h = kind_at-within nodes 0 False are.false_first in
          let low : 0 < image_of nodes 0 = omega arith in
          let less = kept-is_increasing 0 (image_of nodes 0) 0 low (image-within 0 h) in
          absurd (omega (arith, image-back 0 h, first-0))
