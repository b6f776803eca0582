-- A kept node has as many leaves before it as it had.
use Rattle.aig_base.proofs.Words.{◌≡◌, ℕ, zero, suc, ◌+◌, ◌<◌, Bool, true, false, cond, Option, Some, None, List, [], ◌∷◌, length, map, get_or, take, refl, sym, ap, ◌∙◌, arith, inl, inr, All, filter, option_map, eq-eqb, false≢true, length-filter, slice_get-get_or}
use Rattle.aig_circuit.specs.declared.node.AigNodeType.{AigNodeType}
use Rattle.aig_circuit.specs.declared.node.AigNodeType.TheVariants.{False, Leaf, And}
use Rattle.aig_circuit.specs.declared.node.AigNode.{AigNode}
use Rattle.aig_circuit.proofs.Words.{kind_at, AreNodes, is_leaf, nodes_in_order, position_of, renumbered_edge, renumbered_kind}
use Rattle.aig_circuit.proofs.Building.{and_of-cases}
use Rattle.aig_strash.specs.Exchange.{representative_of, image_of, is_representative, kept_nodes, leaves_before, node_numbers}
use Rattle.aig_strash.proofs.Firsts.{first-leaf, numbers-count, numbers-length}
use Rattle.aig_strash.proofs.Listing.{counting-place, filter-places}

-- the kind, if there is one, is that of a leaf
abbrev is_leaf_there : Option AigNodeType → Bool
is_leaf_there (Some kind) = is_leaf kind
is_leaf_there None = false

-- node n is a leaf
abbrev leaf_at : List AigNode → ℕ → Bool
leaf_at nodes n = is_leaf_there (kind_at nodes n)

leaf_at-is : (o : Option AigNodeType) → is_leaf_there o ≡ true → o ≡ Some Leaf
leaf_at-is (Some Leaf) h = refl
leaf_at-is (Some False) h = absurd (false≢true h)
leaf_at-is (Some (And a b)) h = absurd (false≢true h)
leaf_at-is None h = absurd (false≢true h)

-- under new numbers leaves are leaves, and nothing else is
is_leaf-renumbered : (number : ℕ → ℕ) (o : Option AigNodeType) → is_leaf (renumbered_kind number o) ≡ is_leaf_there o
is_leaf-renumbered number (Some Leaf) = refl
is_leaf-renumbered number (Some False) = refl
is_leaf-renumbered number (Some (And a b)) = elim (and_of-cases (renumbered_edge number a) (renumbered_edge number b)) [ inl p ↦ ap is_leaf p.0 | inr p ↦ ap is_leaf p.0 ]
is_leaf-renumbered number None = refl

-- how many leaves stand among the first n nodes
abbrev leaves_among : ℕ → List AigNode → ℕ
leaves_among n nodes = length (filter (λ (node : AigNode). is_leaf node.typ) (take n nodes))

counted : (b d : Bool) (n : ℕ) (x : AigNode) (xs : List AigNode) (ns : List ℕ) → b ≡ d → length xs ≡ length ns → length (cond b (x ∷ xs) xs) ≡ length (cond d (n ∷ ns) ns)
counted true true n x xs ns e rest = ap suc rest
counted true false n x xs ns e rest = cc
counted false true n x xs ns e rest = cc
counted false false n x xs ns e rest = rest

-- leaves are counted by the numbers of nodes
leaves-by_numbers : (leaf : ℕ → Bool) (n : ℕ) (nodes : List AigNode) → All (λ (node : AigNode). is_leaf node.typ ≡ leaf node.node_id) nodes → leaves_among n nodes ≡ length (filter leaf (take n (map (λ (node : AigNode). node.node_id) nodes)))
leaves-by_numbers leaf zero nodes all = refl
leaves-by_numbers leaf (suc n) [] all = refl
leaves-by_numbers leaf (suc n) (x ∷ xs) all =
    counted (is_leaf x.typ) (leaf x.node_id) x.node_id x (filter (λ (node : AigNode). is_leaf node.typ) (take n xs)) (filter leaf (take n (map (λ (node : AigNode). node.node_id) xs)))
    (all 0 x (omega arith)) (leaves-by_numbers leaf n xs (λ k d h. all (suc k) d (omega arith)))

-- and so are those of the nodes of a list of numbers
leaves-in_order : (nodes : List AigNode) (number : ℕ → ℕ) (v p : ℕ) (ns : List ℕ) → leaves_among p (nodes_in_order nodes number v ns) ≡ length (filter (leaf_at nodes) (take p ns))
leaves-in_order nodes number v zero ns = refl
leaves-in_order nodes number v (suc p) [] = refl
leaves-in_order nodes number v (suc p) (n ∷ ns) =
    counted (is_leaf (renumbered_kind number (kind_at nodes n))) (leaf_at nodes n) n (record { node_id = v; typ = renumbered_kind number (kind_at nodes n) })
    (filter (λ (node : AigNode). is_leaf node.typ) (take p (nodes_in_order nodes number (v + 1) ns))) (filter (leaf_at nodes) (take p ns))
    (is_leaf-renumbered number (kind_at nodes n)) (leaves-in_order nodes number (v + 1) p ns)

module _ (nodes : List AigNode) (are : AreNodes nodes) where
  leaf_at-number : All (λ (node : AigNode). is_leaf node.typ ≡ leaf_at nodes node.node_id) nodes
  leaf_at-number k d h =
      let at = slice_get-get_or nodes k d h in
      let number = are.numbered k (get_or nodes k d) at in
      sym (ap (λ n. leaf_at nodes n) number ∙ ap (λ (o : Option AigNode). is_leaf_there (option_map (λ (x : AigNode). x.typ) o)) at)

  leaf-kept : (n : ℕ) → leaf_at nodes n ≡ true → is_representative nodes n ≡ true
  leaf-kept n h = eq-eqb (representative_of nodes n) n (first-leaf nodes are n (leaf_at-is (kind_at nodes n) h))

  pub leaves-kept : (n : ℕ) → n < length nodes → representative_of nodes n ≡ n → leaves_before (nodes_in_order nodes (image_of nodes) 0 (kept_nodes nodes)) (image_of nodes n) ≡ leaves_before nodes n
  leaves-kept n h first =
      let new = nodes_in_order nodes (image_of nodes) 0 (kept_nodes nodes) in
      let count = λ (xs : List AigNode). length-filter (λ (node : AigNode). is_leaf node.typ) xs in
      let place : position_of (node_numbers nodes) n ≡ n = counting-place (node_numbers nodes) (numbers-count nodes are) n (omega (arith, numbers-length nodes are)) in
      sym (count (take (image_of nodes n) new))
      ∙ leaves-in_order nodes (image_of nodes) 0 (image_of nodes n) (kept_nodes nodes)
      ∙ ap (λ m. length (filter (leaf_at nodes) (take (position_of (kept_nodes nodes) m) (kept_nodes nodes)))) first
      ∙ filter-places (leaf_at nodes) (is_representative nodes) leaf-kept (node_numbers nodes) n (eq-eqb (representative_of nodes n) n first)
      ∙ ap (λ p. length (filter (leaf_at nodes) (take p (node_numbers nodes)))) place
      ∙ sym (leaves-by_numbers (leaf_at nodes) n nodes leaf_at-number)
      ∙ count (take n nodes)
