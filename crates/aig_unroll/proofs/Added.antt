-- The leaves after the first so many nodes, and the leaves that are no latch's: none stands twice.
use Rattle.aig_base.proofs.Words.{◌≡◌, ◌≢◌, ℕ, ◌+◌, ◌-◌, ◌<◌, ◌≤◌, Bool, true, Some, List, ◌++◌, length, map, get_or, drop, refl, sym, ap, subst, ◌∙◌, arith, All, AllPairs, Contains, filter, option_map, same_Some, slice_get-get_or, All-filter, All-map, Contains-get_or, filter-append, filter_passes, AllPairs-filter}
use Rattle.std.proofs.lemmas.List.{drop-append-le, drop_at, get_or-drop, length-drop, map-append}
use Rattle.aig_circuit.specs.declared.node.AigNode.{AigNode}
use Rattle.aig_circuit.specs.declared.node.AigNodeType.TheVariants.{False, Leaf}
use Rattle.aig_circuit.proofs.Words.{Grows, AreNodes, Circuit, IsLeaf, is_leaf}
use Rattle.aig_circuit.proofs.Trees.{kind_at-within}
use Rattle.aig_unroll.specs.Places.{is_other_leaf, leaves_after, other_leaves}
use Rattle.aig_unroll.proofs.Lists.{AllPairs-drop, AllPairs-map}
use Rattle.aig_circuit.proofs.Counting.{is_leaf-Leaf}
use Rattle.aig_unroll.proofs.Others.{kept_all, number_in}

-- a node's number
abbrev pub number_of : AigNode → ℕ
number_of node = node.node_id

-- the node is a leaf
abbrev pub leaf_test : AigNode → Bool
leaf_test node = is_leaf node.typ

-- any node, where a list has no entry
abbrev pub no_node : AigNode
no_node = record { node_id = 0; typ = False }

-- ---- the leaves of a list that grows

-- the leaves of two lists in a row
leaves-append : (xs ys : List AigNode)
    → map number_of (filter leaf_test (xs ++ ys))
    ≡ map number_of (filter leaf_test xs) ++ map number_of (filter leaf_test ys)
leaves-append xs ys = ap (map number_of) (filter-append leaf_test xs ys) ∙ map-append number_of (filter leaf_test xs) (filter leaf_test ys)

-- the added nodes are those after the old ones
added-following : (old new : List AigNode) (grows : Grows old new)
    → drop (length old) new ≡ grows.added
added-following old new grows = ap (drop (length old)) grows.appended ∙ drop_at old grows.added (length old) refl

-- the leaves after the first so many are those of the old nodes, and then those of the added ones
pub leaves_after-more : (count : ℕ) (old new : List AigNode) → count ≤ length old → Grows old new
    → leaves_after count new ≡ leaves_after count old ++ leaves_after (length old) new
leaves_after-more count old new h grows =
    ap (leaves_after count) grows.appended
    ∙ ap (λ l. map number_of (filter leaf_test l)) (drop-append-le count old grows.added h)
    ∙ leaves-append (drop count old) grows.added
    ∙ ap (λ l. leaves_after count old ++ map number_of (filter leaf_test l)) (sym (added-following old new grows))

-- ---- numbers

module _ (nodes : List AigNode) (are : AreNodes nodes) where
  -- a node's number is its place
  pub number_there : (i : ℕ) (d : AigNode) → i < length nodes → (get_or nodes i d).node_id ≡ i
  number_there i d h = are.numbered i (get_or nodes i d) (slice_get-get_or nodes i d h)

  -- no two nodes have the same number
  numbers-distinct : AllPairs (λ m n. number_of m ≢ number_of n) nodes
  numbers-distinct i j d h l e =
      let first : i < length nodes = omega arith in
      absurd (omega (arith, number_there i d first, number_there j d l))

  -- what a test keeps has distinct numbers
  kept-distinct : (test : AigNode → Bool) (count : ℕ)
      → AllPairs (λ m n. m ≢ n) (map number_of (filter test (drop count nodes)))
  kept-distinct test count =
      AllPairs-map number_of (λ m n. m ≢ n) no_node (filter test (drop count nodes))
      (AllPairs-filter (λ m n. number_of m ≢ number_of n) test (drop count nodes) (AllPairs-drop (λ m n. number_of m ≢ number_of n) count nodes numbers-distinct))

  -- no added leaf stands twice
  pub following-distinct : (count : ℕ) → AllPairs (λ m n. m ≢ n) (leaves_after count nodes)
  following-distinct count = kept-distinct leaf_test count

  -- the node is one after the first so many
  abbrev pub IsBehind : ℕ → ℕ → Type 0
  IsBehind count n = IsLeaf nodes n × (count ≤ n)

  -- a leaf at a place of what is left
  following_there : (count k : ℕ) (d : AigNode) → k < length (drop count nodes)
      → leaf_test (get_or (drop count nodes) k d) ≡ true
      → IsBehind count (get_or (drop count nodes) k d).node_id
  following_there count k d h passes =
      let within : count + k < length nodes = omega (arith, length-drop count nodes) in
      let at = get_or-drop count nodes k d in
      let number : (get_or (drop count nodes) k d).node_id ≡ count + k = ap number_of at ∙ number_there (count + k) d within in
      let kind : (get_or nodes (count + k) d).typ ≡ Leaf = is_leaf-Leaf _ (ap leaf_test (sym at) ∙ passes) in
      let leaf : IsLeaf nodes (count + k) = ap (option_map (λ (x : AigNode). x.typ)) (slice_get-get_or nodes (count + k) d within) ∙ ap Some kind in
      (subst (IsLeaf nodes) (sym number) leaf, omega arith)

  -- they are leaves, and not among the first so many
  pub following-are : (count : ℕ) → All (IsBehind count) (leaves_after count nodes)
  following-are count =
      let Q = λ (node : AigNode). leaf_test node ≡ true → IsBehind count node.node_id in
      let all : All Q (filter leaf_test (drop count nodes)) = All-filter leaf_test Q (drop count nodes) (λ k d h. following_there count k d h) in
      let passes = filter_passes leaf_test (drop count nodes) in
      All-map (IsBehind count) number_of (filter leaf_test (drop count nodes)) (λ k d h. all k d h (passes k d h))

  -- and all such leaves are among them
  pub following-have : (count n : ℕ) → IsLeaf nodes n → count ≤ n
      → Contains (leaves_after count nodes) n
  following-have count n leaf past =
      let within = kind_at-within nodes n Leaf leaf in
      let node = get_or nodes n no_node in
      let there = slice_get-get_or nodes n no_node within in
      let kind : node.typ ≡ Leaf = same_Some _ _ (sym (ap (option_map (λ (x : AigNode). x.typ)) there) ∙ leaf) in
      let place : count + (n - count) ≡ n = omega arith in
      let short : n - count < length (drop count nodes) = omega (arith, length-drop count nodes) in
      let at : get_or (drop count nodes) (n - count) no_node ≡ node = get_or-drop count nodes (n - count) no_node ∙ ap (λ i. get_or nodes i no_node) place in
      let has = Contains-get_or (drop count nodes) (n - count) no_node short in
      let kept : Contains (filter leaf_test (drop count nodes)) node =
      subst (Contains (filter leaf_test (drop count nodes))) at (kept_all leaf_test (drop count nodes) (get_or (drop count nodes) (n - count) no_node) has.0 has.1 has.2 (ap leaf_test at ∙ ap is_leaf kind)) in
      subst (Contains (leaves_after count nodes)) (number_there n no_node within) (number_in (filter leaf_test (drop count nodes)) node kept)

-- no leaf that is no latch's stands twice
pub others-distinct : (c : Circuit) → AreNodes c.nodes → AllPairs (λ m n. m ≢ n) (other_leaves c)
others-distinct c are = kept-distinct c.nodes are (is_other_leaf c) 0
