-- The images of nodes, one node after another.
use Rattle.aig_base.proofs.Words.{◌≡◌, ◌≢◌, ℕ, suc, ◌+◌, ◌<◌, ◌≤◌, Bool, true, false, not, cond, ◌&&◌, Option, Some, None, add-one, ap₂, take_more_set, List, [], ◌∷◌, ◌++◌, length, map, get_or, set, take, get_or-set_other, get_or-set_same, below_more, refl, sym, ap, subst, ◌∙◌, arith, inl, inr, length-append, All, Contains, filter, option_map, ◌==◌, list_any, eq-eqb, eqb-true, true≢false, false_from_ne_true, same_Some, slice_get-get_or}
use Rattle.std.proofs.Math.ListN.{length-set}
use Rattle.std.proofs.lemmas.List.{append-nil, drop_all, drop_at, get_or-take, length-take, map-append}
use Rattle.std.proofs.lemmas.List.Elements.{All-contains, All-filter, All-map, filter_more}
use Rattle.aig_circuit.specs.declared.edge.AigEdge.{AigEdge}
use Rattle.aig_circuit.specs.declared.node.AigNode.{AigNode}
use Rattle.aig_circuit.specs.declared.node.AigNodeType.{AigNodeType}
use Rattle.aig_circuit.specs.declared.node.AigNodeType.TheVariants.{False, Leaf, And}
use Rattle.aig_circuit.proofs.Words.{edge_to, inverted_if, kind_at, edge_value, node_value, AreNodes, Circuit, IsCircuit, IsInRange, IsLeaf, latch_leaves, AddsGates, FoldsOrAdds, Grows, with_node, is_leaf}
use Rattle.aig_circuit.proofs.Building.{Grows-itself, Grows-leaf, Grows-longer, Grows-then, edge_value-Grows}
use Rattle.aig_circuit.proofs.Circuits.{latch_leaves-leaves}
use Rattle.aig_circuit.proofs.Trees.{kind_at-read, kind_at-within, node_value-and, node_value-false, node_value-leaf}
use Rattle.aig_renumber.proofs.Kept.{is_in-back, is_in-there}
use Rattle.aig_unroll.specs.Places.{is_other_leaf, leaves_after}
use Rattle.aig_unroll.specs.Frame.{folded, frame_to, with_copy, with_folded}
use Rattle.aig_circuit.specs.Node.{and_of}
use Rattle.aig_unroll.proofs.Framed.{frame_of, with_folded-rule}
use Rattle.aig_unroll.specs.Step.{Copies, CopiesBelow, IsState, MarksLatches, image_at, image_in, others_among, takes_no_node}
use Rattle.aig_unroll.specs.Step.Copies.{false_node, latch_leaf, other_leaf, gate}
use Rattle.aig_unroll.proofs.Added.{following-are, leaves_after-more, no_node, number_there}

-- ---- values of images

-- inverting twice over
inverted_twice : (i j v : Bool) → inverted_if (inverted_if i j) v ≡ inverted_if i (inverted_if j v)
inverted_twice true true true = refl
inverted_twice true true false = refl
inverted_twice true false true = refl
inverted_twice true false false = refl
inverted_twice false j v = refl

-- the value of an edge's image is that of its node's, inverted as the edge is
pub edge_value-image_in : (nodes : List AigNode) (y : ℕ → Bool) (images : List AigEdge)
    (e : AigEdge)
    → edge_value nodes y (image_in images e)
    ≡ inverted_if e.compl (edge_value nodes y (image_at images e.node_id))
edge_value-image_in nodes y images e = inverted_twice e.compl (image_at images e.node_id).compl (node_value nodes y (image_at images e.node_id).node_id)

-- ---- lists

-- a list is mapped alike where the functions agree
pub map_same : {X Y : Type 0} (f g : X → Y) (xs : List X) → All (λ x. f x ≡ g x) xs
    → map f xs ≡ map g xs
map_same f g [] all = refl
map_same f g (x ∷ xs) all = ap (λ y. y ∷ map f xs) (all 0 x (omega arith)) ∙ ap (λ ys. g x ∷ ys) (map_same f g xs (λ k d h. all (suc k) d (omega arith)))

-- a list in which no entry can stand is empty
none_stands : {X : Type 0} (xs : List X) → All (λ x. ⊥) xs → xs ≡ []
none_stands [] all = refl
none_stands (x ∷ xs) all = absurd (all 0 x (omega arith))

-- ---- the leaves after the first nodes

-- no node comes after all
pub leaves_after-all : (nodes : List AigNode) → leaves_after (length nodes) nodes ≡ []
leaves_after-all nodes = ap (λ l. map (λ (node : AigNode). node.node_id) (filter (λ (node : AigNode). is_leaf node.typ) l)) (drop_all (length nodes) nodes (omega arith))

-- added gates are no leaves
pub added_leaves-gates : (old new : List AigNode) → AddsGates old new
    → leaves_after (length old) new ≡ []
added_leaves-gates old new adds = none_stands (leaves_after (length old) new) (λ k d l. no_gate (get_or (leaves_after (length old) new) k d) (following-are new adds.grows.sound (length old) k d l))
  where
    no_gate : (n : ℕ) → IsLeaf new n × (length old ≤ n) → ⊥
    no_gate n is = let within = kind_within new n is.0 in let g = adds.gates n is.1 within in differ g.0 g.1 (same_Some _ _ (sym is.0 ∙ g.2))
      where
        differ : (a b : AigEdge) → Leaf ≡ And a b → ⊥
        differ a b e = cc

        kind_within : (nodes : List AigNode) (n : ℕ) → IsLeaf nodes n → n < length nodes
        kind_within nodes n leaf = kind_at-within nodes n Leaf leaf

pub leaves_after-gates : (count : ℕ) (old new : List AigNode) → count ≤ length old
    → AddsGates old new → leaves_after count new ≡ leaves_after count old
leaves_after-gates count old new h adds =
    leaves_after-more count old new h adds.grows ∙ ap (λ ns. leaves_after count old ++ ns) (added_leaves-gates old new adds) ∙ append-nil (leaves_after count old)

-- a new leaf is one more
pub added_leaves-leaf : (old : List AigNode)
    → leaves_after (length old) (with_node old Leaf) ≡ length old ∷ []
added_leaves-leaf old = ap (λ l. map (λ (node : AigNode). node.node_id) (filter (λ (node : AigNode). is_leaf node.typ) l)) (drop_at old (record { node_id = length old; typ = Leaf } ∷ []) (length old) refl)

pub leaves_after-leaf : (count : ℕ) (old : List AigNode) → count ≤ length old → AreNodes old
    → leaves_after count (with_node old Leaf) ≡ leaves_after count old ++ length old ∷ []
leaves_after-leaf count old h are =
    leaves_after-more count old (with_node old Leaf) h (Grows-leaf old are) ∙ ap (λ ns. leaves_after count old ++ ns) (added_leaves-leaf old)

-- ---- one node more

module _ (from : Circuit) (circuit : IsCircuit from) (old mid new : List AigNode) (before images : List AigEdge) (i : ℕ) (e : AigEdge) (within : i < length from.nodes) (inside : i < length images)
    (so_far : CopiesBelow from old mid before images i) (grows : Grows mid new) (there : IsInRange new e) where
  -- the node
  abbrev node : AigNode
  node = get_or from.nodes i no_node

  -- the table with its image
  abbrev more : List AigEdge
  more = set images i e

  -- what is known of the kind of node i is known of the node
  kind_is : (k : AigNodeType) → kind_at from.nodes i ≡ Some k → node.typ ≡ k
  kind_is k is = same_Some _ _ (sym (ap (option_map (λ (x : AigNode). x.typ)) (slice_get-get_or from.nodes i no_node within)) ∙ is)

  -- its number is i
  number_is : node.node_id ≡ i
  number_is = number_there from.nodes circuit.nodes i no_node within

  -- other images stay
  image_kept : (n : ℕ) → n ≢ i → image_at more n ≡ image_at images n
  image_kept n ne = get_or-set_other images i n e (edge_to 0 false) ne

  -- and node i has e
  image_new : image_at more i ≡ e
  image_new = get_or-set_same images i e (edge_to 0 false) inside

  -- the values of other images stay
  value_kept : (y : ℕ → Bool) (n : ℕ) → n < i
      → edge_value new y (image_at more n) ≡ edge_value mid y (image_at images n)
  value_kept y n l = ap (edge_value new y) (image_kept n (λ q. absurd (omega arith))) ∙ edge_value-Grows mid new so_far.grows.sound grows y (image_at images n) (so_far.there n l)

  -- the numbers of the first i nodes are below i
  numbers_below : All (λ n. n < i) (others_among from (take i from.nodes))
  numbers_below =
      let low : All (λ (x : AigNode). x.node_id < i) (take i from.nodes) = λ k d h. low_at k d h in
      All-map (λ n. n < i) (λ (x : AigNode). x.node_id) (filter (is_other_leaf from) (take i from.nodes)) (All-filter (is_other_leaf from) (λ (x : AigNode). x.node_id < i) (take i from.nodes) low)
    where
      low_at : (k : ℕ) (d : AigNode) → k < length (take i from.nodes)
          → (get_or (take i from.nodes) k d).node_id < i
      low_at k d h =
          let short : k < i = omega (arith, length-take i from.nodes) in
          let inside : k < length from.nodes = omega arith in
          let same : (get_or (take i from.nodes) k d).node_id ≡ k = ap (λ (x : AigNode). x.node_id) (get_or-take i from.nodes k d short) ∙ number_there from.nodes circuit.nodes k d inside in
          omega arith

  -- their images stay
  images_kept : map (image_at more) (others_among from (take i from.nodes))
      ≡ map (image_at images) (others_among from (take i from.nodes))
  images_kept =
      let xs = others_among from (take i from.nodes) in
      map_same (image_at more) (image_at images) xs (λ k d h. let low : get_or xs k d < i = numbers_below k d h in image_kept (get_or xs k d) (λ q. absurd (omega arith)))

  -- the leaves that are no latch's, one node on
  others_more : (b : Bool) → is_other_leaf from node ≡ b
      → map (image_at more) (others_among from (take (i + 1) from.nodes))
      ≡ map (image_at images) (others_among from (take i from.nodes)) ++ cond b (e ∷ []) []
  others_more b is =
      ap (λ l. map (image_at more) (map (λ (x : AigNode). x.node_id) l)) (filter_more (is_other_leaf from) from.nodes i no_node within)
      ∙ ap (map (image_at more)) (map-append (λ (x : AigNode). x.node_id) (filter (is_other_leaf from) (take i from.nodes)) (cond (is_other_leaf from node) (node ∷ []) []))
      ∙ map-append (image_at more) (others_among from (take i from.nodes)) (map (λ (x : AigNode). x.node_id) (cond (is_other_leaf from node) (node ∷ []) []))
      ∙ ap (λ l. l ++ map (image_at more) (map (λ (x : AigNode). x.node_id) (cond (is_other_leaf from node) (node ∷ []) []))) images_kept
      ∙ ap (λ l. map (image_at images) (others_among from (take i from.nodes)) ++ l) (last b is)
    where
      last : (b : Bool) → is_other_leaf from node ≡ b
          → map (image_at more)
          (map (λ (x : AigNode). x.node_id) (cond (is_other_leaf from node) (node ∷ []) []))
          ≡ cond b (e ∷ []) []
      last true is = ap (λ c. map (image_at more) (map (λ (x : AigNode). x.node_id) (cond c (node ∷ []) []))) is ∙ ap (λ n. image_at more n ∷ []) number_is ∙ ap (λ f. f ∷ []) image_new
      last false is = ap (λ c. map (image_at more) (map (λ (x : AigNode). x.node_id) (cond c (node ∷ []) []))) is

  -- the nodes for which none is made, one node on
  none_more : (b : Bool) → takes_no_node from node ≡ b
      → length (filter (takes_no_node from) (take (i + 1) from.nodes))
      ≡ length (filter (takes_no_node from) (take i from.nodes)) + cond b 1 0
  none_more b is =
      ap length (filter_more (takes_no_node from) from.nodes i no_node within)
      ∙ length-append (filter (takes_no_node from) (take i from.nodes)) (cond (takes_no_node from node) (node ∷ []) [])
      ∙ ap (λ m. length (filter (takes_no_node from) (take i from.nodes)) + m) (last b is)
    where
      last : (b : Bool) → takes_no_node from node ≡ b
          → length (cond (takes_no_node from node) (node ∷ []) []) ≡ cond b 1 0
      last true is = ap (λ c. length (cond c (node ∷ []) [])) is
      last false is = ap (λ c. length (cond c (node ∷ []) [])) is

  -- a latch's leaf is a leaf
  latch_kind : Contains (latch_leaves from.latchs) i → IsLeaf from.nodes i
  latch_kind has = All-contains (IsLeaf from.nodes) (latch_leaves from.latchs) i (latch_leaves-leaves from circuit) has

  -- what is left to show of a node: that its image has its value, which leaf it adds, and its size
  record Follows : Type 0 where
    latch : Contains (latch_leaves from.latchs) i → e ≡ image_at images i
    others : map (image_at more) (others_among from (take (i + 1) from.nodes))
        ≡ map (λ n. edge_to n false) (leaves_after (length old) new)
    value : (y x : ℕ → Bool)
        → ((n : ℕ) → n < i → edge_value mid y (image_at images n) ≡ node_value from.nodes x n)
        → (IsLeaf from.nodes i → x i ≡ edge_value new y e)
        → edge_value new y e ≡ node_value from.nodes x i
    size : length new + length (filter (takes_no_node from) (take (i + 1) from.nodes))
        ≤ length old + (i + 1)
    exact : (state : ℕ → Option AigEdge) → IsState from (length old) before state
        → frame_to from.nodes state old (i + 1) ≡ frame_of new (take (i + 1) more)

  -- the frame, one node on
  frame_more : (state : ℕ → Option AigEdge) → IsState from (length old) before state
      → (kind : AigNodeType) → kind_at from.nodes i ≡ Some kind
      → with_copy (state i) (Some kind) (frame_of mid (take i images))
      ≡ frame_of new (take i images ++ e ∷ [])
      → frame_to from.nodes state old (i + 1) ≡ frame_of new (take (i + 1) more)
  frame_more state is kind at one =
      ap (frame_to from.nodes state old) (add-one i) ∙ ap (λ k. with_copy (state i) k (frame_to from.nodes state old i)) at
      ∙ ap (with_copy (state i) (Some kind)) (so_far.exact state is) ∙ one ∙ ap (frame_of new) (sym (take_more_set images i e inside))

  -- then there is one image more
  follows_more : Follows → CopiesBelow from old new before more (i + 1)
  follows_more follows = record {
    grows = Grows-then old mid new so_far.grows grows;
    count = length-set images i e ∙ so_far.count;
    there = below_more _ _ (λ n l. let old_there : (image_at images n).node_id < length mid = so_far.there n l in let kept = image_kept n (λ q. absurd (omega arith)) in subst (IsInRange new) (sym kept) (omega (arith, Grows-longer mid new grows)))
        (subst (IsInRange new) (sym image_new) there);
    latches = λ n has. latch_at n has (n == i) refl;
    rest = λ n h. image_kept n (λ q. absurd (omega arith)) ∙ so_far.rest n (omega arith);
    others = follows.others;
    value = λ y x leaves.
        let old_leaves : (n : ℕ) → n < i → IsLeaf from.nodes n → x n ≡ edge_value mid y (image_at images n) = λ n l is. leaves n (omega arith) is ∙ value_kept y n l in
        let below = so_far.value y x old_leaves in
        below_more _ _ (λ n l. value_kept y n l ∙ below n l)
        (ap (edge_value new y) image_new ∙ follows.value y x below (λ is. leaves i (omega arith) is ∙ ap (edge_value new y) image_new));
    size = follows.size;
    exact = follows.exact;
  }
    where
      latch_at : (n : ℕ) → Contains (latch_leaves from.latchs) n → (b : Bool) → (n == i) ≡ b
          → image_at more n ≡ image_at before n
      latch_at n has true is =
          let same : n ≡ i = eqb-true n i is in
          let has_i : Contains (latch_leaves from.latchs) i = subst (Contains (latch_leaves from.latchs)) same has in
          ap (image_at more) same ∙ image_new ∙ follows.latch has_i ∙ ap (image_at images) (sym same) ∙ so_far.latches n has
      latch_at n has false is = image_kept n (λ q. true≢false (sym (eq-eqb n i q) ∙ is)) ∙ so_far.latches n has

  -- a leaf after which no node is made
  no_leaf : new ≡ mid → is_other_leaf from node ≡ false
      → map (image_at more) (others_among from (take (i + 1) from.nodes))
      ≡ map (λ n. edge_to n false) (leaves_after (length old) new)
  no_leaf same is = others_more false is ∙ append-nil _ ∙ so_far.others ∙ ap (λ l. map (λ n. edge_to n false) (leaves_after (length old) l)) (sym same)

  pub copies_more : length before ≡ length from.nodes → MarksLatches from (length old) before
      → Copies from i (length old) mid new images e → CopiesBelow from old new before more (i + 1)
  copies_more count marks (false_node is image same) =
      let typ = kind_is False is in
      let other : is_other_leaf from node ≡ false = ap (λ k. is_other_leaf from (record { node_id = node.node_id; typ = k })) typ in
      let none : takes_no_node from node ≡ true = ap (λ k. takes_no_node from (record { node_id = node.node_id; typ = k })) typ in
      follows_more (record {
        latch = λ has. absurd (not_leaf (same_Some _ _ (sym (latch_kind has) ∙ is)));
        others = no_leaf same other;
        value = λ y x below leaf. ap (edge_value new y) image ∙ node_value-false new y 0 grows.sound.false_first ∙ sym (node_value-false from.nodes x i is);
        size = let long : length new ≡ length mid = ap length same in omega (arith, none_more true none, so_far.size);
        exact = λ state st. frame_more state st False is (ap₂ frame_of (sym same) (ap (λ f. take i images ++ f ∷ []) (sym image)));
      })
    where
      not_leaf : Leaf ≡ False → ⊥
      not_leaf q = cc
  copies_more count marks (latch_leaf is low image same) =
      let typ = kind_is Leaf is in
      let has : Contains (latch_leaves from.latchs) i = latch_there (list_any (λ m. m == i) (latch_leaves from.latchs)) refl in
      let any : list_any (λ m. m == node.node_id) (latch_leaves from.latchs) ≡ true = ap (λ n. list_any (λ m. m == n) (latch_leaves from.latchs)) number_is ∙ is_in-there (latch_leaves from.latchs) i has in
      let other : is_other_leaf from node ≡ false = ap (λ k. is_other_leaf from (record { node_id = node.node_id; typ = k })) typ ∙ ap not any in
      let none : takes_no_node from node ≡ true = ap (λ k. takes_no_node from (record { node_id = node.node_id; typ = k })) typ ∙ ap (λ b. not (not b)) any in
      follows_more (record {
        latch = λ h. image;
        others = no_leaf same other;
        value = λ y x below leaf. sym (leaf is) ∙ sym (node_value-leaf from.nodes x i is);
        size = let long : length new ≡ length mid = ap length same in omega (arith, none_more true none, so_far.size);
        exact = λ state st.
            let first = so_far.rest i (omega arith) in
            let known : state i ≡ Some (image_at before i) = st.low i is (omega (arith, low, ap (λ (f : AigEdge). f.node_id) first)) in
            frame_more state st Leaf is (ap (λ o. with_copy o (Some Leaf) (frame_of mid (take i images))) known ∙ ap₂ frame_of (sym same) (ap (λ f. take i images ++ f ∷ []) (sym (image ∙ first))));
      })
    where
      latch_there : (b : Bool) → list_any (λ m. m == i) (latch_leaves from.latchs) ≡ b
          → Contains (latch_leaves from.latchs) i
      latch_there true h = is_in-back (latch_leaves from.latchs) i h
      latch_there false h =
          let none : ¬ Contains (latch_leaves from.latchs) i = λ has. true≢false (sym (is_in-there (latch_leaves from.latchs) i has) ∙ h) in
          let inside_before : i < length before = omega arith in
          absurd (omega (arith, marks.others i inside_before none, ap (λ (f : AigEdge). f.node_id) (so_far.rest i (omega arith))))
  copies_more count marks (other_leaf is high image same) =
      let typ = kind_is Leaf is in
      let no_latch : ¬ Contains (latch_leaves from.latchs) i = λ has. absurd (omega (arith, marks.latches i has, high, ap (λ (f : AigEdge). f.node_id) (so_far.rest i (omega arith)))) in
      let any : list_any (λ m. m == node.node_id) (latch_leaves from.latchs) ≡ false =
      ap (λ n. list_any (λ m. m == n) (latch_leaves from.latchs)) number_is ∙ false_from_ne_true (list_any (λ m. m == i) (latch_leaves from.latchs)) (λ h. no_latch (is_in-back (latch_leaves from.latchs) i h)) in
      let other : is_other_leaf from node ≡ true = ap (λ k. is_other_leaf from (record { node_id = node.node_id; typ = k })) typ ∙ ap not any in
      let none : takes_no_node from node ≡ false = ap (λ k. takes_no_node from (record { node_id = node.node_id; typ = k })) typ ∙ ap (λ b. not (not b)) any in
      let leaf_edge = λ (n : ℕ). edge_to n false in
      let leaves : leaves_after (length old) new ≡ leaves_after (length old) mid ++ length mid ∷ [] =
      ap (leaves_after (length old)) same ∙ leaves_after-leaf (length old) mid (Grows-longer old mid so_far.grows) so_far.grows.sound in
      follows_more (record {
        latch = λ has. absurd (no_latch has);
        others =
            others_more true other ∙ ap (λ l. l ++ e ∷ []) so_far.others ∙ ap (λ f. map leaf_edge (leaves_after (length old) mid) ++ f ∷ []) image
            ∙ sym (ap (map leaf_edge) leaves ∙ map-append leaf_edge (leaves_after (length old) mid) (length mid ∷ []));
        value = λ y x below leaf. sym (leaf is) ∙ sym (node_value-leaf from.nodes x i is);
        size = let long : length new ≡ length mid + 1 = ap length same ∙ length-append mid _ in omega (arith, none_more false none, so_far.size);
        exact = λ state st.
            let first = so_far.rest i (omega arith) in
            let unknown : state i ≡ None = st.high i is (omega (arith, high, ap (λ (f : AigEdge). f.node_id) first)) in
            frame_more state st Leaf is (ap (λ o. with_copy o (Some Leaf) (frame_of mid (take i images))) unknown ∙ ap₂ frame_of (sym same) (ap (λ f. take i images ++ f ∷ []) (sym image)));
      })
  copies_more count marks (gate a b is rule adds size gives) =
      let typ = kind_is (And a b) is in
      let other : is_other_leaf from node ≡ false = ap (λ k. is_other_leaf from (record { node_id = node.node_id; typ = k })) typ in
      let none : takes_no_node from node ≡ false = ap (λ k. takes_no_node from (record { node_id = node.node_id; typ = k })) typ in
      follows_more (record {
        latch = λ has. absurd (no_gate (same_Some _ _ (sym (latch_kind has) ∙ is)));
        others =
            others_more false other ∙ append-nil _ ∙ so_far.others
            ∙ ap (map (λ n. edge_to n false)) (sym (leaves_after-gates (length old) mid new (Grows-longer old mid so_far.grows) adds));
        value = λ y x below leaf.
            gives.value y
            ∙ ap (λ v. v && edge_value mid y (image_in images b)) (edge_value-image_in mid y images a ∙ ap (inverted_if a.compl) (below a.node_id (circuit.nodes.ordered.first_before i a b is)))
            ∙ ap (λ v. edge_value from.nodes x a && v) (edge_value-image_in mid y images b ∙ ap (inverted_if b.compl) (below b.node_id (circuit.nodes.ordered.second_before i a b is)))
            ∙ sym (node_value-and from.nodes circuit.nodes.ordered x i a b is);
        size = omega (arith, none_more false none, so_far.size);
        exact = λ state st. frame_more state st (And a b) is
            (ap₂ (λ f g. with_folded (folded f g) (and_of f g) (frame_of mid (take i images))) (early a (circuit.nodes.ordered.first_before i a b is)) (early b (circuit.nodes.ordered.second_before i a b is))
            ∙ with_folded-rule mid new (take i images) (image_in images a) (image_in images b) e rule);
      })
    where
      -- an operand's image is one of the first
      early : (f : AigEdge) → f.node_id < i → image_in (take i images) f ≡ image_in images f
      early f l = ap (λ (g : AigEdge). edge_to g.node_id (inverted_if f.compl g.compl)) (get_or-take i images f.node_id (edge_to 0 false) l)

      no_gate : Leaf ≡ And a b → ⊥
      no_gate q = cc

-- an and adds at most one node
pub at_most_one_more : (old new : List AigNode) (a b e : AigEdge) → FoldsOrAdds old new a b e
    → length new ≤ length old + 1
at_most_one_more old new a b e (inl p) = let same : length new ≡ length old = ap length p.1 in omega arith
at_most_one_more old new a b e (inr p) = let same : length new ≡ length old + 1 = ap length p.1.gate ∙ length-append old _ in omega arith

-- ---- the first node, and a node that is read

-- of no node the image is made yet
pub copies_none : (from : Circuit) (old : List AigNode) (images : List AigEdge) → AreNodes old
    → length images ≡ length from.nodes → CopiesBelow from old old images images 0
copies_none from old images sound count =
    record {
      grows = Grows-itself old sound;
      count = count;
      there = λ n h. absurd (omega arith);
      latches = λ n h. refl;
      rest = λ n h. refl;
      others = sym (ap (map (λ n. edge_to n false)) (leaves_after-all old));
      value = λ y x leaves n h. absurd (omega arith);
      size = omega arith;
      exact = λ state is. refl;
    }

-- the kind that was read of a node
pub kind_read : (nodes read : List AigNode) (n : ℕ) (k t : AigNodeType) → n < length nodes
    → read ≡ nodes → t ≡ (get_or read n no_node).typ → t ≡ k → kind_at nodes n ≡ Some k
kind_read nodes read n k t there same typ is = kind_at-read nodes n no_node k there (sym is ∙ typ ∙ ap (λ l. (get_or l n no_node).typ) same)

-- a new leaf is there
pub leaf_in_range : (old new : List AigNode) (e : AigEdge) → e ≡ edge_to (length old) false
    → new ≡ with_node old Leaf → IsInRange new e
leaf_in_range old new e edge adds = rw (edge, adds) (omega (arith, length-append old))

-- the images of a gate's operands are made
pub operands_there : (from : Circuit) (i : ℕ) (a b : AigEdge) (images : List AigEdge)
    → IsCircuit from → i < length from.nodes → length images ≡ length from.nodes
    → kind_at from.nodes i ≡ Some (And a b)
    → (a.node_id < length images) × (b.node_id < length images)
operands_there from i a b images circuit there table is =
    let first = circuit.nodes.ordered.first_before i a b is in
    let second = circuit.nodes.ordered.second_before i a b is in
    (omega arith, omega arith)
