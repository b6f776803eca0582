-- Copies of nodes, one node after another.
-- edges have the same values where those of the first leaves are the same
use Rattle.aig_witness_circuits.proofs.Words.{AigEdge, AigNode, AigNodeType, And, AreNodes, Bool, False, Frame, Grows, Grows-itself, Grows-leaf, Grows-then, IsInRange, IsLeaf, Leaf, List, Made, None, Option, Some, [], add-one, and_of, ap, ap₂, arith, below_more, edge_to, edge_value, edge_value-image_in, edge_value_by_leaves, false, folded, frame_in, frame_to, get_or_append_left, get_or_push, image_at, image_in, inverted_if, kind_at, kind_at-last, kind_at-there, kind_at-within, length, length-append, made_by, made_in, make_and, node_value, node_value-and, node_value-false, node_value-leaf, refl, same_Some, subst, suc, sym, with_copy, with_folded, with_node, zero, ℕ, ◌&&◌, ◌++◌, ◌+◌, ◌<◌, ◌∙◌, ◌∷◌, ◌≡◌, ◌≤◌}
use Rattle.aig_witness_circuits.proofs.Gates.{and_gives, still_there}
use Rattle.aig_witness_circuits.proofs.Putting.{put, put_other, put_same}

pub same_below : (nodes : List AigNode) → AreNodes nodes → (x y : ℕ → Bool)
    → ((n : ℕ) → n < length nodes → x n ≡ y n) → (e : AigEdge)
    → edge_value nodes x e ≡ edge_value nodes y e
same_below nodes are x y same e =
    edge_value_by_leaves nodes are.ordered x y (λ n leaf. same n (kind_at-within nodes n Leaf leaf))
    e

-- the image of a node of this kind, which has nodes added for it
abbrev pub made_for : Option AigEdge → AigNodeType → Frame → Made
made_for given False f = made_in f.nodes (edge_to 0 false)
made_for given Leaf f = made_by given Leaf f.nodes
made_for given (And a b) f = make_and f.nodes (image_in f.images a) (image_in f.images b)

-- an image more
abbrev pub with_made_image : Frame → Made → Frame
with_made_image f made = frame_in made.nodes (f.images ++ made.edge ∷ [])

pub copy_made : (given : Option AigEdge) (kind : AigNodeType) (f : Frame)
    → with_copy given (Some kind) f ≡ with_made_image f (made_for given kind f)
copy_made given False f = refl
copy_made (Some e) Leaf f = refl
copy_made None Leaf f = refl
copy_made given (And a b) f =
    by (folded (image_in f.images a) (image_in f.images b))
    (and_of (image_in f.images a) (image_in f.images b))
  where
    by : (o : Option AigEdge) (kind : AigNodeType)
        → with_folded o kind f ≡ with_made_image f (made_by o kind f.nodes)
    by (Some e) kind = refl
    by None kind = refl

module _ (source : List AigNode) (are : AreNodes source) (given : ℕ → Option AigEdge)
    (old : List AigNode) (are_old : AreNodes old)
    (given_there : (n : ℕ) (e : AigEdge) → given n ≡ Some e → IsInRange old e) where
  -- what is given for leaves has their values
  abbrev pub Fits : (ℕ → Bool) → (ℕ → Bool) → Type 0
  Fits z y =
      (n : ℕ) (e : AigEdge) → IsLeaf source n → given n ≡ Some e → edge_value old z e ≡ y n

  -- The first i nodes have their images: under leaf values z each has the value that its node has
  -- under the values x of the leaves' images. A leaf for which an edge is given has that one, and
  -- all values of the other leaves are met.
  pub record Copies (f : Frame) (i : ℕ) : Type 0 where
    pub grows : Grows old f.nodes
    pub count : length f.images ≡ i
    pub there : (n : ℕ) → n < i → IsInRange f.nodes (image_at f.images n)
    pub kept : (n : ℕ) (e : AigEdge) → n < i → IsLeaf source n → given n ≡ Some e
        → image_at f.images n ≡ e
    pub value : (z x : ℕ → Bool)
        → ((n : ℕ) → n < i → IsLeaf source n → x n ≡ edge_value f.nodes z (image_at f.images n))
        → (n : ℕ) → n < i → edge_value f.nodes z (image_at f.images n) ≡ node_value source x n
    pub each : (z y : ℕ → Bool) → Fits z y
        → (w : ℕ → Bool) × ((n : ℕ) → n < length old → w n ≡ z n)
        × ((n : ℕ) → n < i → IsLeaf source n → edge_value f.nodes w (image_at f.images n) ≡ y n)

  -- no node is copied yet
  copies_none : Copies (frame_in old []) 0
  copies_none = record {
    grows = Grows-itself old are_old;
    count = refl;
    there = λ n h. absurd (omega arith);
    kept = λ n e h leaf is. absurd (omega arith);
    value = λ z x leaves n h. absurd (omega arith);
    each = λ z y fits. (z, λ n h. refl, λ n h leaf. absurd (omega arith));
  }

  module _ (f : Frame) (i : ℕ) (so_far : Copies f i) where
    -- the values w go on after the nodes so far, and give node i's image its value
    record Extends (made : Made) (y w : ℕ → Bool) : Type 0 where
      after : ℕ → Bool
      first : (n : ℕ) → n < length f.nodes → after n ≡ w n
      leaf : IsLeaf source i → edge_value made.nodes after made.edge ≡ y i

    -- what is left to show of node i's image
    record Follows (made : Made) : Type 0 where
      grows : Grows f.nodes made.nodes
      there : IsInRange made.nodes made.edge
      kept : (e : AigEdge) → IsLeaf source i → given i ≡ Some e → made.edge ≡ e
      value : (z x : ℕ → Bool)
          → ((n : ℕ) → n < i → edge_value f.nodes z (image_at f.images n) ≡ node_value source x n)
          → (IsLeaf source i → x i ≡ edge_value made.nodes z made.edge)
          → edge_value made.nodes z made.edge ≡ node_value source x i
      each : (z y w : ℕ → Bool) → ((n : ℕ) → n < length old → w n ≡ z n) → Fits z y
          → Extends made y w

    no_leaf : {kind : AigNodeType} → kind_at source i ≡ Some kind → (Leaf ≡ kind → ⊥)
        → IsLeaf source i → ⊥
    no_leaf at differ leaf = differ (same_Some _ _ (sym leaf ∙ at))

    follows : (kind : AigNodeType) (g : Option AigEdge) → kind_at source i ≡ Some kind
        → given i ≡ g → Follows (made_for g kind f)
    follows False g at is = record {
      grows = Grows-itself f.nodes so_far.grows.sound;
      there = kind_at-within f.nodes 0 False so_far.grows.sound.false_first;
      kept = λ e leaf. absurd (no_leaf at (λ same. cc) leaf);
      value = λ z x below leaf.
          node_value-false f.nodes z 0 so_far.grows.sound.false_first
          ∙ sym (node_value-false source x i at);
      each = λ z y w first fits. record {
        after = w;
        first = λ n h. refl;
        leaf = λ leaf. absurd (no_leaf at (λ same. cc) leaf);
      };
    }
    follows Leaf (Some e) at is = record {
      grows = Grows-itself f.nodes so_far.grows.sound;
      there = still_there old f.nodes e so_far.grows (given_there i e is);
      kept = λ g leaf gives. same_Some _ _ (sym is ∙ gives);
      value = λ z x below leaf. sym (leaf at) ∙ sym (node_value-leaf source x i at);
      each = λ z y w first fits. record {
        after = w;
        first = λ n h. refl;
        leaf = λ leaf.
            so_far.grows.values w e (given_there i e is)
            ∙ same_below old are_old w z first e
            ∙ fits i e leaf is;
      };
    }
    follows Leaf None at is =
        let new = with_node f.nodes Leaf in
        let last = kind_at-last f.nodes (record { node_id = length f.nodes; typ = Leaf }) in
        record {
          grows = Grows-leaf f.nodes so_far.grows.sound;
          there = kind_at-within new (length f.nodes) Leaf last;
          kept = λ e leaf gives. (let wrong = sym is ∙ gives in absurd cc);
          value = λ z x below leaf. sym (leaf at) ∙ sym (node_value-leaf source x i at);
          each = λ z y w first fits. record {
            after = put (length f.nodes) (y i) w;
            first = λ n h. put_other (length f.nodes) (y i) w n (λ same. absurd (omega arith));
            leaf = λ leaf.
                node_value-leaf new (put (length f.nodes) (y i) w) (length f.nodes) last
                ∙ put_same (length f.nodes) (y i) w;
          };
        }
    follows (And a b) g at is =
        let gate = and_gives f.nodes so_far.grows.sound (image_in f.images a)
        (image_in f.images b) (so_far.there a.node_id (are.ordered.first_before i a b at))
        (so_far.there b.node_id (are.ordered.second_before i a b at)) in
        record {
          grows = gate.grows;
          there = gate.gives.there;
          kept = λ e leaf. absurd (no_leaf at (λ same. cc) leaf);
          value = λ z x below leaf.
              gate.gives.value z
              ∙ ap₂ ◌&&◌ (operand z x below a (are.ordered.first_before i a b at))
              (operand z x below b (are.ordered.second_before i a b at))
              ∙ sym (node_value-and source are.ordered x i a b at);
          each = λ z y w first fits. record {
            after = w;
            first = λ n h. refl;
            leaf = λ leaf. absurd (no_leaf at (λ same. cc) leaf);
          };
        }
      where
        operand : (z x : ℕ → Bool)
            → ((n : ℕ) → n < i → edge_value f.nodes z (image_at f.images n) ≡ node_value source x n)
            → (e : AigEdge) → e.node_id < i
            → edge_value f.nodes z (image_in f.images e) ≡ edge_value source x e
        operand z x below e h =
            edge_value-image_in f.nodes z f.images e
            ∙ ap (inverted_if e.compl) (below e.node_id h)

    -- one image more
    copies_more : (made : Made) → Follows made → Copies (with_made_image f made) (i + 1)
    copies_more made here = record {
      grows = Grows-then old f.nodes made.nodes so_far.grows here.grows;
      count = omega (arith, length-append f.images (made.edge ∷ []), so_far.count);
      there = below_more _ i
          (λ n h. subst (IsInRange made.nodes) (sym (image_old n h))
          (still_there f.nodes made.nodes (image_at f.images n) here.grows (so_far.there n h)))
          (subst (IsInRange made.nodes) (sym image_new) here.there);
      kept = λ n e h.
          below_more (λ n. IsLeaf source n → given n ≡ Some e → image_at more n ≡ e) i
          (λ n h leaf is. image_old n h ∙ so_far.kept n e h leaf is)
          (λ leaf is. image_new ∙ here.kept e leaf is) n h;
      value = λ z x leaves.
          let below = so_far.value z x
          (λ n h leaf. leaves n (omega arith) leaf ∙ value_old z n h) in
          below_more _ i (λ n h. value_old z n h ∙ below n h)
          (ap (edge_value made.nodes z) image_new
          ∙ here.value z x below
          (λ leaf. leaves i (omega arith) leaf ∙ ap (edge_value made.nodes z) image_new));
      each = λ z y fits.
          let w = so_far.each z y fits in
          let extends = here.each z y w.0 w.1 fits in (
            extends.after,
            λ n h.
                let longer : length old ≤ length f.nodes = so_far.grows.longer in
                extends.first n (omega arith) ∙ w.1 n h,
            below_more
                (λ n. IsLeaf source n → edge_value made.nodes extends.after
                (image_at more n) ≡ y n) i
                (λ n h leaf.
                value_old extends.after n h
                ∙ same_below f.nodes so_far.grows.sound extends.after w.0 extends.first
                (image_at f.images n)
                ∙ w.2 n h leaf)
                (λ leaf. ap (edge_value made.nodes extends.after) image_new ∙ extends.leaf leaf),
          );
    }
      where
        more : List AigEdge
        more = f.images ++ made.edge ∷ []

        -- earlier images stay, and node i has the new one
        image_old : (n : ℕ) → n < i → image_at more n ≡ image_at f.images n
        image_old n h =
            let count : length f.images ≡ i = so_far.count in
            get_or_append_left f.images (made.edge ∷ []) (edge_to 0 false) n (omega arith)

        image_new : image_at more i ≡ made.edge
        image_new = get_or_push f.images made.edge (edge_to 0 false) i so_far.count

        value_old : (z : ℕ → Bool) (n : ℕ) → n < i
            → edge_value made.nodes z (image_at more n)
            ≡ edge_value f.nodes z (image_at f.images n)
        value_old z n h =
            ap (edge_value made.nodes z) (image_old n h)
            ∙ here.grows.values z (image_at f.images n) (so_far.there n h)

  -- the first nodes
  pub copied : (i : ℕ) → i ≤ length source → Copies (frame_to source given old i) i
  copied zero h = copies_none
  copied (suc i) h =
      let f = frame_to source given old i in
      let so_far = copied i (omega (arith, h)) in
      let there = kind_at-there source i (omega (arith, h)) in
      subst (Copies (frame_to source given old (suc i))) (add-one i)
      (subst (λ k. Copies (with_copy (given i) k f) (i + 1)) (sym there.1)
      (subst (λ g. Copies g (i + 1)) (sym (copy_made (given i) there.0 f))
      (copies_more f i so_far (made_for (given i) there.0 f)
      (follows f i so_far there.0 (given i) there.1 refl))))
