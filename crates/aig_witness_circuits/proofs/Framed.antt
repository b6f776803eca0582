-- Copies of circuits, and the states that are read off them.
use Rattle.aig_witness_circuits.proofs.Words.{AigEdge, AigLatch, AigNode, All, All-contains, All-nil, AllOwn, AllPairs, AreNodes, Bool, CanShareLeaves, Circuit, Contains, Frame, Grows, HasImage, IfSome, IsCircuit, IsInRange, IsLatch, IsLeaf, IsOwn, IsSharing, Leaf, List, None, Option, Sharing, Some, [], ap, arith, beside, copy_after, edge_value, edge_value-image_in, edge_value_by_leaves, false≢true, get_or, get_or_default, given_at, image_at, image_in, inl, inr, inverted_if, is_in-there, is_none, kind_at-within, latch_leaves, length, map, model_leaf, moved, moved_beside, next_leaves, next_of, no_leaf, not, option_map, option_or, refl, same_Some, shared_leaves, subst, sym, ℕ, ◌<◌, ◌∙◌, ◌≡◌, ◌≢◌, ◌⊎◌}
use Rattle.aig_witness_circuits.proofs.Copied.{Copies, copied}
use Rattle.aig_witness_circuits.proofs.First.{apart_from_map, first_of-each, first_of-found, first_of-none, model_leaf-first, next_of-first, stands_where_shared}
use Rattle.aig_witness_circuits.proofs.Gates.{still_there}

-- the leaf values that the images have
abbrev pub read : List AigNode → List AigEdge → (ℕ → Bool) → ℕ → Bool
read nodes images z n = edge_value nodes z (image_at images n)

-- the image of each edge has the value that the edge has under the values of the leaves' images
pub record IsCopy (source nodes : List AigNode) (images : List AigEdge) : Type 0 where
  pub count : length images ≡ length source
  pub there : (n : ℕ) → n < length source → IsInRange nodes (image_at images n)
  pub value : (z : ℕ → Bool) (e : AigEdge) → IsInRange source e
      → edge_value nodes z (image_in images e) ≡ edge_value source (read nodes images z) e

-- it stays one where nodes are added
pub copy_stays : (source old new : List AigNode) (images : List AigEdge) → AreNodes source
    → Grows old new → IsCopy source old images → IsCopy source new images
copy_stays source old new images are grows copy = record {
  count = copy.count;
  there = λ n h. still_there old new (image_at images n) grows (copy.there n h);
  value = λ z e h.
      grows.values z (image_in images e) (copy.there e.node_id h)
      ∙ copy.value z e h
      ∙ edge_value_by_leaves source are.ordered (read old images z) (read new images z)
      (λ n leaf. sym (grows.values z (image_at images n)
      (copy.there n (kind_at-within source n Leaf leaf)))) e;
}

-- a node's image is there
pub has_image : (source nodes : List AigNode) (images : List AigEdge)
    → IsCopy source nodes images → (n : ℕ) → n < length source → HasImage nodes images n
has_image source nodes images copy n h = (omega (arith, h, copy.count), copy.there n h)

-- The circuit is copied after other nodes. Its shared leaves are those of another copy, and these
-- of its own latches have the values of their next edges in a copy before it; all values of other
-- leaves are met.
pub record IsFrame (c : Circuit) (latchs : List AigLatch) (before : List AigEdge)
    (shared : Sharing) (others : List AigEdge) (old : List AigNode) (f : Frame) : Type 0 where
  pub grows : Grows old f.nodes
  pub copy : IsCopy c.nodes f.nodes f.images
  pub shares : All (λ p. image_at f.images p.1 ≡ image_at others p.0) shared
  pub moves : AllOwn shared (λ l. image_at f.images l.input ≡ image_in before l.next) latchs
  pub each : (z y : ℕ → Bool)
      → All (λ p. edge_value old z (image_at others p.0) ≡ y p.1) shared
      → AllOwn shared (λ l. edge_value old z (image_in before l.next) ≡ y l.input) latchs
      → (w : ℕ → Bool) × ((n : ℕ) → n < length old → w n ≡ z n)
      × ((n : ℕ) → IsLeaf c.nodes n → read f.nodes f.images w n ≡ y n)

module _ (latchs : List AigLatch) (before : List AigEdge) (shared : Sharing)
    (others : List AigEdge) where
  -- what is given for leaves
  abbrev pub given : ℕ → Option AigEdge
  given = shared_leaves (model_leaf shared) others (next_leaves latchs before)

  -- it is given for a shared leaf, or for that of an own latch
  given_back : (n : ℕ) (e : AigEdge) → given n ≡ Some e
      → ((p : ℕ × ℕ) × Contains shared p × (p.1 ≡ n) × (e ≡ image_at others p.0))
      ⊎ (IsOwn shared n
      × ((l : AigLatch) × Contains latchs l × (l.input ≡ n) × (e ≡ image_in before l.next)))
  given_back n e is = by (model_leaf shared n) refl is
    where
      by_latch : (o : Option AigEdge) → next_of latchs n ≡ o
          → option_map (image_in before) o ≡ Some e
          → (l : AigLatch) × Contains latchs l × (l.input ≡ n) × (e ≡ image_in before l.next)
      by_latch None at none = cc
      by_latch (Some g) at some =
          let found = first_of-found (λ (l : AigLatch). l.input) (λ l. l.next) latchs n g
          (sym (next_of-first latchs n) ∙ at) in (
            found.0,
            found.1,
            found.2,
            sym (ap (image_in before) found.3 ∙ same_Some _ _ some),
          )

      by : (o : Option ℕ) → model_leaf shared n ≡ o
          → option_or (option_map (image_at others) o) (next_leaves latchs before n) ≡ Some e
          → ((p : ℕ × ℕ) × Contains shared p × (p.1 ≡ n) × (e ≡ image_at others p.0))
          ⊎ (IsOwn shared n
          × ((l : AigLatch) × Contains latchs l × (l.input ≡ n) × (e ≡ image_in before l.next)))
      by None at is =
          inr (
            λ has.
                false≢true
                (sym (ap not (is_in-there (map (λ (p : ℕ × ℕ). p.1) shared) n has))
                ∙ sym (stands_where_shared shared n)
                ∙ ap is_none at),
            by_latch (next_of latchs n) refl is,
          )
      by (Some m) at is =
          let found = first_of-found (λ (p : ℕ × ℕ). p.1) (λ p. p.0) shared n m
          (sym (model_leaf-first shared n) ∙ at) in
          inl (
            found.0,
            found.1,
            found.2,
            sym (ap (image_at others) found.3 ∙ same_Some _ _ is),
          )

  module _ (base : List AigNode) (has_next : All (λ l. HasImage base before l.next.node_id) latchs)
      (has_other : All (λ p. HasImage base others p.0) shared) where
    -- it is there
    pub given_there : (n : ℕ) (e : AigEdge) → given n ≡ Some e → IsInRange base e
    given_there n e is = elim (given_back n e is) [
      | inl p ↦
          subst (IsInRange base) (sym p.3)
          (All-contains (λ (q : ℕ × ℕ). HasImage base others q.0) shared p.0 has_other p.1).1
      | inr l ↦
          subst (IsInRange base) (sym l.1.3)
          (All-contains (λ (m : AigLatch). HasImage base before m.next.node_id) latchs l.1.0
          has_next l.1.1).1
    ]

    pub given_all : (table : List (Option AigEdge)) → ((n : ℕ) → given_at table n ≡ given n)
        → All (λ g. IfSome g (IsInRange base)) table
    given_all table is k d h =
        subst (λ g. IfSome g (IsInRange base)) (get_or_default table k None d h)
        (by (given_at table k) (sym (is k)))
      where
        by : (g : Option AigEdge) → given k ≡ g → IfSome g (IsInRange base)
        by None at = tt
        by (Some e) at = given_there k e at

    -- the copy with it
    pub is_frame : (c : Circuit) → IsCircuit c → AreNodes base → IsSharing shared
        → All (λ p. IsLeaf c.nodes p.1) shared → All (IsLatch c.nodes) latchs
        → AllPairs (λ m n. m ≢ n) (latch_leaves latchs)
        → IsFrame c latchs before shared others base (copy_after base c given)
    is_frame c is are sharing leaves are_latchs distinct = record {
      grows = copies.grows;
      copy = record {
        count = copies.count;
        there = copies.there;
        value = λ z e h.
            edge_value-image_in f.nodes z f.images e
            ∙ ap (inverted_if e.compl)
            (copies.value z (read f.nodes f.images z) (λ n l leaf. refl) e.node_id h);
      };
      shares = λ k d h.
          let p = get_or shared k d in
          let leaf : IsLeaf c.nodes p.1 = leaves k d h in
          copies.kept p.1 (image_at others p.0) (kind_at-within c.nodes p.1 Leaf leaf) leaf
          (ap (λ o. option_or (option_map (image_at others) o) (next_leaves latchs before p.1))
          (model_leaf-first shared p.1
          ∙ first_of-each (λ (q : ℕ × ℕ). q.1) (λ q. q.0) shared
          (apart_from_map (λ (q : ℕ × ℕ). q.1) shared sharing) k d h));
      moves = λ k d h own.
          let l = get_or latchs k d in
          let leaf = (are_latchs k d h).leaf in
          copies.kept l.input (image_in before l.next) (kind_at-within c.nodes l.input Leaf leaf)
          leaf
          (ap (λ o. option_or (option_map (image_at others) o) (next_leaves latchs before l.input))
          (model_leaf-first shared l.input
          ∙ first_of-none (λ (q : ℕ × ℕ). q.1) (λ q. q.0) shared l.input own)
          ∙ ap (option_map (image_in before))
          (next_of-first latchs l.input
          ∙ first_of-each (λ (m : AigLatch). m.input) (λ m. m.next) latchs
          (apart_from_map (λ (m : AigLatch). m.input) latchs distinct) k d h));
      each = λ z y same_shared same_moved.
          let w = copies.each z y (λ n e leaf is. fits z y same_shared same_moved n e is) in
          (w.0, w.1, λ n leaf. w.2 n (kind_at-within c.nodes n Leaf leaf) leaf);
    }
      where
        f : Frame
        f = copy_after base c given

        copies : Copies c.nodes is.nodes given base are given_there f (length c.nodes)
        copies = copied c.nodes is.nodes given base are given_there (length c.nodes) (omega arith)

        fits : (z y : ℕ → Bool) → All (λ p. edge_value base z (image_at others p.0) ≡ y p.1) shared
            → AllOwn shared (λ l. edge_value base z (image_in before l.next) ≡ y l.input) latchs
            → (n : ℕ) (e : AigEdge) → given n ≡ Some e → edge_value base z e ≡ y n
        fits z y same_shared same_moved n e is = elim (given_back n e is) [
          | inl p ↦
              ap (edge_value base z) p.3
              ∙ All-contains (λ (q : ℕ × ℕ). edge_value base z (image_at others q.0) ≡ y q.1)
              shared p.0 same_shared p.1
              ∙ ap y p.2
          | inr l ↦
              ap (edge_value base z) l.1.3
              ∙ All-contains
              (λ (m : AigLatch). IsOwn shared m.input
              → edge_value base z (image_in before m.next) ≡ y m.input) latchs l.1.0 same_moved
              l.1.1 (subst (IsOwn shared) (sym l.1.2) l.0)
              ∙ ap y l.1.2
        ]

-- ---- the copies of questions

pub first_frame : (c : Circuit) → IsCircuit c → (old : List AigNode) → AreNodes old → (x : Frame)
    → x ≡ copy_after old c no_leaf → IsFrame c [] [] [] [] old x
first_frame c is old are x is_x =
    subst (IsFrame c [] [] [] [] old) (sym is_x)
    (is_frame [] [] [] [] old (All-nil _) (All-nil _) c is are no_pairs (All-nil _) (All-nil _)
    no_pairs)
  where
    no_pairs : AllPairs (λ (m : ℕ) n. m ≢ n) []
    no_pairs i j d lt less = absurd (omega (arith, less))

pub moved_frame : (c : Circuit) → IsCircuit c → (before : List AigEdge) (old : List AigNode)
    → AreNodes old → IsCopy c.nodes old before
    → IsFrame c c.latchs before [] [] old (moved c before old)
moved_frame c is before old are copy =
    is_frame c.latchs before [] [] old
    (λ k d h. has_image c.nodes old before copy _ (is.latchs k d h).next) (All-nil _) c is are
    (λ i j d lt less. absurd (omega (arith, less))) (All-nil _) is.latchs is.latchs_distinct

module _ (shared : Sharing) (model witness : Circuit) (can : CanShareLeaves shared model witness)
    (x : Frame) (copy : IsCopy model.nodes x.nodes x.images) where
  -- leaves that are shared have their images
  pub has_shared : All (λ p. HasImage x.nodes x.images p.0) shared
  has_shared k d h =
      has_image model.nodes x.nodes x.images copy _
      (kind_at-within model.nodes _ Leaf (can.model_leaves k d h))

  pub beside_frame : IsCircuit witness → AreNodes x.nodes
      → IsFrame witness [] [] shared x.images x.nodes (beside (model_leaf shared) witness x)
  beside_frame is are =
      is_frame [] [] shared x.images x.nodes (All-nil _) has_shared witness is are can.sharing
      can.witness_leaves (All-nil _) (λ i j d lt less. absurd (omega (arith, less)))

  pub moved_beside_frame : IsCircuit witness → AreNodes x.nodes → (before : List AigEdge)
      → IsCopy witness.nodes x.nodes before
      → IsFrame witness witness.latchs before shared x.images x.nodes
      (moved_beside (model_leaf shared) witness before x)
  moved_beside_frame is are before copy_before =
      is_frame witness.latchs before shared x.images x.nodes
      (λ k d h. has_image witness.nodes x.nodes before copy_before _ (is.latchs k d h).next)
      has_shared witness is are can.sharing can.witness_leaves is.latchs is.latchs_distinct
