-- The table of images before a step: at latches' leaves their next edges.
use Rattle.aig_base.proofs.Words.{◌≡◌, ◌≢◌, ◌⊎◌, ℕ, ◌+◌, ◌<◌, ◌≤◌, false, refl, Option, Some, None, inl, inr, List, [], ◌∷◌, ◌++◌, length, map, get_or, set, take, get_or-set_other, get_or-set_same, sym, ap, subst, ◌∙◌, arith, All, AllPairs, Contains, cases_lt, Contains-get_or}
use Rattle.std.proofs.Math.ListN.{length-set}
use Rattle.std.proofs.lemmas.List.{get_or_default, get_or-map, length-map, map-append, map-set, same_lists, set-get_or, take_more, take_more_set}
use Rattle.aig_circuit.specs.declared.edge.AigEdge.{AigEdge}
use Rattle.aig_circuit.specs.declared.node.AigLatch.{AigLatch}
use Rattle.aig_circuit.proofs.Words.{edge_to, Circuit, IsCircuit, IsLeaf, latch_leaves, next_edges}
use Rattle.aig_circuit.proofs.Circuits.{leaf-read}
use Rattle.aig_circuit.specs.declared.node.AigNodeType.TheVariants.{Leaf}
use Rattle.aig_circuit.proofs.Trees.{kind_at-within}
use Rattle.aig_unroll.specs.Frame.{next_of}
use Rattle.aig_unroll.proofs.Framed.{next_of-found, next_of-none}
use Rattle.aig_unroll.specs.Step.{HasLatchImages, IsState, MarksLatches, image_at, image_in}
use Rattle.aig_unroll.specs.Unroll.{starts_of}

-- no latch is set yet
pub HasLatchImages-more : (latchs current : List AigLatch) (i unset : ℕ) (images : List AigEdge) (d e : AigLatch) → i < length latchs → i < length current → (get_or latchs i d).input < length images → AllPairs (λ m n. m ≢ n) (latch_leaves latchs)
    → HasLatchImages latchs current i unset images → HasLatchImages latchs current (i + 1) unset (set images (get_or latchs i d).input (get_or current i e).next)
HasLatchImages-more latchs current i unset images d e within inside there distinct so_far =
    let leaf = (get_or latchs i d).input in
    let next = (get_or current i e).next in
    record {
      each = λ k f g h. each k f g h (cases_lt k i);
      rest = λ n low none.
          let ne : n ≢ leaf = λ q. none i d (omega arith) (sym q) in
          get_or-set_other images leaf n next (edge_to 0 false) ne ∙ so_far.rest n (omega (arith, length-set images leaf next)) (λ k f h. none k f (omega arith));
    }
  where
    each : (k : ℕ) (f g : AigLatch) → k < i + 1 → (k < i) ⊎ (i ≤ k)
        → image_at (set images (get_or latchs i d).input (get_or current i e).next)
        (get_or latchs k f).input ≡ (get_or current k g).next
    each k f g h (inl early) =
        let short : k < length latchs = omega arith in
        let last : i < length (latch_leaves latchs) = omega (arith, length-map latchs (λ (l : AigLatch). l.input)) in
        let ne : (get_or latchs k f).input ≢ (get_or latchs i d).input = λ q. distinct k i 0 early last (leaf-read latchs k f short ∙ q ∙ sym (leaf-read latchs i d within)) in
        get_or-set_other images (get_or latchs i d).input (get_or latchs k f).input (get_or current i e).next (edge_to 0 false) ne ∙ so_far.each k f g early
    each k f g h (inr late) =
        let same : i ≡ k = omega arith in
        subst (λ k. image_at (set images (get_or latchs i d).input (get_or current i e).next) (get_or latchs k f).input ≡ (get_or current k g).next) same
        (ap (image_at (set images (get_or latchs i d).input (get_or current i e).next)) (ap (λ (l : AigLatch). l.input) (get_or_default latchs i f d within))
        ∙ get_or-set_same images (get_or latchs i d).input (get_or current i e).next (edge_to 0 false) there
        ∙ ap (λ (l : AigLatch). l.next) (get_or_default current i e g inside))

-- any latch, where a list has no entry
abbrev pub no_latch : AigLatch
no_latch = record { input = 0; next = edge_to 0 false; init = None }

module _ (from : Circuit) (circuit : IsCircuit from) (current : List AigLatch) (unset : ℕ) (images : List AigEdge) (same : length from.latchs ≡ length current) (has : HasLatchImages from.latchs current (length from.latchs) unset images) where
  -- the images of the latches' leaves are the next edges
  pub latch_images : map (image_at images) (latch_leaves from.latchs) ≡ next_edges current
  latch_images =
      let leaves = latch_leaves from.latchs in
      let long = length-map from.latchs (λ (l : AigLatch). l.input) in
      same_lists (map (image_at images) leaves) (next_edges current) (length-map leaves (image_at images) ∙ long ∙ same ∙ sym (length-map current (λ (l : AigLatch). l.next)))
      (λ k d h.
      let short : k < length leaves = omega (arith, length-map leaves (image_at images)) in
      let within : k < length from.latchs = omega arith in
      let inside : k < length current = omega arith in
      get_or-map (image_at images) leaves k 0 d short ∙ ap (image_at images) (get_or-map (λ (l : AigLatch). l.input) from.latchs k no_latch 0 within)
      ∙ has.each k no_latch no_latch within ∙ sym (get_or-map (λ (l : AigLatch). l.next) current k no_latch d inside))

  -- and they are marked, where next edges are among the first nodes
  pub marks_latches : All (λ (l : AigLatch). l.next.node_id < unset) current
      → MarksLatches from unset images
  marks_latches low = record {
    latches = λ n is. latch_low n is;
    others = λ n h none.
        let rest = has.rest n h (λ k d l q. none (subst (Contains (latch_leaves from.latchs)) (get_or-map (λ (l : AigLatch). l.input) from.latchs k d 0 l ∙ q) (Contains-get_or (latch_leaves from.latchs) k 0 (longer k l)))) in
        omega (arith, ap (λ (e : AigEdge). e.node_id) rest);
  }
    where
      longer : (k : ℕ) → k < length from.latchs → k < length (latch_leaves from.latchs)
      longer k h = omega (arith, length-map from.latchs (λ (l : AigLatch). l.input))

      latch_low : (n : ℕ) → Contains (latch_leaves from.latchs) n
          → (image_at images n).node_id < unset
      latch_low n (k, h, is) =
          let within : k < length from.latchs = omega (arith, length-map from.latchs (λ (l : AigLatch). l.input)) in
          let inside : k < length current = omega arith in
          let leaf : (get_or from.latchs k no_latch).input ≡ n = sym (get_or-map (λ (l : AigLatch). l.input) from.latchs k no_latch n within) ∙ is in
          omega (arith, low k no_latch inside, ap (λ (e : AigEdge). e.node_id) (sym (ap (image_at images) leaf) ∙ has.each k no_latch no_latch within))

  -- the state of a leaf is its latch's next edge
  pub state_of : length images ≡ length from.nodes
      → latch_leaves current ≡ latch_leaves from.latchs
      → All (λ (l : AigLatch). l.next.node_id < unset) current
      → IsState from unset images (next_of current)
  state_of count leaves low = record { low = λ n leaf l. low_at n leaf l (next_of current n) refl; high = λ n leaf l. high_at n leaf l (next_of current n) refl }
    where
      -- the image of the leaf of a latch
      image : (n : ℕ) (e : AigEdge) → next_of current n ≡ Some e → image_at images n ≡ e
      image n e is =
          let found = next_of-found current n e no_latch is in
          let k = found.0 in
          let inside : k < length from.latchs = omega (arith, found.1) in
          let leaf : (get_or from.latchs k no_latch).input ≡ n = sym (leaf-read from.latchs k no_latch inside) ∙ ap (λ ns. get_or ns k 0) (sym leaves) ∙ leaf-read current k no_latch found.1 ∙ found.2 in
          ap (image_at images) (sym leaf) ∙ has.each k no_latch no_latch inside ∙ found.3

      none : (n : ℕ) → IsLeaf from.nodes n → next_of current n ≡ None
          → image_at images n ≡ edge_to unset false
      none n leaf is =
          has.rest n (omega (arith, count, kind_at-within from.nodes n Leaf leaf))
          (λ k d l q. let inside : k < length current = omega arith in next_of-none current n is k d inside (sym (leaf-read current k d inside) ∙ ap (λ ns. get_or ns k 0) leaves ∙ leaf-read from.latchs k d l ∙ q))

      low_at : (n : ℕ) → IsLeaf from.nodes n → (image_at images n).node_id < unset
          → (o : Option AigEdge) → next_of current n ≡ o
          → next_of current n ≡ Some (image_at images n)
      low_at n leaf l (Some e) is = is ∙ ap Some (sym (image n e is))
      low_at n leaf l None is = absurd (omega (arith, l, ap (λ (e : AigEdge). e.node_id) (none n leaf is)))

      high_at : (n : ℕ) → IsLeaf from.nodes n → unset ≤ (image_at images n).node_id
          → (o : Option AigEdge) → next_of current n ≡ o → next_of current n ≡ None
      high_at n leaf l None is = is
      high_at n leaf l (Some e) is =
          let found = next_of-found current n e no_latch is in
          absurd (omega (arith, l, low found.0 no_latch found.1, ap (λ (f : AigEdge). f.node_id) (image n e is), ap (λ (f : AigEdge). f.node_id) found.3))

-- ---- next edges

-- one latch more has the image of a next edge
pub next_images_more : (images : List AigEdge) (others start latchs : List AigLatch) (i : ℕ) (d e new : AigLatch) → i < length latchs → i < length others → latch_leaves latchs ≡ latch_leaves start → starts_of latchs ≡ starts_of start
    → take i (next_edges latchs) ≡ map (image_in images) (take i (next_edges others))
    → new.input ≡ (get_or latchs i d).input → new.init ≡ (get_or latchs i d).init → new.next ≡ image_in images (get_or others i e).next
    → (latch_leaves (set latchs i new) ≡ latch_leaves start) × (starts_of (set latchs i new) ≡ starts_of start) × (take (i + 1) (next_edges (set latchs i new)) ≡ map (image_in images) (take (i + 1) (next_edges others)))
next_images_more images others start latchs i d e new within inside leaves starts so_far input init next = (kept (λ (l : AigLatch). l.input) input ∙ leaves, kept (λ (l : AigLatch). l.init) init ∙ starts, more)
  where
    kept : {X : Type 0} (f : AigLatch → X) → f new ≡ f (get_or latchs i d)
        → map f (set latchs i new) ≡ map f latchs
    kept f same =
        map-set f latchs i new ∙ ap (set (map f latchs) i) (same ∙ sym (get_or-map f latchs i d (f d) within)) ∙ set-get_or (map f latchs) i (f d)

    more : take (i + 1) (next_edges (set latchs i new))
        ≡ map (image_in images) (take (i + 1) (next_edges others))
    more =
        let long : i < length (next_edges latchs) = omega (arith, length-map latchs (λ (l : AigLatch). l.next)) in
        let wide : i < length (next_edges others) = omega (arith, length-map others (λ (l : AigLatch). l.next)) in
        ap (take (i + 1)) (map-set (λ (l : AigLatch). l.next) latchs i new) ∙ take_more_set (next_edges latchs) i new.next long ∙ ap (λ l. l ++ new.next ∷ []) so_far ∙ ap (λ x. map (image_in images) (take i (next_edges others)) ++ x ∷ []) (next ∙ ap (image_in images) (sym (get_or-map (λ (l : AigLatch). l.next) others i e (edge_to 0 false) inside)))
        ∙ sym (ap (map (image_in images)) (take_more (next_edges others) i (edge_to 0 false) wide) ∙ map-append (image_in images) (take i (next_edges others)) _)

-- as many latches as leaves of latches
pub as_many_latchs : (some others : List AigLatch) → latch_leaves some ≡ latch_leaves others
    → length some ≡ length others
as_many_latchs some others same = sym (length-map some (λ (l : AigLatch). l.input)) ∙ ap length same ∙ length-map others (λ (l : AigLatch). l.input)
