-- A step that changes nothing: each step after it is that step again.
use Rattle.aig_base.proofs.Words.{◌≡◌, ◌≢◌, ◌⊎◌, ℕ, zero, suc, ◌+◌, ◌-◌, ◌<◌, ◌≤◌, Bool, true, false, Option, Some, None, List, [], ◌∷◌, ◌++◌, length, All, get_or, add-one, refl, sym, ap, subst, ◌∙◌, inl, inr, arith, cases_lt, le-leb, leb-true, get_or-append_seam, get_or_append_left}
use Rattle.std.specs.Prelude.{slice_index, slice_index_or}
use Rattle.aig_circuit.specs.declared.edge.AigEdge.{AigEdge}
use Rattle.aig_circuit.specs.declared.node.AigNodeType.{AigNodeType}
use Rattle.aig_circuit.specs.declared.node.AigNodeType.TheVariants.{And, False, Leaf}
use Rattle.aig_circuit.proofs.Words.{Circuit, IsCircuit, IsInRange, IsInitial, IsRun, edge_to, edge_value, inverted_if, kind_at, node_value}
use Rattle.aig_circuit.proofs.Trees.{by_smaller, kind_at-there, node_value-and, node_value-false, node_value-leaf}
use Rattle.aig_unroll.specs.Frame.{image_at, image_in}
use Rattle.aig_bounded.specs.declared.frames.Frames.{Frames}
use Rattle.aig_bounded.specs.declared.place.Place.{Place}
use Rattle.aig_bounded.specs.declared.steps.Sums.{Sums}
use Rattle.aig_bounded.specs.Depths.{AreDepths, HaveNoDepth}
use Rattle.aig_bounded.specs.Exact.{Checks, Frame, frame_to, image_if, node_image, reached_in, steps_to, with_checks}
use Rattle.aig_bounded.specs.Frames.{AreFrames, Extends, ReadsOff, Shows, net_of}
use Rattle.aig_bounded.specs.Shared.{Made, Netlist, made_in}
use Rattle.aig_bounded.specs.Steps.{HasImages, HasStates, MakesFrame, SetsStates, Sum, checks_of, is_read, reached_to, within_to}
use Rattle.aig_bounded.proofs.Exactly.{MadeSoFar, MadeSoFar-more, checks-same, frame-count, next_checks, node_image-same, operands_read, reached_made}
use Rattle.aig_bounded.proofs.Extended.{AreFrames-next_step, Extends-itself}
use Rattle.aig_bounded.proofs.Grown.{frame_still, no_fewer, same_netlist, state_there, with_checks-larger}
use Rattle.aig_bounded.proofs.Shown.{Shows-extends, all_same, any_same, both_same, either_same}
use Rattle.aig_bounded.proofs.Stepped.{HasStates-extends, StepsSoFar, StepsSoFar-more, fanin_before}

-- ---- the same nodes again

-- the place of a node matters only where a leaf is opened
node_image-place : (state : Option AigEdge) (images : List AigEdge) (p q : Place)
    (kind : Option AigNodeType) (net : Netlist) → (kind ≡ Some Leaf → state ≢ None)
    → node_image state images p kind net ≡ node_image state images q kind net
node_image-place state images p q None net has = refl
node_image-place state images p q (Some False) net has = refl
node_image-place state images p q (Some (And a b)) net has = refl
node_image-place (Some e) images p q (Some Leaf) net has = refl
node_image-place None images p q (Some Leaf) net has = absurd (has refl refl)

-- the image that was added
image_at-push : (images : List AigEdge) (e : AigEdge) (n : ℕ) → length images ≡ n
    → image_at (images ++ e ∷ []) n ≡ e
image_at-push images e n is =
    ap (image_at (images ++ e ∷ [])) (sym is) ∙ get_or-append_seam images e [] (edge_to 0 false)

-- The images of step t add no node. So do those of step u, which has the same states and reads
-- less.
module _ (c : Circuit) (circuit : IsCircuit c) (last left less t u : ℕ) (depths : List ℕ)
    (are : AreDepths c last depths) (within : left ≤ last) (fewer : less ≤ left)
    (state : ℕ → Option AigEdge) (net : Netlist)
    (still : length (frame_to c t (is_read depths left) state net (length c.nodes)).net.nodes ≤
    length net.nodes) where
  abbrev first : ℕ → Frame
  first n = frame_to c t (is_read depths left) state net n

  abbrev later : ℕ → Frame
  later n = frame_to c u (is_read depths less) state net n

  first_still : (n : ℕ) → n ≤ length c.nodes → (first n).net ≡ net
  first_still = frame_still c t (is_read depths left) state net (length c.nodes) still

  -- what is read later is read first
  was_read : (n : ℕ) → is_read depths less n ≡ true → is_read depths left n ≡ true
  was_read n r =
      le-leb (slice_index depths n) left
      (omega (arith, leb-true (slice_index depths n) less r, fewer))

  -- the first n nodes add none, and have the same images
  abbrev IsAgain : ℕ → Type 0
  IsAgain n =
      ((later n).net ≡ net)
      × ((m : ℕ) → m < n → is_read depths less m ≡ true
      → image_at (later n).images m ≡ image_at (first n).images m)

  same_made : (n : ℕ) → n < length c.nodes → is_read depths less n ≡ true → IsAgain n
      → image_if (is_read depths less n) (state n) (later n).images (record { step = u; leaf = n })
      (kind_at c.nodes n) (later n).net
      ≡ image_if (is_read depths left n) (state n) (first n).images (record { step = t; leaf = n })
      (kind_at c.nodes n) (first n).net
  same_made n h r is =
      let there : Place = record { step = u; leaf = n } in
      let here : Place = record { step = t; leaf = n } in
      ap (λ b. image_if b (state n) (later n).images there (kind_at c.nodes n) (later n).net) r
      ∙ ap (node_image (state n) (later n).images there (kind_at c.nodes n)) is.0
      ∙ node_image-same (state n) (later n).images (first n).images there (kind_at c.nodes n) net
      (λ a b kind.
      let both = operands_read c less n last depths a b circuit are (omega arith)
      (leb-true (slice_index depths n) less r) kind in
      (is.1 a.node_id both.0.0 both.0.1, is.1 b.node_id both.1.0 both.1.1))
      ∙ node_image-place (state n) (first n).images there here (kind_at c.nodes n) net
      (state_there c t (is_read depths left) state net (length c.nodes) still n h (was_read n r))
      ∙ ap (node_image (state n) (first n).images here (kind_at c.nodes n))
      (sym (first_still n (omega arith)))
      ∙ ap (λ b. image_if b (state n) (first n).images here (kind_at c.nodes n) (first n).net)
      (sym (was_read n r))

  again-more : (n : ℕ) → n < length c.nodes → IsAgain n → (b : Bool) → is_read depths less n ≡ b
      → IsAgain (suc n)
  again-more n h is b r = (net_more b r, λ m l q. image_more m (cases_lt m n) l q)
    where
      net_more : (b : Bool) → is_read depths less n ≡ b → (later (suc n)).net ≡ net
      net_more true r = ap (λ (m : Made). m.net) (same_made n h r is)
          ∙ first_still (suc n) (omega arith)
      net_more false r =
          ap (λ b. (image_if b (state n) (later n).images (record { step = u; leaf = n })
          (kind_at c.nodes n) (later n).net).net) r
          ∙ is.0

      count_first : length (first n).images ≡ n
      count_first = frame-count c t (is_read depths left) state net n

      count_later : length (later n).images ≡ n
      count_later = frame-count c u (is_read depths less) state net n

      image_here : is_read depths less n ≡ true
          → image_at (later (suc n)).images n ≡ image_at (first (suc n)).images n
      image_here q =
          image_at-push (later n).images _ n count_later
          ∙ ap (λ (m : Made). m.edge) (same_made n h q is)
          ∙ sym (image_at-push (first n).images _ n count_first)

      image_more : (m : ℕ) → (m < n) ⊎ (n ≤ m) → m < suc n → is_read depths less m ≡ true
          → image_at (later (suc n)).images m ≡ image_at (first (suc n)).images m
      image_more m (inl low) l q =
          get_or_append_left (later n).images _ (edge_to 0 false) m
          (omega (arith, low, count_later))
          ∙ is.1 m low q
          ∙ sym (get_or_append_left (first n).images _ (edge_to 0 false) m
          (omega (arith, low, count_first)))
      image_more m (inr high) l q =
          let one : m ≡ n = omega arith in
          subst (λ k. image_at (later (suc n)).images k ≡ image_at (first (suc n)).images k)
          (sym one)
          (image_here (ap (is_read depths less) (sym one) ∙ q))

  again : (n : ℕ) → n ≤ length c.nodes → IsAgain n
  again zero h = (refl, λ m l r. absurd (omega arith))
  again (suc n) h = again-more n (omega arith) (again n (omega arith)) (is_read depths less n) refl

  -- what the properties name has the same images
  roots_again : (es : List AigEdge) → All (IsInRange c.nodes) es → HaveNoDepth es depths
      → All (λ e. image_at (first (length c.nodes)).images e.node_id ≡ image_at
      (later (length c.nodes)).images e.node_id) es
  roots_again es there none k d h =
      let n = (get_or es k d).node_id in
      sym ((again (length c.nodes) (omega arith)).1 n (there k d h)
      (le-leb (slice_index depths n) less (omega (arith, none k d h))))

  -- the step is made of the same images, and has the same checks
  pub MakesFrame-again : (sums : Sums) (images : List AigEdge) (checks : Checks)
      → MakesFrame (is_read depths left) (first (length c.nodes)) c sums images checks
      → MakesFrame (is_read depths less) (later (length c.nodes)) c sums images checks
  MakesFrame-again sums images checks step = record {
    exact =
        step.exact ∙ ap (λ (m : Netlist). with_checks c (first (length c.nodes)).images
        (record { net = m; within = sums.within; reached = sums.reached }))
        (first_still (length c.nodes) (omega arith))
        ∙ checks-same c (first (length c.nodes)).images (later (length c.nodes)).images
        (record { net = net; within = sums.within; reached = sums.reached })
        (roots_again c.properties.constraints circuit.properties.constraints are.constraints)
        (roots_again c.properties.bads circuit.properties.bads are.bads)
        ∙ ap (λ (m : Netlist). with_checks c (later (length c.nodes)).images
        (record { net = m; within = sums.within; reached = sums.reached }))
        (sym (again (length c.nodes) (omega arith)).0);
    same = λ n h r.
        let count = frame-count c u (is_read depths less) state net (length c.nodes) in
        let low : n < length c.nodes = omega (arith, h, count) in
        step.same n (omega (
          arith,
          low,
          frame-count c t (is_read depths left) state net
              (length c.nodes),
        )) (was_read n r)
        ∙ sym ((again (length c.nodes) (omega arith)).1 n low r);
  }

-- ---- one step

-- the images of step t as nodes
abbrev pub frame_of : Circuit → ℕ → ℕ → List ℕ → List (Option AigEdge) → Netlist → Frame
frame_of c last t depths states net =
    frame_to c t (is_read depths (last - t)) (λ n. slice_index_or states n None) net
    (length c.nodes)

-- Step t is made: of the nodes, states and sums before it those after it.
pub record IsMade (c : Circuit) (last t : ℕ) (depths : List ℕ) (old new : Frames)
    (states next : List (Option AigEdge)) (sums after : Sums) (images : List AigEdge) : Type 0 where
  pub has : HasImages c t depths (last - t) (length c.nodes) new images
  pub extends : Extends old new
  pub sum : Sum c t (t + 1) new after
  pub frames : AreFrames c (t + 1) 0 new
  pub makes : MakesFrame (is_read depths (last - t)) (frame_of c last t depths states (net_of old))
      c
      sums images (checks_of new after)
  pub sets : SetsStates c.latchs (length c.latchs) (λ latch. Some (image_in images latch.next))
      states next
  pub count : length next ≡ length states

-- the steps before step t are made
pub record AreMade (c : Circuit) (last t : ℕ) (depths : List ℕ) (old f : Frames)
    (states : List (Option AigEdge)) (sums : Sums) : Type 0 where
  pub so_far : StepsSoFar c last t depths old f states sums
  pub made : MadeSoFar c last t depths f sums states

-- and with it one more
pub AreMade-more : (c : Circuit) (circuit : IsCircuit c) (last t : ℕ) (low : t < last)
    (depths : List ℕ) (are : AreDepths c last depths) (old f0 f : Frames)
    (states next : List (Option AigEdge)) (sums after : Sums) (images : List AigEdge)
    → AreMade c last t depths old f0 states sums
    → IsMade c last t depths f0 f states next sums after images
    → AreMade c last (t + 1) depths old f next after
AreMade-more c circuit last t low depths are old f0 f states next sums after images before step
    = record {
      so_far = StepsSoFar-more c last t depths old f0 f images states next sums after circuit low are
          step.has before.so_far step.extends step.sets step.count step.sum step.frames;
      made = MadeSoFar-more c (last - t) last t depths refl f0 sums states before.made images
          (checks_of f after) step.makes circuit are low before.so_far.known.others next step.sets f
          after refl;
    }

-- the images of a step that adds no node add none
images_still : (c : Circuit) (frame : Frame) (sums : Sums) (images : List AigEdge) (after : Checks)
    (read : ℕ → Bool) (net : Netlist) → MakesFrame read frame c sums images after
    → length after.net.nodes ≤ length net.nodes → length frame.net.nodes ≤ length net.nodes
images_still c frame sums images after read net step few =
    let before : Checks = record { net = frame.net; within = sums.within; reached = sums.reached }
    in
    omega (
      arith,
      few,
      no_fewer frame.net (with_checks c frame.images before).net
          (with_checks-larger c frame.images before),
      ap (λ (k : Checks). length k.net.nodes)
          step.exact,
    )

-- ---- a step that changes nothing

-- Step t leaves the nodes, the states and the sums as they are.
pub record IsSteady (c : Circuit) (last t : ℕ) (depths : List ℕ) (f : Frames)
    (states : List (Option AigEdge)) (sums : Sums) (images : List AigEdge) : Type 0 where
  pub step : IsMade c last t depths f f states states sums sums images
  pub known : HasStates c t depths (last - t) f states
  pub before : Sum c t t f sums

steady_still : (c : Circuit) (last t : ℕ) (depths : List ℕ) (f : Frames)
    (states : List (Option AigEdge)) (sums : Sums) (images : List AigEdge)
    → IsSteady c last t depths f states sums images
    → length (frame_of c last t depths states (net_of f)).net.nodes ≤ length (net_of f).nodes
steady_still c last t depths f states sums images steady =
    images_still c (frame_of c last t depths states (net_of f)) sums images (checks_of f sums)
    (is_read depths (last - t)) (net_of f) steady.step.makes (omega arith)

-- A later step is the same.
module _ (c : Circuit) (circuit : IsCircuit c) (last t : ℕ) (depths : List ℕ)
    (are : AreDepths c last depths) (f : Frames) (states : List (Option AigEdge)) (sums : Sums)
    (images : List AigEdge) (steady : IsSteady c last t depths f states sums images) where
  module _ (u : ℕ) (low : t ≤ u) (known : HasStates c u depths (last - u) f states) where
    abbrev Read : ℕ → Type 0
    Read n = (n < length c.nodes) × (slice_index depths n ≤ last - u)

    module _ (y : ℕ → Bool) (run : ℕ → ℕ → Bool) (is : IsRun c u run) (start : IsInitial c (run 0))
        (reads : ReadsOff f y run) where
      is_before : IsRun c t run
      is_before s h = is s (omega arith)

      -- leaves have the values of step t
      leaf_same : (n : ℕ) → Read n → kind_at c.nodes n ≡ Some Leaf → run u n ≡ run t n
      leaf_same n r leaf = by (slice_index_or states n None) refl
        where
          deep : slice_index depths n ≤ last - t
          deep = omega (arith, r.1)

          by : (o : Option AigEdge) → slice_index_or states n None ≡ o → run u n ≡ run t n
          by None none =
              absurd (state_there c t (is_read depths (last - t))
              (λ m. slice_index_or states m None) (net_of f) (length c.nodes)
              (steady_still c last t depths f states sums images steady) n r.0
              (le-leb (slice_index depths n) (last - t) deep) leaf none)
          by (Some e) set =
              sym ((known.set n e r.0 set r.1).shown y run is start reads)
              ∙ (steady.known.set n e r.0 set deep).shown y run is_before start reads

      same_of_kind : (n : ℕ)
          → ((m : ℕ) → m < n → Read m → node_value c.nodes (run u) m ≡ node_value c.nodes (run t) m)
          → Read n → (k : AigNodeType) → kind_at c.nodes n ≡ Some k
          → node_value c.nodes (run u) n ≡ node_value c.nodes (run t) n
      same_of_kind n smaller r False is =
          node_value-false c.nodes (run u) n is ∙ sym (node_value-false c.nodes (run t) n is)
      same_of_kind n smaller r Leaf is =
          node_value-leaf c.nodes (run u) n is ∙ leaf_same n r is
          ∙ sym (node_value-leaf c.nodes (run t) n is)
      same_of_kind n smaller r (And a b) is =
          node_value-and c.nodes circuit.nodes.ordered (run u) n a b is
          ∙ both_same _ _ _ _ (operand a (inl refl)) (operand b (inr refl))
          ∙ sym (node_value-and c.nodes circuit.nodes.ordered (run t) n a b is)
        where
          operand : (e : AigEdge) → (e.node_id ≡ a.node_id) ⊎ (e.node_id ≡ b.node_id)
              → edge_value c.nodes (run u) e ≡ edge_value c.nodes (run t) e
          operand e at =
              let low = fanin_before c n e.node_id circuit (a, b, is, at) in
              let deep = are.settled.operands n e.node_id (a, b, is, at) (omega (arith, r.1)) in
              ap (inverted_if e.compl)
              (smaller e.node_id low (omega (arith, low, r.0), omega (arith, deep, r.1)))

      -- and so do nodes
      value_same : (n : ℕ) → Read n → node_value c.nodes (run u) n ≡ node_value c.nodes (run t) n
      value_same =
          by_smaller (λ n. Read n → node_value c.nodes (run u) n ≡ node_value c.nodes (run t) n)
          (λ n smaller r. let k = kind_at-there c.nodes n r.0 in same_of_kind n smaller r k.0 k.1)

      -- and what properties name
      roots_same_value : (es : List AigEdge) → All (IsInRange c.nodes) es → HaveNoDepth es depths
          → All (λ e. edge_value c.nodes (run u) e ≡ edge_value c.nodes (run t) e) es
      roots_same_value es there none k d h =
          let e = get_or es k d in
          ap (inverted_if e.compl) (value_same e.node_id (there k d h, omega (arith, none k d h)))

    -- so images have the values of the later step
    images_later : HasImages c u depths (last - u) (length c.nodes) f images
    images_later n h d = record {
      there = (steady.step.has n h (omega (arith, d))).there;
      shown = λ y run is start reads.
          (steady.step.has n h (omega (arith, d))).shown y run (is_before y run is start reads)
          start reads
          ∙ sym (value_same y run is start reads n (h, d));
    }

    -- and the sums say the same with that step
    sums_later : Sum c u u f sums → Sum c u (u + 1) f sums
    sums_later sum = record {
      within = record { there = sum.within.there; shown = within_later };
      reached = record { there = sum.reached.there; shown = reached_later };
    }
      where
        within_same : (y : ℕ → Bool) (run : ℕ → ℕ → Bool) → IsRun c u run → IsInitial c (run 0)
            → ReadsOff f y run → within_to c run (t + 1) ≡ within_to c run (u + 1)
        within_same y run is start reads =
            ap (within_to c run) (add-one t)
            ∙ both_same _ _ _ _
            (sym (steady.before.within.shown y run (is_before y run is start reads) start reads)
            ∙ sum.within.shown y run is start reads)
            (sym (all_same _ _ c.properties.constraints
            (roots_same_value y run is start reads c.properties.constraints
            circuit.properties.constraints are.constraints)))
            ∙ sym (ap (within_to c run) (add-one u))

        within_later : (y : ℕ → Bool) (run : ℕ → ℕ → Bool) → IsRun c u run → IsInitial c (run 0)
            → ReadsOff f y run → edge_value f.nodes.items y sums.within ≡ within_to c run (u + 1)
        within_later y run is start reads =
            steady.step.sum.within.shown y run (is_before y run is start reads) start reads
            ∙ within_same y run is start reads

        reached_later : (y : ℕ → Bool) (run : ℕ → ℕ → Bool) → IsRun c u run → IsInitial c (run 0)
            → ReadsOff f y run → edge_value f.nodes.items y sums.reached ≡ reached_to c run (u + 1)
        reached_later y run is start reads =
            steady.step.sum.reached.shown y run (is_before y run is start reads) start reads
            ∙ ap (reached_to c run) (add-one t)
            ∙ either_same _ _ _ _
            (sym (steady.before.reached.shown y run (is_before y run is start reads) start reads)
            ∙ sum.reached.shown y run is start reads)
            (both_same _ _ _ _
            (ap (within_to c run) (sym (add-one t)) ∙ within_same y run is start reads
            ∙ ap (within_to c run) (add-one u))
            (sym (any_same _ _ c.properties.bads
            (roots_same_value y run is start reads c.properties.bads circuit.properties.bads
            are.bads))))
            ∙ sym (ap (reached_to c run) (add-one u))

    makes_later : MakesFrame (is_read depths (last - u))
        (frame_of c last u depths states (net_of f)) c sums images (checks_of f sums)
    makes_later =
        MakesFrame-again c circuit last (last - t) (last - u) t u depths are (omega arith)
        (omega arith) (λ n. slice_index_or states n None) (net_of f)
        (steady_still c last t depths f states sums images steady) sums images (checks_of f sums)
        steady.step.makes

    -- so it is made, and leaves all as it is, too
    IsMade-later : AreFrames c u 0 f → Sum c u u f sums
        → IsMade c last u depths f f states states sums sums images
    IsMade-later frames sum = record {
      has = images_later;
      extends = steady.step.extends;
      sum = sums_later sum;
      frames = AreFrames-next_step c u 0 f frames;
      makes = makes_later;
      sets = steady.step.sets;
      count = refl;
    }

-- ---- all steps

-- all steps are made, and the edge says whether a bad state is reached
pub record AreAllMade (c : Circuit) (last : ℕ) (depths : List ℕ) (f : Frames) (e : AigEdge)
    : Type 0 where
  pub shows : Shows c last f e (λ run. reached_to c run (last + 1))
  pub exact : made_in (net_of f) e ≡ reached_in (steps_to (is_read depths) c last (last + 1))
  pub frames : AreFrames c (last + 1) 0 f

-- the last step makes all
AreAllMade-last : (c : Circuit) (last : ℕ) (depths : List ℕ) (old f0 f : Frames)
    (states next : List (Option AigEdge)) (sums after : Sums) (images : List AigEdge)
    → AreMade c last last depths old f0 states sums
    → IsMade c last last depths f0 f states next sums after images
    → AreAllMade c last depths f after.reached
AreAllMade-last c last depths old f0 f states next sums after images before step = record {
  shows = step.sum.reached;
  exact = reached_made c last depths f after (checks_of f after) refl
      (next_checks c (last - last) last last depths refl f0 sums states before.made images
      (checks_of f after) step.makes);
  frames = step.frames;
}

module _ (c : Circuit) (circuit : IsCircuit c) (last t : ℕ) (depths : List ℕ)
    (are : AreDepths c last depths) (old f : Frames) (states : List (Option AigEdge)) (sums : Sums)
    (images : List AigEdge) (steady : IsSteady c last t depths f states sums images) where
  later_step : (u : ℕ) → t ≤ u → AreMade c last u depths old f states sums
      → IsMade c last u depths f f states states sums sums images
  later_step u low before =
      IsMade-later c circuit last t depths are f states sums images steady u low before.so_far.known
      before.so_far.frames before.so_far.sum

  steady_to : AreMade c last (t + 1) depths old f states sums → (u : ℕ) → t < u → u ≤ last
      → AreMade c last u depths old f states sums
  steady_to next zero low high = absurd (omega arith)
  steady_to next (suc u) low high = by (cases_lt t u) (λ less. steady_to next u less (omega arith))
    where
      by : (t < u) ⊎ (u ≤ t) → (t < u → AreMade c last u depths old f states sums)
          → AreMade c last (suc u) depths old f states sums
      by (inl less) before =
          subst (λ v. AreMade c last v depths old f states sums) (add-one u)
          (AreMade-more c circuit last u (omega arith) depths are old f f states states sums sums
          images (before less) (later_step u (omega arith) (before less)))
      by (inr more) before =
          let one : t + 1 ≡ suc u = omega arith in
          subst (λ v. AreMade c last v depths old f states sums) one next

  AreAllMade-steady : t < last → AreMade c last (t + 1) depths old f states sums
      → AreAllMade c last depths f sums.reached
  AreAllMade-steady low next =
      let all = steady_to next last low (omega arith) in
      AreAllMade-last c last depths old f f states states sums sums images all
      (later_step last (omega arith) all)

-- ---- where it is found

Sum-extends : (c : Circuit) (t count : ℕ) (old new : Frames) (sums : Sums) → Extends old new
    → Sum c t count old sums → Sum c t count new sums
Sum-extends c t count old new sums extends sum = record {
  within = Shows-extends c t old new sums.within (λ run. within_to c run count) extends sum.within;
  reached = Shows-extends c t old new sums.reached (λ run. reached_to c run count) extends
      sum.reached;
}

-- a step that adds no node adds nothing to the netlist
same_net : (c : Circuit) (last t : ℕ) (depths : List ℕ) (f0 f : Frames)
    (states next : List (Option AigEdge)) (sums after : Sums) (images : List AigEdge)
    → IsMade c last t depths f0 f states next sums after images
    → length f.nodes.items ≤ length f0.nodes.items → net_of f0 ≡ net_of f
same_net c last t depths f0 f states next sums after images step few =
    let net = net_of f0 in
    let frame = frame_of c last t depths states net in
    let before : Checks = record { net = frame.net; within = sums.within; reached = sums.reached }
    in
    let still = images_still c frame sums images (checks_of f after) (is_read depths (last - t)) net
    step.makes few in
    let images_same : frame.net ≡ net = frame_still c t (is_read depths (last - t))
    (λ n. slice_index_or states n None) net (length c.nodes) still (length c.nodes)
    (omega arith) in
    let whole : net_of f ≡ (with_checks c frame.images before).net = ap (λ (k : Checks). k.net)
    step.makes.exact in
    let few_checks : length (with_checks c frame.images before).net.nodes ≤ length frame.net.nodes
    = omega (
      arith,
      few,
      ap (λ (n : Netlist). length n.nodes) whole,
      ap
          (λ (n : Netlist). length n.nodes) images_same,
    ) in
    sym (whole ∙ same_netlist frame.net (with_checks c frame.images before).net
    (with_checks-larger c frame.images before) few_checks ∙ images_same)

-- with a step that adds no node, and leaves the states and the sums, all steps are made
pub AreAllMade-from : (c : Circuit) (circuit : IsCircuit c) (last t : ℕ) (low : t < last)
    (depths : List ℕ) (are : AreDepths c last depths) (old f0 f : Frames)
    (states next : List (Option AigEdge)) (sums after : Sums) (images : List AigEdge)
    → AreMade c last t depths old f0 states sums
    → IsMade c last t depths f0 f states next sums after images
    → length f.nodes.items ≤ length f0.nodes.items → next ≡ states → after ≡ sums
    → AreAllMade c last depths f sums.reached
AreAllMade-from c circuit last t low depths are old f0 f states next sums after images before step
    few same is =
    AreAllMade-steady c circuit last t depths are old f states sums images steady low all
  where
    same_step : IsMade c last t depths f0 f states states sums sums images
    same_step =
        subst (λ s. IsMade c last t depths f0 f states states sums s images) is
        (subst (λ ss. IsMade c last t depths f0 f states ss sums after images) same step)

    all : AreMade c last (t + 1) depths old f states sums
    all = AreMade-more c circuit last t low depths are old f0 f states states sums sums images
        before same_step

    steady : IsSteady c last t depths f states sums images
    steady = record {
      step = record {
        has = step.has;
        extends = Extends-itself f step.frames.shared.gates.sound;
        sum = same_step.sum;
        frames = step.frames;
        makes = subst (λ net. MakesFrame (is_read depths (last - t))
            (frame_of c last t depths states net) c sums images (checks_of f sums))
            (same_net c last t depths f0 f states next sums after images step few) same_step.makes;
        sets = same_step.sets;
        count = refl;
      };
      known = HasStates-extends c t (last - t) depths f0 f states step.extends before.so_far.known;
      before = Sum-extends c t t f0 f sums step.extends before.so_far.sum;
    }
