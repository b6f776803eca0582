-- What is made is what the definition says, step by step.
use Rattle.aig_base.proofs.Words.{◌≡◌, ◌≢◌, ◌⊎◌, ℕ, zero, suc, ◌+◌, ◌-◌, ◌<◌, ◌≤◌, Bool, true, false, cond, eqb, Option, Some, None, List, [], ◌∷◌, ◌++◌, length, map, get_or, set, take, add-one, take_more, get_or-set_other, get_or-set_same, get_or-append_seam, length-append, refl, sym, ap, ap₂, subst, ◌∙◌, inl, inr, arith, cases_lt, eqb-true, eqb-false, false≢true, le-leb, leb-true}
use Rattle.std.specs.Prelude.{All, Contains, slice_index, slice_index_or}
use Rattle.std.proofs.lemmas.List.{get_or_append_left}
use Rattle.aig_circuit.specs.declared.edge.AigEdge.{AigEdge}
use Rattle.aig_circuit.specs.declared.node.AigLatch.{AigLatch}
use Rattle.aig_circuit.specs.declared.node.AigNode.{AigNode}
use Rattle.aig_circuit.specs.declared.node.AigNodeType.{AigNodeType}
use Rattle.aig_circuit.specs.declared.node.AigNodeType.TheVariants.{And, False, Leaf}
use Rattle.aig_circuit.proofs.Words.{Circuit, IsCircuit, IsFanin, IsInRange, edge_to, inverted_if, kind_at, latch_leaves}
use Rattle.aig_unroll.specs.Frame.{image_at, image_in}
use Rattle.aig_bounded.specs.declared.frames.Frames.{Frames}
use Rattle.aig_bounded.specs.declared.place.Place.{Place}
use Rattle.aig_bounded.specs.Depths.{AreDepths, HaveNoDepth}
use Rattle.aig_bounded.specs.declared.steps.Sums.{Sums}
use Rattle.aig_bounded.specs.Exact.{Checks, Frame, Steps, false_net, frame_to, image_if, leaf_image, node_image, reached_in, state_by, states_at, steps_to, with_checks}
use Rattle.aig_bounded.proofs.Stepped.{fanin_before, latch_of, no_latch}
use Rattle.aig_bounded.specs.Frames.{Opens, net_of}
use Rattle.aig_bounded.specs.Shared.{Made, Netlist, made_in, shared_and, shared_ands, shared_or, shared_ors}
use Rattle.aig_bounded.specs.Steps.{IsFrame, MakesFrame, SetsStates, checks_of, is_read}

abbrev no_edge : AigEdge
no_edge = edge_to 0 false

-- ---- images

-- the image of an edge follows that of its node
pub image_in-same : (images others : List AigEdge) (e : AigEdge)
    → image_at images e.node_id ≡ image_at others e.node_id → image_in images e ≡ image_in others e
image_in-same images others e is =
    ap (λ (image : AigEdge). edge_to image.node_id (inverted_if e.compl image.compl)) is

-- the image of a node follows those of its operands
pub node_image-same : (state : Option AigEdge) (images others : List AigEdge) (place : Place)
    (kind : Option AigNodeType) (net : Netlist)
    → ((a b : AigEdge) → kind ≡ Some (And a b)
    → (image_at images a.node_id ≡ image_at others a.node_id)
    × (image_at images b.node_id ≡ image_at others b.node_id))
    → node_image state images place kind net ≡ node_image state others place kind net
node_image-same state images others place None net same = refl
node_image-same state images others place (Some False) net same = refl
node_image-same state images others place (Some Leaf) net same = refl
node_image-same state images others place (Some (And a b)) net same =
    let both = same a b refl in
    ap₂ (shared_and net) (image_in-same images others a both.0) (image_in-same images others b both.1)

module _ (c : Circuit) (t : ℕ) (read : ℕ → Bool) where
  abbrev frame : (ℕ → Option AigEdge) → Netlist → ℕ → Frame
  frame state net n = frame_to c t read state net n

  -- each node has one image
  pub frame-count : (state : ℕ → Option AigEdge) (net : Netlist) (n : ℕ)
      → length (frame state net n).images ≡ n
  frame-count state net zero = refl
  frame-count state net (suc n) =
      length-append (frame state net n).images _ ∙ ap (λ k. k + 1) (frame-count state net n) ∙ add-one n

  -- the states of what is read decide it
  pub frame-same : (state other : ℕ → Option AigEdge) (net : Netlist) (n : ℕ)
      → ((m : ℕ) → m < n → read m ≡ true → state m ≡ other m)
      → frame state net n ≡ frame other net n
  frame-same state other net zero same = refl
  frame-same state other net (suc n) same =
      by (read n) (λ is. same n (omega arith) is) (frame-same state other net n (λ m h is. same m (omega arith) is))
    where
      step : Bool → Option AigEdge → Frame → Frame
      step b s before =
          let made = image_if b s before.images (record { step = t; leaf = n }) (kind_at c.nodes n) before.net in
          record { net = made.net; images = before.images ++ made.edge ∷ [] }

      by : (b : Bool) → (b ≡ true → state n ≡ other n) → frame state net n ≡ frame other net n
          → step b (state n) (frame state net n) ≡ step b (other n) (frame other net n)
      by true s f = ap₂ (step true) (s refl) f
      by false s f = ap (step false (other n)) f

  module _ (state : ℕ → Option AigEdge) (net : Netlist) (i : ℕ) (old new : Frames)
      (images : List AigEdge) (is : IsFrame read (frame state net i) old images) where
    abbrev before : Frame
    before = frame state net i

    abbrev place : Place
    place = record { step = t; leaf = i }

    -- with one image more, of a node that is read
    pub IsFrame-more : (e : AigEdge) → i < length images → read i ≡ true
        → ((a b : AigEdge) → kind_at c.nodes i ≡ Some (And a b)
        → ((a.node_id < i) × (read a.node_id ≡ true)) × ((b.node_id < i) × (read b.node_id ≡ true)))
        → made_in (net_of new) e ≡ node_image (state i) images place (kind_at c.nodes i) (net_of old)
        → IsFrame read (frame state net (i + 1)) new (set images i e)
    IsFrame-more e within here operands exact =
        subst (λ n. IsFrame read (frame state net n) new (set images i e)) (sym (add-one i)) (record {
          net = ap (λ (m : Made). m.net) whole;
          same = λ n h r. at n (cases_lt n i) (omega (arith, h, frame-count state net (suc i))) r;
        })
      where
        kept : (n : ℕ) → n < i → read n ≡ true → image_at images n ≡ image_at before.images n
        kept n low r = is.same n (omega (arith, low, frame-count state net i)) r

        made : Made
        made = image_if (read i) (state i) before.images place (kind_at c.nodes i) before.net

        whole : made_in (net_of new) e ≡ image_if (read i) (state i) before.images place (kind_at c.nodes i) before.net
        whole =
            exact ∙ ap (node_image (state i) images place (kind_at c.nodes i)) is.net
            ∙ node_image-same (state i) images before.images place (kind_at c.nodes i) before.net
            (λ a b kind. let both = operands a b kind in (kept a.node_id both.0.0 both.0.1, kept b.node_id both.1.0 both.1.1))
            ∙ sym (ap (λ b. image_if b (state i) before.images place (kind_at c.nodes i) before.net) here)

        at : (n : ℕ) → (n < i) ⊎ (i ≤ n) → n < suc i → read n ≡ true
            → image_at (set images i e) n ≡ image_at (frame state net (suc i)).images n
        at n (inl low) h r =
            let ne : n ≢ i = omega arith in
            get_or-set_other images i n e no_edge ne ∙ kept n low r
            ∙ sym (get_or_append_left before.images _ no_edge n (omega (arith, low, frame-count state net i)))
        at n (inr high) h r =
            let same : length before.images ≡ n = omega (arith, frame-count state net i) in
            let one : i ≡ n = omega arith in
            subst (λ m. image_at (set images i e) m ≡ image_at (frame state net (suc i)).images m) one
            (get_or-set_same images i e no_edge within ∙ ap (λ (m : Made). m.edge) whole
            ∙ sym (ap (λ m. image_at (frame state net (suc i)).images m) (sym (frame-count state net i))
            ∙ get_or-append_seam before.images _ [] no_edge))

    -- and of one that isn't
    pub IsFrame-unread : read i ≡ false → IsFrame read (frame state net (i + 1)) old images
    IsFrame-unread unread =
        subst (λ n. IsFrame read (frame state net n) old images) (sym (add-one i)) (record {
          net = is.net ∙ sym (ap (λ (m : Made). m.net) none);
          same = λ n h r. at n (cases_lt n i) (omega (arith, h, frame-count state net (suc i))) r;
        })
      where
        none : image_if (read i) (state i) before.images place (kind_at c.nodes i) before.net ≡ made_in before.net no_edge
        none = ap (λ b. image_if b (state i) before.images place (kind_at c.nodes i) before.net) unread

        at : (n : ℕ) → (n < i) ⊎ (i ≤ n) → n < suc i → read n ≡ true
            → image_at images n ≡ image_at (frame state net (suc i)).images n
        at n (inl low) h r =
            is.same n (omega (arith, low, frame-count state net i)) r
            ∙ sym (get_or_append_left before.images _ no_edge n (omega (arith, low, frame-count state net i)))
        at n (inr high) h r =
            let one : n ≡ i = omega arith in
            absurd (false≢true (sym unread ∙ ap read (sym one) ∙ r))

  pub IsFrame-none : (state : ℕ → Option AigEdge) (f : Frames) (images : List AigEdge)
      → IsFrame read (frame state (net_of f) 0) f images
  IsFrame-none state f images = record {
    net = refl;
    same = λ n h r. absurd (omega arith);
  }

-- an image by the kind that the node has
pub image_of_kind : (old new : Frames) (c : Circuit) (t id : ℕ) (state : Option AigEdge)
    (images : List AigEdge) (kind : Option AigNodeType) (e : AigEdge) → kind_at c.nodes id ≡ kind
    → made_in (net_of new) e ≡ node_image state images (record { step = t; leaf = id }) kind (net_of old)
    → made_in (net_of new) e
    ≡ node_image state images (record { step = t; leaf = id }) (kind_at c.nodes id) (net_of old)
image_of_kind old new c t id state images kind e is exact =
    exact ∙ ap (λ k. node_image state images (record { step = t; leaf = id }) k (net_of old)) (sym is)

-- a leaf that is opened is a new input
pub opened : (old new : Frames) (p : Place) (e : AigEdge) → Opens old new p e
    → made_in (net_of new) e ≡ leaf_image None p (net_of old)
opened old new p e opens =
    ap₂ made_in
    (ap₂ (λ (ns : List AigNode) (io : List ℕ × List Place). record { nodes = ns; inputs = io.0; places = io.1 }) opens.nodes (ap₂ (λ (is : List ℕ) (ps : List Place). (is, ps)) opens.inputs opens.places))
    opens.edge

-- a node that is deeper isn't read
pub unread_at : (depths : List ℕ) (i left : ℕ) → left < slice_index depths i
    → is_read depths left i ≡ false
unread_at depths i left deep = by (is_read depths left i) refl
  where
    by : (b : Bool) → is_read depths left i ≡ b → is_read depths left i ≡ false
    by true t = absurd (omega (arith, leb-true (slice_index depths i) left t, deep))
    by false t = t

-- the operands of what is read are smaller, and read
pub operands_read : (c : Circuit) (left i last : ℕ) (depths : List ℕ) (a b : AigEdge) → IsCircuit c
    → AreDepths c last depths → left ≤ last → slice_index depths i ≤ left
    → kind_at c.nodes i ≡ Some (And a b)
    → ((a.node_id < i) × (is_read depths left a.node_id ≡ true))
    × ((b.node_id < i) × (is_read depths left b.node_id ≡ true))
operands_read c left i last depths a b circuit are few read kind = (at a.node_id (inl refl), at b.node_id (inr refl))
  where
    at : (m : ℕ) → (m ≡ a.node_id) ⊎ (m ≡ b.node_id) → (m < i) × (is_read depths left m ≡ true)
    at m is =
        let fanin : IsFanin c.nodes i m = (a, b, kind, is) in
        let deep = are.settled.operands i m fanin (omega (arith, read, few)) in
        (fanin_before c i m circuit fanin, le-leb (slice_index depths m) left (omega (arith, deep, read)))

-- ---- gates one after another

ands-append : (made : Made) (es : List AigEdge) (e : AigEdge)
    → shared_ands made (es ++ e ∷ [])
    ≡ shared_and (shared_ands made es).net (shared_ands made es).edge e
ands-append made [] e = refl
ands-append made (f ∷ es) e = ands-append (shared_and made.net made.edge f) es e

ors-append : (made : Made) (es : List AigEdge) (e : AigEdge)
    → shared_ors made (es ++ e ∷ [])
    ≡ shared_or (shared_ors made es).net (shared_ors made es).edge e
ors-append made [] e = refl
ors-append made (f ∷ es) e = ors-append (shared_or made.net made.edge f) es e

map-push : (g : AigEdge → AigEdge) (es : List AigEdge) (e : AigEdge)
    → map g (es ++ e ∷ []) ≡ map g es ++ g e ∷ []
map-push g [] e = refl
map-push g (f ∷ es) e = ap (λ l. g f ∷ l) (map-push g es e)

module _ (old mid new : Netlist) (images es : List AigEdge) (i : ℕ) (d so_far e image : AigEdge)
    (within : i < length es) (is_image : image ≡ image_in images (get_or es i d)) where
  abbrev first_images : List AigEdge
  first_images = map (image_in images) (take i es)

  next_images : map (image_in images) (take (i + 1) es) ≡ first_images ++ image_in images (get_or es i d) ∷ []
  next_images = ap (map (image_in images)) (take_more es i d within) ∙ map-push (image_in images) (take i es) (get_or es i d)

  pub ands-more : (first : Made) → made_in mid so_far ≡ shared_ands first first_images
      → made_in new e ≡ shared_and mid so_far image
      → made_in new e ≡ shared_ands first (map (image_in images) (take (i + 1) es))
  ands-more first before more =
      more ∙ ap (shared_and mid so_far) is_image
      ∙ ap (λ (m : Made). shared_and m.net m.edge (image_in images (get_or es i d))) before
      ∙ sym (ap (shared_ands first) next_images ∙ ands-append first first_images (image_in images (get_or es i d)))

  pub ors-more : (first : Made) → made_in mid so_far ≡ shared_ors first first_images
      → made_in new e ≡ shared_or mid so_far image
      → made_in new e ≡ shared_ors first (map (image_in images) (take (i + 1) es))
  ors-more first before more =
      more ∙ ap (shared_or mid so_far) is_image
      ∙ ap (λ (m : Made). shared_or m.net m.edge (image_in images (get_or es i d))) before
      ∙ sym (ap (shared_ors first) next_images ∙ ors-append first first_images (image_in images (get_or es i d)))

-- ---- checks

module _ (c : Circuit) (images : List AigEdge) (n0 n1 n2 n3 n4 : Netlist)
    (within0 reached0 within bad now reached : AigEdge)
    (is_within : made_in n1 within ≡ shared_ands (made_in n0 within0) (map (image_in images) c.properties.constraints))
    (is_bad : made_in n2 bad ≡ shared_ors (made_in n1 (edge_to 0 false)) (map (image_in images) c.properties.bads))
    (is_now : made_in n3 now ≡ shared_and n2 within bad)
    (is_reached : made_in n4 reached ≡ shared_or n3 reached0 now) where
  by_reached : AigEdge → Made → Checks
  by_reached w r = record { net = r.net; within = w; reached = r.edge }

  by_now : AigEdge → Made → Checks
  by_now w m = by_reached w (shared_or m.net reached0 m.edge)

  by_bad : AigEdge → Made → Checks
  by_bad w b = by_now w (shared_and b.net w b.edge)

  by_within : Made → Checks
  by_within w = by_bad w.edge (shared_ors (made_in w.net (edge_to 0 false)) (map (image_in images) c.properties.bads))

  -- the checks of a step, one after another
  pub checks_made : record { net = n4; within = within; reached = reached }
      ≡ with_checks c images (record { net = n0; within = within0; reached = reached0 })
  unfolding by_reached by_now by_bad by_within
  checks_made =
      ap (by_reached within) is_reached ∙ ap (by_now within) is_now ∙ ap (by_bad within) is_bad
      ∙ ap by_within is_within

map-same : (images others : List AigEdge) (es : List AigEdge)
    → All (λ e. image_at images e.node_id ≡ image_at others e.node_id) es
    → map (image_in images) es ≡ map (image_in others) es
map-same images others [] same = refl
map-same images others (e ∷ es) same =
    ap₂ (λ x l. x ∷ l) (image_in-same images others e (same 0 e (omega arith)))
    (map-same images others es (λ k d h. same (suc k) d (omega arith)))

-- the images of the properties decide them
pub checks-same : (c : Circuit) (images others : List AigEdge) (before : Checks)
    → All (λ e. image_at images e.node_id ≡ image_at others e.node_id) c.properties.constraints
    → All (λ e. image_at images e.node_id ≡ image_at others e.node_id) c.properties.bads
    → with_checks c images before ≡ with_checks c others before
checks-same c images others before constraints bads =
    ap₂ by_images (map-same images others c.properties.constraints constraints) (map-same images others c.properties.bads bads)
  where
    by_images : List AigEdge → List AigEdge → Checks
    by_images cs bs =
        let within = shared_ands (made_in before.net before.within) cs in
        let bad = shared_ors (made_in within.net (edge_to 0 false)) bs in
        let now = shared_and bad.net within.edge bad.edge in
        let reached = shared_or now.net before.reached now.edge in
        record { net = reached.net; within = within.edge; reached = reached.edge }

-- ---- states

-- the first latch of a leaf, or none
pub state_found : (latchs : List AigLatch) (n : ℕ)
    → ((k : ℕ) × (k < length latchs) × ((get_or latchs k no_latch).input ≡ n)
    × ((says : AigLatch → Option AigEdge) → state_by says latchs n ≡ says (get_or latchs k no_latch)))
    ⊎ (((k : ℕ) (d : AigLatch) → k < length latchs → (get_or latchs k d).input ≢ n)
    × ((says : AigLatch → Option AigEdge) → state_by says latchs n ≡ None))
state_found [] n = inr (λ k d h. absurd (omega arith), λ says. refl)
state_found (l ∷ ls) n = by (eqb l.input n) refl (state_found ls n)
  where
    later : (b : Bool) → eqb l.input n ≡ b → (says : AigLatch → Option AigEdge)
        → state_by says (l ∷ ls) n ≡ cond b (says l) (state_by says ls n)
    later b is says = ap (λ x. cond x (says l) (state_by says ls n)) is

    by : (b : Bool) → eqb l.input n ≡ b
        → ((k : ℕ) × (k < length ls) × ((get_or ls k no_latch).input ≡ n)
        × ((says : AigLatch → Option AigEdge) → state_by says ls n ≡ says (get_or ls k no_latch)))
        ⊎ (((k : ℕ) (d : AigLatch) → k < length ls → (get_or ls k d).input ≢ n)
        × ((says : AigLatch → Option AigEdge) → state_by says ls n ≡ None))
        → ((k : ℕ) × (k < length (l ∷ ls)) × ((get_or (l ∷ ls) k no_latch).input ≡ n)
        × ((says : AigLatch → Option AigEdge) → state_by says (l ∷ ls) n ≡ says (get_or (l ∷ ls) k no_latch)))
        ⊎ (((k : ℕ) (d : AigLatch) → k < length (l ∷ ls) → (get_or (l ∷ ls) k d).input ≢ n)
        × ((says : AigLatch → Option AigEdge) → state_by says (l ∷ ls) n ≡ None))
    by true is rest = inl (0, omega arith, eqb-true l.input n is, λ says. later true is says)
    by false is (inl (k, h, input, found)) =
        inl (suc k, omega arith, input, λ says. later false is says ∙ found says)
    by false is (inr (gone, none)) =
        inr (λ k d h. gone_more k d h, λ says. later false is says ∙ none says)
      where
        gone_more : (k : ℕ) (d : AigLatch) → k < length (l ∷ ls) → (get_or (l ∷ ls) k d).input ≢ n
        gone_more zero d h = eqb-false l.input n is
        gone_more (suc k) d h = gone k d (omega arith)

-- states that are set are those that are said
pub states_set : (latchs : List AigLatch) (says : AigLatch → Option AigEdge)
    (old new : List (Option AigEdge)) → SetsStates latchs (length latchs) says old new
    → (n : ℕ)
    → (((k : ℕ) (d : AigLatch) → k < length latchs → (get_or latchs k d).input ≢ n) → slice_index_or old n None ≡ None)
    → slice_index_or new n None ≡ state_by says latchs n
states_set latchs says old new sets n none = by (state_found latchs n)
  where
    by : ((k : ℕ) × (k < length latchs) × ((get_or latchs k no_latch).input ≡ n)
        × ((says : AigLatch → Option AigEdge) → state_by says latchs n ≡ says (get_or latchs k no_latch)))
        ⊎ (((k : ℕ) (d : AigLatch) → k < length latchs → (get_or latchs k d).input ≢ n)
        × ((says : AigLatch → Option AigEdge) → state_by says latchs n ≡ None))
        → slice_index_or new n None ≡ state_by says latchs n
    by (inl (k, h, input, found)) =
        ap (λ m. slice_index_or new m None) (sym input) ∙ sets.set k no_latch h h ∙ sym (found says)
    by (inr (gone, nothing)) =
        sets.others n (λ k d h l. gone k d l) ∙ none gone ∙ sym (nothing says)

-- the images of the next edges of what is read decide them
pub next_same : (latchs : List AigLatch) (images others : List AigEdge) (n : ℕ)
    → ((k : ℕ) → k < length latchs → (get_or latchs k no_latch).input ≡ n
    → image_at images (get_or latchs k no_latch).next.node_id ≡ image_at others (get_or latchs k no_latch).next.node_id)
    → state_by (λ latch. Some (image_in images latch.next)) latchs n
    ≡ state_by (λ latch. Some (image_in others latch.next)) latchs n
next_same latchs images others n same = by (state_found latchs n)
  where
    by : ((k : ℕ) × (k < length latchs) × ((get_or latchs k no_latch).input ≡ n)
        × ((says : AigLatch → Option AigEdge) → state_by says latchs n ≡ says (get_or latchs k no_latch)))
        ⊎ (((k : ℕ) (d : AigLatch) → k < length latchs → (get_or latchs k d).input ≢ n)
        × ((says : AigLatch → Option AigEdge) → state_by says latchs n ≡ None))
        → state_by (λ latch. Some (image_in images latch.next)) latchs n
        ≡ state_by (λ latch. Some (image_in others latch.next)) latchs n
    by (inl (k, h, input, found)) =
        found (λ latch. Some (image_in images latch.next))
        ∙ ap Some (image_in-same images others (get_or latchs k no_latch).next (same k h input))
        ∙ sym (found (λ latch. Some (image_in others latch.next)))
    by (inr (gone, nothing)) =
        nothing (λ latch. Some (image_in images latch.next)) ∙ sym (nothing (λ latch. Some (image_in others latch.next)))

-- ---- a step, and all steps

-- what the properties name is read
pub roots_same : (c : Circuit) (left : ℕ) (depths : List ℕ) (frame : Frame) (f : Frames)
    (images es : List AigEdge) → length frame.images ≡ length c.nodes
    → All (IsInRange c.nodes) es → HaveNoDepth es depths → IsFrame (is_read depths left) frame f images
    → All (λ e. image_at images e.node_id ≡ image_at frame.images e.node_id) es
roots_same c left depths frame f images es count there none is k d h =
    is.same (get_or es k d).node_id (omega (arith, there k d h, count))
    (le-leb (slice_index depths (get_or es k d).node_id) left (omega (arith, none k d h)))

-- a step whose nodes and checks are made
pub step_made : (c : Circuit) (left last t : ℕ) (depths : List ℕ) (state : ℕ → Option AigEdge)
    (net : Netlist) (f : Frames) (images : List AigEdge) (sums : Sums) (after : Checks) → IsCircuit c
    → AreDepths c last depths
    → IsFrame (is_read depths left) (frame_to c t (is_read depths left) state net (length c.nodes)) f images
    → after ≡ with_checks c images (checks_of f sums)
    → MakesFrame (is_read depths left) (frame_to c t (is_read depths left) state net (length c.nodes)) c sums images after
step_made c left last t depths state net f images sums after circuit are is exact =
    let frame = frame_to c t (is_read depths left) state net (length c.nodes) in
    let count = frame-count c t (is_read depths left) state net (length c.nodes) in
    let same = λ (es : List AigEdge) (there : All (IsInRange c.nodes) es) (none : HaveNoDepth es depths). roots_same c left depths frame f images es count there none is in
    record {
      exact =
          exact ∙ checks-same c images frame.images (checks_of f sums) (same c.properties.constraints circuit.properties.constraints are.constraints)
          (same c.properties.bads circuit.properties.bads are.bads)
          ∙ ap (λ n. with_checks c frame.images (record { net = n; within = sums.within; reached = sums.reached })) is.net;
      same = is.same;
    }

-- the first t steps are made
pub record MadeSoFar (c : Circuit) (last t : ℕ) (depths : List ℕ) (f : Frames) (sums : Sums)
    (states : List (Option AigEdge)) : Type 0 where
  pub checks : checks_of f sums ≡ (steps_to (is_read depths) c last t).checks
  pub states_same : (n : ℕ) → n < length c.nodes → is_read depths (last - t) n ≡ true
      → slice_index_or states n None ≡ states_at c (steps_to (is_read depths) c last t).images t n

module _ (c : Circuit) (left last t : ℕ) (depths : List ℕ) (is_left : left ≡ last - t) (f0 : Frames)
    (sums : Sums) (states : List (Option AigEdge)) (so_far : MadeSoFar c last t depths f0 sums states)
    (images : List AigEdge) (after : Checks)
    (step : MakesFrame (is_read depths left) (frame_to c t (is_read depths left) (λ n. slice_index_or states n None) (net_of f0) (length c.nodes)) c sums images after) where
  abbrev done : Steps
  done = steps_to (is_read depths) c last t

  abbrev next : Steps
  next = steps_to (is_read depths) c last (suc t)

  abbrev reads : ℕ → Bool
  reads = is_read depths left

  abbrev made : Frame
  made = frame_to c t reads (λ n. slice_index_or states n None) (net_of f0) (length c.nodes)

  abbrev wanted : Frame
  wanted = frame_to c t (is_read depths (last - t)) (states_at c done.images t) done.checks.net (length c.nodes)

  same_frame : made ≡ wanted
  same_frame =
      ap (λ l. frame_to c t (is_read depths l) (λ n. slice_index_or states n None) (net_of f0) (length c.nodes)) is_left
      ∙ frame-same c t (is_read depths (last - t)) (λ n. slice_index_or states n None) (states_at c done.images t) (net_of f0) (length c.nodes) so_far.states_same
      ∙ ap (λ (k : Checks). frame_to c t (is_read depths (last - t)) (states_at c done.images t) k.net (length c.nodes)) so_far.checks

  -- the checks with this step
  pub next_checks : after ≡ next.checks
  next_checks =
      step.exact
      ∙ ap (λ (x : Frame). with_checks c x.images (record { net = x.net; within = sums.within; reached = sums.reached })) same_frame
      ∙ ap (λ (k : Checks). with_checks c wanted.images (record { net = wanted.net; within = k.within; reached = k.reached })) so_far.checks

  -- and the images of what it reads
  read_images : (n : ℕ) → n < length c.nodes → reads n ≡ true → image_at images n ≡ image_at next.images n
  read_images n h r =
      step.same n (omega (arith, h, frame-count c t reads (λ m. slice_index_or states m None) (net_of f0) (length c.nodes))) r
      ∙ ap (λ (x : Frame). image_at x.images n) same_frame

  module _ (circuit : IsCircuit c) (are : AreDepths c last depths) (low : t < last)
      (others : (n : ℕ) → ¬ Contains (latch_leaves c.latchs) n → slice_index_or states n None ≡ None)
      (new : List (Option AigEdge))
      (sets : SetsStates c.latchs (length c.latchs) (λ latch. Some (image_in images latch.next)) states new) where
    -- a leaf that no latch has
    no_leaf : (n : ℕ) → ((k : ℕ) (d : AigLatch) → k < length c.latchs → (get_or c.latchs k d).input ≢ n)
        → ¬ Contains (latch_leaves c.latchs) n
    no_leaf n gone has = let found = latch_of c.latchs n has in gone found.0 no_latch found.1 found.2

    read_states : (n : ℕ) → n < length c.nodes → is_read depths (last - suc t) n ≡ true
        → slice_index_or new n None ≡ states_at c next.images (suc t) n
    read_states n h r =
        states_set c.latchs (λ latch. Some (image_in images latch.next)) states new sets n (λ gone. others n (no_leaf n gone))
        ∙ next_same c.latchs images next.images n (λ k l input.
        let latch = get_or c.latchs k no_latch in
        let deep = leb-true (slice_index depths n) (last - suc t) r in
        let here : slice_index depths latch.input ≡ slice_index depths n = ap (slice_index depths) input in
        let there = (circuit.latchs k no_latch l).next in
        read_images latch.next.node_id there
        (le-leb (slice_index depths latch.next.node_id) left (omega (arith, are.settled.next k no_latch l (omega (arith, here, deep)), here, deep, is_left))))

    -- one step more
    pub MadeSoFar-more : (f : Frames) (sums_after : Sums) → after ≡ checks_of f sums_after
        → MadeSoFar c last (t + 1) depths f sums_after new
    MadeSoFar-more f sums_after is = subst (λ u. MadeSoFar c last u depths f sums_after new) (sym (add-one t)) (record {
      checks = sym is ∙ next_checks;
      states_same = read_states;
    })

-- no step
pub MadeSoFar-none : (c : Circuit) (last : ℕ) (depths : List ℕ) (f : Frames) (sums : Sums)
    (states : List (Option AigEdge)) → net_of f ≡ false_net
    → sums ≡ record { within = edge_to 0 true; reached = edge_to 0 false }
    → ((n : ℕ) → slice_index_or states n None ≡ states_at c [] 0 n)
    → MadeSoFar c last 0 depths f sums states
MadeSoFar-none c last depths f sums states net is constants = record {
  checks = ap₂ (λ n (s : Sums). record { net = n; within = s.within; reached = s.reached }) net is;
  states_same = λ n h r. constants n;
}

-- what the last step reaches
pub reached_made : (c : Circuit) (last : ℕ) (depths : List ℕ) (f : Frames) (sums : Sums) (after : Checks)
    → after ≡ checks_of f sums → after ≡ (steps_to (is_read depths) c last (suc last)).checks
    → made_in (net_of f) sums.reached ≡ reached_in (steps_to (is_read depths) c last (last + 1))
reached_made c last depths f sums after is whole =
    ap (λ (k : Checks). made_in k.net k.reached) (sym is ∙ whole)
    ∙ ap (λ u. reached_in (steps_to (is_read depths) c last u)) (sym (add-one last))
