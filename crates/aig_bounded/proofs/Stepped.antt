-- The tables of one step, and what the steps say.
use Rattle.aig_base.proofs.Words.{◌≡◌, ◌≢◌, ◌⊎◌, ℕ, zero, suc, ◌+◌, ◌-◌, ◌<◌, ◌≤◌, Bool, true, false, ◌&&◌, ◌||◌, Option, Some, None, Result, Ok, Err, List, length, get_or, set, add-one, get_or-set_other, get_or-set_same, refl, sym, ap, subst, ◌∙◌, inl, inr, arith, list_all, list_any, cases_lt, same_Some, get_or-map, get_or_default, length-map}
use Rattle.std.specs.Prelude.{All, AllPairs, Contains, IfOk, IfSome, OnOk, replicate, slice_index}
use Rattle.aig_circuit.specs.declared.edge.AigEdge.{AigEdge}
use Rattle.aig_circuit.specs.declared.node.AigLatch.{AigLatch}
use Rattle.aig_circuit.specs.declared.node.AigNode.{AigNode}
use Rattle.aig_circuit.specs.declared.node.AigNodeType.{AigNodeType}
use Rattle.aig_circuit.specs.declared.node.AigNodeType.TheVariants.{And, False, Leaf}
use Rattle.aig_circuit.proofs.Words.{kind_at, IsFanin, edge_to, AreNodes, Circuit, IsCircuit, IsInRange, IsLatch, IsLeaf, latch_leaves, is_in, edge_value, node_value}
use Rattle.aig_circuit.proofs.Trees.{kind_at-read, kind_at-within}
use Rattle.aig_renumber.proofs.Kept.{is_in-back, is_in-there}
use Rattle.aig_bounded.specs.declared.frames.Frames.{Frames}
use Rattle.aig_bounded.specs.Depths.{AreDepths, HaveNoDepth}
use Rattle.aig_bounded.specs.Frames.{AreFrames, Extends, MakesEdge, Opens, Shows}
use Rattle.aig_circuit.specs.Edges.{HasConstantInit}
use Rattle.aig_bounded.specs.Question.{IsPlace}
use Rattle.aig_unroll.specs.Frame.{image_at, image_in}
use Rattle.aig_bounded.specs.Steps.{HasImages, HasStates, MakesImage, SetsStates, ShowsNode, Sum, reached_to, within_to}
use Rattle.aig_bounded.specs.declared.steps.Sums.{Sums}
use Rattle.aig_bounded.proofs.Extended.{AreFrames-ands, AreFrames-next_node, AreFrames-opens, Extends-ands, Extends-itself, Extends-opens, Extends-then}
use Rattle.aig_bounded.proofs.Shown.{Shows-all, Shows-any, Shows-constant, Shows-extends, Shows-false_node, Shows-gate, Shows-image, Shows-join, Shows-later, Shows-leaf, Shows-opened, Shows-same, constant_there, value-constant}

-- no state
abbrev pub the_none : Option AigEdge
the_none = None

-- any latch, where a list has no entry
abbrev pub no_latch : AigLatch
no_latch = record { input = 0; next = edge_to 0 false; init = None }

-- ---- images

-- no node has its image yet
pub HasImages-none : (c : Circuit) (t left : ℕ) (depths : List ℕ) (f : Frames)
    (images : List AigEdge) → HasImages c t depths left 0 f images
HasImages-none c t left depths f images n h = absurd (omega arith)

-- the images of earlier nodes stay
pub HasImages-extends : (c : Circuit) (t left i : ℕ) (depths : List ℕ) (old new : Frames)
    (images : List AigEdge) → Extends old new → HasImages c t depths left i old images
    → HasImages c t depths left i new images
HasImages-extends c t left i depths old new images extends has n h d =
    Shows-extends c t old new (image_at images n) (λ run. node_value c.nodes (run t) n) extends (has n h d)

-- one image more
pub HasImages-more : (c : Circuit) (t left i : ℕ) (depths : List ℕ) (old new : Frames)
    (images : List AigEdge) (e : AigEdge) → i < length images → Extends old new
    → Shows c t new e (λ run. node_value c.nodes (run t) i)
    → HasImages c t depths left i old images
    → HasImages c t depths left (i + 1) new (set images i e)
HasImages-more c t left i depths old new images e within extends shows has n h d = by (cases_lt n i)
  where
    by : (n < i) ⊎ (i ≤ n) → ShowsNode c t new (set images i e) n
    by (inl low) =
        let ne : n ≢ i = omega arith in
        subst (λ x. Shows c t new x (λ run. node_value c.nodes (run t) n)) (sym (get_or-set_other images i n e (edge_to 0 false) ne))
        (HasImages-extends c t left i depths old new images extends has n low d)
    by (inr high) =
        let same : i ≡ n = omega arith in
        subst (λ m. ShowsNode c t new (set images i e) m) same
        (subst (λ x. Shows c t new x (λ run. node_value c.nodes (run t) i)) (sym (get_or-set_same images i e (edge_to 0 false) within)) shows)

-- a node that nothing reads any more needs no image
pub HasImages-unread : (c : Circuit) (t left i : ℕ) (depths : List ℕ) (f : Frames)
    (images : List AigEdge) → left < get_or depths i 0 → HasImages c t depths left i f images
    → HasImages c t depths left (i + 1) f images
HasImages-unread c t left i depths f images deep has n h d = by (cases_lt n i)
  where
    by : (n < i) ⊎ (i ≤ n) → ShowsNode c t f images n
    by (inl low) = has n low d
    by (inr high) = let same : n ≡ i = omega arith in absurd (omega (arith, deep, d, ap (λ m. get_or depths m 0) same))

-- ---- states

-- the latch of a leaf
pub latch_of : (latchs : List AigLatch) (n : ℕ) → Contains (latch_leaves latchs) n
    → (k : ℕ) × (k < length latchs) × ((get_or latchs k no_latch).input ≡ n)
latch_of latchs n (k, h, is) =
    let within : k < length latchs = omega (arith, length-map latchs (λ (l : AigLatch). l.input)) in
    (k, within, sym (get_or-map (λ (l : AigLatch). l.input) latchs k no_latch n within) ∙ is)

pub leaf_of : (latchs : List AigLatch) (latch : AigLatch) → Contains latchs latch
    → Contains (latch_leaves latchs) latch.input
leaf_of latchs latch (k, h, is) =
    let long : k < length (latch_leaves latchs) = omega (arith, length-map latchs (λ (l : AigLatch). l.input)) in
    (k, long, get_or-map (λ (l : AigLatch). l.input) latchs k latch latch.input h ∙ ap (λ (l : AigLatch). l.input) is)

-- a number is one of the list, or it isn't
among : (ns : List ℕ) (n : ℕ) → Contains ns n ⊎ (¬ Contains ns n)
among ns n = by (is_in ns n) refl
  where
    by : (b : Bool) → is_in ns n ≡ b → Contains ns n ⊎ (¬ Contains ns n)
    by true there = inl (is_in-back ns n there)
    by false gone = inr (λ has. cc (is_in-there ns n has, gone))

pub HasStates-extends : (c : Circuit) (t left : ℕ) (depths : List ℕ) (old new : Frames)
    (states : List (Option AigEdge)) → Extends old new → HasStates c t depths left old states
    → HasStates c t depths left new states
HasStates-extends c t left depths old new states extends has = record {
  count = has.count;
  set = λ n e h is d. Shows-extends c t old new e (λ run. run t n) extends (has.set n e h is d);
  others = has.others;
  free = λ n h is latch among input. has.free n h is latch among input;
}

-- what was set is of a latch
module _ (c : Circuit) (state : AigLatch → Option AigEdge) (old new : List (Option AigEdge))
    (sets : SetsStates c.latchs (length c.latchs) state old new)
    (none : (n : ℕ) → ¬ Contains (latch_leaves c.latchs) n → get_or old n None ≡ None) where
  stays : (n : ℕ) → ¬ Contains (latch_leaves c.latchs) n → get_or new n None ≡ None
  stays n gone =
      sets.others n (λ k d h l is. gone (subst (Contains (latch_leaves c.latchs)) is (leaf_of c.latchs (get_or c.latchs k d) (k, h, get_or_default c.latchs k _ d h))))
      ∙ none n gone

  set_latch : (n : ℕ) (e : AigEdge) → get_or new n None ≡ Some e
      → (k : ℕ) × (k < length c.latchs) × ((get_or c.latchs k no_latch).input ≡ n)
      × (state (get_or c.latchs k no_latch) ≡ Some e)
  set_latch n e is = by (among (latch_leaves c.latchs) n)
    where
      by : Contains (latch_leaves c.latchs) n ⊎ (¬ Contains (latch_leaves c.latchs) n)
          → (k : ℕ) × (k < length c.latchs) × ((get_or c.latchs k no_latch).input ≡ n)
          × (state (get_or c.latchs k no_latch) ≡ Some e)
      by (inl has) =
          let found = latch_of c.latchs n has in
          let at = sets.set found.0 no_latch found.1 found.1 in
          (found.0, found.1, found.2, sym at ∙ ap (λ m. get_or new m None) found.2 ∙ is)
      by (inr gone) = absurd (differ (sym (stays n gone) ∙ is))
        where
          differ : None ≡ Some e → ⊥
          differ h = cc

  -- and the states of latches are those
  latch_set : (latch : AigLatch) → Contains c.latchs latch
      → get_or new latch.input None ≡ state latch
  latch_set latch (k, h, is) =
      subst (λ (l : AigLatch). get_or new l.input None ≡ state l) is (sets.set k latch h h)

-- the states of the next step
module _ (c : Circuit) (circuit : IsCircuit c) (last t : ℕ) (more : t < last) (depths : List ℕ)
    (are : AreDepths c last depths) (f before : Frames) (images : List AigEdge)
    (old new : List (Option AigEdge))
    (has : HasImages c t depths (last - t) (length c.nodes) f images)
    (states : HasStates c t depths (last - t) before old)
    (sets : SetsStates c.latchs (length c.latchs) (λ latch. Some (image_in images latch.next)) old new)
    (count : length new ≡ length old) where
  next_set : (n : ℕ) (e : AigEdge) → n < length c.nodes → get_or new n None ≡ Some e
      → get_or depths n 0 ≤ last - (t + 1) → Shows c (t + 1) f e (λ run. run (t + 1) n)
  next_set n e h is d =
      let found = set_latch c (λ latch. Some (image_in images latch.next)) old new sets states.others n e is in
      let latch = get_or c.latchs found.0 no_latch in
      let here : get_or depths latch.input 0 ≡ get_or depths n 0 = ap (λ m. get_or depths m 0) found.2 in
      let deep : get_or depths latch.next.node_id 0 ≤ last - t = omega (arith, are.settled.next found.0 no_latch found.1 (omega (arith, here, d)), here, d) in
      let there : latch.next.node_id < length c.nodes = (circuit.latchs found.0 no_latch found.1).next in
      let shows = Shows-image c t f images latch.next (has latch.next.node_id there deep) in
      subst (λ x. Shows c (t + 1) f x (λ run. run (t + 1) n)) (same_Some _ _ found.3) (record {
        there = shows.there;
        shown = λ y run is start reads.
            shows.shown y run (λ u h. is u (omega arith)) start reads ∙ sym (is t (omega arith) found.0 no_latch found.1) ∙ ap (run (t + 1)) found.2;
      })

  pub HasStates-next : HasStates c (t + 1) depths (last - (t + 1)) f new
  HasStates-next = record {
    count = count ∙ states.count;
    set = next_set;
    others = stays c (λ latch. Some (image_in images latch.next)) old new sets states.others;
    free = λ n h is latch among input. absurd (differ _ (sym (latch_set c (λ latch. Some (image_in images latch.next)) old new sets states.others latch among) ∙ ap (λ m. get_or new m None) input ∙ is));
  }
    where
      differ : (e : AigEdge) → Some e ≡ None → ⊥
      differ e h = cc

-- the states of the start
module _ (c : Circuit) (circuit : IsCircuit c) (starts : All HasConstantInit c.latchs) (left : ℕ)
    (depths : List ℕ) (f : Frames) (sound : AreNodes f.nodes.items)
    (old new : List (Option AigEdge)) (none : (n : ℕ) → get_or old n None ≡ None)
    (sets : SetsStates c.latchs (length c.latchs) (λ latch. latch.init) old new)
    (count : length new ≡ length c.nodes) where
  start_value : (run : ℕ → ℕ → Bool) (leaf : ℕ) (init : Option AigEdge) (e : AigEdge)
      → IfSome init (λ x. edge_value c.nodes (run 0) x ≡ run 0 leaf) → init ≡ Some e
      → edge_value c.nodes (run 0) e ≡ run 0 leaf
  start_value run leaf init e holds is =
      subst (λ o. IfSome o (λ x. edge_value c.nodes (run 0) x ≡ run 0 leaf)) is holds

  is_constant : (init : Option AigEdge) (e : AigEdge) → IfSome init (λ x. x.node_id ≡ 0)
      → init ≡ Some e → edge_to 0 e.compl ≡ e
  is_constant init e holds is =
      let zero_is : e.node_id ≡ 0 = subst (λ o. IfSome o (λ x. x.node_id ≡ 0)) is holds in
      ap (λ n. edge_to n e.compl) (sym zero_is)

  start_set : (n : ℕ) (e : AigEdge) → n < length c.nodes → get_or new n None ≡ Some e
      → get_or depths n 0 ≤ left → Shows c 0 f e (λ run. run 0 n)
  start_set n e h is d =
      let found = set_latch c (λ latch. latch.init) old new sets (λ n gone. none n) n e is in
      let latch = get_or c.latchs found.0 no_latch in
      let constant = is_constant latch.init e (starts found.0 no_latch found.1) found.3 in
      subst (λ x. Shows c 0 f x (λ run. run 0 n)) constant (record {
        there = constant_there f.nodes.items e.compl sound;
        shown = λ y run is start reads.
            value-constant f.nodes.items sound y e.compl ∙ sym (value-constant c.nodes circuit.nodes (run 0) e.compl)
            ∙ ap (edge_value c.nodes (run 0)) constant ∙ start_value run latch.input latch.init e (start found.0 no_latch found.1) found.3 ∙ ap (run 0) found.2;
      })

  pub HasStates-start : HasStates c 0 depths left f new
  HasStates-start = record {
    count = count;
    set = start_set;
    others = stays c (λ latch. latch.init) old new sets (λ n gone. none n);
    free = λ n h is latch among input. (
      refl,
      sym (latch_set c (λ latch. latch.init) old new sets (λ n gone. none n) latch among) ∙ ap (λ m. get_or new m None) input ∙ is,
    );
  }

-- ---- states, latch after latch

-- no latch is set yet
pub SetsStates-none : (latchs : List AigLatch) (state : AigLatch → Option AigEdge)
    (states : List (Option AigEdge)) → SetsStates latchs 0 state states states
SetsStates-none latchs state states = record {
  set = λ k d h l. absurd (omega arith);
  others = λ n gone. refl;
}

-- one latch more
pub SetsStates-more : (latchs : List AigLatch) (state : AigLatch → Option AigEdge)
    (old mid : List (Option AigEdge)) (i : ℕ) (d : AigLatch) → i < length latchs
    → (get_or latchs i d).input < length mid → AllPairs (λ m n. m ≢ n) (latch_leaves latchs)
    → SetsStates latchs i state old mid
    → SetsStates latchs (i + 1) state old (set mid (get_or latchs i d).input (state (get_or latchs i d)))
SetsStates-more latchs state old mid i d within there distinct sets = record {
  set = λ k f h l. at k f (cases_lt k i) h l;
  others = λ n gone.
      let ne : n ≢ leaf = λ q. gone i d (omega arith) within (sym q) in
      get_or-set_other mid leaf n new None ne ∙ sets.others n (λ k f h l. gone k f (omega arith) l);
}
  where
    leaf : ℕ
    leaf = (get_or latchs i d).input

    new : Option AigEdge
    new = state (get_or latchs i d)

    at : (k : ℕ) (f : AigLatch) → (k < i) ⊎ (i ≤ k) → k < i + 1 → k < length latchs
        → get_or (set mid (get_or latchs i d).input (state (get_or latchs i d))) (get_or latchs k f).input None
        ≡ state (get_or latchs k f)
    at k f (inl early) h short =
        let last : i < length (latch_leaves latchs) = omega (arith, length-map latchs (λ (l : AigLatch). l.input)) in
        let ne : (get_or latchs k f).input ≢ (get_or latchs i d).input = λ q. distinct k i 0 early last (get_or-map (λ (l : AigLatch). l.input) latchs k f 0 short ∙ q ∙ sym (get_or-map (λ (l : AigLatch). l.input) latchs i d 0 within)) in
        get_or-set_other mid (get_or latchs i d).input (get_or latchs k f).input (state (get_or latchs i d)) None ne ∙ sets.set k f early short
    at k f (inr late) h short =
        let same : i ≡ k = omega arith in
        let one : get_or latchs i d ≡ get_or latchs k f = get_or_default latchs i d f within ∙ ap (λ j. get_or latchs j f) same in
        subst (λ (l : AigLatch). get_or (set mid (get_or latchs i d).input (state (get_or latchs i d))) l.input None ≡ state l) one
        (get_or-set_same mid (get_or latchs i d).input (state (get_or latchs i d)) None there)

-- all latches are set
pub SetsStates-whole : (latchs others : List AigLatch) (state : AigLatch → Option AigEdge)
    (old new : List (Option AigEdge)) (i : ℕ) → length latchs ≤ i → latchs ≡ others
    → SetsStates latchs i state old new → SetsStates others (length others) state old new
SetsStates-whole latchs others state old new i whole same sets =
    subst (λ ls. SetsStates ls (length ls) state old new) same (record {
      set = λ k d h l. sets.set k d (omega arith) l;
      others = λ n gone. sets.others n (λ k d h l. gone k d l l);
    })

-- ---- the image of a node

-- the kind that was read of a node
pub kind_read : (nodes read : List AigNode) (n : ℕ) (d : AigNode) (k t : AigNodeType)
    → n < length nodes → read ≡ nodes → t ≡ (get_or read n d).typ → t ≡ k
    → kind_at nodes n ≡ Some k
kind_read nodes read n d k t there same typ is =
    kind_at-read nodes n d k there (sym is ∙ typ ∙ ap (λ l. (get_or l n d).typ) same)

pub makes_false : (c : Circuit) (t id : ℕ) (f : Frames) (e : AigEdge) → AreFrames c t id f
    → kind_at c.nodes id ≡ Some False → e ≡ edge_to 0 false → MakesImage c t id f f e
makes_false c t id f e are kind is = record {
  shows = subst (λ x. Shows c t f x (λ run. node_value c.nodes (run t) id)) (sym is) (Shows-false_node c t id f are.shared.gates.sound kind);
  frames = AreFrames-next_node c t id f are;
  extends = Extends-itself f are.shared.gates.sound;
}

pub makes_state : (c : Circuit) (t id : ℕ) (f : Frames) (e : AigEdge) → AreFrames c t id f
    → kind_at c.nodes id ≡ Some Leaf → Shows c t f e (λ run. run t id) → MakesImage c t id f f e
makes_state c t id f e are kind shows = record {
  shows = Shows-leaf c t id f e kind shows;
  frames = AreFrames-next_node c t id f are;
  extends = Extends-itself f are.shared.gates.sound;
}

pub makes_open : (c : Circuit) (t id : ℕ) (old new : Frames) (e : AigEdge) → AreFrames c t id old
    → kind_at c.nodes id ≡ Some Leaf
    → IsPlace c (record { step = t; leaf = id })
    → Opens old new (record { step = t; leaf = id }) e → MakesImage c t id old new e
makes_open c t id old new e are kind is opens = record {
  shows = Shows-leaf c t id new e kind (Shows-opened c t id old new e are opens);
  frames = AreFrames-opens c t id old new e are opens is;
  extends = Extends-opens c t id old new (record { step = t; leaf = id }) e are opens;
}

pub makes_gate : (c : Circuit) (t id : ℕ) (old new : Frames) (images : List AigEdge)
    (a b first second e : AigEdge) → IsCircuit c → AreFrames c t id old
    → kind_at c.nodes id ≡ Some (And a b)
    → ((m : ℕ) → IsFanin c.nodes id m → ShowsNode c t old images m)
    → first ≡ image_in images a → second ≡ image_in images b
    → MakesEdge (λ y. edge_value old.nodes.items y first && edge_value old.nodes.items y second) old
    new
    e
    → MakesImage c t id old new e
makes_gate c t id old new images a b first second e circuit are kind operands is_first is_second gives =
    let shows_a = subst (λ x. Shows c t old x (λ run. edge_value c.nodes (run t) a)) (sym is_first) (Shows-image c t old images a (operands a.node_id (a, b, kind, inl refl))) in
    let shows_b = subst (λ x. Shows c t old x (λ run. edge_value c.nodes (run t) b)) (sym is_second) (Shows-image c t old images b (operands b.node_id (a, b, kind, inr refl))) in
    record {
      shows = Shows-gate c t id new a b e circuit kind (Shows-join c t (λ x y. x && y) old new first second e (λ run. edge_value c.nodes (run t) a) (λ run. edge_value c.nodes (run t) b) shows_a shows_b gives);
      frames = AreFrames-next_node c t id new (AreFrames-ands c t id old new are gives.adds);
      extends = Extends-ands old new gives.adds;
    }

-- ---- what an answer says

-- what follows from a fact on an answer
pub if_ok : {X E : Type 0} (r : Result X E) (P Q : X → Type 0) → ((x : X) → P x → Q x) → IfOk r P
    → IfOk r Q
if_ok (Ok x) P Q w p = w x p
if_ok (Err e) P Q w p = tt

-- what follows at all
pub on_ok : {X E : Type 0} (r : Result X E) (P : X → Type 0) (A : Type 0) → ((x : X) → P x → A)
    → IfOk r P → OnOk r A
on_ok (Ok x) P A w p = w x p
on_ok (Err e) P A w p = tt

-- what holds of the value that is there
pub if_some_at : {X : Type 0} (o : Option X) (x : X) (P : X → Type 0) → o ≡ Some x → IfSome o P → P x
if_some_at o x P is h = subst (λ o. IfSome o P) is h

pub if_some_of : {X : Type 0} (o : Option X) (P : X → Type 0) → ((x : X) → o ≡ Some x → P x)
    → IfSome o P
if_some_of None P w = tt
if_some_of (Some x) P w = w x refl

-- a state is known to the node that has it
pub known_of : (c : Circuit) (t left n : ℕ) (depths : List ℕ) (f : Frames)
    (states : List (Option AigEdge)) → n < length c.nodes → slice_index depths n ≤ left
    → HasStates c t depths left f states
    → IfSome (get_or states n None) (λ e. Shows c t f e (λ run. run t n))
known_of c t left n depths f states h d has =
    if_some_of (get_or states n None) (λ e. Shows c t f e (λ run. run t n)) (λ e is. has.set n e h is d)

-- and a leaf without one is a place
pub place_of : (c : Circuit) (t left n : ℕ) (depths : List ℕ) (f : Frames)
    (states : List (Option AigEdge)) → n < length c.nodes → IsLeaf c.nodes n
    → get_or states n None ≡ None → HasStates c t depths left f states
    → IsPlace c (record { step = t; leaf = n })
place_of c t left n depths f states h leaf is has = record {
  leaf = leaf;
  start = λ latch among input. has.free n h is latch among input;
}

-- operands come before their gate
pub fanin_before : (c : Circuit) (n m : ℕ) → IsCircuit c → IsFanin c.nodes n m → m < n
fanin_before c n m circuit (a, b, kind, inl is) = let low = circuit.nodes.ordered.first_before n a b kind in omega arith
fanin_before c n m circuit (a, b, kind, inr is) = let low = circuit.nodes.ordered.second_before n a b kind in omega arith

-- the images of a gate's operands are there
pub operands_shown : (c : Circuit) (t left i last : ℕ) (depths : List ℕ) (f : Frames)
    (images : List AigEdge) → IsCircuit c → AreDepths c last depths → left ≤ last
    → slice_index depths i ≤ left → HasImages c t depths left i f images
    → (m : ℕ) → IsFanin c.nodes i m → ShowsNode c t f images m
operands_shown c t left i last depths f images circuit are few read has m fanin =
    let low = fanin_before c i m circuit fanin in
    let deep = are.settled.operands i m fanin (omega arith) in
    has m low (omega arith)

-- a latch's leaf is a node
pub leaf_there : (c : Circuit) (latchs : List AigLatch) (i : ℕ) (d : AigLatch) → IsCircuit c
    → latchs ≡ c.latchs → i < length latchs → (get_or latchs i d).input < length c.nodes
leaf_there c latchs i d circuit same h =
    let all = subst (All (IsLatch c.nodes)) (sym same) circuit.latchs in
    kind_at-within c.nodes (get_or latchs i d).input Leaf (all i d h).leaf

-- and so is that of its next edge
pub next_there : (c : Circuit) (latchs : List AigLatch) (i : ℕ) (d : AigLatch) → IsCircuit c
    → latchs ≡ c.latchs → i < length latchs → (get_or latchs i d).next.node_id < length c.nodes
next_there c latchs i d circuit same h =
    let all = subst (All (IsLatch c.nodes)) (sym same) circuit.latchs in (all i d h).next

-- where only None can stand
pub none_alone : {X : Type 0} (C : Option X → Type 0) → ((x : X) → ¬ C (Some x)) → (o : Option X)
    → C o → o ≡ None
none_alone C not_some None h = refl
none_alone C not_some (Some x) h = absurd (not_some x h)

pub none_there : (count n : ℕ) → get_or (replicate count the_none) n the_none ≡ the_none
none_there zero n = refl
none_there (suc count) zero = refl
none_there (suc count) (suc n) = none_there count n

-- ---- the nodes of a step, one after another

-- the first i nodes have their images
pub record ImagesSoFar (c : Circuit) (t left i : ℕ) (depths : List ℕ) (old new : Frames)
    (images : List AigEdge) : Type 0 where
  pub has : HasImages c t depths left i new images
  pub frames : AreFrames c t i new
  pub extends : Extends old new

pub ImagesSoFar-none : (c : Circuit) (t left : ℕ) (depths : List ℕ) (f : Frames)
    (images : List AigEdge) → AreFrames c t 0 f → ImagesSoFar c t left 0 depths f f images
ImagesSoFar-none c t left depths f images are = record {
  has = HasImages-none c t left depths f images;
  frames = are;
  extends = Extends-itself f are.shared.gates.sound;
}

pub ImagesSoFar-more : (c : Circuit) (t left i : ℕ) (depths : List ℕ) (old mid new : Frames)
    (images : List AigEdge) (e : AigEdge) → i < length images → MakesImage c t i mid new e
    → ImagesSoFar c t left i depths old mid images
    → ImagesSoFar c t left (i + 1) depths old new (set images i e)
ImagesSoFar-more c t left i depths old mid new images e within makes so_far = record {
  has = HasImages-more c t left i depths mid new images e within makes.extends makes.shows so_far.has;
  frames = makes.frames;
  extends = Extends-then old mid new so_far.extends makes.extends;
}

pub ImagesSoFar-unread : (c : Circuit) (t left i : ℕ) (depths : List ℕ) (old new : Frames)
    (images : List AigEdge) → left < get_or depths i 0 → ImagesSoFar c t left i depths old new images
    → ImagesSoFar c t left (i + 1) depths old new images
ImagesSoFar-unread c t left i depths old new images deep so_far = record {
  has = HasImages-unread c t left i depths new images deep so_far.has;
  frames = AreFrames-next_node c t i new so_far.frames;
  extends = so_far.extends;
}

-- what the properties name has its image
pub roots_shown : (c : Circuit) (t left : ℕ) (depths : List ℕ) (f : Frames) (images : List AigEdge)
    (es : List AigEdge) → All (IsInRange c.nodes) es → HaveNoDepth es depths
    → HasImages c t depths left (length c.nodes) f images
    → All (λ e. ShowsNode c t f images e.node_id) es
roots_shown c t left depths f images es there none has k d h =
    has (get_or es k d).node_id (there k d h) (omega (arith, none k d h))

-- ---- what the steps say

pub Sum-start : (c : Circuit) (f : Frames) (sums : Sums)
    → AreNodes f.nodes.items
    → sums ≡ record { within = edge_to 0 true; reached = edge_to 0 false } → Sum c 0 0 f sums
Sum-start c f sums sound is = subst (Sum c 0 0 f) (sym is) (record {
  within = Shows-constant c 0 f true (λ run. within_to c run 0) sound (λ run. refl);
  reached = Shows-constant c 0 f false (λ run. reached_to c run 0) sound (λ run. refl);
})

pub Sum-later : (c : Circuit) (t count : ℕ) (f : Frames) (sums : Sums)
    → Sum c t count f sums → Sum c (t + 1) count f sums
Sum-later c t count f sums sum = record {
  within = Shows-later c t f sums.within (λ run. within_to c run count) sum.within;
  reached = Shows-later c t f sums.reached (λ run. reached_to c run count) sum.reached;
}

-- with one step more
module _ (c : Circuit) (t : ℕ) (images : List AigEdge) (f0 f1 f2 f3 f4 : Frames)
    (sums : Sums) (within bad now reached : AigEdge)
    (constraints : All (λ e. ShowsNode c t f0 images e.node_id) c.properties.constraints)
    (bads : All (λ e. ShowsNode c t f0 images e.node_id) c.properties.bads)
    (sum : Sum c t t f0 sums)
    (gives1 : MakesEdge (λ y. edge_value f0.nodes.items y sums.within
    && list_all (λ e. edge_value f0.nodes.items y (image_in images e)) c.properties.constraints)
    f0 f1 within)
    (gives2 : MakesEdge (λ y. list_any (λ e. edge_value f1.nodes.items y (image_in images e))
    c.properties.bads) f1 f2 bad)
    (gives3 : MakesEdge (λ y. edge_value f2.nodes.items y within && edge_value f2.nodes.items y bad)
    f2 f3 now)
    (gives4 : MakesEdge (λ y. edge_value f3.nodes.items y sums.reached
    || edge_value f3.nodes.items y now) f3 f4 reached) where
  abbrev is_within : (ℕ → ℕ → Bool) → Bool
  is_within run =
      within_to c run t
      && list_all (edge_value c.nodes (run t)) c.properties.constraints

  abbrev is_bad : (ℕ → ℕ → Bool) → Bool
  is_bad run = list_any (edge_value c.nodes (run t)) c.properties.bads

  extends1 : Extends f0 f1
  extends1 = Extends-ands f0 f1 gives1.adds

  extends2 : Extends f1 f2
  extends2 = Extends-ands f1 f2 gives2.adds

  extends3 : Extends f2 f3
  extends3 = Extends-ands f2 f3 gives3.adds

  shows1 : Shows c t f1 within is_within
  shows1 = Shows-all c t f0 f1 images c.properties.constraints within constraints sums.within (λ run. within_to c run t) sum.within gives1

  bads1 : All (λ e. ShowsNode c t f1 images e.node_id) c.properties.bads
  bads1 k d h = Shows-extends c t f0 f1 _ _ extends1 (bads k d h)

  shows2 : Shows c t f2 bad is_bad
  shows2 = Shows-any c t f1 f2 images c.properties.bads bad bads1 gives2

  within2 : Shows c t f2 within is_within
  within2 = Shows-extends c t f1 f2 within is_within extends2 shows1

  shows3 : Shows c t f3 now (λ run. is_within run && is_bad run)
  shows3 = Shows-join c t (λ x y. x && y) f2 f3 within bad now is_within is_bad within2 shows2 gives3

  extends03 : Extends f0 f3
  extends03 = Extends-then f0 f2 f3 (Extends-then f0 f1 f2 extends1 extends2) extends3

  extends4 : Extends f3 f4
  extends4 = Extends-ands f3 f4 gives4.adds

  shows4 : Shows c t f4 reached (λ run. reached_to c run t || (is_within run && is_bad run))
  shows4 = Shows-join c t (λ x y. x || y) f3 f4 sums.reached now reached (λ run. reached_to c run t) (λ run. is_within run && is_bad run) (Shows-extends c t f0 f3 sums.reached (λ run. reached_to c run t) extends03 sum.reached) shows3 gives4

  abbrev more : Sums
  more = record { within = within; reached = reached }

  pub Sum-more : Sum c t (t + 1) f4 more
  Sum-more = record {
    within = Shows-same c t f4 within is_within (λ run. within_to c run (t + 1)) (λ run. sym (ap (within_to c run) (add-one t))) (Shows-extends c t f2 f4 within is_within (Extends-then f2 f3 f4 extends3 extends4) within2);
    reached = Shows-same c t f4 reached (λ run. reached_to c run t || (is_within run && is_bad run)) (λ run. reached_to c run (t + 1)) (λ run. sym (ap (reached_to c run) (add-one t))) shows4;
  }

  Extends-more : Extends f0 f4
  Extends-more = Extends-then f0 f3 f4 extends03 extends4

  AreFrames-more : (u n : ℕ) → AreFrames c u n f0 → AreFrames c u n f4
  AreFrames-more u n are =
      AreFrames-ands c u n f3 f4 (AreFrames-ands c u n f2 f3 (AreFrames-ands c u n f1 f2 (AreFrames-ands c u n f0 f1 are gives1.adds) gives2.adds) gives3.adds) gives4.adds

  pub all_more : (u n : ℕ) → AreFrames c u n f0
      → Sum c t (t + 1) f4 more × AreFrames c u n f4 × Extends f0 f4
  all_more u n are = (Sum-more, AreFrames-more u n are, Extends-more)

-- ---- the steps, one after another

pub record StepsSoFar (c : Circuit) (last t : ℕ) (depths : List ℕ) (old f : Frames)
    (states : List (Option AigEdge)) (sums : Sums) : Type 0 where
  pub limit : f.limit ≡ old.limit
  pub frames : AreFrames c t 0 f
  pub known : HasStates c t depths (last - t) f states
  pub sum : Sum c t t f sums

pub StepsSoFar-more : (c : Circuit) (last t : ℕ) (depths : List ℕ) (f f0 f1 : Frames)
    (images : List AigEdge) (old new : List (Option AigEdge)) (before after : Sums) → IsCircuit c
    → t < last → AreDepths c last depths
    → HasImages c t depths (last - t) (length c.nodes) f1 images
    → StepsSoFar c last t depths f f0 old before → Extends f0 f1
    → SetsStates c.latchs (length c.latchs) (λ latch. Some (image_in images latch.next)) old new
    → length new ≡ length old → Sum c t (t + 1) f1 after → AreFrames c (t + 1) 0 f1
    → StepsSoFar c last (t + 1) depths f f1 new after
StepsSoFar-more c last t depths f f0 f1 images old new before after circuit more are has so_far extends sets count sum frames = record {
  limit = extends.limit ∙ so_far.limit;
  frames = frames;
  known = HasStates-next c circuit last t more depths are f1 f0 images old new has so_far.known sets count;
  sum = Sum-later c t (t + 1) f1 after sum;
}
