-- The run that values say: its start, and the values that are put into it.
use Rattle.aig_answers.proofs.Words.{◌≡◌, ◌≢◌, ℕ, zero, suc, ◌+◌, ◌<◌, ◌≤◌, ◌⊎◌, eqb, Bool, true, false, Option, Some, None, List, [], ◌∷◌, ◌++◌, length, map, get_or, set, inl, inr, refl, sym, ap, ap₂, subst, ◌∙◌, arith, AllByRecursion, AllZip, false≢true, All-from_recursion, All-map, All-push, All-set, Contains-get_or, recursion_from_All, get_or_from_slice_get, same_Some, slice_get, slice_get-get_or, slice_get_within, AllZip-long, IsTrue, AllPairs, IfSome, Vec, replicate, Global, eqb_tells, get_or-map, get_or-set_other, get_or-set_same, get_or_default, length-replicate, map-set, Lbool, FALSE, TRUE, NONE, AigEdge, AigLatch, edge_to, HasConstantInit, zip_at, AreStarts, HasStart, known_of, Witness, rows_of, said_by, Place, IsPlace, IsQuestion, Named, assigned, IsNamed, leaf_of, Begins, HasPlace, IsBlank, IsOpenAt, SaysOnly, put, start_value, value_at, value_of_init, value_said, with_value}
use Rattle.std.specs.Prelude.{All, slice_index}
use borrow.Author.Count.{below_more}
use Rattle.std.proofs.lemmas.List.{length-append, length-map, length-set}
use Rattle.aig_circuit.proofs.Words.{Circuit, latch_leaves}
use Rattle.aig_witness.specs.declared.witness.Witness as lists
use Rattle.aig_answers.specs.Solving.{HasRoom}

-- ---- the start

known_given : (b : Bool) → known_of b ≢ NONE
known_given true is = cc
known_given false is = cc

init_starts : (init : Option AigEdge) → IfSome init (λ e. e.node_id ≡ 0)
    → IfSome init (λ e. (e.node_id ≡ 0) × (value_of_init init ≡ known_of e.compl))
init_starts None constant = tt
init_starts (Some e) constant = (constant, refl)

init_given : (init : Option AigEdge) → value_of_init init ≢ NONE
init_given None is = cc
init_given (Some e) is = known_given e.compl is

starts_of : (latchs : List AigLatch) → All HasConstantInit latchs
    → AreStarts latchs (map start_value latchs)
starts_of latchs constant i d h =
    let latch = get_or latchs i d in
    subst (HasStart latch) (sym (get_or-map start_value latchs i d NONE h)) (init_starts latch.init
    (constant i d h))

-- every value is known
abbrev AreGiven : List Lbool → Type 0
AreGiven values = AllByRecursion (λ known. known ≢ NONE) values

given_starts : (latchs : List AigLatch) → AreGiven (map start_value latchs)
given_starts [] = tt
given_starts (latch ∷ latchs) = (init_given latch.init, given_starts latchs)

given_false : (n : ℕ) → AreGiven (replicate n FALSE)
given_false zero = tt
given_false (suc n) = ((λ is. cc), given_false n)

pub begins : (c : Circuit) (k count : ℕ) (state : List Lbool) (rows : List (Vec Lbool Global))
    → All HasConstantInit c.latchs → state ≡ map start_value c.latchs → count ≡ length c.inputs
    → length rows ≡ k + 1 → All (λ row. row.items ≡ replicate count FALSE) rows
    → Begins c k (record { bad = 0; state = state; steps = rows_of rows })
begins c k count state rows constant is width long all = record {
  latches = ap length is ∙ length-map c.latchs start_value;
  start = subst (AreStarts c.latchs) (sym is) (starts_of c.latchs constant);
  count = length-map rows (λ (row : Vec Lbool Global). row.items) ∙ long;
  inputs = All-map (λ row. length row ≡ length c.inputs) (λ (row : Vec Lbool Global). row.items)
      rows (λ i d h. ap length (all i d h) ∙ length-replicate count FALSE ∙ width);
  given = record {
    state = subst AreGiven (sym is) (given_starts c.latchs);
    steps = recursion_from_All AreGiven (rows_of rows) (All-map AreGiven (λ (row : Vec Lbool
        Global). row.items) rows (λ i d h. subst AreGiven (sym (all i d h)) (given_false count)));
  };
}

-- what holds of each item, and of what stands for one that isn't there, holds at each place
each_or : {A : Type 0} (P : A → Type 0) (xs : List A) (i : ℕ) (d : A) → All P xs → P d
    → P (get_or xs i d)
each_or P [] i d all is = is
each_or P (x ∷ xs) zero d all is = all 0 d (omega arith)
each_or P (x ∷ xs) (suc i) d all is =
    each_or P xs i d (λ j e h. all (suc j) e (omega (arith, h))) is

init_untrue : (init : Option AigEdge) → init ≡ None → value_of_init init ≢ TRUE
init_untrue None free is = cc
init_untrue (Some e) free is = cc

starts_untrue : (latchs : List AigLatch) (number : ℕ)
    → ((d : AigLatch) → (get_or latchs number d).init ≡ None)
    → get_or (map start_value latchs) number NONE ≢ TRUE
starts_untrue [] number free is = cc
starts_untrue (latch ∷ latchs) zero free is = init_untrue latch.init (free latch) is
starts_untrue (latch ∷ latchs) (suc number) free is = starts_untrue latchs number free is

row_untrue : (count number : ℕ) → get_or (replicate count FALSE) number NONE ≢ TRUE
row_untrue zero number is = cc
row_untrue (suc count) zero is = cc
row_untrue (suc count) (suc number) is = row_untrue count number is

-- nothing is true at first
pub blank : (c : Circuit) (count : ℕ) (state : List Lbool) (rows : List (Vec Lbool Global))
    → state ≡ map start_value c.latchs → All (λ row. row.items ≡ replicate count FALSE) rows
    → IsBlank c (record { bad = 0; state = state; steps = rows_of rows })
blank c count state rows is all name free = by name.is_latch name.step name.number free
  where
    by : (b : Bool) (step number : ℕ) → IsOpenAt b c step number
        → value_at b (record { bad = 0; state = state; steps = rows_of rows }) step number ≢ TRUE
    by true step number free true_now =
        starts_untrue c.latchs number free.1 (ap (λ s. get_or s number NONE) (sym is) ∙ true_now)
    by false step number free true_now =
        each_or (λ row. get_or row number NONE ≢ TRUE) (rows_of rows) step []
        (All-map (λ row. get_or row number NONE ≢ TRUE) (λ (row : Vec Lbool Global). row.items) rows
        (λ i d h. subst (λ row. get_or row number NONE ≢ TRUE) (sym (all i d h))
        (row_untrue count number))) (λ no. cc) true_now

-- a row of false values more
pub rows_more : (count : ℕ) (old made : List (Vec Lbool Global)) (row : Vec Lbool Global)
    → All (λ (r : Vec Lbool Global). r.items ≡ replicate count FALSE) old → made ≡ old ++ row ∷ []
    → row.items ≡ replicate count FALSE
    → (length made ≡ length old + 1) × All (λ (r : Vec Lbool Global). r.items ≡ replicate count
    FALSE) made
rows_more count old made row all is blank =
    let P : Vec Lbool Global → Type 0 = λ r. r.items ≡ replicate count FALSE in (
      ap length is ∙ length-append old (row ∷ []),
      subst (All P) (sym is) (All-push P old row all
          blank),
    )

-- ---- values that are put

-- a latch without initial edge, at step 0, or an input at a step up to k
abbrev pub IsUsable : Bool → Circuit → ℕ → ℕ → ℕ → Type 0
IsUsable true c k step number =
    (number < length c.latchs) × ((d : AigLatch) → (get_or c.latchs number d).init ≡ None) × (step
    ≡ 0)
IsUsable false c k step number = (step ≤ k) × (number < length c.inputs)

usable : (c : Circuit) (k : ℕ) (p : Place) → IsPlace c p → p.step ≤ k → (b : Bool)
    (step number : ℕ) → step ≡ p.step → leaf_of c b number ≡ Some p.leaf
    → IsUsable b c k step number
usable c k p is low true step number same found =
    let inputs : List ℕ = latch_leaves c.latchs in
    let long : length inputs ≡ length c.latchs = length-map c.latchs (λ (latch : AigLatch).
    latch.input) in
    let within : number < length inputs = slice_get_within inputs number p.leaf found in
    let there : number < length c.latchs = omega (arith, within, long) in
    let start = λ (d : AigLatch). is.start (get_or c.latchs number d) (Contains-get_or c.latchs
    number d there)
    (sym (get_or-map (λ (latch : AigLatch). latch.input) c.latchs number d 0 there) ∙
    get_or_from_slice_get inputs number p.leaf 0 found) in (
      there,
      λ d. (start d).1,
      same ∙ (start (record {
        input = 0;
        next = edge_to 0 false;
        init =
            None;
      })).0,
    )
usable c k p is low false step number same found =
    (omega (arith, same, low), slice_get_within c.inputs number p.leaf found)

latch_at_start : (b : Bool) (c : Circuit) (k step number : ℕ) → IsUsable b c k step number → b ≡
    true
    → step ≡ 0
latch_at_start true c k step number fit is = fit.2
latch_at_start false c k step number fit is = absurd (false≢true is)

module _ (c : Circuit) (k : ℕ) (w : Witness) (begun : Begins c k w) where
  room : (b : Bool) (step number : ℕ) → IsUsable b c k step number → HasPlace b w step number
  room true step number fit = omega (arith, fit.0, begun.latches)
  room false step number fit =
      let low : step < length w.steps = omega (arith, fit.0, begun.count) in
      (low, omega (arith, fit.1, begun.inputs step [] low))

  kept : (b : Bool) (step number : ℕ) (v : Lbool) → IsUsable b c k step number → v ≢ NONE
      → Begins c k (put b w step number v)
  kept true step number v fit known = record {
    latches = length-set w.state number v ∙ begun.latches;
    start = λ i d h. by i d h (eqb_tells i number);
    count = begun.count;
    inputs = begun.inputs;
    given = record {
      state = recursion_from_All (λ known. known ≢ NONE) (set w.state number v) (All-set (λ known.
          known ≢ NONE) w.state number v known (All-from_recursion (λ known. known ≢ NONE) w.state
          begun.given.state));
      steps = begun.given.steps;
    };
  }
    where
      by : (i : ℕ) (d : AigLatch) → i < length c.latchs
          → ((eqb i number ≡ true) × (i ≡ number)) ⊎ ((eqb i number ≡ false) × (i ≢ number))
          → HasStart (get_or c.latchs i d) (get_or (set w.state number v) i NONE)
      by i d h (inl same) =
          let free : (get_or c.latchs i d).init ≡ None = ap (λ j. (get_or c.latchs j d).init)
          same.1 ∙ fit.1 d in
          subst (λ (init : Option AigEdge). IfSome init (λ e. (e.node_id ≡ 0) × (get_or (set
          w.state number v) i NONE ≡ known_of e.compl))) (sym free) tt
      by i d h (inr other) = subst (HasStart (get_or c.latchs i d)) (sym (get_or-set_other w.state
          number i v NONE other.1)) (begun.start i d h)
  kept false step number v fit known =
      let low : step < length w.steps = omega (arith, fit.0, begun.count) in
      let old : List Lbool = get_or w.steps step [] in
      let row : List Lbool = set old number v in
      let each = All-from_recursion AreGiven w.steps begun.given.steps in
      let given : AreGiven row = recursion_from_All (λ known. known ≢ NONE) row (All-set (λ known.
      known ≢ NONE) old number v known (All-from_recursion (λ known. known ≢ NONE) old (each
      step [] low))) in
      record {
        latches = begun.latches;
        start = begun.start;
        count = length-set w.steps step row ∙ begun.count;
        inputs = All-set (λ row. length row ≡ length c.inputs) w.steps step row (length-set old
            number v ∙ begun.inputs step [] low) begun.inputs;
        given = record {
          state = begun.given.state;
          steps = recursion_from_All AreGiven (set w.steps step row) (All-set AreGiven w.steps step
              row given each);
        };
      }

written : (b : Bool) (w : Witness) (step number : ℕ) (v : Lbool) → HasPlace b w step number
    → value_at b (put b w step number v) step number ≡ v
written true w step number v there = get_or-set_same w.state number v NONE there
written false w step number v there =
    let old : List Lbool = get_or w.steps step [] in
    ap (λ row. get_or row number NONE) (get_or-set_same w.steps step (set old number v) [] there.0)
    ∙ get_or-set_same old number v NONE there.1

others : (b e : Bool) (w : Witness) (step number at which : ℕ) (v : Lbool) → HasPlace b w step
    number
    → (b ≡ true → e ≡ true → step ≡ at) → (b ≡ e → step ≡ at → number ≡ which → ⊥)
    → value_at e (put b w step number v) at which ≡ value_at e w at which
others true true w step number at which v there start apart =
    get_or-set_other w.state number which v NONE (λ is. apart refl (start refl refl) (sym is))
others true false w step number at which v there start apart = refl
others false true w step number at which v there start apart = refl
others false false w step number at which v there start apart = by (eqb_tells at step)
  where
    old : List Lbool
    old = get_or w.steps step []

    row : List Lbool
    row = set old number v

    by : ((eqb at step ≡ true) × (at ≡ step)) ⊎ ((eqb at step ≡ false) × (at ≢ step))
        → get_or (get_or (set w.steps step row) at []) which NONE ≡ get_or (get_or w.steps at [])
        which NONE
    by (inl same) =
        subst (λ t. get_or (get_or (set w.steps step row) t []) which NONE ≡ get_or (get_or w.steps
        t []) which NONE) (sym same.1)
        (ap (λ r. get_or r which NONE) (get_or-set_same w.steps step row [] there.0) ∙
        get_or-set_other old number which v NONE (λ is. apart refl (sym same.1) (sym is)))
    by (inr other) = ap (λ r. get_or r which NONE) (get_or-set_other w.steps step at row [] other.1)

-- ---- names

one_name : (x y : Named) → x.step ≡ y.step → x.is_latch ≡ y.is_latch → x.number ≡ y.number → x ≡ y
one_name x y step latch number =
    let make : ℕ → Bool → ℕ → Named = λ s b n. record { step = s; is_latch = b; number = n } in
    ap (λ s. make s x.is_latch x.number) step ∙ ap₂ (make y.step) latch number

-- two names are one, or differ
same_name : (x y : Named) → (x ≡ y) ⊎ (x ≢ y)
same_name x y = by x.is_latch y.is_latch refl refl (eqb_tells x.step y.step) (eqb_tells x.number y.number)
  where
    counted : x.is_latch ≡ y.is_latch → ((eqb x.step y.step ≡ true) × (x.step ≡ y.step)) ⊎ ((eqb x.step y.step ≡ false) × (x.step ≢ y.step))
        → ((eqb x.number y.number ≡ true) × (x.number ≡ y.number)) ⊎ ((eqb x.number y.number ≡ false) × (x.number ≢ y.number))
        → (x ≡ y) ⊎ (x ≢ y)
    counted latch (inl step) (inl number) = inl (one_name x y step.1 latch number.1)
    counted latch (inr step) number = inr (λ is. step.1 (ap (λ (n : Named). n.step) is))
    counted latch step (inr number) = inr (λ is. number.1 (ap (λ (n : Named). n.number) is))

    by : (a b : Bool) → x.is_latch ≡ a → y.is_latch ≡ b
        → ((eqb x.step y.step ≡ true) × (x.step ≡ y.step)) ⊎ ((eqb x.step y.step ≡ false) × (x.step ≢ y.step))
        → ((eqb x.number y.number ≡ true) × (x.number ≡ y.number)) ⊎ ((eqb x.number y.number ≡ false) × (x.number ≢ y.number))
        → (x ≡ y) ⊎ (x ≢ y)
    by true true is are step number = counted (is ∙ sym are) step number
    by false false is are step number = counted (is ∙ sym are) step number
    by true false is are step number =
        inr (λ same. false≢true (sym are ∙ sym (ap (λ (n : Named). n.is_latch) same) ∙ is))
    by false true is are step number =
        inr (λ same. false≢true (sym is ∙ ap (λ (n : Named). n.is_latch) same ∙ are))

open_at_start : (b : Bool) (c : Circuit) (step number : ℕ) → IsOpenAt b c step number → b ≡ true
    → step ≡ 0
open_at_start true c step number free is = free.0
open_at_start false c step number free is = absurd (false≢true is)

known_true : (b : Bool) → known_of b ≡ TRUE → b ≡ true
known_true true is = refl
known_true false is = cc

-- ---- all values

-- the leaves are as many as their names
pub leaves_long : (c : Circuit) (k : ℕ) (asks : Circuit) (output : AigEdge) (places : List Place)
    (named : List Named) → IsQuestion c k asks output places → AllZip (IsNamed c) places named
    → length asks.inputs ≡ length named
leaves_long c k asks output places named question zip =
    let y : ℕ → Bool = λ n. false in
    let r = question.runs y in
    let reads = AllZip-long (λ n p. y n ≡ r.0 p.step p.leaf) asks.inputs places r.3 in
    sym (AllZip-long (IsNamed c) places named zip ∙ reads)

-- a run has begun that says the first values
abbrev pub SaysTo : Circuit → ℕ → List Named → List ℕ → List Lbool → ℕ → Witness → Type 0
SaysTo c k named leaves values i w = Begins c k w × ((j : ℕ) (d : Named) → j < i
    → value_said w (get_or named j d) ≡ known_of (assigned values (slice_index leaves j)))
    × SaysOnly c named leaves values w

module _ (c : Circuit) (k : ℕ) (places : List Place) (named : List Named) (are : All (IsPlace c)
    places)
    (low : All (λ p. p.step ≤ k) places) (distinct : AllPairs (λ p q. p ≢ q) places) (zip : AllZip
    (IsNamed c) places named) where
  nowhere : Place
  nowhere = record { step = 0; leaf = 0 }

  long : length named ≡ length places
  long = AllZip-long (IsNamed c) places named zip

  named_at : (i : ℕ) (e : Named) → i < length named → IsNamed c (get_or places i nowhere) (get_or
      named i e)
  named_at i e h = zip_at (IsNamed c) places named i nowhere e zip (omega (arith, long, h))

  pub usable_at : (i : ℕ) (e : Named) → i < length named
      → IsUsable (get_or named i e).is_latch c k (get_or named i e).step (get_or named i e).number
  usable_at i e h =
      let name = get_or named i e in
      let is = named_at i e h in
      let there : i < length places = omega (arith, long, h) in
      usable c k (get_or places i nowhere) (are i nowhere there) (low i nowhere there)
      name.is_latch name.step name.number is.0 is.1

  apart_at : (i j : ℕ) (e : Named) → j < i → i < length named
      → (get_or named i e).is_latch ≡ (get_or named j e).is_latch
      → (get_or named i e).step ≡ (get_or named j e).step
      → (get_or named i e).number ≡ (get_or named j e).number → ⊥
  apart_at i j e less h latch step number =
      let is = named_at i e h in
      let was = named_at j e (omega (arith, less, h)) in
      let make : ℕ → ℕ → Place = λ s l. record { step = s; leaf = l } in
      let leaf = same_Some _ _ (sym was.1 ∙ ap₂ (leaf_of c) (sym latch) (sym number) ∙ is.1) in
      distinct j i nowhere less (omega (arith, long, h)) (ap₂ make (sym was.0 ∙ sym step ∙ is.0)
      leaf)

  pub room_at : (w : Witness) → Begins c k w → (i : ℕ) (e : Named) → i < length named
      → HasRoom w (get_or named i e)
  room_at w begun i e h = room c k w begun (get_or named i e).is_latch (get_or named i e).step
      (get_or named i e).number (usable_at i e h)

  module _ (leaves : List ℕ) (values : List Lbool) where
    -- after a value more, what is true has a name
    only_more : (w : Witness) (i : ℕ) (e : Named) (v : Lbool) → Begins c k w → i < length named
        → v ≡ known_of (assigned values (slice_index leaves i))
        → SaysOnly c named leaves values w
        → SaysOnly c named leaves values (with_value w (get_or named i e) v)
    only_more w i e v begun h is only name free true_now = by (same_name (get_or named i e) name)
      where
        by : (get_or named i e ≡ name) ⊎ (get_or named i e ≢ name)
            → (j : ℕ) × (slice_get named j ≡ Some name) × IsTrue (assigned values (slice_index leaves
            j))
        by (inl same) =
            let there = written (get_or named i e).is_latch w (get_or named i e).step
            (get_or named i e).number v (room_at w begun i e h) in
            let now = ap (value_said (with_value w (get_or named i e) v)) same ∙ true_now in (
              i,
              slice_get-get_or named i e h ∙ ap Some same,
              known_true (assigned values (slice_index leaves i)) (sym is ∙ sym there ∙ now),
            )
        by (inr apart) =
            let start : (get_or named i e).is_latch ≡ true → name.is_latch ≡ true
            → (get_or named i e).step ≡ name.step
            = λ b t. latch_at_start (get_or named i e).is_latch c k (get_or named i e).step
            (get_or named i e).number (usable_at i e h) b
            ∙ sym (open_at_start name.is_latch c name.step name.number free t) in
            let stays = others (get_or named i e).is_latch name.is_latch w (get_or named i e).step
            (get_or named i e).number name.step name.number v (room_at w begun i e h) start
            (λ b s n. apart (one_name (get_or named i e) name s b n)) in
            only name free (sym stays ∙ true_now)

    -- a value more
    pub said_more : (w : Witness) (i : ℕ) (e : Named) (v : Lbool) → Begins c k w → i < length named
        → v ≡ known_of (assigned values (slice_index leaves i))
        → ((j : ℕ) (d : Named) → j < i → value_said w (get_or named j d) ≡ known_of (assigned
        values (slice_index leaves j)))
        → SaysOnly c named leaves values w
        → SaysTo c k named leaves values (i + 1) (with_value w (get_or named i e) v)
    said_more w i e v begun h is so_far only =
        let name = get_or named i e in
        let fit = usable_at i e h in
        let place = room_at w begun i e h in
        let known : v ≢ NONE = λ none. known_given (assigned values (slice_index leaves i)) (sym is
        ∙ none) in
        let made : Witness = with_value w name v in
        let Says : ℕ → Type 0 = λ j. (d : Named) → value_said made (get_or named j d) ≡ known_of
        (assigned values (slice_index leaves j)) in
        let earlier : (j : ℕ) → j < i → Says j = λ j less d.
        let other = get_or named j e in
        let low_j : j < length named = omega (arith, less, h) in
        let start : name.is_latch ≡ true → other.is_latch ≡ true → name.step ≡ other.step = λ b t.
        latch_at_start name.is_latch c k name.step name.number fit b ∙ sym (latch_at_start
        other.is_latch c k other.step other.number (usable_at j e low_j) t) in
        let stays = others name.is_latch other.is_latch w name.step name.number other.step
        other.number v place start (apart_at i j e less h) in
        subst (λ (n : Named). value_said made n ≡ known_of (assigned values (slice_index leaves
        j))) (get_or_default named j e d low_j) (stays ∙ so_far j e less) in
        let here : Says i = λ d. subst (λ (n : Named). value_said made n ≡ known_of (assigned
        values (slice_index leaves i))) (get_or_default named i e d h) (written name.is_latch w
        name.step name.number v place ∙ is) in
        let all = below_more Says i earlier here in (
          kept c k w begun name.is_latch name.step name.number v fit known,
          λ j d lt. all j lt d,
          only_more w i e v begun h is only,
        )

-- ---- a value in its row

pub row_set : (w : lists.Witness) (step number : ℕ) (b : Bool) (row made : Vec Lbool Global)
    (steps : List (Vec Lbool Global)) (d : Vec Lbool Global) (value : Lbool) → b ≡ false
    → HasPlace b (said_by w) step number → row ≡ get_or w.steps.items step d
    → made.items ≡ set row.items number value → steps ≡ set w.steps.items step made
    → record (said_by w) { steps = rows_of steps } ≡ put b (said_by w) step number value
row_set w step number b row made steps d value is there found written all =
    let items = λ (r : Vec Lbool Global). r.items in
    let place : HasPlace false (said_by w) step number = subst (λ x. HasPlace x (said_by w) step
    number) is there in
    let low : step < length w.steps.items = omega (arith, place.0, length-map w.steps.items items)
    in
    let old : row.items ≡ get_or (rows_of w.steps.items) step [] = ap items found ∙ sym (get_or-map
    items w.steps.items step d [] low) in
    let rows : rows_of steps ≡ set (rows_of w.steps.items) step (set (get_or (rows_of
    w.steps.items) step []) number value) =
    ap rows_of all ∙ map-set items w.steps.items step made
    ∙ ap (set (rows_of w.steps.items) step) (written ∙ ap (λ r. set r number value) old) in
    let make : List (List Lbool) → Witness = λ r. record (said_by w) { steps = r } in
    ap make rows ∙ ap (λ x. put x (said_by w) step number value) (sym is)
