-- A solution of a question's clauses says a run that reaches a bad state.
use Rattle.aig_answers.proofs.Words.{◌≡◌, ◌≢◌, ℕ, zero, suc, ◌+◌, ◌<◌, ◌≤◌, Bool, true, false, Option, Some, List, [], ◌∷◌, ◌++◌, length, map, take, get_or, refl, sym, ap, ap₂, subst, ◌∙◌, arith, All-from_recursion, AllByRecursion, AllZip, eq-eqb, false≢true, ne_eqb, Any-from_list_any, get_or_from_slice_get, same_Some, slice_get-get_or, slice_get_within, AllZip-long, AllPairs, IfSome, MatchOption, get_or-append-add, get_or-map, get_or_default, Lbool, FALSE, TRUE, NONE, AigEdge, AigLatch, IsInRange, edge_to, IsRun, edge_value, AreLeaves-of_circuit, IsFilling, value_for, value_in, zip_at, zip_from, known_of, Witness, Place, IsQuestion, Reaches, ReadsPlaces, Named, assigned, is_true, IsNamed, leaf_of, IsSaid, IsSaidStart, SaysRun, Begins, IsConstrained, IsReached, SaysAll, SaysOnly, after, value_at}
use Rattle.std.specs.Prelude.{◌^◌, IsTrue, None, if◌then◌else◌, slice_get, slice_index}
use Rattle.std.proofs.lemmas.List.{get_or_append_left, length-append, length-map}
use Rattle.aig_base.specs.Three.{Agrees}
use Rattle.aig_circuit.proofs.Words.{Circuit, IsCircuit, IsClosed, latch_leaves}
use Rattle.aig_witness.proofs.Given.{value_known}
use Rattle.aig_witness.proofs.Started.{starts_hold}
use Rattle.aig_answers.proofs.Saying.{IsUsable, usable_at}

-- ---- values

true_known : (b : Bool) → is_true (known_of b) ≡ b
true_known true = refl
true_known false = refl

true_is : (value : Lbool) → is_true value ≡ true → value ≡ TRUE
true_is FALSE is = absurd (false≢true is)
true_is TRUE is = refl
true_is NONE is = absurd (false≢true is)

-- an item of the first ones is one of all
taken_get : {A : Type 0} (n : ℕ) (xs : List A) (i : ℕ) (x : A) → slice_get (take n xs) i ≡ Some x
    → slice_get xs i ≡ Some x
taken_get zero xs i x is = cc
taken_get (suc n) [] i x is = cc
taken_get (suc n) (y ∷ ys) zero x is = is
taken_get (suc n) (y ∷ ys) (suc i) x is = taken_get n ys i x is

agrees_true : (known : Lbool) → Agrees known (is_true known)
agrees_true FALSE = refl
agrees_true TRUE = refl
agrees_true NONE = tt

-- the value that stands at a place
value_for-at : (ns : List ℕ) (values : List Lbool) → AllPairs (λ m n. m ≢ n) ns
    → length values ≡ length ns → (i : ℕ) → i < length ns
    → value_for ns values (get_or ns i 0) ≡ get_or values i NONE
value_for-at [] values distinct long i low = absurd (omega (arith, low))
value_for-at (m ∷ ms) [] distinct long i low = absurd (omega (arith, long))
value_for-at (m ∷ ms) (v ∷ values) distinct long zero low =
    ap (λ (b : Bool). if b then v else value_for ms values m) (eq-eqb m m refl)
value_for-at (m ∷ ms) (v ∷ values) distinct long (suc i) low =
    let n = get_or ms i 0 in
    ap (λ (b : Bool). if b then v else value_for ms values n) (ne_eqb m n (distinct 0 (suc i) 0
    (omega arith) low))
    ∙ value_for-at ms values (λ a b d lt h. distinct (suc a) (suc b) d (omega (arith, lt)) (omega
    (arith, h))) (omega (arith, long)) i (omega (arith, low))

-- ---- the run

module _ (c : Circuit) (is : IsCircuit c) (closed : IsClosed c) (k : ℕ) (w : Witness) (begun :
    Begins c k w) where
  abbrev leaves : List ℕ
  leaves = latch_leaves c.latchs

  abbrev row : ℕ → List Lbool
  row t = get_or w.steps t []

  -- the value of a leaf, where inputs and latches have these
  abbrev valued : List Lbool → List Lbool → ℕ → Bool
  valued inputs state n = is_true (value_for (c.inputs ++ leaves) (inputs ++ state) n)

  abbrev next : (ℕ → Bool) → List Lbool
  next x = map (λ (latch : AigLatch). known_of (edge_value c.nodes x latch.next)) c.latchs

  run : ℕ → ℕ → Bool
  run zero n = valued (row zero) w.state n
  run (suc t) n = valued (row (suc t)) (next (run t)) n

  state_at : ℕ → List Lbool
  state_at zero = w.state
  state_at (suc t) = next (run t)

  run_is : (t n : ℕ) → run t n ≡ valued (row t) (state_at t) n
  unfolding run state_at
  run_is zero n = refl
  run_is (suc t) n = refl

  state_long : (t : ℕ) → length (state_at t) ≡ length c.latchs
  unfolding state_at
  state_long zero = begun.latches
  state_long (suc t) = length-map c.latchs (λ (latch : AigLatch). known_of (edge_value c.nodes (run
      t) latch.next))

  leaves_long : length leaves ≡ length c.latchs
  leaves_long = length-map c.latchs (λ (latch : AigLatch). latch.input)

  module _ (t : ℕ) (low : t < length w.steps) where
    wide : length (row t) ≡ length c.inputs
    wide = begun.inputs t [] low

    at_place : (i : ℕ) → i < length (c.inputs ++ leaves)
        → run t (get_or (c.inputs ++ leaves) i 0) ≡ is_true (get_or (row t ++ state_at t) i NONE)
    at_place i h =
        run_is t (get_or (c.inputs ++ leaves) i 0)
        ∙ ap is_true (value_for-at (c.inputs ++ leaves) (row t ++ state_at t) (AreLeaves-of_circuit
        c is).distinct
        (length-append (row t) (state_at t) ∙ omega (
          arith,
          wide,
          state_long t,
          leaves_long,
          length-append c.inputs leaves,
        )) i h)

    input_at : (i : ℕ) → i < length c.inputs → run t (get_or c.inputs i 0) ≡ is_true (get_or (row
        t) i NONE)
    input_at i h =
        ap (run t) (sym (get_or_append_left c.inputs leaves 0 i h))
        ∙ at_place i (omega (arith, h, length-append c.inputs leaves))
        ∙ ap is_true (get_or_append_left (row t) (state_at t) NONE i (omega (arith, h, wide)))

    latch_at : (i : ℕ) → i < length c.latchs → run t (get_or leaves i 0) ≡ is_true (get_or
        (state_at t) i NONE)
    latch_at i h =
        ap (run t) (sym (get_or-append-add c.inputs leaves i 0))
        ∙ at_place (length c.inputs + i) (omega (
          arith,
          h,
          leaves_long,
          length-append c.inputs
              leaves,
        ))
        ∙ ap (λ n. is_true (get_or (row t ++ state_at t) (n + i) NONE)) (sym wide)
        ∙ ap is_true (get_or-append-add (row t) (state_at t) i NONE)

  moved : (t i : ℕ) (d : AigLatch) → i < length c.latchs
      → is_true (get_or (state_at (suc t)) i NONE) ≡ edge_value c.nodes (run t) (get_or c.latchs i
      d).next
  unfolding state_at
  moved t i d lt =
      ap is_true (get_or-map (λ (latch : AigLatch). known_of (edge_value c.nodes (run t)
      latch.next)) c.latchs i d NONE lt)
      ∙ true_known (edge_value c.nodes (run t) (get_or c.latchs i d).next)

  is_run : IsRun c k run
  is_run t h i d lt =
      let latch = get_or c.latchs i d in
      let one : t + 1 ≡ suc t = omega arith in
      let leaf : latch.input ≡ get_or leaves i 0 = sym (get_or-map (λ (l : AigLatch). l.input)
      c.latchs i d 0 lt) in
      ap (λ u. run u latch.input) one ∙ ap (run (suc t)) leaf
      ∙ latch_at (suc t) (omega (arith, h, begun.count)) i lt
      ∙ moved t i d lt

  some : 0 < length w.steps
  some = omega (arith, begun.count)

  first_state : (i : ℕ) → i < length leaves → Agrees (get_or w.state i NONE) (run 0 (get_or leaves
      i 0))
  unfolding state_at
  first_state i h = subst (Agrees (get_or w.state i NONE)) (sym (latch_at 0 some i (omega (
    arith,
    h,
    leaves_long,
  )))) (agrees_true (get_or w.state i NONE))

  filling : IsFilling c w.state w.steps run
  filling = record {
    run = subst (λ n. IsRun c n run) (omega (arith, begun.count)) is_run;
    first = zip_from (λ n known. Agrees known (run 0 n)) leaves w.state 0 NONE (omega (
      arith,
      leaves_long,
      begun.latches,
    )) first_state;
    each = λ t inputs found.
        let low = slice_get_within w.steps t inputs found in
        let same : get_or w.steps t [] ≡ inputs = get_or_from_slice_get w.steps t inputs [] found in
        subst (AllZip (λ n known. Agrees known (run t n)) c.inputs) same
        (zip_from (λ n known. Agrees known (run t n)) c.inputs (row t) 0 NONE (sym (wide t low)) (λ
        i h.
        subst (Agrees (get_or (row t) i NONE)) (sym (input_at t low i h)) (agrees_true (get_or (row
        t) i NONE))));
  }

  -- ---- it reads the values

  named_value : (b : Bool) (step number leaf : ℕ) → IsUsable b c k step number → leaf_of c b number
      ≡ Some leaf
      → run step leaf ≡ is_true (value_at b w step number)
  unfolding state_at
  named_value true step number leaf fit found =
      let same : get_or leaves number 0 ≡ leaf = get_or_from_slice_get leaves number leaf 0 found in
      ap (λ t. run t leaf) fit.2 ∙ ap (run 0) (sym same) ∙ latch_at 0 some number fit.0
  named_value false step number leaf fit found =
      let same : get_or c.inputs number 0 ≡ leaf = get_or_from_slice_get c.inputs number leaf 0
      found in
      ap (run step) (sym same) ∙ input_at step (omega (arith, fit.0, begun.count)) number fit.1

  module _ (asks : Circuit) (output : AigEdge) (places : List Place) (named : List Named) (values :
      List Lbool)
      (question : IsQuestion c k asks output places) (zip : AllZip (IsNamed c) places named) (said
      : SaysAll named asks.inputs values w) where
    nameless : Named
    nameless = record { step = 0; is_latch = false; number = 0 }

    nowhere : Place
    nowhere = record { step = 0; leaf = 0 }

    count : length places ≡ length asks.inputs
    count =
        let y : ℕ → Bool = λ n. false in
        let r = question.runs y in
        AllZip-long (λ n p. y n ≡ r.0 p.step p.leaf) asks.inputs places r.3

    reads : ReadsPlaces asks.inputs places (assigned values) run
    reads = zip_from (λ n p. assigned values n ≡ run p.step p.leaf) asks.inputs places 0 nowhere
        (sym count) (λ i h.
        let n = get_or asks.inputs i 0 in
        let p = get_or places i nowhere in
        let name = get_or named i nameless in
        let there : i < length places = omega (arith, h, count) in
        let low : i < length named = omega (arith, there, AllZip-long (IsNamed c) places named zip)
        in
        let is_named : IsNamed c p name = zip_at (IsNamed c) places named i nowhere nameless zip
        there in
        let fit = usable_at c k places named question.are_places question.steps question.distinct
        zip i nameless low in
        sym (ap (λ t. run t p.leaf) (sym is_named.0) ∙ named_value name.is_latch name.step
        name.number p.leaf fit is_named.1
        ∙ ap is_true (said i nameless low) ∙ true_known (assigned values n)))

    -- ---- and says just these

    -- an input of the question stands where what has its name is
    placed : (j leaf : ℕ) (name : Named) → slice_get named j ≡ Some name
        → leaf_of c name.is_latch name.number ≡ Some leaf
        → slice_get places j ≡ Some (record { step = name.step; leaf = leaf })
    placed j leaf name found is =
        let low = slice_get_within named j name found in
        let there : j < length places = omega (arith, low, AllZip-long (IsNamed c) places named zip)
        in
        let p = get_or places j nowhere in
        let stands : IsNamed c p name = subst (IsNamed c p)
        (get_or_from_slice_get named j name nameless found)
        (zip_at (IsNamed c) places named j nowhere nameless zip there) in
        let make : ℕ → ℕ → Place = λ s l. record { step = s; leaf = l } in
        slice_get-get_or places j nowhere there
        ∙ ap Some (ap₂ make (sym stands.0) (same_Some _ _ (sym stands.1 ∙ is)))

    -- and has the run's value
    read_at : (j step leaf : ℕ) → slice_get places j ≡ Some (record { step = step; leaf = leaf })
        → assigned values (get_or asks.inputs j 0) ≡ run step leaf
    read_at j step leaf found =
        let make : ℕ → ℕ → Place = λ s l. record { step = s; leaf = l } in
        let p : Place = make step leaf in
        let low = slice_get_within places j p found in
        let at = zip_at (λ n p. assigned values n ≡ run p.step p.leaf) asks.inputs places j 0 nowhere
        reads (omega (arith, low, count)) in
        at ∙ ap (λ (q : Place). run q.step q.leaf) (get_or_from_slice_get places j p nowhere found)

    module _ (only : SaysOnly c named asks.inputs values w) where
      -- a value that the run has is said where it is true only by its name
      said_by_run : (step leaf : ℕ) (value : Lbool) → value ≢ NONE → run step leaf ≡ is_true value
          → (value ≡ TRUE → (j : ℕ) × (slice_get places j ≡ Some (record {
            step = step;
            leaf =
                leaf;
          })) × IsTrue (assigned values (slice_index asks.inputs j)))
          → IsSaid asks.inputs places (assigned values) step leaf value
      said_by_run step leaf value known runs named_so = (
        known,
        (
          named_so,
          λ at. true_is value (sym runs ∙ sym (read_at at.0 step leaf at.1) ∙ at.2),
        ),
      )

      input_said : (t i : ℕ) → t < length w.steps → i < length c.inputs
          → IsSaid asks.inputs places (assigned values) t (get_or c.inputs i 0) (get_or (row t) i
          NONE)
      input_said t i low h =
          let given = All-from_recursion (λ known. known ≢ NONE) (row t) (All-from_recursion
          (AllByRecursion (λ known. known ≢ NONE)) w.steps begun.given.steps t [] low) in
          let name : Named = record { step = t; is_latch = false; number = i } in
          said_by_run t (get_or c.inputs i 0) (get_or (row t) i NONE)
          (given i NONE (omega (arith, h, wide t low))) (input_at t low i h)
          (λ now. let found = only name tt now in (
            found.0,
            placed found.0 (get_or c.inputs i 0) name found.1 (slice_get-get_or c.inputs i 0 h),
            found.2,
          ))

      free_said : (i : ℕ) (d : AigLatch) → i < length c.latchs → (get_or c.latchs i d).init ≡ None
          → IsSaid asks.inputs places (assigned values) 0 (get_or c.latchs i d).input (get_or w.state
          i NONE)
      unfolding state_at
      free_said i d h free =
          let given = All-from_recursion (λ known. known ≢ NONE) w.state begun.given.state in
          let name : Named = record { step = 0; is_latch = true; number = i } in
          let there : i < length leaves = omega (arith, h, leaves_long) in
          let leaf : get_or leaves i 0 ≡ (get_or c.latchs i d).input =
          get_or-map (λ (l : AigLatch). l.input) c.latchs i d 0 h in
          let free_at : (e : AigLatch) → (get_or c.latchs i e).init ≡ None
          = λ e. ap (λ (l : AigLatch). l.init) (get_or_default c.latchs i e d h) ∙ free in
          said_by_run 0 (get_or c.latchs i d).input (get_or w.state i NONE)
          (given i NONE (omega (arith, h, begun.latches))) (ap (run 0) (sym leaf) ∙ latch_at 0 some i h)
          (λ now. let found = only name (refl, free_at) now in (
            found.0,
            placed found.0 (get_or c.latchs i d).input name found.1
                (slice_get-get_or leaves i 0 there ∙ ap Some leaf),
            found.2,
          ))

      start_said : (i : ℕ) (d : AigLatch) → i < length c.latchs
          → IsSaidStart asks.inputs places (assigned values) (get_or c.latchs i d) (get_or w.state i
          NONE)
      start_said i d h = by (get_or c.latchs i d).init refl (begun.start i d h)
        where
          by : (init : Option AigEdge) → (get_or c.latchs i d).init ≡ init
              → IfSome init (λ e. (e.node_id ≡ 0) × (get_or w.state i NONE ≡ known_of e.compl))
              → MatchOption init (IsSaid asks.inputs places (assigned values) 0
              (get_or c.latchs i d).input (get_or w.state i NONE))
              (λ e. get_or w.state i NONE ≡ known_of e.compl)
          by None free start = free_said i d h free
          by (Some e) has start = start.1

      -- the run up to a step is the one that the values say
      pub says_run : (bad n : ℕ) → SaysRun c asks.inputs places (assigned values) (record {
        bad = bad;
        state = w.state;
        steps = take n w.steps;
      })
      says_run bad n = record {
        state = zip_from (IsSaidStart asks.inputs places (assigned values)) c.latchs w.state
            nothing NONE (sym begun.latches) (λ i h. start_said i nothing h);
        steps = λ t line found.
            let there = taken_get n w.steps t line found in
            let low = slice_get_within w.steps t line there in
            subst (AllZip (IsSaid asks.inputs places (assigned values) t) c.inputs)
            (get_or_from_slice_get w.steps t line [] there)
            (zip_from (IsSaid asks.inputs places (assigned values) t) c.inputs (row t) 0 NONE
            (sym (wide t low)) (λ i h. input_said t i low h));
      }
        where
          nothing : AigLatch
          nothing = record { input = 0; next = edge_to 0 false; init = None }

    -- a solution reaches a bad state
    pub solution_reaches : length c.properties.bads ≤ 2 ^ 32 → IsReached c w.state w.steps None
        → ¬ IsTrue (edge_value asks.nodes (assigned values) output)
    solution_reaches few none holds =
        let initial = starts_hold c w.state is begun.start (run 0) filling.first in
        let reached : Reaches c k run = (question.value run (assigned values) is_run initial
        reads).0 holds in
        let t : ℕ = reached.step in
        let low : t < length w.steps = omega (arith, reached.within, begun.count) in
        let value : (s : ℕ) (e : AigEdge) → s ≤ t → IsInRange c.nodes e → edge_value c.nodes (run
        s) e ≡ true
        → value_in (after c w.state w.steps s) e ≡ TRUE
        = λ s e le there holds. value_known c is closed w begun.given run filling s (omega (
          arith,
          le,
          low,
        )) e there ∙ ap known_of holds in
        let constrained : IsConstrained c w.state w.steps t = λ s le i d h. value s (get_or
        c.properties.constraints i d) le (is.properties.constraints i d h) (reached.constraints
        s le i d h) in
        let bad = Any-from_list_any (edge_value c.nodes (run t)) c.properties.bads reached.bad in
        let i : ℕ = bad.0 in
        let there : i < length c.properties.bads = bad.2 in
        let edge : AigEdge = get_or c.properties.bads i (edge_to 0 false) in
        let same : edge ≡ bad.1 = get_or_default c.properties.bads i (edge_to 0 false) bad.1 there
        ∙ bad.3 in
        none t low constrained i (omega (arith, few, there)) (
          there,
          value t edge (omega arith)
              (is.properties.bads i (edge_to 0 false) there) (ap (edge_value c.nodes (run t)) same ∙
              bad.4),
        )
