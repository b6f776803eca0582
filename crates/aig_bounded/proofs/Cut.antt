-- A question that is cut to what its output reaches.
use Rattle.aig_base.proofs.Words.{◌≡◌, ◌≢◌, ℕ, zero, suc, ◌+◌, ◌<◌, ◌≤◌, Bool, true, false, cond, eqb, IsTrue, List, [], ◌∷◌, length, map, get_or, refl, sym, ap, subst, ◌∙◌, inl, inr, arith, All, AllPairs, Contains, filter, is_some, contains_key, get-empty, eq-eqb, eqb-true, false≢true, true≢false, All-cons, All-nil, Contains-append_left, Contains-get_or, same_Some}
use Rattle.std.specs.Ordering.{nat_cmp}
use Rattle.aig_circuit.specs.declared.edge.AigEdge.{AigEdge}
use Rattle.aig_circuit.specs.declared.node.AigNodeType.TheVariants.{False, Leaf}
use Rattle.aig_circuit.proofs.Words.{kind_at, Circuit, IsCircuit, IsClosed, IsInRange, IsLatch, IsLeaf, DependsOn, IsFanin, IsInCone, IsReached, root, step, is_in, position_of, renumbered_edge, IsInitial, IsRun, edge_value}
use Rattle.aig_circuit.proofs.Trees.{kind_at-within}
use Rattle.aig_circuit.proofs.Values.{edge_value_by_leaves}
use Rattle.aig_renumber.proofs.Kept.{is_in-back, is_in-there}
use Rattle.aig_renumber.proofs.NodesInOrder.{IsLeaf-back, Merges-numbers, length-nodes_in_order}
use Rattle.aig_renumber.proofs.Places.{Contains-map}
use Rattle.aig_cone.proofs.Keeping.{Numbers-kept, S, kept-few, reached_within}
use Rattle.aig_cone.specs.Refine.{AreKept, CutsRuns, cut_to, refined, refining_roots}
use Rattle.aig_bounded.specs.declared.frames.Frames.{Frames}
use Rattle.aig_bounded.specs.declared.place.Place.{Place}
use Rattle.aig_bounded.specs.Steps.{reached_to}
use Rattle.aig_circuit.specs.Edges.{HasConstantInit}
use Rattle.aig_bounded.specs.Exact.{IsExact}
use Rattle.aig_bounded.specs.Question.{IsPlace, IsQuestion, ReadsPlaces}
use Rattle.aig_bounded.specs.Frames.{AreFrames, IsBefore, Shows, net_of}
use Rattle.aig_bounded.specs.Cut.{IsCutOf, KeepsReached, marked_places, whole_question}
use Rattle.aig_bounded.proofs.Reached.{reached_reaches}
use Rattle.aig_bounded.proofs.Read.{run_of, zip_all}

-- ---- places that are kept

pairs_head : (p : Place) (ps : List Place) → AllPairs (λ p q. p ≢ q) (p ∷ ps) → All (λ q. p ≢ q) ps
pairs_head p ps pairs k d h = pairs 0 (suc k) d (omega arith) (omega arith)

pairs_tail : (p : Place) (ps : List Place) → AllPairs (λ p q. p ≢ q) (p ∷ ps)
    → AllPairs (λ p q. p ≢ q) ps
pairs_tail p ps pairs i j d h l = pairs (suc i) (suc j) d (omega arith) (omega arith)

pairs_cons : (p : Place) (ps : List Place) → All (λ q. p ≢ q) ps → AllPairs (λ p q. p ≢ q) ps
    → AllPairs (λ p q. p ≢ q) (p ∷ ps)
pairs_cons p ps all pairs zero zero d h l = absurd (omega arith)
pairs_cons p ps all pairs zero (suc j) d h l = all j d (omega arith)
pairs_cons p ps all pairs (suc i) zero d h l = absurd (omega arith)
pairs_cons p ps all pairs (suc i) (suc j) d h l = pairs i j d (omega arith) (omega arith)

all_tail : (P : Place → Type 0) (p : Place) (ps : List Place) → All P (p ∷ ps) → All P ps
all_tail P p ps all k d h = all (suc k) d (omega arith)

all_if : (P : Place → Type 0) (b : Bool) (p : Place) (ps : List Place) → P p → All P ps
    → All P (cond b (p ∷ ps) ps)
all_if P true p ps here all = All-cons P p ps here all
all_if P false p ps here all = all

all_marked : (P : Place → Type 0) (marks : List Bool) (is : List ℕ) (ps : List Place) → All P ps
    → All P (marked_places marks is ps)
all_marked P marks [] ps all = All-nil P
all_marked P marks (i ∷ is) [] all = All-nil P
all_marked P marks (i ∷ is) (p ∷ ps) all =
    all_if P (get_or marks i false) p (marked_places marks is ps) (all 0 p (omega arith)) (all_marked P marks is ps (all_tail P p ps all))

pairs_if : (b : Bool) (p : Place) (ps : List Place) → All (λ q. p ≢ q) ps
    → AllPairs (λ p q. p ≢ q) ps → AllPairs (λ p q. p ≢ q) (cond b (p ∷ ps) ps)
pairs_if true p ps all pairs = pairs_cons p ps all pairs
pairs_if false p ps all pairs = pairs

pairs_marked : (marks : List Bool) (is : List ℕ) (ps : List Place) → AllPairs (λ p q. p ≢ q) ps
    → AllPairs (λ p q. p ≢ q) (marked_places marks is ps)
pairs_marked marks [] ps pairs = λ i j d h l. absurd (omega arith)
pairs_marked marks (i ∷ is) [] pairs = λ i j d h l. absurd (omega arith)
pairs_marked marks (i ∷ is) (p ∷ ps) pairs =
    pairs_if (get_or marks i false) p (marked_places marks is ps) (all_marked (λ q. p ≢ q) marks is ps (pairs_head p ps pairs)) (pairs_marked marks is ps (pairs_tail p ps pairs))

-- ---- inputs that are kept, and their places

module _ (kept : List ℕ) (marks : List Bool) (number : ℕ → ℕ) (y : ℕ → Bool)
    (run : ℕ → ℕ → Bool) where
  -- an input is kept where it is marked
  abbrev Agrees : List ℕ → Type 0
  Agrees is = All (λ n. is_in kept n ≡ get_or marks n false) is

  agrees_tail : (i : ℕ) (is : List ℕ) → Agrees (i ∷ is) → Agrees is
  agrees_tail i is agrees k d h = agrees (suc k) d (omega arith)

  length_if : (b m : Bool) → b ≡ m → (i : ℕ) (p : Place) (fs : List ℕ) (qs : List Place)
      → length qs ≡ length (map number fs)
      → length (cond m (p ∷ qs) qs) ≡ length (map number (cond b (i ∷ fs) fs))
  length_if true true e i p fs qs same = omega arith
  length_if true false e i p fs qs same = absurd (true≢false e)
  length_if false true e i p fs qs same = absurd (false≢true e)
  length_if false false e i p fs qs same = same

  length_kept : (is : List ℕ) (ps : List Place) → Agrees is → length ps ≡ length is
      → length (marked_places marks is ps) ≡ length (map number (filter (is_in kept) is))
  length_kept [] ps agrees same = refl
  length_kept (i ∷ is) [] agrees same = absurd (omega arith)
  length_kept (i ∷ is) (p ∷ ps) agrees same =
      length_if (is_in kept i) (get_or marks i false) (agrees 0 i (omega arith)) i p (filter (is_in kept) is) (marked_places marks is ps)
      (length_kept is ps (agrees_tail i is agrees) (omega arith))

  reads_rest : (b m : Bool) → b ≡ m → (i : ℕ) (p : Place) (fs : List ℕ) (qs : List Place)
      → ReadsPlaces (map number (cond b (i ∷ fs) fs)) (cond m (p ∷ qs) qs) y run
      → ReadsPlaces (map number fs) qs y run
  reads_rest true true e i p fs qs reads = reads.1
  reads_rest true false e i p fs qs reads = absurd (true≢false e)
  reads_rest false true e i p fs qs reads = absurd (false≢true e)
  reads_rest false false e i p fs qs reads = reads

  reads_head : (b m : Bool) → b ≡ m → b ≡ true → (i : ℕ) (p : Place) (fs : List ℕ)
      (qs : List Place) → ReadsPlaces (map number (cond b (i ∷ fs) fs)) (cond m (p ∷ qs) qs) y run
      → y (number i) ≡ run p.step p.leaf
  reads_head true true e t i p fs qs reads = reads.0
  reads_head true false e t i p fs qs reads = absurd (true≢false e)
  reads_head false m e t i p fs qs reads = absurd (false≢true t)

  -- the run's value at the place of an input
  pub place_value : List ℕ → List Place → ℕ → Bool
  place_value [] ps n = false
  place_value (i ∷ is) [] n = false
  place_value (i ∷ is) (p ∷ ps) n = cond (eqb i n) (run p.step p.leaf) (place_value is ps n)

  -- a kept input has that value
  reads_at : (is : List ℕ) (ps : List Place) → Agrees is → length ps ≡ length is
      → ReadsPlaces (map number (filter (is_in kept) is)) (marked_places marks is ps) y run
      → (n : ℕ) → Contains is n → is_in kept n ≡ true → y (number n) ≡ place_value is ps n
  unfolding place_value
  reads_at [] ps agrees same reads n has there = absurd (omega (arith, has.1))
  reads_at (i ∷ is) [] agrees same reads n has there = absurd (omega arith)
  reads_at (i ∷ is) (p ∷ ps) agrees same reads n has there =
      by (λ in_rest. reads_at is ps (agrees_tail i is agrees) (omega arith) (reads_rest (is_in kept i) (get_or marks i false) (agrees 0 i (omega arith)) i p (filter (is_in kept) is) (marked_places marks is ps) reads) n in_rest there) (eqb i n) refl
    where
      here : is_in kept i ≡ get_or marks i false
      here = agrees 0 i (omega arith)

      later : i ≢ n → (k : ℕ) → k < length (i ∷ is) → get_or (i ∷ is) k n ≡ n → Contains is n
      later ne zero h e = absurd (ne e)
      later ne (suc k) h e = (k, omega arith, e)

      by : (Contains is n → y (number n) ≡ place_value is ps n) → (b : Bool) → eqb i n ≡ b
          → y (number n) ≡ cond (eqb i n) (run p.step p.leaf) (place_value is ps n)
      by early true t =
          let same : i ≡ n = eqb-true i n t in
          ap (λ m. y (number m)) (sym same)
          ∙ reads_head (is_in kept i) (get_or marks i false) here (ap (is_in kept) same ∙ there) i p (filter (is_in kept) is) (marked_places marks is ps) reads
          ∙ sym (ap (λ b. cond b (run p.step p.leaf) (place_value is ps n)) t)
      by early false t =
          let ne : i ≢ n = λ e. false≢true (sym t ∙ eq-eqb i n e) in
          early (later ne has.0 has.1 has.2)
          ∙ sym (ap (λ b. cond b (run p.step p.leaf) (place_value is ps n)) t)

  later_value : (i n : ℕ) (here later value : Bool) → i ≢ n → later ≡ value
      → cond (eqb i n) here later ≡ value
  later_value i n here later value apart is = by (eqb i n) refl
    where
      by : (b : Bool) → eqb i n ≡ b → cond (eqb i n) here later ≡ value
      by true t = absurd (apart (eqb-true i n t))
      by false t = ap (λ b. cond b here later) t ∙ is

  place_value-found : (is : List ℕ) (ps : List Place) (j d : ℕ) (e : Place) → length ps ≡ length is
      → j < length is → AllPairs (λ m n. m ≢ n) is
      → place_value is ps (get_or is j d) ≡ run (get_or ps j e).step (get_or ps j e).leaf
  unfolding place_value
  place_value-found [] ps j d e same h differ = absurd (omega arith)
  place_value-found (i ∷ is) [] j d e same h differ = absurd (omega arith)
  place_value-found (i ∷ is) (p ∷ ps) zero d e same h differ =
      ap (λ b. cond b (run p.step p.leaf) (place_value is ps i)) (eq-eqb i i refl)
  place_value-found (i ∷ is) (p ∷ ps) (suc j) d e same h differ =
      later_value i (get_or is j d) (run p.step p.leaf) (place_value is ps (get_or is j d)) (run (get_or ps j e).step (get_or ps j e).leaf)
      (differ 0 (suc j) d (omega arith) (omega arith))
      (place_value-found is ps j d e (omega arith) (omega arith) (λ a b d h l. differ (suc a) (suc b) d (omega arith) (omega arith)))

  -- the inputs read the run by these values
  pub reads_whole : (is : List ℕ) (ps : List Place) → length ps ≡ length is
      → AllPairs (λ m n. m ≢ n) is → ReadsPlaces is ps (place_value is ps) run
  reads_whole is ps same differ =
      zip_all (λ n p. place_value is ps n ≡ run p.step p.leaf) is ps same (λ j d e h. place_value-found is ps j d e same h differ)

-- ---- a kept number among others

contains_filter : (t : ℕ → Bool) (ns : List ℕ) (n : ℕ) → Contains ns n → t n ≡ true
    → Contains (filter t ns) n
contains_filter t [] n has pass = absurd (omega (arith, has.1))
contains_filter t (m ∷ ns) n has pass =
    at (λ in_rest. contains_filter t ns n in_rest pass) has.0 has.1 has.2
  where
    first : (b : Bool) → b ≡ true → m ≡ n → Contains (cond b (m ∷ filter t ns) (filter t ns)) n
    first true p e = (0, omega arith, e)
    first false p e = absurd (false≢true p)

    next : (b : Bool) → Contains (filter t ns) n
        → Contains (cond b (m ∷ filter t ns) (filter t ns)) n
    next true h = (suc h.0, omega (arith, h.1), h.2)
    next false h = h

    at : (Contains ns n → Contains (filter t ns) n) → (k : ℕ) → k < length (m ∷ ns)
        → get_or (m ∷ ns) k n ≡ n → Contains (filter t (m ∷ ns)) n
    at early zero h e = first (t m) (ap t e ∙ pass) e
    at early (suc k) h e = next (t m) (early (k, omega arith, e))

-- ---- the whole question

module _ (c : Circuit) (u n : ℕ) (f : Frames) (output : AigEdge) (are : AreFrames c u n f)
    (there : IsInRange f.nodes.items output) where
  nothing_named : (m : ℕ) → IsTrue (contains_key (whole_question (net_of f) output).names m) → ⊥
  nothing_named m h = false≢true (sym (ap is_some (get-empty nat_cmp m)) ∙ h)

  pub IsCircuit-whole : IsCircuit (whole_question (net_of f) output)
  IsCircuit-whole = record {
    nodes = are.shared.gates.sound;
    inputs = are.inputs;
    inputs_distinct = λ i j d h l e. omega (arith, are.rising i j d h l, e);
    latchs = All-nil (IsLatch f.nodes.items);
    latchs_distinct = λ i j d h l. absurd (omega arith);
    apart = All-nil (λ m. ¬ Contains f.inputs.items m);
    properties = record {
      outputs = All-cons (IsInRange f.nodes.items) output [] there (All-nil (IsInRange f.nodes.items));
      bads = All-nil (IsInRange f.nodes.items);
      constraints = All-nil (IsInRange f.nodes.items);
      justice = All-nil (All (IsInRange f.nodes.items));
      fairness = All-nil (IsInRange f.nodes.items);
    };
    named = λ m h. absurd (nothing_named m h);
  }

-- ---- the cut

module _ (c : Circuit) (k : ℕ) (f : Frames) (output : AigEdge)
    (circuit : IsCircuit c) (starts : All HasConstantInit c.latchs) (are : AreFrames c (k + 1) 0 f)
    (shows : Shows c k f output (λ run. reached_to c run (k + 1))) (places : List Place)
    (keeps : KeepsReached (net_of f) output places) (kept : List ℕ)
    (are_kept : AreKept (whole_question (net_of f) output) kept)
    (is_made : IsCircuit (refined kept (whole_question (net_of f) output)))
    (cuts : CutsRuns (whole_question (net_of f) output) (refined kept (whole_question (net_of f) output)) kept)
    (exact : IsExact c k (refined kept (whole_question (net_of f) output)) places) where
  abbrev whole : Circuit
  whole = whole_question (net_of f) output

  abbrev made : Circuit
  made = refined kept whole

  abbrev number : ℕ → ℕ
  number = position_of kept

  is_whole : IsCircuit whole
  is_whole = IsCircuit-whole c (k + 1) 0 f output are shows.there

  abbrev roots : List ℕ
  roots = output.node_id ∷ []

  same_roots : refining_roots whole ≡ roots
  same_roots = refl

  forth : (n : ℕ) → IsReached (DependsOn whole) roots n → IsReached (IsFanin f.nodes.items) roots n
  forth = reached_within (IsReached (IsFanin f.nodes.items) roots) (λ n h. root h) along
    where
      along : (n m : ℕ) → IsReached (IsFanin f.nodes.items) roots n → DependsOn whole n m
          → IsReached (IsFanin f.nodes.items) roots m
      along n m h (inl fanin) = step h fanin
      along n m h (inr (latch, has, from, to)) = absurd (omega (arith, has.1))

  back : (n : ℕ) → IsReached (IsFanin f.nodes.items) roots n → IsReached (DependsOn whole) roots n
  back = reached_within (IsReached (DependsOn whole) roots) (λ n h. root h) (λ n m h fanin. step h (inl fanin))

  leaf_not_first : (n : ℕ) → IsLeaf f.nodes.items n → n ≢ 0
  leaf_not_first n leaf zero_is =
      differ (same_Some _ _ (sym leaf ∙ ap (kind_at f.nodes.items) zero_is ∙ are.shared.gates.sound.false_first))
    where
      differ : Leaf ≡ False → ⊥
      differ e = cc

  agree : (n : ℕ) → IsLeaf f.nodes.items n → is_in kept n ≡ get_or keeps.marks n false
  agree n leaf = by (is_in kept n) refl (get_or keeps.marks n false) refl
    where
      within : n < length f.nodes.items
      within = kind_at-within f.nodes.items n Leaf leaf

      in_cone : IsInCone whole roots n → IsReached (IsFanin f.nodes.items) roots n
      in_cone (inl zero_is) = absurd (leaf_not_first n leaf zero_is)
      in_cone (inr reached) = forth n reached

      by : (b : Bool) → is_in kept n ≡ b → (m : Bool) → get_or keeps.marks n false ≡ m
          → is_in kept n ≡ get_or keeps.marks n false
      by true there true marked = there ∙ sym marked
      by true there false unmarked =
          let mark = (keeps.reached.exactly n within).1 (in_cone ((are_kept.exactly n).0 (is_in-back kept n there))) in
          absurd (false≢true (sym unmarked ∙ mark))
      by false gone true marked =
          let has = (are_kept.exactly n).1 (inr (back n ((keeps.reached.exactly n within).0 marked))) in
          absurd (false≢true (sym gone ∙ is_in-there kept n has))
      by false gone false unmarked = gone ∙ sym unmarked

  agrees : All (λ n. is_in kept n ≡ get_or keeps.marks n false) f.inputs.items
  agrees j d h = agree (get_or f.inputs.items j d) (are.inputs j d h)

  -- ---- leaves of the cut

  -- a leaf of the cut is a kept input
  leaf_of : (m : ℕ) → IsLeaf made.nodes m
      → (m < length kept) × IsLeaf f.nodes.items (get_or kept m 0)
  leaf_of m leaf =
      IsLeaf-back f.nodes.items (S whole kept is_whole are_kept) kept number (Merges-numbers f.nodes.items (S whole kept is_whole are_kept) kept number (Numbers-kept whole kept is_whole are_kept)) m leaf

  number_back : (m : ℕ) → m < length kept → number (get_or kept m 0) ≡ m
  number_back m h = (Numbers-kept whole kept is_whole are_kept).place m h

  kept_there : (m : ℕ) → m < length kept → is_in kept (get_or kept m 0) ≡ true
  kept_there m h = is_in-there kept (get_or kept m 0) (Contains-get_or kept m 0 h)

  closed : IsClosed made
  closed m leaf =
      let old = leaf_of m leaf in
      let n = get_or kept m 0 in
      let among = contains_filter (is_in kept) f.inputs.items n (are.closed n old.1) (kept_there m old.0) in
      Contains-append_left made.inputs [] m
      (subst (Contains made.inputs) (number_back m old.0) (Contains-map number (filter (is_in kept) f.inputs.items) n among))

  same_length : length places ≡ length made.inputs
  same_length =
      ap length keeps.exact
      ∙ length_kept kept keeps.marks number (λ n. false) (λ t n. false) f.inputs.items f.places.items agrees are.count

  -- ---- its value

  value : (run : ℕ → ℕ → Bool) (y : ℕ → Bool) → IsRun c k run → IsInitial c (run 0)
      → ReadsPlaces made.inputs places y run
      → edge_value made.nodes y (renumbered_edge number output)
      ≡ reached_to c run (k + 1)
  value run y is start reads =
      edge_value_by_leaves made.nodes is_made.nodes.ordered y (cut_to kept x) leaves (renumbered_edge number output)
      ∙ sym (cuts.properties x).outputs.0
      ∙ shows.shown x run is start (reads_whole kept keeps.marks number y run f.inputs.items f.places.items are.count is_whole.inputs_distinct)
    where
      x : ℕ → Bool
      x = place_value kept keeps.marks number y run f.inputs.items f.places.items

      marked_reads : ReadsPlaces (map number (filter (is_in kept) f.inputs.items)) (marked_places keeps.marks f.inputs.items f.places.items) y run
      marked_reads = subst (λ ps. ReadsPlaces made.inputs ps y run) keeps.exact reads

      leaves : (m : ℕ) → IsLeaf made.nodes m → y m ≡ cut_to kept x m
      leaves m leaf =
          let old = leaf_of m leaf in
          let n = get_or kept m 0 in
          ap y (sym (number_back m old.0))
          ∙ reads_at kept keeps.marks number y run f.inputs.items f.places.items agrees are.count marked_reads n (are.closed n old.1) (kept_there m old.0)

  low : (p : Place) → IsBefore (k + 1) 0 p → p.step ≤ k
  low p (inl less) = omega (arith, less)
  low p (inr both) = absurd (omega (arith, both.1))

  are_places : All (IsPlace c) places
  are_places = subst (All (IsPlace c)) (sym keeps.exact) (all_marked (IsPlace c) keeps.marks f.inputs.items f.places.items are.places)

  distinct : AllPairs (λ p q. p ≢ q) places
  distinct = subst (AllPairs (λ p q. p ≢ q)) (sym keeps.exact) (pairs_marked keeps.marks f.inputs.items f.places.items are.distinct)

  pub IsQuestion-refined : IsQuestion c k made (renumbered_edge number output) places
  IsQuestion-refined = record {
    circuit = is_made;
    closed = closed;
    latchs = refl;
    properties = refl;
    are_places = are_places;
    steps = subst (All (λ (p : Place). p.step ≤ k)) (sym keeps.exact) (all_marked (λ p. p.step ≤ k) keeps.marks f.inputs.items f.places.items (λ j d h. low (get_or f.places.items j d) (are.before j d h)));
    distinct = distinct;
    value = λ run y is start reads.
        let same = value run y is start reads in
        let either = reached_reaches c run k in
        (λ h. either.0 (sym same ∙ h), λ r. same ∙ either.1 r);
    runs = λ y. run_of c circuit starts made.inputs places y k same_length distinct are_places;
    exact = exact;
  }

-- the question of what is cut
pub IsQuestion-cut : (c : Circuit) (k : ℕ) (f : Frames) (output : AigEdge) (new : Circuit)
    (places : List Place) → IsCircuit c → All HasConstantInit c.latchs → AreFrames c (k + 1) 0 f
    → Shows c k f output (λ run. reached_to c run (k + 1)) → IsCutOf (net_of f) output new places
    → ((d : Circuit) (kept : List ℕ) → IsCircuit d → AreKept d kept → IsCircuit (refined kept d))
    → ((d : Circuit) (kept : List ℕ) → IsCircuit d → AreKept d kept
    → CutsRuns d (refined kept d) kept)
    → IsExact c k new places → (e : AigEdge) × IsQuestion c k new e places
IsQuestion-cut c k f output new places circuit starts are shows cut makes cuts exact =
    let whole = whole_question (net_of f) output in
    let is = IsCircuit-whole c (k + 1) 0 f output are shows.there in
    let e = renumbered_edge (position_of cut.nodes.kept) output in
    let all = IsQuestion-refined c k f output circuit starts are shows places cut.keeps cut.nodes.kept cut.nodes.are_kept (makes whole cut.nodes.kept is cut.nodes.are_kept) (cuts whole cut.nodes.kept is cut.nodes.are_kept) (subst (λ d. IsExact c k d places) cut.nodes.exact exact) in
    (e, subst (λ d. IsQuestion c k d e places) (sym cut.nodes.exact) all)

-- it has no more nodes than there may be
pub small_cut : (c : Circuit) (u n : ℕ) (f : Frames) (output : AigEdge) (new : Circuit)
    (places : List Place) → AreFrames c u n f → IsInRange f.nodes.items output
    → IsCutOf (net_of f) output new places → length new.nodes ≤ f.limit
small_cut c u n f output new places are there cut =
    let whole = whole_question (net_of f) output in
    let is = IsCircuit-whole c u n f output are there in
    let kept = cut.nodes.kept in
    let few = kept-few whole kept is cut.nodes.are_kept in
    omega (arith, length-nodes_in_order f.nodes.items (position_of kept) 0 kept, few, are.shared.few, ap (λ (d : Circuit). length d.nodes) cut.nodes.exact)
