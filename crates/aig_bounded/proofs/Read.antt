-- A run that has given values at places.
use Rattle.aig_base.proofs.Words.{◌≡◌, ◌≢◌, ℕ, zero, suc, ◌<◌, Bool, true, false, ◌&&◌, cond, eqb, Option, Some, None, List, [], ◌∷◌, length, get_or, add-one, refl, sym, ap, ◌∙◌, arith, All, AllPairs, Contains, IfSome, AllZip, eq-eqb, eqb-true, false≢true, same_Some, get_or-map, length-map}
use Rattle.aig_circuit.specs.declared.edge.AigEdge.{AigEdge}
use Rattle.aig_circuit.specs.declared.node.AigLatch.{AigLatch}
use Rattle.aig_circuit.specs.Edges.{HasConstantInit}
use Rattle.aig_circuit.proofs.Words.{edge_to, Circuit, IsCircuit, latch_leaves, IsInitial, IsRun, edge_value}
use Rattle.aig_bounded.specs.declared.place.Place.{Place}
use Rattle.aig_bounded.specs.Question.{IsPlace, ReadsPlaces}
use Rattle.aig_bounded.proofs.Shown.{value-constant}

-- ---- places

-- the value of the input at a place, or false where none is there
at_place : List ℕ → List Place → (ℕ → Bool) → ℕ → ℕ → Bool
at_place [] ps y t n = false
at_place (i ∷ is) [] y t n = false
at_place (i ∷ is) (p ∷ ps) y t n = cond (eqb p.step t && eqb p.leaf n) (y i) (at_place is ps y t n)

same_place : (p q : Place) → p.step ≡ q.step → p.leaf ≡ q.leaf → p ≡ q
same_place p q s l =
    let made : ℕ → ℕ → Place = λ m n. record { step = m; leaf = n } in
    ap (λ m. made m p.leaf) s ∙ ap (made q.step) l

test_same : (a b : ℕ) → (eqb a a && eqb b b) ≡ true
test_same a b = ap (λ v. v && eqb b b) (eq-eqb a a refl) ∙ eq-eqb b b refl

rest_pairs : (p : Place) (ps : List Place) → AllPairs (λ p q. p ≢ q) (p ∷ ps)
    → AllPairs (λ p q. p ≢ q) ps
rest_pairs p ps differ i j d h l = differ (suc i) (suc j) d (omega arith) (omega arith)

first_true : (a b : Bool) → (a && b) ≡ true → a ≡ true
first_true true b h = refl
first_true false b h = h

second_true : (a b : Bool) → (a && b) ≡ true → b ≡ true
second_true true b h = h
second_true false b h = absurd (false≢true h)

-- at another place stands what comes later
next_place : (here value later : Bool) (p q : Place) → p ≢ q → later ≡ value
    → cond (eqb p.step q.step && eqb p.leaf q.leaf) here later ≡ value
next_place here value later p q apart is = by (eqb p.step q.step && eqb p.leaf q.leaf) refl
  where
    by : (b : Bool) → (eqb p.step q.step && eqb p.leaf q.leaf) ≡ b
        → cond (eqb p.step q.step && eqb p.leaf q.leaf) here later ≡ value
    by true t = absurd (apart (same_place p q (eqb-true p.step q.step (first_true (eqb p.step q.step) (eqb p.leaf q.leaf) t)) (eqb-true p.leaf q.leaf (second_true (eqb p.step q.step) (eqb p.leaf q.leaf) t))))
    by false t = ap (λ b. cond b here later) t ∙ is

-- of distinct places each has its input's value
at_place-found : (is : List ℕ) (ps : List Place) (y : ℕ → Bool) (j d : ℕ) (e : Place)
    → length ps ≡ length is → j < length is → AllPairs (λ p q. p ≢ q) ps
    → at_place is ps y (get_or ps j e).step (get_or ps j e).leaf ≡ y (get_or is j d)
unfolding at_place
at_place-found [] ps y j d e same h differ = absurd (omega arith)
at_place-found (i ∷ is) [] y j d e same h differ = absurd (omega arith)
at_place-found (i ∷ is) (p ∷ ps) y zero d e same h differ =
    ap (λ b. cond b (y i) (at_place is ps y p.step p.leaf)) (test_same p.step p.leaf)
at_place-found (i ∷ is) (p ∷ ps) y (suc j) d e same h differ =
    next_place (y i) (y (get_or is j d)) (at_place is ps y (get_or ps j e).step (get_or ps j e).leaf) p (get_or ps j e) (differ 0 (suc j) e (omega arith) (omega arith))
    (at_place-found is ps y j d e (omega arith) (omega arith) (rest_pairs p ps differ))

-- what holds place by place holds of the lists
pub zip_all : (R : ℕ → Place → Type 0) (is : List ℕ) (ps : List Place) → length ps ≡ length is
    → ((j d : ℕ) (e : Place) → j < length is → R (get_or is j d) (get_or ps j e)) → AllZip R is ps
zip_all R [] [] same each = tt
zip_all R [] (p ∷ ps) same each = absurd (omega arith)
zip_all R (i ∷ is) [] same each = absurd (omega arith)
zip_all R (i ∷ is) (p ∷ ps) same each =
    (each 0 i p (omega arith), zip_all R is ps (omega arith) (λ j d e h. each (suc j) d e (omega arith)))

-- the lists are as long
pub zip_length : (R : ℕ → Place → Type 0) (is : List ℕ) (ps : List Place) → AllZip R is ps
    → length ps ≡ length is
zip_length R [] [] zip = refl
zip_length R [] (p ∷ ps) zip = absurd zip
zip_length R (i ∷ is) [] zip = absurd zip
zip_length R (i ∷ is) (p ∷ ps) zip = let rest = zip_length R is ps zip.1 in omega (arith, rest)

-- ---- latches

-- the latch of a leaf, if there is one
pub latch_at : List AigLatch → ℕ → Option AigLatch
latch_at [] n = None
latch_at (l ∷ ls) n = cond (eqb l.input n) (Some l) (latch_at ls n)

-- the latch of another leaf comes later
next_latch : (l : AigLatch) (n : ℕ) (later : Option AigLatch) (latch : AigLatch) → l.input ≢ n
    → later ≡ Some latch → cond (eqb l.input n) (Some l) later ≡ Some latch
next_latch l n later latch apart is = by (eqb l.input n) refl
  where
    by : (b : Bool) → eqb l.input n ≡ b → cond (eqb l.input n) (Some l) later ≡ Some latch
    by true t = absurd (apart (eqb-true l.input n t))
    by false t = ap (λ b. cond b (Some l) later) t ∙ is

pub latch_at-found : (ls : List AigLatch) (i : ℕ) (d : AigLatch) → i < length ls
    → AllPairs (λ m n. m ≢ n) (latch_leaves ls)
    → latch_at ls (get_or ls i d).input ≡ Some (get_or ls i d)
unfolding latch_at
latch_at-found [] i d h differ = absurd (omega arith)
latch_at-found (l ∷ ls) zero d h differ = ap (λ b. cond b (Some l) (latch_at ls l.input)) (eq-eqb l.input l.input refl)
latch_at-found (l ∷ ls) (suc i) d h differ =
    next_latch l (get_or ls i d).input (latch_at ls (get_or ls i d).input) (get_or ls i d)
    (λ e. differ 0 (suc i) 0 (omega arith) (omega (arith, length-map ls (λ (l : AigLatch). l.input))) (e ∙ sym (get_or-map (λ (l : AigLatch). l.input) ls i d 0 (omega arith))))
    (latch_at-found ls i d (omega arith) (λ i j d h m. differ (suc i) (suc j) d (omega arith) (omega arith)))

-- a latch that is found is one of the leaf
latch_at-back : (ls : List AigLatch) (n : ℕ) (latch : AigLatch) → latch_at ls n ≡ Some latch
    → Contains ls latch × (latch.input ≡ n)
unfolding latch_at
latch_at-back [] n latch is = cc
latch_at-back (l ∷ ls) n latch is = by (latch_at-back ls n latch) (eqb l.input n) refl
  where
    by : (latch_at ls n ≡ Some latch → Contains ls latch × (latch.input ≡ n)) → (b : Bool)
        → eqb l.input n ≡ b → Contains (l ∷ ls) latch × (latch.input ≡ n)
    by early true t =
        let found : Some l ≡ Some latch = sym (ap (λ b. cond b (Some l) (latch_at ls n)) t) ∙ is in
        let same : l ≡ latch = same_Some _ _ found in
        ((0, omega arith, same), sym (ap (λ (l : AigLatch). l.input) same) ∙ eqb-true l.input n t)
    by early false t =
        let rest = early (sym (ap (λ b. cond b (Some l) (latch_at ls n)) t) ∙ is) in
        ((suc rest.0.0, omega (arith, rest.0.1), rest.0.2), rest.1)

-- ---- the run

module _ (c : Circuit) (circuit : IsCircuit c) (starts : All HasConstantInit c.latchs)
    (inputs : List ℕ) (places : List Place) (y : ℕ → Bool) where
  -- a leaf's value at the start: a latch's constant, or what the input there has
  starting : ℕ → Option AigEdge → Bool
  starting n None = at_place inputs places y 0 n
  starting n (Some e) = e.compl

  start_of : ℕ → Option AigLatch → Bool
  start_of n None = at_place inputs places y 0 n
  start_of n (Some latch) = starting n latch.init

  -- a leaf's value at a later step, after these values: a latch's next edge, or what the input there has
  after : (ℕ → Bool) → ℕ → ℕ → Option AigLatch → Bool
  after x t n None = at_place inputs places y t n
  after x t n (Some latch) = edge_value c.nodes x latch.next

  built : ℕ → ℕ → Bool
  built zero n = start_of n (latch_at c.latchs n)
  built (suc t) n = after (built t) (suc t) n (latch_at c.latchs n)

  built_is_run : (last : ℕ) → IsRun c last built
  unfolding built after
  built_is_run last t l i d h =
      let latch = get_or c.latchs i d in
      ap (λ u. built u latch.input) (add-one t)
      ∙ ap (after (built t) (suc t) latch.input) (latch_at-found c.latchs i d h circuit.latchs_distinct)

  start_is : (n : ℕ) (init : Option AigEdge) → IfSome init (λ e. e.node_id ≡ 0) → (value : Bool)
      → ((e : AigEdge) → init ≡ Some e → value ≡ e.compl)
      → IfSome init (λ e. edge_value c.nodes (built 0) e ≡ value)
  start_is n None constant value is = tt
  start_is n (Some e) constant value is =
      let same : edge_to 0 e.compl ≡ e = ap (λ m. edge_to m e.compl) (sym constant) in
      sym (ap (edge_value c.nodes (built 0)) same) ∙ value-constant c.nodes circuit.nodes (built 0) e.compl ∙ sym (is e refl)

  built_state : (k : ℕ) (d : AigLatch) (e : AigEdge) → k < length c.latchs
      → (get_or c.latchs k d).init ≡ Some e
      → built 0 (get_or c.latchs k d).input ≡ e.compl
  unfolding built start_of starting
  built_state k d e h is =
      let latch = get_or c.latchs k d in
      ap (start_of latch.input) (latch_at-found c.latchs k d h circuit.latchs_distinct) ∙ ap (starting latch.input) is

  built_starts : IsInitial c (built 0)
  built_starts i d h =
      let latch = get_or c.latchs i d in
      start_is latch.input latch.init (starts i d h) (built 0 latch.input) (λ e is. built_state i d e h is)

  -- at a place the run has the input's value
  built_at : (p : Place) → IsPlace c p → built p.step p.leaf ≡ at_place inputs places y p.step p.leaf
  unfolding built start_of starting after
  built_at p is = by (latch_at c.latchs p.leaf) refl p.step refl
    where
      by : (o : Option AigLatch) → latch_at c.latchs p.leaf ≡ o → (t : ℕ) → p.step ≡ t
          → built t p.leaf ≡ at_place inputs places y t p.leaf
      by None found zero step = ap (start_of p.leaf) found
      by None found (suc t) step = ap (after (built t) (suc t) p.leaf) found
      by (Some latch) found zero step =
          let back = latch_at-back c.latchs p.leaf latch found in
          let start = is.start latch back.0 back.1 in
          ap (start_of p.leaf) found ∙ ap (starting p.leaf) start.1
      by (Some latch) found (suc t) step =
          let back = latch_at-back c.latchs p.leaf latch found in
          let start = is.start latch back.0 back.1 in
          absurd (omega (arith, start.0, step))

  built_reads : length places ≡ length inputs → AllPairs (λ p q. p ≢ q) places
      → All (IsPlace c) places → ReadsPlaces inputs places y built
  built_reads same differ are =
      zip_all (λ n p. y n ≡ built p.step p.leaf) inputs places same (λ j d e h.
      sym (built_at (get_or places j e) (are j e (omega arith)) ∙ at_place-found inputs places y j d e same h differ))

  -- so there is a run that has y at the places
  pub run_of : (last : ℕ) → length places ≡ length inputs → AllPairs (λ p q. p ≢ q) places
      → All (IsPlace c) places
      → (run : ℕ → ℕ → Bool) × IsRun c last run × IsInitial c (run 0)
      × ReadsPlaces inputs places y run
  run_of last same differ are = (built, built_is_run last, built_starts, built_reads same differ are)
