-- A circuit has a witness where it has one without the latches that its query's cone doesn't reach.
use Rattle.aig_base.proofs.Words.{◌≡◌, ℕ, zero, suc, ◌+◌, ◌<◌, Bool, true, false, cond, ◌||◌, Option, Some, None, List, [], ◌∷◌, length, get_or, add-one, refl, sym, ap, ◌∙◌, inr, arith, All, Contains, IfSome, filter, option_to_list, list_any, false≢true, get_or-map, get_or_default, length-map, All-cons, All-filter, All-head, All-nil, All-tail, Contains-get_or}
use Rattle.aig_circuit.specs.declared.edge.AigEdge.{AigEdge}
use Rattle.aig_circuit.specs.declared.node.AigLatch.{AigLatch}
use Rattle.aig_circuit.proofs.Words.{Circuit, IsCircuit, latch_leaves, edge_to, is_in, position_of, edge_value}
use Rattle.aig_renumber.proofs.Kept.{is_in-back, is_in-there}
use Rattle.aig_renumber.proofs.Places.{position_of-get_or}
use Rattle.aig_runs.specs.CircuitQueries.{IsCircuitWitness}
use Rattle.aig_edit_laws.specs.Reduction.{HaveSameWitnesses, IsAskedCone, asked_alone}
use Rattle.aig_edit_laws.proofs.AskedCones.{InCone, bads_in, constraints_in, edge_same, starts_in, step_in}

-- what holds of what a filter keeps holds of each entry that passes
from_filter : {X : Type 0} (test : X → Bool) (P : X → Type 0) (xs : List X)
    → All P (filter test xs) → All (λ x. test x ≡ true → P x) xs
from_filter test P [] all = All-nil (λ x. test x ≡ true → P x)
from_filter test P (x ∷ xs) all = by (test x) refl all (from_filter test P xs)
  where
    by : (b : Bool) → test x ≡ b → All P (cond b (x ∷ filter test xs) (filter test xs))
        → (All P (filter test xs) → All (λ x. test x ≡ true → P x) xs)
        → All (λ x. test x ≡ true → P x) (x ∷ xs)
    by true passes kept rest =
        All-cons (λ x. test x ≡ true → P x) x xs (λ _. All-head P x (filter test xs) kept) (rest (All-tail P x (filter test xs) kept))
    by false fails kept rest =
        All-cons (λ x. test x ≡ true → P x) x xs (λ passes. absurd (false≢true (sym fails ∙ passes))) (rest kept)

-- no latch of a circuit
abbrev no_latch : AigLatch
no_latch = record { input = 0; next = edge_to 0 false; init = None }

-- the latch of a leaf
abbrev latch_of : Circuit → ℕ → AigLatch
latch_of c n = get_or c.latchs (position_of (latch_leaves c.latchs) n) no_latch

latch_of-there : (c : Circuit) → IsCircuit c → (i : ℕ) (d : AigLatch) → i < length c.latchs
    → latch_of c (get_or c.latchs i d).input ≡ get_or c.latchs i d
latch_of-there c is i d low =
    let leaves = latch_leaves c.latchs in
    let at : get_or leaves i 0 ≡ (get_or c.latchs i d).input = get_or-map (λ (l : AigLatch). l.input) c.latchs i d 0 low in
    let count : length leaves ≡ length c.latchs = length-map c.latchs (λ (l : AigLatch). l.input) in
    let place : position_of leaves (get_or c.latchs i d).input ≡ i = ap (position_of leaves) (sym at) ∙ position_of-get_or leaves i is.latchs_distinct (omega (arith, low, count)) in
    ap (λ k. get_or c.latchs k no_latch) place ∙ get_or_default c.latchs i no_latch d low

-- leaf values in the cone, and a value elsewhere
abbrev beside : List ℕ → (ℕ → Bool) → (ℕ → Bool) → ℕ → Bool
beside cone z other n = cond (is_in cone n) (z n) (other n)

beside-in : (cone : List ℕ) (z other : ℕ → Bool) (n : ℕ) → Contains cone n
    → beside cone z other n ≡ z n
beside-in cone z other n has = ap (λ b. cond b (z n) (other n)) (is_in-there cone n has)

beside-out : (cone : List ℕ) (z other : ℕ → Bool) (n : ℕ) → is_in cone n ≡ false
    → beside cone z other n ≡ other n
beside-out cone z other n out = ap (λ b. cond b (z n) (other n)) out

-- the value of an initial edge, if there is one
abbrev start_value : Circuit → (ℕ → Bool) → Option AigEdge → Bool
start_value c z (Some e) = edge_value c.nodes z e
start_value c z None = false

-- a run whose leaves in the cone have these values: each other latch starts and goes on as its
-- edges say
abbrev followed : Circuit → List ℕ → (ℕ → ℕ → Bool) → ℕ → ℕ → Bool
followed c cone z zero = beside cone (z 0) (λ n. start_value c (z 0) (latch_of c n).init)
followed c cone z (suc t) =
    beside cone (z (suc t)) (λ n. edge_value c.nodes (followed c cone z t) (latch_of c n).next)

module _ (c : Circuit) (is : IsCircuit c) (cone : List ℕ) (is_cone : IsAskedCone c cone) where
  forth : (k : ℕ) (x : ℕ → ℕ → Bool) → IsCircuitWitness c k x
      → IsCircuitWitness (asked_alone cone c) k x
  forth k x w = record {
    is_run = λ t h. All-filter (λ (l : AigLatch). is_in cone l.input) (λ l. x (t + 1) l.input ≡ edge_value c.nodes (x t) l.next) c.latchs (w.is_run t h);
    start = All-filter (λ (l : AigLatch). is_in cone l.input) (λ l. IfSome l.init (λ e. edge_value c.nodes (x 0) e ≡ x 0 l.input)) c.latchs w.start;
    constraints = w.constraints;
    bad = w.bad;
  }

  -- the values of latches out of the cone, at step 0 and after step t
  abbrev started : (ℕ → ℕ → Bool) → ℕ → Bool
  started z n = start_value c (z 0) (latch_of c n).init

  abbrev gone : (ℕ → ℕ → Bool) → ℕ → ℕ → Bool
  gone z t n = edge_value c.nodes (followed c cone z t) (latch_of c n).next

  module _ (z : ℕ → ℕ → Bool) where
    abbrev x : ℕ → ℕ → Bool
    x = followed c cone z

    followed-in : (t n : ℕ) → Contains cone n → x t n ≡ z t n
    followed-in zero n has = beside-in cone (z 0) (started z) n has
    followed-in (suc t) n has = beside-in cone (z (suc t)) (gone z t) n has

    -- an edge in the cone has the same value
    same : (t : ℕ) (e : AigEdge) → Contains cone e.node_id
        → edge_value c.nodes (x t) e ≡ edge_value c.nodes (z t) e
    same t e has = edge_same c is cone is_cone (x t) (z t) (followed-in t) e has

    any_same : (t : ℕ) (es : List AigEdge) → All (InCone c is cone is_cone) es
        → list_any (edge_value c.nodes (x t)) es ≡ list_any (edge_value c.nodes (z t)) es
    any_same t [] all = refl
    any_same t (e ∷ es) all =
        ap (λ b. b || list_any (edge_value c.nodes (x t)) es) (same t e (All-head (InCone c is cone is_cone) e es all))
        ∙ ap (λ b. edge_value c.nodes (z t) e || b) (any_same t es (All-tail (InCone c is cone is_cone) e es all))

    abbrev Goes : ℕ → AigLatch → Type 0
    Goes t l = x (t + 1) l.input ≡ edge_value c.nodes (x t) l.next

    goes_in : (t i : ℕ) (d : AigLatch) → i < length c.latchs
        → Contains cone (get_or c.latchs i d).input
        → z (t + 1) (get_or c.latchs i d).input ≡ edge_value c.nodes (z t) (get_or c.latchs i d).next
        → Goes t (get_or c.latchs i d)
    goes_in t i d low has goes =
        let l = get_or c.latchs i d in
        let next = step_in c is cone is_cone l.input l.next.node_id has (inr (l, Contains-get_or c.latchs i d low, refl, refl)) in
        followed-in (t + 1) l.input has ∙ goes ∙ sym (same t l.next next)

    goes_out : (t i : ℕ) (d : AigLatch) → i < length c.latchs
        → is_in cone (get_or c.latchs i d).input ≡ false
        → Goes t (get_or c.latchs i d)
    goes_out t i d low out =
        let l = get_or c.latchs i d in
        ap (λ s. x s l.input) (add-one t)
        ∙ beside-out cone (z (suc t)) (gone z t) l.input out
        ∙ ap (λ (l : AigLatch). edge_value c.nodes (x t) l.next) (latch_of-there c is i d low)

    abbrev Starts : (ℕ → Bool) → Bool → Option AigEdge → Type 0
    Starts y b o = IfSome o (λ e. edge_value c.nodes y e ≡ b)

    starts_here : (b b' : Bool) (o : Option AigEdge)
        → All (InCone c is cone is_cone) (option_to_list o)
        → b ≡ b' → Starts (z 0) b o → Starts (x 0) b' o
    starts_here b b' None there at start = tt
    starts_here b b' (Some e) there at start =
        same 0 e (All-head (InCone c is cone is_cone) e [] there) ∙ start ∙ at

    start_is : (o : Option AigEdge) → Starts (z 0) (start_value c (z 0) o) o
    start_is None = tt
    start_is (Some e) = refl

    starts_out : (i : ℕ) (d : AigLatch) → i < length c.latchs
        → is_in cone (get_or c.latchs i d).input ≡ false
        → Starts (x 0) (x 0 (get_or c.latchs i d).input) (get_or c.latchs i d).init
    starts_out i d low out =
        let l = get_or c.latchs i d in
        let at : start_value c (z 0) l.init ≡ x 0 l.input =
        ap (λ (l : AigLatch). start_value c (z 0) l.init) (sym (latch_of-there c is i d low)) ∙ sym (beside-out cone (z 0) (started z) l.input out) in
        starts_here (start_value c (z 0) l.init) (x 0 l.input) l.init (starts_in c is cone is_cone i d low) at (start_is l.init)

    back : (k : ℕ) → IsCircuitWitness (asked_alone cone c) k z → IsCircuitWitness c k x
    back k w = record {
      is_run = λ t h i d low. run_at t h i d low (is_in cone (get_or c.latchs i d).input) refl;
      start = λ i d low. start_at i d low (is_in cone (get_or c.latchs i d).input) refl;
      constraints = λ t h i d low. same t (get_or c.properties.constraints i d) (constraints_in c is cone is_cone i d low) ∙ w.constraints t h i d low;
      bad = any_same k c.properties.bads (bads_in c is cone is_cone) ∙ w.bad;
    }
      where
        run_at : (t : ℕ) → t < k → (i : ℕ) (d : AigLatch) → i < length c.latchs → (b : Bool)
            → is_in cone (get_or c.latchs i d).input ≡ b → Goes t (get_or c.latchs i d)
        run_at t h i d low true there =
            goes_in t i d low (is_in-back cone _ there) (from_filter (λ (l : AigLatch). is_in cone l.input) (λ (l : AigLatch). z (t + 1) l.input ≡ edge_value c.nodes (z t) l.next) c.latchs (w.is_run t h) i d low there)
        run_at t h i d low false out = goes_out t i d low out

        start_at : (i : ℕ) (d : AigLatch) → i < length c.latchs → (b : Bool)
            → is_in cone (get_or c.latchs i d).input ≡ b
            → Starts (x 0) (x 0 (get_or c.latchs i d).input) (get_or c.latchs i d).init
        start_at i d low true there =
            let l = get_or c.latchs i d in
            starts_here (z 0 l.input) (x 0 l.input) l.init (starts_in c is cone is_cone i d low) (sym (followed-in 0 l.input (is_in-back cone l.input there)))
            (from_filter (λ (l : AigLatch). is_in cone l.input) (λ (l : AigLatch). Starts (z 0) (z 0 l.input) l.init) c.latchs w.start i d low there)
        start_at i d low false out = starts_out i d low out

  pub asked_witnesses : HaveSameWitnesses c (asked_alone cone c)
  asked_witnesses k = ((λ s. (s.0, forth k s.0 s.1)), λ s. (followed c cone s.0, back s.0 k s.1))
