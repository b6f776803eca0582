-- An assignment that satisfies the clauses of a window is a window with a bad literal at its end.
use Rattle.aig_answers.proofs.Words.{◌≡◌, ℕ, zero, suc, ◌+◌, ◌*◌, ◌<◌, ◌≤◌, Bool, true, false, not, List, [], ◌∷◌, ◌++◌, length, map, take, drop, IsTrue, Some, refl, sym, ap, subst, ◌∙◌, arith, AllByRecursion, AllZip, list_any, mul-le-mul_right, and_parts, false≢true, length-map, All-cons, All-nil, list_all-append, same_Some, slice_get_within, map-map, replicate, Lit, Satisfies, are_true, is_true_clause, IsSatisfiable, clauses_in, AigEdge, AigLatch, edge_to, lit_of, edge_value, AllZip-map, FixesRoots, edge_in, edge_in-inverse, circuit_of, edge_of, latch_of, File, LatchLine, Fits, IsMachineRun, value_of_literal, node_of_variable, rec_append, values_over, HasValuesAtSteps, UnrollsTo, HasDistinctStates, IsWindow, Regards, last_bads, unit_clauses, IsGood, AsksWindow, count_free, distinct_clauses, first_bads, induction_clauses, state_at, state_edges, states_clauses, window_clauses, Window, Distinct, Plain, Holds, clause_says, stand_all, stand_any, units_say, all_is, get-drop, next_row, rec_from_get}
use Rattle.aig_base.proofs.Words.{◌/◌}
use Rattle.std.specs.Prelude.{slice_get}
use Rattle.aig_circuit.proofs.Words.{Circuit, inverse}
use Rattle.aig_format_laws.proofs.Joining.{back_run, edge_is}
use Rattle.aig_runs.specs.Circuits.{IsOneCircuitRun}
use Rattle.aig_runs.specs.Safety.{IsConstrained}
use Rattle.aig_runs.proofs.CircuitRuns.{assignments_are_runs}
use Rattle.aig_runs.proofs.Standing.{AreAlike, stand_alike}
use Rattle.aig_answers.proofs.Differing.{AreSame, distinct_differ}

-- ---- rows

-- what holds of the first n entries holds of each
in_first : {X : Type 0} (P : X → Type 0) (n : ℕ) (xs : List X) (i : ℕ) (x : X)
    → AllByRecursion P (take n xs) → i < n → slice_get xs i ≡ Some x → P x
in_first P zero xs i x all low is = absurd (omega arith)
in_first P (suc n) [] i x all low is = cc
in_first P (suc n) (y ∷ ys) zero x all low is = subst P (same_Some y x is) all.0
in_first P (suc n) (y ∷ ys) (suc i) x all low is = in_first P n ys i x all.1 (omega arith) is

-- the entries are related to the first of the others, one for one
zip_first : {X Y : Type 0} (R : X → Y → Type 0) (xs : List X) (ys : List Y)
    → ((i : ℕ) (x : X) → slice_get xs i ≡ Some x → (y : Y) × (slice_get ys i ≡ Some y) × R x y)
    → AllZip R xs (take (length xs) ys)
zip_first R [] ys each = tt
zip_first R (x ∷ xs) [] each = let r = each zero x refl in absurd (let is = r.1 in cc)
zip_first R (x ∷ xs) (y ∷ ys) each =
    let r = each zero x refl in (
      subst (R x) (sym (same_Some y r.0 r.1)) r.2,
      zip_first R xs ys (λ i z is. each (suc i) z is),
    )

-- rows of entries with equal values have equal values
rows_same : {E : Type 0} (v : ℕ → Bool) (old other : E → Bool) (entries : List E)
    (xs ys : List AigEdge) → AllZip (λ entry e. edge_in v e ≡ old entry) entries xs
    → AllZip (λ entry e. edge_in v e ≡ other entry) entries ys
    → AllByRecursion (λ entry. old entry ≡ other entry) entries → AreSame v xs ys
rows_same v old other [] [] [] p q same = tt
rows_same v old other [] [] (y ∷ ys) p q same = absurd q
rows_same v old other [] (x ∷ xs) ys p q same = absurd p
rows_same v old other (entry ∷ entries) [] ys p q same = absurd p
rows_same v old other (entry ∷ entries) (x ∷ xs) [] p q same = absurd q
rows_same v old other (entry ∷ entries) (x ∷ xs) (y ∷ ys) p q same =
    (p.0 ∙ same.0 ∙ sym q.0, rows_same v old other entries xs ys p.1 q.1 same.1)

-- edges at steps, and entries with their values
stand_map : {E : Type 0} (k : ℕ) (at : ℕ → AigEdge → Bool) (value : ℕ → E → Bool)
    (new : AigEdge → Bool) (edge : E → AigEdge) (entries : List E) (longer : List AigEdge)
    → ((t : ℕ) (e : E) → at t (edge e) ≡ value t e)
    → HasValuesAtSteps k at (map edge entries) new longer
    → HasValuesAtSteps k value entries new longer
stand_map k at value new edge entries longer same =
    stand_alike k at value new new entries (map edge entries) longer
    (AllZip-map edge (AreAlike k at value new new) entries (λ j d l t h. same t _))
    (λ j d l. refl)

-- edges are false where the unit clauses of their inverses hold
inverses_false : (v : ℕ → Bool) (es : List AigEdge)
    → AllByRecursion (λ e. IsTrue (edge_in v e)) (map inverse es)
    → AllByRecursion (λ e. edge_in v e ≡ false) es
inverses_false v [] hold = tt
inverses_false v (e ∷ es) hold =
    (by (edge_in v e) (sym (edge_in-inverse v e) ∙ hold.0), inverses_false v es hold.1)
  where
    by : (b : Bool) → not b ≡ true → b ≡ false
    by true is = absurd (false≢true is)
    by false is = refl

-- ---- an assignment

-- the clauses of the first variables hold
first_satisfied : (v : ℕ → Bool) (lists more : List (List (List Lit)))
    → IsTrue (are_true v (clauses_in (lists ++ more))) → Satisfies v lists
first_satisfied v [] more hold = All-nil (λ clauses. IsTrue (are_true v clauses))
first_satisfied v (clauses ∷ lists) more hold =
    let both = and_parts (are_true v clauses) (are_true v (clauses_in (lists ++ more)))
    (sym (list_all-append (is_true_clause v) clauses (clauses_in (lists ++ more))) ∙ hold) in
    All-cons (λ some. IsTrue (are_true v some)) clauses lists both.0
    (first_satisfied v lists more both.1)

-- a run that is a window of the form, with a bad literal at its last step
abbrev pub HasBadWindow : Window → File → ℕ → Type 0
HasBadWindow form f k = (run : ℕ → ℕ → Bool) × IsWindow form f k run
    × IsTrue (list_any (value_of_literal (run (k + 1))) f.properties.bads)

-- the circuit, with other outputs
abbrev with_outputs : Circuit → List AigEdge → Circuit
with_outputs c outputs = record c { properties = record c.properties { outputs = outputs } }

-- the circuit unrolled has the file's nodes, latches, bad edges and constraints, and any outputs
module _ (f : File) (limit k : ℕ) (outputs : List AigEdge) (u : Circuit)
    (lists : List (List (List Lit))) (fits : Fits f limit)
    (unrolls : UnrollsTo (with_outputs (circuit_of f) outputs) (k + 1) u)
    (fixes : FixesRoots u lists) (v : ℕ → Bool) (satisfies : Satisfies v lists) where
  abbrev one : IsOneCircuitRun (with_outputs (circuit_of f) outputs) u (k + 1) v
  one = assignments_are_runs (with_outputs (circuit_of f) outputs) u (k + 1) lists unrolls fixes v
      satisfies

  -- the values of edges on the assignment's run
  abbrev at : ℕ → AigEdge → Bool
  at t = edge_value (circuit_of f).nodes (one.run t)

  -- and those of variables
  abbrev run : ℕ → ℕ → Bool
  run = values_over f one.run

  is_run : IsMachineRun f (k + 1) run
  is_run = back_run f limit (k + 1) one.run fits one.is_run

  abbrev value : ℕ → ℕ → Bool
  value t = value_of_literal (run t)

  literals_stand : (entries : List ℕ) (longer : List AigEdge)
      → HasValuesAtSteps (k + 1) at (map (edge_of f) entries) (edge_in v) longer
      → HasValuesAtSteps (k + 1) value entries (edge_in v) longer
  literals_stand entries longer =
      stand_map (k + 1) at value (edge_in v) (edge_of f) entries longer
      (λ t e. edge_is f (one.run t) (run t) e refl)

  constraints_stand : HasValuesAtSteps (k + 1) value f.properties.constraints (edge_in v)
      u.properties.constraints
  constraints_stand = literals_stand f.properties.constraints u.properties.constraints
      one.shows.properties.constraints

  bads_stand : HasValuesAtSteps (k + 1) value f.properties.bads (edge_in v) u.properties.bads
  bads_stand = literals_stand f.properties.bads u.properties.bads one.shows.properties.bads

  -- ---- constraints and bad literals

  module _ (hold : AllByRecursion (Holds v) (induction_clauses (circuit_of f) k u)) where
    abbrev units : List (List Lit)
    units = unit_clauses u.properties.constraints

    abbrev early : List AigEdge
    early = first_bads (circuit_of f) k u

    abbrev last : List Lit
    last = map lit_of (last_bads (circuit_of f) (k + 1) u)

    both : AllByRecursion (Holds v) (units ++ unit_clauses (map inverse early)) × Holds v last
    both =
        let parts = (rec_append (Holds v) (units ++ unit_clauses (map inverse early))
        (last ∷ [])).0 hold in
        (parts.0, parts.1.0)

    front : AllByRecursion (Holds v) units
        × AllByRecursion (Holds v) (unit_clauses (map inverse early))
    front = (rec_append (Holds v) units (unit_clauses (map inverse early))).0 both.0

    count : length (circuit_of f).properties.bads ≡ length f.properties.bads
    count = length-map f.properties.bads (edge_of f)

    constrained : (t : ℕ) → t ≤ k + 1 → IsConstrained f (run t)
    constrained =
        (stand_all (k + 1) value f.properties.constraints (edge_in v) u.properties.constraints
        constraints_stand).0 ((units_say v u.properties.constraints).0 front.0)

    good : (t : ℕ) → t ≤ k → IsGood f (run t)
    good t low =
        let p = length f.properties.bads in
        let IsFalse = λ (e : AigEdge). edge_in v e ≡ false in
        let all = subst (λ n. AllByRecursion IsFalse (take ((k + 1) * n) u.properties.bads)) count
        (inverses_false v early ((units_say v (map inverse early)).0 front.1)) in
        rec_from_get (λ e. value t e ≡ false) f.properties.bads (λ j e is.
        let r = bads_stand.each t j e (omega arith) is in
        let within = slice_get_within f.properties.bads j e is in
        let rows : (t + 1) * p ≤ (k + 1) * p = mul-le-mul_right p (omega arith) in
        let place : t * p + j < (k + 1) * p = omega (arith, within, rows, next_row t p) in
        sym r.2 ∙ in_first IsFalse ((k + 1) * p) u.properties.bads (t * p + j) r.0 all place r.1)

    bad : IsTrue (list_any (value (k + 1)) f.properties.bads)
    bad =
        sym (clause_says v (last_bads (circuit_of f) (k + 1) u)
        ∙ ap (λ n. list_any (edge_in v) (drop ((k + 1) * n) u.properties.bads)) count
        ∙ stand_any (k + 1) value f.properties.bads (edge_in v) u.properties.bads bads_stand)
        ∙ both.1

    bad_window : (form : Window) → Regards form f (k + 1) run → HasBadWindow form f k
    bad_window form states = (
      run,
      record { is_run = is_run; constraints = constrained; good = good; states = states },
      bad,
    )

  -- ---- states

  module _ (are : outputs ≡ state_edges (circuit_of f)) (n : ℕ)
      (hold : AllByRecursion (Holds v)
      (distinct_clauses n (length (circuit_of f).latchs) u.properties.outputs (k + 2))) where
    abbrev leaf : LatchLine → AigEdge
    leaf l = edge_to (node_of_variable f (l.literal / 2)) false

    abbrev state : ℕ → LatchLine → Bool
    state t l = run t (l.literal / 2)

    leaves_are : outputs ≡ map leaf f.latches
    leaves_are =
        let to_leaf = λ (m : ℕ). edge_to m false in
        let leaf_of = λ (latch : AigLatch). latch.input in
        are ∙ ap (map to_leaf) (map-map leaf_of (latch_of f) f.latches)
        ∙ map-map to_leaf (λ l. leaf_of (latch_of f l)) f.latches

    states_stand : HasValuesAtSteps (k + 1) state f.latches (edge_in v) u.properties.outputs
    states_stand =
        stand_map (k + 1) at state (edge_in v) leaf f.latches u.properties.outputs (λ t l. refl)
        (subst (λ es. HasValuesAtSteps (k + 1) at es (edge_in v) u.properties.outputs) leaves_are
        one.shows.properties.outputs)

    -- the edges of the state at step t
    abbrev row : ℕ → List AigEdge
    row t = state_at (length (circuit_of f).latchs) u.properties.outputs t

    row_is : (t : ℕ) → t ≤ k + 1 → AllZip (λ l e. edge_in v e ≡ state t l) f.latches (row t)
    row_is t low =
        let p = length f.latches in
        subst (λ m. AllZip (λ l e. edge_in v e ≡ state t l) f.latches
        (state_at m u.properties.outputs t)) (sym (length-map f.latches (latch_of f)))
        (zip_first (λ l e. edge_in v e ≡ state t l) f.latches (drop (t * p) u.properties.outputs)
        (λ j l is.
        let r = states_stand.each t j l low is in
        (r.0, get-drop (t * p) u.properties.outputs j ∙ r.1, r.2)))

    distinct : HasDistinctStates f (k + 1) run
    distinct s t less low same =
        distinct_differ v n (length (circuit_of f).latchs) u.properties.outputs (k + 2) s t hold
        less (omega arith)
        (rows_same v (state s) (state t) f.latches (row s) (row t) (row_is s (omega arith))
        (row_is t low) same)

-- ---- the window

window_of : (form : Window) (f : File) (limit k : ℕ) (optimize : Bool)
    (lists : List (List (List Lit))) (extra : List (List Lit)) → Fits f limit
    → (asks : AsksWindow form (circuit_of f) k optimize lists extra) → (v : ℕ → Bool)
    → Satisfies v asks.clauses
    → AllByRecursion (Holds v) (induction_clauses (circuit_of f) k asks.unrolled)
    → AllByRecursion (Holds v)
    (states_clauses form (length asks.clauses) (circuit_of f) k asks.unrolled)
    → HasBadWindow form f k
window_of Plain f limit k optimize lists extra fits asks v satisfies hold apart =
    bad_window f limit k (circuit_of f).properties.outputs asks.unrolled asks.clauses fits
    asks.steps asks.fixes v satisfies hold Plain tt
window_of Distinct f limit k optimize lists extra fits asks v satisfies hold apart =
    bad_window f limit k (state_edges (circuit_of f)) asks.unrolled asks.clauses fits asks.steps
    asks.fixes v satisfies hold Distinct
    (distinct f limit k (state_edges (circuit_of f)) asks.unrolled asks.clauses fits asks.steps
    asks.fixes v satisfies refl (length asks.clauses) apart)

pub satisfied_window : (form : Window) (f : File) (limit k : ℕ) (optimize : Bool)
    (lists : List (List (List Lit))) (extra : List (List Lit)) → Fits f limit
    → AsksWindow form (circuit_of f) k optimize lists extra
    → IsSatisfiable (clauses_in lists ++ extra) → HasBadWindow form f k
satisfied_window form f limit k optimize lists extra fits asks s =
    let c = circuit_of f in
    let v = s.0 in
    let some = asks.clauses in
    let free = replicate (count_free form c k) [] in
    let told = window_clauses form (length some) c k asks.unrolled in
    let hold = subst (λ rest. IsTrue (are_true v (clauses_in (some ++ free) ++ rest)))
    asks.further_exact
    (subst (λ all. IsTrue (are_true v (clauses_in all ++ extra))) asks.exact s.1) in
    let parts = and_parts (are_true v (clauses_in (some ++ free))) (are_true v told)
    (sym (list_all-append (is_true_clause v) (clauses_in (some ++ free)) told) ∙ hold) in
    let both = (rec_append (Holds v) (induction_clauses c k asks.unrolled)
    (states_clauses form (length some) c k asks.unrolled)).0
    ((all_is (is_true_clause v) told).0 parts.1) in
    window_of form f limit k optimize lists extra fits asks v
    (first_satisfied v some free parts.0) both.0 both.1
