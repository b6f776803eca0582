-- The clauses of a window, which a window that ends badly satisfies.
use Rattle.aig_base.proofs.Words.{◌≡◌, ℕ, zero, suc, ◌+◌, ◌*◌, ◌/◌, ◌<◌, ◌≤◌, Bool, false, not, Some, List, [], ◌∷◌, ◌++◌, length, map, take, drop, get_or, IsTrue, refl, sym, ap, subst, ◌∙◌, arith, length-drop, AllByRecursion, AllZip, list_any, false_from_ne_true, mul-le-mul_right, same_Some, slice_get_within, map-map}
use Rattle.std.specs.Prelude.{All, replicate, slice_get}
use Rattle.std.proofs.lemmas.List.{append-nil, length-map, length-take-le}
use Rattle.std.proofs.lemmas.List.Elements.{All-append, All-from_recursion, All-map, All-replicate, All-weaker, recursion_from_All}
use Rattle.aig_base.specs.declared.logic.literal.Lit.{Lit}
use Rattle.aig_base.specs.Clauses as clauses
use Rattle.aig_base.specs.Clauses.{AreRelations, Satisfies, are_true, is_true_clause, variable_of}
use Rattle.aig_base.specs.Formula.{clauses_in, IsSatisfiable}
use Rattle.aig_circuit.specs.declared.edge.AigEdge.{AigEdge}
use Rattle.aig_circuit.specs.declared.node.AigLatch.{AigLatch}
use Rattle.aig_circuit.proofs.Words.{edge_to, inverse, lit_of, Circuit, IsCircuit, IsInRange, IsLatch, latch_leaves, AllProperties, edge_value}
use Rattle.aig_circuit.proofs.Listed.{AllProperties-weaker}
use Rattle.aig_circuit.proofs.Lists.{AllZip-map}
use Rattle.aig_circuit.proofs.Trees.{kind_at-within}
use Rattle.aig_cnf.specs.Cnf.{FixesRoots, IsFixed, NodeValuesSatisfy, edge_in}
use Rattle.aig_format.proofs.Words.{File, LatchLine, Fits, IsMachineRun, value_of_literal, circuit_of, edge_of, latch_of, node_of_variable, IsKnown}
use Rattle.aig_format.proofs.Circuits.{IsCircuit-of_file, used_by_section}
use Rattle.aig_format.proofs.Entries.{rec_append}
use Rattle.aig_format.proofs.Numbers.{used_known}
use Rattle.aig_format_laws.specs.Nodes.{HasNodeValues}
use Rattle.aig_format_laws.proofs.Joining.{forth_run, forth_values, latches_known, leaves_of, literal_is}
use Rattle.aig_unroll.specs.Unroll.{HasStepValues, HasValuesAtSteps, UnrollsTo}
use Rattle.aig_runs.specs.Circuits.{IsOneCircuitAssignment}
use Rattle.aig_runs.specs.Queries.{last_bads, unit_clauses}
use Rattle.aig_runs.proofs.CircuitRuns.{runs_are_assignments}
use Rattle.aig_runs.proofs.Further.{Holds, clause_says, stand_all, stand_any, units_say}
use Rattle.aig_runs.proofs.Rows.{all_is, any_none, get-drop, get_there, next_row, rec_at, rec_from_get, row_of, zip_from_get}
use Rattle.aig_runs.proofs.Standing.{AreAlike, stand_alike}
use Rattle.aig_runs.specs.declared.window.Window.{Window}
use Rattle.aig_runs.specs.declared.window.Window.TheVariants.{Plain, Distinct}
use Rattle.aig_runs.specs.Safety.{IsConstrained, IsGood}
use Rattle.aig_runs.specs.Induction.{HasDistinctStates, IsKInductive, IsWindow}
use Rattle.aig_runs.specs.WindowClauses.{AsksWindow, count_free, distinct_clauses, first_bads, induction_clauses, state_at, state_edges, watched}
use Rattle.aig_runs.proofs.SafetyRefuted.{both_true}
use Rattle.aig_runs.proofs.Below.{induction_below, states_below}
use Rattle.aig_cnf.proofs.Forms.{edge_in-inverse}
use Rattle.aig_runs.proofs.Differing.{Agree, AreEdgesBelow, AreEqual, IsBelow, distinct_extends, hold_alike}

-- ---- rows

-- an entry of the first n is one of all
get-take : {X : Type 0} (n : ℕ) (xs : List X) (i : ℕ) (x : X) → slice_get (take n xs) i ≡ Some x → (i < n) × (slice_get xs i ≡ Some x)
get-take zero xs i x h = cc
get-take (suc n) [] i x h = cc
get-take (suc n) (y ∷ ys) zero x h = (omega arith, h)
get-take (suc n) (y ∷ ys) (suc i) x h = let r = get-take n ys i x h in (omega (arith, r.0), r.1)

get_in-take : {X : Type 0} (n : ℕ) (xs : List X) (i : ℕ) → i < n → slice_get (take n xs) i ≡ slice_get xs i
get_in-take zero xs i h = absurd (omega arith)
get_in-take (suc n) [] i h = refl
get_in-take (suc n) (y ∷ ys) zero h = refl
get_in-take (suc n) (y ∷ ys) (suc i) h = get_in-take n ys i (omega arith)

module _ {E : Type 0} (k : ℕ) (old : ℕ → E → Bool) (entries : List E) (new : AigEdge → Bool) (longer : List AigEdge) (stand : HasValuesAtSteps k old entries new longer) where
  -- the first rows have the value that the entries have at their steps
  first_rows : (b : Bool) (n : ℕ) → n ≤ k → ((t : ℕ) → t ≤ n → AllByRecursion (λ entry. old t entry ≡ b) entries) → AllByRecursion (λ e. new e ≡ b) (take ((n + 1) * length entries) longer)
  first_rows b n low all = rec_from_get (λ e. new e ≡ b) (take ((n + 1) * length entries) longer) (λ i e is.
      let at = get-take ((n + 1) * length entries) longer i e is in
      let row = row_of n (length entries) i at.0 in
      let entry = get_there entries row.1 row.3 in
      let r = stand.each row.0 row.1 entry.0 (omega (arith, row.2)) entry.1 in
      let same : r.0 ≡ e = same_Some r.0 e (sym r.1 ∙ ap (slice_get longer) row.4 ∙ at.1) in
      subst (λ x. new x ≡ b) same (r.2 ∙ rec_at (λ x. old row.0 x ≡ b) entries row.1 entry.0 (all row.0 row.2) entry.1))

  -- the entries of step t are a row
  row_at : (t : ℕ) → t ≤ k → AllZip (λ entry e. new e ≡ old t entry) entries (take (length entries) (drop (t * length entries) longer))
  row_at t low =
      let p = length entries in
      let more : (k + 1) * p ≡ k * p + p = next_row k p in
      let below : t * p ≤ k * p = mul-le-mul_right p low in
      zip_from_get (λ entry e. new e ≡ old t entry) entries (take p (drop (t * p) longer))
      (length-take-le p (drop (t * p) longer) (simp length-drop (omega (arith, stand.count, more, below)))) (λ j entry is.
      let r = stand.each t j entry low is in
      (r.0, get_in-take p (drop (t * p) longer) j (slice_get_within entries j entry is) ∙ get-drop (t * p) longer j ∙ r.1, r.2))

-- the unit clauses of the inverses of edges that are false hold
inverses_hold : (v : ℕ → Bool) (es : List AigEdge) → AllByRecursion (λ e. edge_in v e ≡ false) es → AllByRecursion (λ e. IsTrue (edge_in v e)) (map inverse es)
inverses_hold v [] h = tt
inverses_hold v (e ∷ es) h = (edge_in-inverse v e ∙ ap not h.0, inverses_hold v es h.1)

-- equal edges of two rows have equal entries
equal_rows : {E : Type 0} (old other : E → Bool) (v : ℕ → Bool) (entries : List E) (xs ys : List AigEdge) → AllZip (λ entry e. edge_in v e ≡ old entry) entries xs → AllZip (λ entry e. edge_in v e ≡ other entry) entries ys
    → AreEqual v xs ys → AllByRecursion (λ entry. old entry ≡ other entry) entries
equal_rows old other v [] xs ys p q equal = tt
equal_rows old other v (entry ∷ entries) [] ys p q equal = absurd p
equal_rows old other v (entry ∷ entries) (x ∷ xs) [] p q equal = absurd q
equal_rows old other v (entry ∷ entries) (x ∷ xs) (y ∷ ys) p q equal = (sym p.0 ∙ equal.0 ∙ q.0, equal_rows old other v entries xs ys p.1 q.1 equal.1)

-- ---- a run and its assignment

module _ (f : File) (last : ℕ) (u : Circuit) (v : ℕ → Bool) (x run : ℕ → ℕ → Bool) (values : HasNodeValues f last x run) where
  -- edges with the values of literals, or of latches, at each step
  abbrev at : ℕ → AigEdge → Bool
  at t = edge_value (circuit_of f).nodes (x t)

  literals_stand : (entries : List ℕ) (longer : List AigEdge) → All (IsKnown f) entries → All (λ e. edge_in v e ≡ edge_value u.nodes v e) longer → HasValuesAtSteps last at (map (edge_of f) entries) (edge_value u.nodes v) longer
      → HasValuesAtSteps last (λ t. value_of_literal (run t)) entries (edge_in v) longer
  literals_stand entries longer known same s =
      let first = λ (t : ℕ). value_of_literal (run t) in
      let Alike = AreAlike last at first (edge_value u.nodes v) (edge_in v) in
      stand_alike last at first (edge_value u.nodes v) (edge_in v) entries (map (edge_of f) entries) longer
      (AllZip-map (edge_of f) Alike entries (All-weaker (IsKnown f) (λ e. Alike e (edge_of f e)) (λ e is t h. literal_is f last x run values t e h is) entries known)) same s

  latches_stand : (longer : List AigEdge) → All (λ e. edge_in v e ≡ edge_value u.nodes v e) longer → HasValuesAtSteps last at (state_edges (circuit_of f)) (edge_value u.nodes v) longer
      → HasValuesAtSteps last (λ t (l : LatchLine). run t (l.literal / 2)) f.latches (edge_in v) longer
  latches_stand longer same s =
      let to_leaf = λ (n : ℕ). edge_to n false in
      let leaf_of = λ (latch : AigLatch). latch.input in
      let leaf = λ (l : LatchLine). to_leaf (node_of_variable f (l.literal / 2)) in
      let Known = λ (l : LatchLine). IsKnown f l.literal in
      let first = λ (t : ℕ) (l : LatchLine). run t (l.literal / 2) in
      let Alike = AreAlike last at first (edge_value u.nodes v) (edge_in v) in
      let are : state_edges (circuit_of f) ≡ map leaf f.latches = ap (map to_leaf) (map-map leaf_of (latch_of f) f.latches) ∙ map-map to_leaf (λ l. leaf_of (latch_of f l)) f.latches in
      let alike = AllZip-map leaf Alike f.latches (All-weaker Known (λ l. Alike l (leaf l)) (λ l is t h. values t (l.literal / 2) h is) f.latches (All-from_recursion Known f.latches (latches_known f))) in
      stand_alike last at first (edge_value u.nodes v) (edge_in v) f.latches (state_edges (circuit_of f)) longer (subst (AllZip Alike f.latches) (sym are) alike) same s

-- ---- free variables

-- lists that are satisfied stay so where the values of their variables stay
satisfies_alike : (n : ℕ) (v w : ℕ → Bool) → Agree n v w → (lists : List (List (List Lit))) → All (clauses.AreBelow n) lists → Satisfies v lists → Satisfies w lists
satisfies_alike n v w agree lists below holds i d lt =
    let some = get_or lists i d in
    let low = recursion_from_All (IsBelow n) some (All-weaker (All (λ lit. variable_of lit < n)) (IsBelow n) (λ clause is. recursion_from_All (λ lit. variable_of lit < n) clause is) some (below i d lt)) in
    (all_is (is_true_clause w) some).1 (hold_alike n v w agree some low ((all_is (is_true_clause v) some).0 (holds i d lt)))

-- and where variables without clauses stand after them
satisfies_more : (v : ℕ → Bool) (lists : List (List (List Lit))) (count : ℕ) → Satisfies v lists → Satisfies v (lists ++ replicate count [])
satisfies_more v lists count holds =
    let IsSatisfied : List (List Lit) → Type 0 = λ some. IsTrue (are_true v some) in
    All-append IsSatisfied lists (replicate count []) holds (All-replicate IsSatisfied count [] refl)

-- ---- the clauses of a window

-- the leaves of latches are there
states_in_range : (c : Circuit) → IsCircuit c → All (IsInRange c.nodes) (state_edges c)
states_in_range c is =
    let Leaf = λ (n : ℕ). n < length c.nodes in
    All-map (IsInRange c.nodes) (λ n. edge_to n false) (latch_leaves c.latchs)
    (All-map Leaf (λ (latch : AigLatch). latch.input) c.latchs (All-weaker (IsLatch c.nodes) (λ latch. latch.input < length c.nodes) (λ latch h. kind_at-within c.nodes latch.input _ h.leaf) c.latchs is.latchs))

-- the circuit that a form unrolls is a circuit
watched_circuit : (form : Window) (c : Circuit) → IsCircuit c → IsCircuit (watched form c)
watched_circuit Plain c is = is
watched_circuit Distinct c is = record {
  nodes = is.nodes;
  inputs = is.inputs;
  inputs_distinct = is.inputs_distinct;
  latchs = is.latchs;
  latchs_distinct = is.latchs_distinct;
  apart = is.apart;
  properties = record {
    outputs = states_in_range c is;
    bads = is.properties.bads;
    constraints = is.properties.constraints;
    justice = is.properties.justice;
    fairness = is.properties.fairness;
  };
  named = is.named;
}

-- the circuit, with other outputs
abbrev with_outputs : Circuit → List AigEdge → Circuit
with_outputs c outputs = record c { properties = record c.properties { outputs = outputs } }

-- The circuit has the file's nodes, latches, bad edges and constraints, and any outputs.
module _ (f : File) (limit k : ℕ) (outputs : List AigEdge) (u : Circuit) (lists : List (List (List Lit))) (fits : Fits f limit) (is_circuit : IsCircuit (with_outputs (circuit_of f) outputs))
    (unrolls : UnrollsTo (with_outputs (circuit_of f) outputs) (k + 1) u) (fixes : FixesRoots u lists) (satisfied : NodeValuesSatisfy u lists) (run : ℕ → ℕ → Bool) (is : IsMachineRun f (k + 1) run) where
  abbrev x : ℕ → ℕ → Bool
  x = leaves_of f run

  abbrev one : IsOneCircuitAssignment (with_outputs (circuit_of f) outputs) u (k + 1) lists x
  one = runs_are_assignments (with_outputs (circuit_of f) outputs) u (k + 1) lists is_circuit unrolls satisfied x (forth_run f limit (k + 1) run fits is)

  -- the run's values of all nodes
  abbrev v : ℕ → Bool
  v = one.values

  shows : HasStepValues (with_outputs (circuit_of f) outputs) u (k + 1) (edge_value u.nodes v) x
  shows = unrolls.same v x (forth_run f limit (k + 1) run fits is) one.reads

  values : HasNodeValues f (k + 1) x run
  values = forth_values f limit (k + 1) run fits is

  known : AllProperties (IsKnown f) f.properties
  known = (used_by_section (IsKnown f) f (used_known f limit fits)).properties

  -- the assignment gives each property its value
  fixed : AllProperties (λ e. edge_in v e ≡ edge_value u.nodes v e) u.properties
  fixed = AllProperties-weaker (IsFixed u lists) (λ e. edge_in v e ≡ edge_value u.nodes v e) (λ e is. is v one.satisfies) u.properties fixes.properties

  constraints_stand : HasValuesAtSteps (k + 1) (λ t. value_of_literal (run t)) f.properties.constraints (edge_in v) u.properties.constraints
  constraints_stand = literals_stand f (k + 1) u v x run values f.properties.constraints u.properties.constraints known.constraints fixed.constraints shows.properties.constraints

  bads_stand : HasValuesAtSteps (k + 1) (λ t. value_of_literal (run t)) f.properties.bads (edge_in v) u.properties.bads
  bads_stand = literals_stand f (k + 1) u v x run values f.properties.bads u.properties.bads known.bads fixed.bads shows.properties.bads

  states_stand : outputs ≡ state_edges (circuit_of f) → HasValuesAtSteps (k + 1) (λ t (l : LatchLine). run t (l.literal / 2)) f.latches (edge_in v) u.properties.outputs
  states_stand are =
      latches_stand f (k + 1) u v x run values u.properties.outputs fixed.outputs
      (subst (λ es. HasValuesAtSteps (k + 1) (λ t. edge_value (circuit_of f).nodes (x t)) es (edge_value u.nodes v) u.properties.outputs) are shows.properties.outputs)

  -- the constraints hold, no bad literal does before the last step, and some does at it
  module _ (constraints : (t : ℕ) → t ≤ k + 1 → IsConstrained f (run t)) (good : (t : ℕ) → t ≤ k → IsGood f (run t)) (bad : IsTrue (list_any (value_of_literal (run (k + 1))) f.properties.bads)) where
    induction_hold : AllByRecursion (Holds v) (induction_clauses (circuit_of f) k u)
    induction_hold =
        let value = λ (t : ℕ). value_of_literal (run t) in
        let count : length (circuit_of f).properties.bads ≡ length f.properties.bads = length-map f.properties.bads (edge_of f) in
        let early = first_bads (circuit_of f) k u in
        let units = unit_clauses u.properties.constraints in
        let inverses = unit_clauses (map inverse early) in
        let first : AllByRecursion (Holds v) units = (units_say v u.properties.constraints).1 ((stand_all (k + 1) value f.properties.constraints (edge_in v) u.properties.constraints constraints_stand).1 constraints) in
        let rows : AllByRecursion (λ e. edge_in v e ≡ false) early =
        subst (λ n. AllByRecursion (λ e. edge_in v e ≡ false) (take ((k + 1) * n) u.properties.bads)) (sym count) (first_rows (k + 1) value f.properties.bads (edge_in v) u.properties.bads bads_stand false k (omega arith) good) in
        let second : AllByRecursion (Holds v) inverses = (units_say v (map inverse early)).1 (inverses_hold v early rows) in
        let third =
        clause_says v (last_bads (circuit_of f) (k + 1) u)
        ∙ ap (λ n. list_any (edge_in v) (drop ((k + 1) * n) u.properties.bads)) count
        ∙ stand_any (k + 1) value f.properties.bads (edge_in v) u.properties.bads bads_stand in
        let front = (rec_append (Holds v) units inverses).1 (first, second) in
        (rec_append (Holds v) (units ++ inverses) (map lit_of (last_bads (circuit_of f) (k + 1) u) ∷ [])).1 (front, (third ∙ bad, tt))

    pub plain_satisfiable : IsSatisfiable
        (clauses_in (lists ++ replicate 0 []) ++ induction_clauses (circuit_of f) k u)
    plain_satisfiable =
        let further_hold = (all_is (is_true_clause v) (induction_clauses (circuit_of f) k u)).1 induction_hold in
        (v, both_true v (lists ++ replicate 0 []) (induction_clauses (circuit_of f) k u) (satisfies_more v lists 0 one.satisfies) further_hold)

    -- the states differ, too
    module _ (are : outputs ≡ state_edges (circuit_of f)) (in_range : IsCircuit u) (relations : AreRelations lists) (has : length lists ≡ length u.nodes) (distinct : HasDistinctStates f (k + 1) run) where
      abbrev n : ℕ
      n = length lists

      abbrev l : ℕ
      l = length (circuit_of f).latchs

      rows_are : (t : ℕ) → t ≤ k + 1 → AllZip (λ (line : LatchLine) e. edge_in v e ≡ run t (line.literal / 2)) f.latches (state_at l u.properties.outputs t)
      rows_are t low =
          subst (λ m. AllZip (λ (line : LatchLine) e. edge_in v e ≡ run t (line.literal / 2)) f.latches (state_at m u.properties.outputs t)) (sym (length-map f.latches (latch_of f)))
          (row_at (k + 1) (λ t (line : LatchLine). run t (line.literal / 2)) f.latches (edge_in v) u.properties.outputs (states_stand are) t low)

      states_are : (t : ℕ) → t < k + 2 → (length (state_at l u.properties.outputs t) ≡ l) × AreEdgesBelow n (state_at l u.properties.outputs t)
      states_are t low = states_below u.properties.outputs l n (k + 2) (omega (arith, (states_stand are).count, count_again)) (subst (λ m. All (λ e. e.node_id < m) u.properties.outputs) (sym has) in_range.properties.outputs) t low
        where
          count_again : length u.properties.outputs ≡ (k + 2) * l
          count_again = (states_stand are).count ∙ ap (λ m. (k + 1 + 1) * m) (sym (length-map f.latches (latch_of f))) ∙ ap (λ m. m * l) (omega arith)

      differ_there : (s t : ℕ) → s < t → t < k + 2 → ¬ AreEqual v (state_at l u.properties.outputs s) (state_at l u.properties.outputs t)
      differ_there s t less low equal =
          distinct s t less (omega arith) (equal_rows (λ (line : LatchLine). run s (line.literal / 2)) (λ (line : LatchLine). run t (line.literal / 2)) v f.latches (state_at l u.properties.outputs s) (state_at l u.properties.outputs t) (rows_are s (omega arith)) (rows_are t (omega arith)) equal)

      abbrev extra : List (List Lit)
      extra = induction_clauses (circuit_of f) k u ++ distinct_clauses n l u.properties.outputs (k + 2)

      distinct_satisfiable : (free : ℕ) → IsSatisfiable (clauses_in (lists ++ replicate free []) ++ extra)
      distinct_satisfiable free =
          let more = distinct_extends n (k + 2) u.properties.outputs l states_are v differ_there n (k + 2) (omega arith) (omega arith) (omega arith) in
          let w = more.values in
          let kept = hold_alike n v w more.agree (induction_clauses (circuit_of f) k u) (induction_below (circuit_of f) u k n has in_range) induction_hold in
          let holds = satisfies_more w lists free (satisfies_alike n v w more.agree lists relations.below one.satisfies) in
          (w, both_true w (lists ++ replicate free []) extra holds ((all_is (is_true_clause w) extra).1 ((rec_append (Holds w) (induction_clauses (circuit_of f) k u) (distinct_clauses n l u.properties.outputs (k + 2))).1 (kept, more.hold))))

-- ---- the law

-- a window with a bad literal at its end satisfies its clauses
pub window_satisfies : (form : Window) (f : File) (limit k : ℕ) (optimize : Bool) (lists : List (List (List Lit))) (extra : List (List Lit)) → Fits f limit → AsksWindow form (circuit_of f) k optimize lists extra
    → (run : ℕ → ℕ → Bool) → IsWindow form f k run → IsTrue (list_any (value_of_literal (run (k + 1))) f.properties.bads) → IsSatisfiable (clauses_in lists ++ extra)
window_satisfies Plain f limit k optimize lists extra fits asks run w bad =
    rw (asks.exact, asks.further_exact, append-nil (induction_clauses (circuit_of f) k asks.unrolled)) (plain_satisfiable f limit k (circuit_of f).properties.outputs asks.unrolled asks.clauses fits (IsCircuit-of_file f limit fits) asks.steps asks.fixes asks.satisfied run w.is_run w.constraints w.good bad)
window_satisfies Distinct f limit k optimize lists extra fits asks run w bad =
    rw (asks.exact, asks.further_exact)
    (distinct_satisfiable f limit k (state_edges (circuit_of f)) asks.unrolled asks.clauses fits (watched_circuit Distinct (circuit_of f) (IsCircuit-of_file f limit fits)) asks.steps asks.fixes asks.satisfied run w.is_run w.constraints w.good bad
    refl asks.is_circuit asks.relations asks.has_clauses.count w.states (count_free Distinct (circuit_of f) k))

pub refuted_window : (form : Window) (f : File) (limit k : ℕ) (optimize : Bool) (lists : List (List (List Lit))) (extra : List (List Lit)) → Fits f limit → AsksWindow form (circuit_of f) k optimize lists extra
    → ¬ IsSatisfiable (clauses_in lists ++ extra) → IsKInductive form f k
refuted_window form f limit k optimize lists extra fits asks none run w =
    (any_none (value_of_literal (run (k + 1))) f.properties.bads).0 (false_from_ne_true (list_any (value_of_literal (run (k + 1))) f.properties.bads) (λ bad. none (window_satisfies form f limit k optimize lists extra fits asks run w bad)))
