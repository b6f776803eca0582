-- A window that ends badly satisfies the clauses that ask for it.
use Rattle.aig_base.proofs.Words.{◌≡◌, ℕ, ◌+◌, ◌*◌, ◌≤◌, ◌<◌, Bool, false, not, List, [], ◌∷◌, ◌++◌, length, get_or, map, take, sym, ap, subst, ◌∙◌, append-nil, arith, AllByRecursion, All-head, IsTrue, false_from_ne_true, flat_map, flat_map-map, get_or-take, get_or_from_slice_get, length-take-le, list_any, mul-le-mul_right, slice_get_within}
use Rattle.std.proofs.lemmas.Option.{slice_get_read}
use Rattle.aig_base.specs.declared.logic.literal.Lit.{Lit}
use Rattle.aig_base.specs.Clauses.{Satisfies, are_true, is_true_clause}
use Rattle.aig_base.specs.Formula.{IsSatisfiable, clauses_in}
use Rattle.aig_circuit.specs.declared.edge.AigEdge.{AigEdge}
use Rattle.aig_circuit.proofs.Words.{Circuit, IsCircuit, edge_value, inverse, lit_of}
use Rattle.aig_cnf.specs.Cnf.{edge_in}
use Rattle.aig_cnf.proofs.Forms.{edge_in-inverse}
use Rattle.aig_format.proofs.Circuits.{IsCircuit-of_file}
use Rattle.aig_format.proofs.Entries.{rec_append}
use Rattle.aig_format.proofs.Words.{File, Fits, circuit_of, value_of_literal}
use Rattle.aig_runs.specs.Induction.{IsKInductive}
use Rattle.aig_runs.specs.Queries.{last_bads, unit_clauses}
use Rattle.aig_runs.specs.WindowClauses.{first_bads, induction_clauses}
use Rattle.aig_runs.specs.declared.window.Window.TheVariants.{Plain}
use Rattle.aig_runs.proofs.CircuitRuns.{shown}
use Rattle.aig_runs.proofs.Further.{Holds, clause_says, stand_all, stand_any, units_say}
use Rattle.aig_runs.proofs.Rows.{all_is, any_none, next_row}
use Rattle.aig_runs.proofs.Windows.{plain_satisfiable}
use Rattle.aig_unroll.specs.Frame.{with_steps}
use Rattle.aig_unroll.specs.Unroll.{HasValuesAtSteps, UnrollsTo}
use Rattle.aig_steps.specs.Induction.{IsBadAt, IsCircuitInductive, IsCircuitWindow}
use Rattle.aig_steps.specs.Stepwise.{node_clauses, stepwise_clauses, stepwise_window}
use Rattle.aig_steps.proofs.Nodes.{clause_lists, fixes, lists_say, satisfies}
use Rattle.aig_steps.proofs.Runs.{asks_for_runs, parts}

-- ---- of a circuit

-- the entries of the steps before the last one, inverted
before_last : {E : Type 0} (k : ℕ) (old : ℕ → E → Bool) (entries : List E) (new : AigEdge → Bool)
    (longer : List AigEdge) → HasValuesAtSteps (k + 1) old entries new longer
    → HasValuesAtSteps k (λ t e. not (old t e)) entries (λ e. not (new e))
    (take ((k + 1) * length entries) longer)
before_last k old entries new longer stand =
    let p = length entries in
    let n = (k + 1) * p in
    let long : length (take n longer) ≡ n =
    length-take-le n longer (omega (arith, stand.count, next_row (k + 1) p)) in
    record {
      count = long;
      each = λ t j entry low is.
          let r = stand.each t j entry (omega arith) is in
          let i = t * p + j in
          let rows : t * p ≤ k * p = mul-le-mul_right p low in
          let below : i < n =
          omega (arith, rows, next_row k p, slice_get_within entries j entry is) in
          let here : r.0 ≡ get_or (take n longer) i r.0 =
          sym (get_or-take n longer i r.0 below ∙ get_or_from_slice_get longer i r.0 r.0 r.1) in
          (r.0, slice_get_read (take n longer) n i r.0 (sym long) below here, ap not r.2);
    }

-- inverses hold where the edges are false
inverses_hold : (v : ℕ → Bool) (es : List AigEdge)
    → AllByRecursion (λ e. IsTrue (not (edge_in v e))) es
    → AllByRecursion (λ e. IsTrue (edge_in v e)) (map inverse es)
inverses_hold v [] h = tt
inverses_hold v (e ∷ es) h = (edge_in-inverse v e ∙ h.0, inverses_hold v es h.1)

module _ (c : Circuit) (k : ℕ) (is : IsCircuit c) (is_u : IsCircuit (with_steps c (k + 1)))
    (to : UnrollsTo c (k + 1) (with_steps c (k + 1))) (run : ℕ → ℕ → Bool)
    (w : IsCircuitWindow c k run) where
  abbrev u : Circuit
  u = with_steps c (k + 1)

  abbrev value : ℕ → AigEdge → Bool
  value t = edge_value c.nodes (run t)

  abbrev bads : List AigEdge
  bads = c.properties.bads

  -- the assignment that the run is satisfies the clauses of the steps
  abbrev v : ℕ → Bool
  v = ((asks_for_runs c u (k + 1) is is_u to).runs run w.is_run w.constrained).values

  steps_hold : IsTrue (are_true v (stepwise_clauses c (k + 1)))
  steps_hold =
      let P = λ (cs : List (List Lit)). IsTrue (are_true v cs) in
      All-head P (stepwise_clauses c (k + 1)) []
      ((asks_for_runs c u (k + 1) is is_u to).runs run w.is_run w.constrained).satisfies

  stand : HasValuesAtSteps (k + 1) value bads (edge_in v) u.properties.bads
  stand =
      let one = (asks_for_runs c u (k + 1) is is_u to).runs run w.is_run w.constrained in
      let sat = ((parts c u (k + 1) is is_u to v).0 steps_hold).0 in
      (shown c u (k + 1) (clause_lists u.nodes) v run (fixes u is_u) sat
      (to.same v run w.is_run one.reads)).properties.bads

  -- and those of bad edges before the last step
  early_hold : AllByRecursion (Holds v) (unit_clauses (map inverse (first_bads c k u)))
  early_hold =
      let early = first_bads c k u in
      let none = λ (t : ℕ) (low : t ≤ k).
      not_each t ((any_none (value t) bads).0
      (false_from_ne_true (list_any (value t) bads) (w.good t low))) in
      let all = (stand_all k (λ t e. not (value t e)) bads (λ e. not (edge_in v e)) early
      (before_last k value bads (edge_in v) u.properties.bads stand)).1 none in
      (units_say v (map inverse early)).1 (inverses_hold v early all)
    where
      not_each : (t : ℕ) → AllByRecursion (λ e. value t e ≡ false) bads
          → AllByRecursion (λ e. IsTrue (not (value t e))) bads
      not_each t = go bads
        where
          go : (es : List AigEdge) → AllByRecursion (λ e. value t e ≡ false) es
              → AllByRecursion (λ e. IsTrue (not (value t e))) es
          go [] h = tt
          go (e ∷ es) h = (ap not h.0, go es h.1)

  -- and that of those at it, where one holds
  ends_badly : IsBadAt c run (k + 1) → IsSatisfiable (stepwise_window c k)
  ends_badly bad =
      let H = Holds v in
      let steps = stepwise_clauses c (k + 1) in
      let inverses = unit_clauses (map inverse (first_bads c k u)) in
      let last = last_bads c (k + 1) u in
      let end : is_true_clause v (map lit_of last) ≡ list_any (value (k + 1)) bads =
      clause_says v last
      ∙ stand_any (k + 1) value bads (edge_in v) u.properties.bads stand in
      let first = (all_is (is_true_clause v) steps).0 steps_hold in
      let front = (rec_append H steps inverses).1 (first, early_hold) in (
        v,
        (all_is (is_true_clause v) (stepwise_window c k)).1
            ((rec_append H (steps ++ inverses) (map lit_of last ∷ [])).1 (front, (end ∙ bad, tt))),
      )

pub windows_inductive : (c u : Circuit) (k : ℕ) → IsCircuit c → IsCircuit u
    → UnrollsTo c (k + 1) u → ¬ IsSatisfiable (stepwise_window c k) → IsCircuitInductive c k
windows_inductive c u k is is_u to none run w bad =
    none (ends_badly c k is (subst IsCircuit to.exact is_u)
    (subst (UnrollsTo c (k + 1)) to.exact to) run w bad)

-- ---- of a file's machine

module _ (c u : Circuit) (k : ℕ) (is : IsCircuit c) (is_u : IsCircuit u)
    (to : UnrollsTo c (k + 1) u) where
  abbrev lists : List (List (List Lit))
  lists = clause_lists u.nodes

  -- the clauses of a window by those of the unrolled circuit's nodes are those of its steps
  of_steps : IsSatisfiable (clauses_in (lists ++ []) ++ induction_clauses c k u)
      → IsSatisfiable (stepwise_window c k)
  of_steps s =
      let v = s.0 in
      let H = Holds v in
      let inverses = λ (d : Circuit). unit_clauses (map inverse (first_bads c k d)) in
      let last = λ (d : Circuit). map lit_of (last_bads c (k + 1) d) ∷ [] in
      let units = unit_clauses u.properties.constraints in
      let flat : clauses_in (lists ++ []) ≡ flat_map node_clauses u.nodes =
      ap clauses_in (append-nil lists)
      ∙ flat_map-map (λ (cs : List (List Lit)). cs) node_clauses u.nodes in
      let all =
      (all_is (is_true_clause v) (clauses_in (lists ++ []) ++ induction_clauses c k u)).0 s.1 in
      let two = (rec_append H (clauses_in (lists ++ [])) (induction_clauses c k u)).0 all in
      let nodes = subst (AllByRecursion H) flat two.0 in
      let front = (rec_append H (units ++ inverses u) (last u)).0 two.1 in
      let units_and = (rec_append H units (inverses u)).0 front.0 in
      let steps = (all_is (is_true_clause v) (stepwise_clauses c (k + 1))).0
      ((parts c u (k + 1) is is_u to v).1 ((lists_say v u.nodes).1 nodes, units_and.0)) in
      let some = (rec_append H (stepwise_clauses c (k + 1)) (inverses u)).1 (steps, units_and.1) in
      let whole =
      (rec_append H (stepwise_clauses c (k + 1) ++ inverses u) (last u)).1 (some, front.1) in
      let In = λ (d : Circuit). AllByRecursion H
      (stepwise_clauses c (k + 1) ++ inverses d ++ last d) in
      (v, (all_is (is_true_clause v) (stepwise_window c k)).1 (subst In to.exact whole))

pub windows_are_inductive : (f : File) (limit k : ℕ) (u : Circuit) → Fits f limit → IsCircuit u
    → UnrollsTo (circuit_of f) (k + 1) u → ¬ IsSatisfiable (stepwise_window (circuit_of f) k)
    → IsKInductive Plain f k
windows_are_inductive f limit k u fits is_u to none run w =
    let c = circuit_of f in
    let is = IsCircuit-of_file f limit fits in
    let bads = list_any (value_of_literal (run (k + 1))) f.properties.bads in
    (any_none (value_of_literal (run (k + 1))) f.properties.bads).0 (false_from_ne_true bads (λ bad.
    none (of_steps c u k is is_u to (plain_satisfiable f limit k c.properties.outputs u
    (clause_lists u.nodes) fits is to (fixes u is_u)
    (satisfies u is_u) run w.is_run w.constraints w.good bad))))
