-- A witness of one step of an unrolled circuit is a run of the circuit with some bad edge at one of its steps.
use Rattle.aig_base.proofs.Words.{◌≡◌, ◌↔◌, ℕ, ◌+◌, ◌*◌, ◌<◌, ◌≤◌, Bool, true, Some, List, length, IsTrue, get_or, sym, ap, subst, ◌∙◌, arith, All, slice_get, list_any, All-from_recursion, recursion_from_All, Any-from_list_any, list_any_at, get_or_from_slice_get, slice_get-get_or, slice_get_within}
use Rattle.aig_circuit.specs.declared.edge.AigEdge.{AigEdge}
use Rattle.aig_circuit.proofs.Words.{Circuit, IsRun, edge_value}
use Rattle.aig_unroll.specs.Places.{Reads}
use Rattle.aig_unroll.specs.Unroll.{HasStepValues, HasValuesAtSteps, UnrollsTo}
use Rattle.aig_runs.specs.CircuitQueries.{HasCircuitWitness}
use Rattle.aig_runs.proofs.Further.{stand_all}
use Rattle.aig_edit_laws.specs.Shown.{HasCircuitBadBy}
use Rattle.aig_runs.proofs.Rows.{get_there, row_of}

-- some edge of all steps is true exactly where some entry is at one of them
module _ {E : Type 0} (k : ℕ) (old : ℕ → E → Bool) (entries : List E) (new : AigEdge → Bool) (longer : List AigEdge) (stand : HasValuesAtSteps k old entries new longer) where
  some_at : IsTrue (list_any new longer) → (t : ℕ) × (t ≤ k) × IsTrue (list_any (old t) entries)
  some_at bad =
      let any = Any-from_list_any new longer bad in
      let i = any.0 in
      let row = row_of k (length entries) i (subst (λ n. i < n) stand.count any.2) in
      let entry = get_there entries row.1 row.3 in
      let r = stand.each row.0 row.1 entry.0 row.2 entry.1 in
      let there : slice_get longer i ≡ Some r.0 = ap (slice_get longer) (sym row.4) ∙ r.1 in
      let same : any.1 ≡ r.0 = sym any.3 ∙ get_or_from_slice_get longer i r.0 any.1 there in
      let holds : old row.0 entry.0 ≡ true = sym r.2 ∙ ap new (sym same) ∙ any.4 in
      let at : get_or entries row.1 entry.0 ≡ entry.0 = get_or_from_slice_get entries row.1 entry.0 entry.0 entry.1 in
      (row.0, row.2, list_any_at (old row.0) entries row.1 entry.0 row.3 (ap (old row.0) at ∙ holds))

  at_some : (t : ℕ) → t ≤ k → IsTrue (list_any (old t) entries) → IsTrue (list_any new longer)
  at_some t h bad =
      let any = Any-from_list_any (old t) entries bad in
      let there : slice_get entries any.0 ≡ Some any.1 = slice_get-get_or entries any.0 any.1 any.2 ∙ ap Some any.3 in
      let r = stand.each t any.0 any.1 h there in
      let place = t * length entries + any.0 in
      let at : get_or longer place r.0 ≡ r.0 = get_or_from_slice_get longer place r.0 r.0 r.1 in
      list_any_at new longer place r.0 (slice_get_within longer place r.0 r.1) (ap new at ∙ r.2 ∙ any.4)

module _ (c u : Circuit) (k : ℕ) (unrolls : UnrollsTo c k u) where
  -- an assignment to the leaves of the unrolled circuit, and the run that it reads
  module _ (y : ℕ → Bool) (x : ℕ → ℕ → Bool) (is_run : IsRun c k x) (reads : Reads c u k y x) where
    abbrev values : HasStepValues c u k (edge_value u.nodes y) x
    values = unrolls.same y x is_run reads

    abbrev IsTrueAt : ℕ → AigEdge → Type 0
    IsTrueAt t e = IsTrue (edge_value c.nodes (x t) e)

    abbrev IsTrueIn : AigEdge → Type 0
    IsTrueIn e = IsTrue (edge_value u.nodes y e)

    constraints_forth : All IsTrueIn u.properties.constraints → (t : ℕ) → t ≤ k → All (IsTrueAt t) c.properties.constraints
    constraints_forth all t h =
        let s = stand_all k (λ t. edge_value c.nodes (x t)) c.properties.constraints (edge_value u.nodes y) u.properties.constraints values.properties.constraints in
        All-from_recursion (IsTrueAt t) c.properties.constraints (s.0 (recursion_from_All IsTrueIn u.properties.constraints all) t h)

    constraints_back : ((t : ℕ) → t ≤ k → All (IsTrueAt t) c.properties.constraints) → All IsTrueIn u.properties.constraints
    constraints_back all =
        let s = stand_all k (λ t. edge_value c.nodes (x t)) c.properties.constraints (edge_value u.nodes y) u.properties.constraints values.properties.constraints in
        All-from_recursion IsTrueIn u.properties.constraints (s.1 (λ t h. recursion_from_All (IsTrueAt t) c.properties.constraints (all t h)))

  forth : HasCircuitWitness u 0 → HasCircuitBadBy c k
  forth s =
      let y : ℕ → Bool = s.0 0 in
      let w = s.1 in
      let read = unrolls.run_of y in
      let x = read.0 in
      let is = read.1 in
      let reads = read.2 in (
        x,
        record {
          from_start = record { run = is; start = (unrolls.starts y x is reads).0 w.start };
          allowed = λ t h. constraints_forth y x is reads (w.constraints 0 (omega arith)) t h;
        },
        some_at k (λ t. edge_value c.nodes (x t)) c.properties.bads (edge_value u.nodes y) u.properties.bads (values y x is reads).properties.bads w.bad,
      )

  back : HasCircuitBadBy c k → HasCircuitWitness u 0
  back s =
      let x = s.0 in
      let allowed = s.1 in
      let is = allowed.from_start.run in
      let found = unrolls.values_of x is in
      let y = found.0 in
      let reads = found.1 in
      let bad = s.2 in (
        λ t. y,
        record {
          is_run = λ t h. absurd (omega arith);
          start = (unrolls.starts y x is reads).1 allowed.from_start.start;
          constraints = λ t h. constraints_back y x is reads allowed.allowed;
          bad = at_some k (λ t. edge_value c.nodes (x t)) c.properties.bads (edge_value u.nodes y) u.properties.bads (values y x is reads).properties.bads bad.0 bad.1 bad.2;
        },
      )

  pub unrolled_witnesses : HasCircuitWitness u 0 ↔ HasCircuitBadBy c k
  unrolled_witnesses = (forth, back)
