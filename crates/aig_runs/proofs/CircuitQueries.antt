-- The query clauses ask for the witnesses of a circuit.
use Rattle.aig_base.proofs.Words.{◌≡◌, ◌↔◌, ℕ, ◌≤◌, Bool, List, [], ◌∷◌, ◌++◌, map, IsTrue, refl, sym, subst, ◌∙◌, All, AllByRecursion, flat_map, list_any, All-from_recursion, All-weaker, recursion_from_All}
use Rattle.aig_base.specs.declared.logic.literal.Lit.{Lit}
use Rattle.aig_base.specs.Clauses.{Satisfies, are_true, is_true_clause}
use Rattle.aig_circuit.specs.declared.edge.AigEdge.{AigEdge}
use Rattle.aig_circuit.proofs.Words.{Circuit, IsCircuit, lit_of, initial_edges, IsRun, IsInitial, edge_value}
use Rattle.aig_circuit.proofs.Trees.{node_value-false}
use Rattle.aig_cnf.specs.Cnf.{FixesRoots, IsFixed, NodeValuesSatisfy, edge_in}
use Rattle.aig_format.proofs.Entries.{rec_append}
use Rattle.aig_unroll.specs.Places.{Reads}
use Rattle.aig_unroll.specs.Unroll.{HasStepValues, UnrollsTo}
use Rattle.aig_runs.specs.CircuitQueries.{AsksOfCircuit, IsCircuitWitness}
use Rattle.aig_runs.specs.Queries.{SatisfiesBoth, last_bads, query_clauses, start_clauses, unit_clauses}
use Rattle.aig_runs.proofs.CircuitRuns.{assignments_are_runs, runs_are_assignments, shown}
use Rattle.aig_runs.proofs.Further.{Holds, clause_says, stand_all, stand_any, units_say}
use Rattle.aig_runs.proofs.Rows.{all_is}
use Rattle.aig_runs.proofs.Starting.{starts_same, starts_say}

module _ (c u : Circuit) (k : ℕ) (lists : List (List (List Lit))) (unrolls : UnrollsTo c k u) (fixes : FixesRoots u lists) where
  abbrev extra : List (List Lit)
  extra = query_clauses c k u

  module _ (v : ℕ → Bool) (holds : Satisfies v lists) (x : ℕ → ℕ → Bool) (is_run : IsRun c k x) (reads : Reads c u k v x) where
    -- the three parts, in order
    abbrev starts : List (List Lit)
    starts = flat_map start_clauses c.latchs

    abbrev units : List (List Lit)
    units = unit_clauses u.properties.constraints

    abbrev last : List Lit
    last = map lit_of (last_bads c k u)

    -- the assignment shows the properties of the run
    shows : HasStepValues c u k (edge_in v) x
    shows = shown c u k lists v x fixes holds (unrolls.same v x is_run reads)

    pub starts_are : AllByRecursion (Holds v) starts ↔ IsInitial c (x 0)
    starts_are =
        let zero = node_value-false u.nodes v 0 unrolls.keeps.nodes.sound.false_first in
        let IsSame = λ (e : AigEdge). edge_in v e ≡ edge_value u.nodes v e in
        let same = recursion_from_All IsSame (initial_edges u.latchs) (All-weaker (IsFixed u lists) IsSame (λ e is. is v holds) (initial_edges u.latchs) fixes.initial) in
        let of_first = unrolls.starts v x is_run reads in
        let say = starts_say u v zero same in
        let clauses = starts_same c.latchs u.latchs unrolls.keeps.leaves unrolls.keeps.starts in
        (λ h. of_first.0 (say.0 (subst (AllByRecursion (Holds v)) (sym clauses) h)), λ h. subst (AllByRecursion (Holds v)) clauses (say.1 (of_first.1 h)))

    -- the entry holds at the step
    abbrev IsTrueAt : ℕ → AigEdge → Type 0
    IsTrueAt t e = IsTrue (edge_value c.nodes (x t) e)

    pub constraints_are : AllByRecursion (Holds v) units ↔
        ((t : ℕ) → t ≤ k → All (IsTrueAt t) c.properties.constraints)
    constraints_are =
        let r = units_say v u.properties.constraints in
        let s = stand_all k (λ t. edge_value c.nodes (x t)) c.properties.constraints (edge_in v) u.properties.constraints shows.properties.constraints in
        (λ h t low. All-from_recursion (IsTrueAt t) c.properties.constraints (s.0 (r.0 h) t low), λ h. r.1 (s.1 (λ t low. recursion_from_All (IsTrueAt t) c.properties.constraints (h t low))))

    last_is : is_true_clause v last ≡ list_any (edge_value c.nodes (x k)) c.properties.bads
    last_is = clause_says v (last_bads c k u) ∙ stand_any k (λ t. edge_value c.nodes (x t)) c.properties.bads (edge_in v) u.properties.bads shows.properties.bads

    -- so the query clauses hold exactly where the run is a witness
    further_are : IsTrue (are_true v extra) ↔ IsCircuitWitness c k x
    further_are =
        let all = all_is (is_true_clause v) extra in
        let end = rec_append (Holds v) (starts ++ units) (last ∷ []) in
        let front = rec_append (Holds v) starts units in (
          λ h.
              let parts = end.0 (all.0 h) in
              let first = front.0 parts.0 in
              record { is_run = is_run; start = starts_are.0 first.0; constraints = constraints_are.0 first.1; bad = sym last_is ∙ parts.1.0 },
          λ w. all.1 (end.1 (front.1 (starts_are.1 w.start, constraints_are.1 w.constraints), (last_is ∙ w.bad, tt))),
        )

  -- the run that an assignment of both reads is a witness
  read_witness : (v : ℕ → Bool) → SatisfiesBoth v lists extra → (run : ℕ → ℕ → Bool) → IsRun c k run → Reads c u k v run → IsCircuitWitness c k run
  read_witness v both run is reads = (further_are v both.clauses_hold run is reads).0 both.further_hold

  pub circuit_queries_ask : IsCircuit c → NodeValuesSatisfy u lists → AsksOfCircuit c k u lists extra
  circuit_queries_ask is satisfied = record {
    exact = refl;
    satisfiable = (
      λ s. let one = assignments_are_runs c u k lists unrolls fixes s.0 s.1.clauses_hold in (one.run, read_witness s.0 s.1 one.run one.is_run one.reads),
      λ w.
          let a = runs_are_assignments c u k lists is unrolls satisfied w.0 w.1.is_run in
          (a.values, record { clauses_hold = a.satisfies; further_hold = (further_are a.values a.satisfies w.0 w.1.is_run a.reads).1 w.1 }),
    );
    read_off = read_witness;
  }
