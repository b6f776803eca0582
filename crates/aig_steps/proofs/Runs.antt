-- The clauses of steps are satisfied by exactly the runs on which every constraint holds.
use Rattle.aig_base.proofs.Words.{◌↔◌, ℕ, Bool, List, [], ◌∷◌, ◌++◌, map, IsTrue, sym, subst, All-cons, All-nil, AllByRecursion, flat_map}
use Rattle.aig_base.specs.declared.logic.literal.Lit.{Lit}
use Rattle.aig_base.specs.Clauses.{Satisfies, are_true, is_true_clause}
use Rattle.aig_base.specs.Formula.{IsSatisfiable}
use Rattle.aig_circuit.proofs.Words.{Circuit, IsCircuit, IsInitial, IsRun, lit_of}
use Rattle.aig_format.proofs.Entries.{rec_append}
use Rattle.aig_runs.specs.Circuits.{IsOneCircuitAssignment}
use Rattle.aig_runs.specs.CircuitQueries.{AsksOfCircuit, HasCircuitWitness}
use Rattle.aig_runs.specs.Queries.{SatisfiesBoth, last_bads, query_clauses, unit_clauses}
use Rattle.aig_runs.proofs.CircuitRuns.{assignments_are_runs, runs_are_assignments}
use Rattle.aig_runs.proofs.CircuitQueries.{circuit_queries_ask, constraints_are, starts_are}
use Rattle.aig_runs.proofs.Further.{Holds}
use Rattle.aig_runs.proofs.Rows.{all_is}
use Rattle.aig_unroll.specs.Places.{Reads}
use Rattle.aig_unroll.specs.Unroll.{UnrollsTo}
use Rattle.aig_steps.specs.Stepwise.{AsksForRuns, IsConstrainedTo, IsOneConstrainedRun, bads_at, frame_clauses, initial_clauses, node_clauses, stepwise_clauses, stepwise_query}
use Rattle.aig_steps.proofs.Further.{of_all_nodes}
use Rattle.aig_steps.proofs.Nodes.{clause_lists, fixes, lists_say, satisfies}

module _ (c u : Circuit) (k : ℕ) (is : IsCircuit c) (is_u : IsCircuit u)
    (to : UnrollsTo c k u) where
  abbrev lists : List (List (List Lit))
  lists = clause_lists u.nodes

  abbrev units : List (List Lit)
  units = unit_clauses u.properties.constraints

  -- the clauses of the steps are those of the nodes, and of the constraints
  pub parts : (v : ℕ → Bool) → IsTrue (are_true v (stepwise_clauses c k)) ↔
      (Satisfies v lists × AllByRecursion (Holds v) units)
  parts v =
      let all = all_is (is_true_clause v) (stepwise_clauses c k) in
      let nodes = of_all_nodes (Holds v) c k in
      let In = λ (d : Circuit). AllByRecursion (Holds v)
      (frame_clauses d.nodes d.properties.constraints) in
      let two = rec_append (Holds v) (flat_map node_clauses u.nodes) units in
      let say = lists_say v u.nodes in (
        λ h. let p = two.0 (subst In (sym to.exact) (nodes.0 (all.0 h))) in (say.1 p.0, p.1),
        λ h. all.1 (nodes.1 (subst In to.exact (two.1 (say.0 h.0, h.1)))),
      )

  -- a run that is read off an assignment meets the constraints where the units hold
  met : (v : ℕ → Bool) → Satisfies v lists → (run : ℕ → ℕ → Bool) → IsRun c k run
      → Reads c u k v run
      → AllByRecursion (Holds v) units ↔ IsConstrainedTo c k run
  met v sat run is_run reads = constraints_are c u k lists to (fixes u is_u) v sat run is_run reads

  one_run : (v : ℕ → Bool) → IsTrue (are_true v (stepwise_clauses c k))
      → IsOneConstrainedRun c u k v
  one_run v h =
      let p = (parts v).0 h in
      let one = assignments_are_runs c u k lists to (fixes u is_u) v p.0 in
      record { one = one; constrained = (met v p.0 one.run one.is_run one.reads).0 p.1 }

  one_assignment : (run : ℕ → ℕ → Bool) → IsRun c k run → IsConstrainedTo c k run
      → IsOneCircuitAssignment c u k (stepwise_clauses c k ∷ []) run
  one_assignment run is_run constrained =
      let a = runs_are_assignments c u k lists is to (satisfies u is_u) run is_run in
      let P = λ (cs : List (List Lit)). IsTrue (are_true a.values cs) in
      let holds = (parts a.values).1
      (a.satisfies, (met a.values a.satisfies run is_run a.reads).1 constrained) in
      record {
        values = a.values;
        reads = a.reads;
        only = a.only;
        of_nodes = a.of_nodes;
        satisfies =
            All-cons P (stepwise_clauses c k) [] holds (All-nil P);
      }

  begin : (v : ℕ → Bool) (run : ℕ → ℕ → Bool) → IsTrue (are_true v (stepwise_clauses c k))
      → IsRun c k run → Reads c u k v run
      → IsTrue (are_true v (initial_clauses c)) ↔ IsInitial c (run 0)
  begin v run h is_run reads =
      let sat = ((parts v).0 h).0 in
      let all = all_is (is_true_clause v) (initial_clauses c) in
      let are = starts_are c u k lists to (fixes u is_u) v sat run is_run reads in
      (λ i. are.0 (all.0 i), λ i. all.1 (are.1 i))

  pub asks_for_runs : AsksForRuns c u k
  asks_for_runs = record { assignments = one_run; runs = one_assignment; starts = begin }

  -- ---- queries

  abbrev starts : List (List Lit)
  starts = initial_clauses c

  abbrev last : List Lit
  last = map lit_of (last_bads c k u)

  -- the query of the steps holds exactly where the lists and the query clauses of the unrolled circuit do
  same_query : (v : ℕ → Bool) → IsTrue (are_true v (stepwise_query c k)) ↔ SatisfiesBoth v lists
      (query_clauses c k u)
  same_query v =
      let H = Holds v in
      let In = λ (d : Circuit). AllByRecursion H
      (starts ++ [] ++ map lit_of (last_bads c k d) ∷ []) in
      let all = all_is (is_true_clause v) (stepwise_query c k) in
      let steps = all_is (is_true_clause v) (stepwise_clauses c k) in
      let further = all_is (is_true_clause v) (query_clauses c k u) in
      let two =
      rec_append H (stepwise_clauses c k) (starts ++ [] ++ map lit_of (bads_at c k) ∷ []) in
      let mine = rec_append H (starts ++ []) (last ∷ []) in
      let none = rec_append H starts [] in
      let theirs = rec_append H (starts ++ units) (last ∷ []) in
      let inner = rec_append H starts units in (
        λ h.
            let p = two.0 (all.0 h) in
            let s = (parts v).0 (steps.1 p.0) in
            let m = mine.0 (subst In (sym to.exact) p.1) in
            record {
              clauses_hold = s.0;
              further_hold =
                  further.1 (theirs.1 (inner.1 ((none.0 m.0).0, s.1), m.1));
            },
        λ b.
            let t = theirs.0 (further.0 b.further_hold) in
            let i = inner.0 t.0 in
            all.1 (two.1 (
              steps.0 ((parts v).1 (b.clauses_hold, i.1)),
              subst In to.exact
                  (mine.1 (none.1 (i.0, tt), t.1)),
            )),
      )

  pub queries_ask : IsSatisfiable (stepwise_query c k) ↔ HasCircuitWitness c k
  queries_ask =
      let asks : AsksOfCircuit c k u lists (query_clauses c k u) =
      circuit_queries_ask c u k lists to (fixes u is_u) is (satisfies u is_u) in (
        λ s. asks.satisfiable.0 (s.0, (same_query s.0).0 s.1),
        λ w. let s = asks.satisfiable.1 w in (s.0, (same_query s.0).1 s.1),
      )
