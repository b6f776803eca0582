-- The query clauses of small queries, computed; and one query that is refuted, whose machine is safe.
use Rattle.aig_base.proofs.Words.{◌≡◌, ℕ, Bool, true, false, not, ◌&&◌, ◌||◌, Option, Some, None, List, [], ◌∷◌, map, IsTrue, refl, sym, subst, arith, false≢true}
use Rattle.aig_base.specs.declared.logic.literal.Lit.{Lit}
use Rattle.aig_base.proofs.Literals.{literal_value-lit_to}
use Rattle.aig_circuit.specs.declared.edge.AigEdge.{AigEdge}
use Rattle.aig_circuit.specs.declared.node.AigLatch.{AigLatch}
use Rattle.aig_circuit.proofs.Words.{Circuit, only_false, no_properties, edge_to}
use Rattle.aig_format.specs.declared.FileKind.TheVariants.{Text}
use Rattle.aig_format.proofs.Words.{File, Fits, circuit_of, node_of_variable}
use Rattle.aig_runs.specs.Encodes.{Encodes}
use Rattle.aig_runs.specs.Queries.{IsQueryOf, IsRefuted, IsSafeTo, query_clauses}
use Rattle.aig_runs.proofs.Queries.{queries_ask}
use Rattle.aig_runs.proofs.SafeSteps.{refuted_queries_are_safe}

-- the numbers of the literals, clause for clause
abbrev codes_of : List (List Lit) → List (List ℕ)
codes_of = map (map (λ (lit : Lit). lit.code))

-- the lists that a query looks at
abbrev lists_of : List AigLatch → List AigEdge → List AigEdge → Circuit
lists_of latchs bads constraints = record only_false { latchs = latchs; properties = record no_properties { bads = bads; constraints = constraints } }

-- latch 1 toggles, from this value or from any
abbrev toggling : Option AigEdge → List AigLatch
toggling init = record { input = 1; next = edge_to 1 true; init = init } ∷ []

-- it starts as false, and is bad where it is true
toggle-0 : let c = lists_of (toggling (Some (edge_to 0 false))) (edge_to 1 false ∷ []) [] in codes_of (query_clauses c 0 c) ≡ (3 ∷ []) ∷ (2 ∷ []) ∷ []
toggle-0 = refl

-- with one step more there are the bad edges 1 and !1, of which the last is asked for
toggle-1 : codes_of (query_clauses (lists_of (toggling (Some (edge_to 0 false))) (edge_to 1 false ∷ []) []) 1 (lists_of [] (edge_to 1 false ∷ edge_to 1 true ∷ []) [])) ≡ (3 ∷ []) ∷ (3 ∷ []) ∷ []
toggle-1 = refl

-- it starts as true
toggle-true : let c = lists_of (toggling (Some (edge_to 0 true))) (edge_to 1 false ∷ []) [] in codes_of (query_clauses c 0 c) ≡ (2 ∷ []) ∷ (2 ∷ []) ∷ []
toggle-true = refl

-- a latch with no initial edge has no clause
toggle-open : let c = lists_of (toggling None) (edge_to 1 false ∷ []) [] in codes_of (query_clauses c 0 c) ≡ (2 ∷ []) ∷ []
toggle-open = refl

-- one that starts as the inverse of node 2 has two clauses: it is false or 2 is, and one of them is true
toggle-edge : let c = lists_of (toggling (Some (edge_to 2 true))) (edge_to 1 false ∷ []) [] in codes_of (query_clauses c 0 c) ≡ (3 ∷ 5 ∷ []) ∷ (2 ∷ 4 ∷ []) ∷ (2 ∷ []) ∷ []
toggle-edge = refl

-- nothing is bad: the last clause is empty
harmless : let c = lists_of (toggling (Some (edge_to 0 false))) [] [] in codes_of (query_clauses c 0 c) ≡ (3 ∷ []) ∷ [] ∷ []
harmless = refl

-- an input that must hold, and is bad where it doesn't: the input of step 1 is node 2
held-1 : codes_of (query_clauses (lists_of [] (edge_to 1 true ∷ []) (edge_to 1 false ∷ [])) 1 (lists_of [] (edge_to 1 true ∷ edge_to 2 true ∷ []) (edge_to 1 false ∷ edge_to 2 false ∷ []))) ≡ (2 ∷ []) ∷ (4 ∷ []) ∷ (5 ∷ []) ∷ []
held-1 = refl

-- ---- one query

-- the file of the latch that toggles from false, and is bad where it is true
abbrev toggle : File
toggle = record {
  kind = Text;
  greatest = 1;
  inputs = [];
  latches = record { literal = 2; next = 3; reset = None } ∷ [];
  properties = record no_properties { bads = 2 ∷ [] };
  gates = [];
  names = [];
}

-- no assignment has the latch's node false and true
toggle-refuted : (lists : List (List (List Lit))) → IsRefuted lists (query_clauses (circuit_of toggle) 0 (circuit_of toggle))
toggle-refuted lists s =
    let n = node_of_variable toggle 1 in
    let holds = rw (literal_value-lit_to s.0 n false, literal_value-lit_to s.0 n true) at s.1.further_hold in
    by (s.0 n) holds
  where
    by : (b : Bool) → IsTrue ((not b || false) && ((b || false) && true)) → ⊥
    by true h = false≢true h
    by false h = false≢true h

-- so the latch is not true at step 0
toggle-safe : (limit : ℕ) (optimize : Bool) (lists : List (List (List Lit))) → Fits toggle limit → Encodes toggle 0 optimize (circuit_of toggle) (circuit_of toggle) lists → IsSafeTo toggle 0
toggle-safe limit optimize lists fits encodes =
    let c = circuit_of toggle in
    (refuted_queries_are_safe toggle 0 (λ k. c) (λ k. c) (λ k. lists) (λ k. query_clauses c 0 c) (λ k h. asks k (omega arith))).0 (λ k h. toggle-refuted lists)
  where
    asks : (k : ℕ) → k ≡ 0 → IsQueryOf toggle k (circuit_of toggle) (circuit_of toggle) lists (query_clauses (circuit_of toggle) 0 (circuit_of toggle))
    asks k none =
        let c = circuit_of toggle in
        subst (λ m. IsQueryOf toggle m c c lists (query_clauses c 0 c)) (sym none) (queries_ask toggle limit 0 optimize c c lists fits encodes)
