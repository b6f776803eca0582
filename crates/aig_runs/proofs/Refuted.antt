-- Small machines: runs that are and aren't witnesses, and query clauses that a query doesn't ask for.
use Rattle.aig_base.proofs.Words.{◌≡◌, ◌≢◌, ℕ, Bool, true, false, not, ◌&&◌, ◌||◌, ◌+◌, Option, Some, None, List, [], ◌∷◌, map, refl, sym, subst, ◌∙◌, arith, ◌==◌, false≢true}
use Rattle.aig_base.specs.declared.logic.literal.Lit.{Lit}
use Rattle.aig_circuit.specs.declared.edge.AigEdge.{AigEdge}
use Rattle.aig_circuit.specs.declared.node.AigNodeType.TheVariants.{False, Leaf}
use Rattle.aig_circuit.proofs.Words.{Circuit, only_false, no_properties, node_value, edge_to}
use Rattle.aig_circuit.proofs.Trees.{node_value-leaf}
use Rattle.aig_format.specs.declared.FileKind.TheVariants.{Text}
use Rattle.aig_format.proofs.Words.{File, LatchLine, GateLine, IsMachineRun, Moves, initial_value_of}
use Rattle.aig_runs.specs.Queries.{IsWitness, IsSafeTo, query_clauses, start_clauses}
use Rattle.aig_runs.specs.CircuitQueries.{HasCircuitWitness}

abbrev machine : List ℕ → List LatchLine → List GateLine → List ℕ → List ℕ → File
machine inputs latches gates bads constraints = record {
  kind = Text;
  greatest = 9;
  inputs = inputs;
  latches = latches;
  properties = record no_properties { bads = bads; constraints = constraints };
  gates = gates;
  names = [];
}

-- a latch that toggles, from each reset
abbrev line : ℕ → Option ℕ → LatchLine
line next reset = record { literal = 2; next = next; reset = reset }

reset-missing : initial_value_of (line 3 None) ≡ Some false
reset-missing = refl

reset-0 : initial_value_of (line 3 (Some 0)) ≡ Some false
reset-0 = refl

reset-1 : initial_value_of (line 3 (Some 1)) ≡ Some true
reset-1 = refl

reset-own : initial_value_of (line 3 (Some 2)) ≡ None
reset-own = refl

-- from false, bad where true: no witness at step 0, one at step 1
abbrev toggle : File
toggle = machine [] (line 3 None ∷ []) [] (2 ∷ []) []

no_witness-0 : ¬ ((run : ℕ → ℕ → Bool) × IsWitness toggle 0 run)
no_witness-0 s =
    let start : s.0 0 1 ≡ false = s.1.start.0 in
    let bad : s.0 0 1 || false ≡ true = s.1.bad in
    let none : false ≡ true = rw start at bad in
    false≢true none

abbrev toggles : ℕ → ℕ → Bool
toggles t v = (v == 1) && (t == 1)

witness-1 : IsWitness toggle 1 toggles
witness-1 = record {
  is_run = record {
    steps = λ t h. record { zero = refl; gates = tt };
    moves = λ t h. let e : t ≡ 0 = omega arith in subst (λ m. Moves toggle (toggles m) (toggles (m + 1))) (sym e) (refl, tt);
  };
  start = (refl, tt);
  constraints = λ t h. tt;
  bad = refl;
}

-- a query of a file with no bad literal has no witness, whatever the machine
no_bads : (latches : List LatchLine) (gates : List GateLine) (k : ℕ) → ¬ ((run : ℕ → ℕ → Bool) × IsWitness (machine [] latches gates [] []) k run)
no_bads latches gates k s = let b : false ≡ true = s.1.bad in false≢true b

-- a constraint that is false at step 0 only: no witness at a later step
abbrev once : File
once = machine [] (line 1 None ∷ []) [] (1 ∷ []) (2 ∷ [])

no_witness-later : (k : ℕ) → ¬ ((run : ℕ → ℕ → Bool) × IsWitness once k run)
no_witness-later k s =
    let start : s.0 0 1 ≡ false = s.1.start.0 in
    let held : s.0 0 1 ≡ true = (s.1.constraints 0 (omega arith)).0 in
    false≢true (sym start ∙ held)

-- a gate of a node with its own inverse is false at every step of every run; with latch 1 next to it
abbrev opposite : File
opposite = machine (2 ∷ []) [] (record { lhs = 4; rhs0 = 3; rhs1 = 2 } ∷ []) (4 ∷ []) []

opposite-safe : (n : ℕ) → IsSafeTo opposite n
opposite-safe n last t run r s low within constraints =
    let gate : run t 2 ≡ not (run t 1) && run t 1 = (r.steps t low).gates.0 in
    (gate ∙ by (run t 1), tt)
  where
    by : (b : Bool) → (not b && b) ≡ false
    by true = refl
    by false = refl

-- two latches that exchange their values: after two steps each has its own again
abbrev swap : File
swap = machine [] (record { literal = 2; next = 4; reset = Some 2 } ∷ record { literal = 4; next = 2; reset = Some 1 } ∷ []) [] [] []

swap-back : (run : ℕ → ℕ → Bool) → IsMachineRun swap 2 run → run 2 1 ≡ run 0 1
swap-back run r =
    let first = (r.moves 1 (omega arith)).0 in
    let second = (r.moves 0 (omega arith)).1.0 in
    first ∙ second

-- ---- query clauses

-- the numbers of the literals of a query of one step, where these are the bad edges of both steps
abbrev of_bads : AigEdge → AigEdge → List (List ℕ)
of_bads first second =
    let c = record only_false { properties = record no_properties { bads = first ∷ [] } } in
    map (map (λ (lit : Lit). lit.code)) (query_clauses c 1 (record only_false { properties = record no_properties { bads = first ∷ second ∷ [] } }))

-- the last clause has not the bad edges of all steps
no_bads_of_all_steps : of_bads (edge_to 1 false) (edge_to 2 false) ≢ (2 ∷ 4 ∷ []) ∷ []
no_bads_of_all_steps e = cc

-- nor those of the first
no_bads_of_the_first : of_bads (edge_to 1 false) (edge_to 2 false) ≢ (2 ∷ []) ∷ []
no_bads_of_the_first e = cc

-- an initial edge that isn't constant is said by both its clauses, and not by one
both_of_an_edge : map (map (λ (lit : Lit). lit.code)) (start_clauses (record { input = 1; next = edge_to 1 false; init = Some (edge_to 2 false) })) ≢ (3 ∷ 4 ∷ []) ∷ []
both_of_an_edge e = cc

-- ---- circuits

-- latch 2 keeps its value, and starts as input 1, which must be false at step 0: it is false at each step
abbrev held : Circuit
held = record only_false {
  nodes = record { node_id = 0; typ = False } ∷ record { node_id = 1; typ = Leaf } ∷ record { node_id = 2; typ = Leaf } ∷ [];
  inputs = 1 ∷ [];
  latchs = record { input = 2; next = edge_to 2 false; init = Some (edge_to 1 false) } ∷ [];
  properties = record no_properties { bads = edge_to 2 false ∷ []; constraints = edge_to 1 true ∷ [] };
}

held-0 : ¬ HasCircuitWitness held 0
held-0 s =
    let value = λ (n : ℕ). node_value held.nodes (s.0 0) n in
    let one : value 1 ≡ s.0 0 1 = node_value-leaf held.nodes (s.0 0) 1 refl in
    let two : value 2 ≡ s.0 0 2 = node_value-leaf held.nodes (s.0 0) 2 refl in
    let start : value 1 ≡ s.0 0 2 = s.1.start 0 (record { input = 0; next = edge_to 0 false; init = None }) (omega arith) in
    let constraint : not (value 1) ≡ true = s.1.constraints 0 (omega arith) 0 (edge_to 0 false) (omega arith) in
    let bad : value 2 || false ≡ true = s.1.bad in
    no (value 1) (value 2) (start ∙ sym two) constraint bad
  where
    no : (a b : Bool) → a ≡ b → not a ≡ true → b || false ≡ true → ⊥
    no true b same constraint bad = false≢true constraint
    no false true same constraint bad = false≢true same
    no false false same constraint bad = false≢true bad
