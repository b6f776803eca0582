-- Part of what is promised.
-- What a query asks: a run from an initial state on which every constraint holds and, at the last
-- step, some bad literal. (AIGER 1.9, "Properties"; bounded model checking.)
use Rattle.std.specs.Prelude.{◌≡◌, ℕ, ◌*◌, ◌==◌, ◌<◌, ◌≤◌, ◌↔◌, if◌then◌else◌, Bool, true, false, Option, Some, None, IfSome, IsTrue, List, [], ◌∷◌, ◌++◌, length, map, drop}
use Rattle.std.specs.List.{AllByRecursion, flat_map, list_any}
use Rattle.aig_base.specs.declared.logic.literal.Lit.{Lit}
use Rattle.aig_base.specs.Clauses.{Satisfies, are_true, lit_to}
use Rattle.aig_circuit.specs.declared.edge.AigEdge.{AigEdge}
use Rattle.aig_circuit.specs.declared.node.AigLatch.{AigLatch}
use Rattle.aig_circuit.specs.Edge.{inverse, lit_of}
use Rattle.aig_circuit.specs.Circuit.{Circuit}
use Rattle.aig_format.specs.File.{File}
use Rattle.aig_format.specs.Machine.{value_of_literal, IsMachineRun, IsMachineInitial}
use Rattle.aig_runs.specs.Files.{HasLeafValues}

-- a run from an initial state with every constraint at the steps 0 to k, and some bad literal at
-- step k
pub record IsWitness (f : File) (k : ℕ) (run : ℕ → ℕ → Bool) : Type 0 where
  pub is_run : IsMachineRun f k run
  pub start : IsMachineInitial f run
  pub constraints : (t : ℕ) → t ≤ k
      → AllByRecursion (λ e. IsTrue (value_of_literal (run t) e)) f.properties.constraints
  pub bad : IsTrue (list_any (value_of_literal (run k)) f.properties.bads)

-- ---- the clauses

-- the clauses that node n has the value of the edge e: one where that is constant, and else two
abbrev pub value_clauses : ℕ → AigEdge → List (List Lit)
value_clauses n e =
    if e.node_id == 0 then (lit_to n e.compl ∷ []) ∷ []
    else (lit_to n false ∷ lit_of e ∷ []) ∷ (lit_to n true ∷ lit_of (inverse e) ∷ []) ∷ []

-- the clauses that a latch's leaf has the value of its initial edge, where it has one
abbrev pub start_clauses : AigLatch → List (List Lit)
start_clauses latch = by_init latch.input latch.init
  where
    by_init : ℕ → Option AigEdge → List (List Lit)
    by_init n (Some e) = value_clauses n e
    by_init n None = []

-- for each edge the unit clause that it is true
abbrev pub unit_clauses : List AigEdge → List (List Lit)
unit_clauses es = map (λ e. lit_of e ∷ []) es

-- the bad edges of step k, which are the last of the unrolled circuit's
abbrev pub last_bads : Circuit → ℕ → Circuit → List AigEdge
last_bads c k unrolled = drop (k * length c.properties.bads) unrolled.properties.bads

-- the clauses of initial edges, of constraints, and one of bad edges
abbrev pub asking_clauses : List AigLatch → List AigEdge → List AigEdge → List (List Lit)
asking_clauses latchs constraints bads =
    flat_map start_clauses latchs ++ unit_clauses constraints ++ map lit_of bads ∷ []

-- the query clauses, in order: initial values, each constraint at each step, and one clause of the
-- bad edges of step k
abbrev pub query_clauses : Circuit → ℕ → Circuit → List (List Lit)
query_clauses c k unrolled =
    asking_clauses c.latchs unrolled.properties.constraints
    (drop (k * length c.properties.bads) unrolled.properties.bads)

-- the numbers of the latch's leaf and of its initial edge are below n
abbrev pub IsThere : ℕ → AigLatch → Type 0
IsThere n latch = (latch.input < n) × IfSome latch.init (λ e. e.node_id < n)

-- ---- what they say

-- the assignment satisfies the clauses and the further ones together
pub record SatisfiesBoth (v : ℕ → Bool) (clauses : List (List (List Lit)))
    (extra : List (List Lit)) : Type 0 where
  pub clauses_hold : Satisfies v clauses
  pub further_hold : IsTrue (are_true v extra)

-- The clauses and the further ones ask for the witnesses of the file's machine.
pub record IsQueryOf (f : File) (k : ℕ) (circuit unrolled : Circuit)
    (clauses : List (List (List Lit))) (extra : List (List Lit)) : Type 0 where
  -- which query clauses there are, and in which order
  pub exact : extra ≡ query_clauses circuit k unrolled
  -- some assignment satisfies both exactly where there is a witness
  pub satisfiable : ((v : ℕ → Bool) × SatisfiesBoth v clauses extra)
      ↔ ((run : ℕ → ℕ → Bool) × IsWitness f k run)
  -- and the run with the leaf values of such an assignment is a witness
  pub read_off : (v : ℕ → Bool) → SatisfiesBoth v clauses extra → (run : ℕ → ℕ → Bool)
      → IsMachineRun f k run → HasLeafValues f circuit unrolled k v run → IsWitness f k run

-- no assignment satisfies both
abbrev pub IsRefuted : List (List (List Lit)) → List (List Lit) → Type 0
IsRefuted clauses extra = ¬ ((v : ℕ → Bool) × SatisfiesBoth v clauses extra)

-- On every run from an initial state, each bad literal is false at each step up to n at which, and
-- before which, every constraint holds.
abbrev pub IsSafeTo : File → ℕ → Type 0
IsSafeTo f n =
    (last t : ℕ) (run : ℕ → ℕ → Bool) → IsMachineRun f last run → IsMachineInitial f run → t ≤ last
    → t ≤ n
    → ((s : ℕ) → s ≤ t
    → AllByRecursion (λ e. IsTrue (value_of_literal (run s) e)) f.properties.constraints)
    → AllByRecursion (λ e. value_of_literal (run t) e ≡ false) f.properties.bads
