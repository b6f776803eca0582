-- Part of what is promised.
-- What is asked of a circuit, what an answer says of the bytes of a file and of a proof, and which
-- errors a call has.
use Rattle.std.specs.Prelude.{◌≡◌, ◌≢◌, ℕ, ◌+◌, ◌≤◌, ◌^◌, ◌==◌, nat_lt, if◌then◌else◌, Bool, List, [], ◌++◌, length, replicate, Option, Result}
use Rattle.std.specs.FinMap.{empty}
use Rattle.aig_base.specs.declared.logic.literal.Lit.{Lit}
use Rattle.aig_base.specs.Clauses.{AreBelow}
use Rattle.aig_base.specs.Formula.{clauses_in}
use Rattle.aig_circuit.specs.Circuit.{Circuit, IsCircuit}
use Rattle.aig_circuit.specs.View.{lists_circuit}
use Rattle.aig_cnf.specs.Cnf.{AreNeeded, FixesRoots, HasClauses, NodeValuesSatisfy}
use Rattle.aig_format.specs.Circuit.{circuit_of}
use Rattle.aig_format.specs.File.{File}
use Rattle.aig_format.specs.Fits.{Accepts}
use Rattle.aig_reader.specs.declared.error.ReadError.TheVariants as read
use Rattle.aig_reader.specs.Verdicts.{Accepted, NoBads, Short, TooLarge, Verdict}
use Rattle.aig_unroll.specs.Places.{unrolled_size}
use Rattle.aig_unroll.specs.Unroll.{UnrollsTo}
use Rattle.aig_runs.specs.CircuitQueries.{AsksOfCircuit}
use Rattle.aig_runs.specs.declared.window.Window.{Window}
use Rattle.aig_runs.specs.WindowClauses.{AsksWindow, count_free}
use Rattle.aig_refutation.specs.Checking.{Shows}
use Rattle.aig_refutation.specs.declared.error.RefutationError.{RefutationError}
use Rattle.aig_encode.specs.declared.error.EncodeError.TheVariants as encode
use Rattle.aig_encode.specs.Encoding as encoding
use Rattle.aig_answers.specs.declared.circuits.CircuitQuery.{CircuitQuery}
use Rattle.aig_answers.specs.declared.clause_parts.ClauseParts.{ClauseParts}
use Rattle.aig_answers.specs.declared.windows.UnrolledWindow.{UnrolledWindow}
use Rattle.aig_answers.specs.declared.windows.WindowClauses.{WindowClauses}
use Rattle.aig_answers.specs.declared.error.AnswerError.{AnswerError}
use Rattle.aig_answers.specs.declared.error.AnswerError.TheVariants as errors

-- ---- circuits

-- The query of a circuit for step k.
pub record IsCircuitQuery (c : Circuit) (k : ℕ) (optimize : Bool) (q : CircuitQuery) : Type 0 where
  -- the circuit with k further steps, and which clauses it has
  pub steps : UnrollsTo c k q.unrolled
  pub has_clauses : HasClauses q.unrolled optimize q.clauses
  -- each satisfying assignment gives each edge of a list its value under the assignment's leaf
  -- values, and node values under any satisfy
  pub fixes : FixesRoots q.unrolled q.clauses
  pub satisfied : NodeValuesSatisfy q.unrolled q.clauses
  -- both lists can be satisfied exactly where the circuit has a run to a bad edge at step k, which
  -- is read off the values
  pub asks : AsksOfCircuit c k q.unrolled q.clauses q.extra
  -- the query clauses are of variables that are there
  pub below : AreBelow (length q.clauses) q.extra

-- the query that has these clauses and this unrolled circuit
abbrev pub query_with : Circuit → WindowClauses → CircuitQuery
query_with unrolled made =
    record { unrolled = unrolled; clauses = made.clauses; extra = made.extra }

-- the circuit, without names
abbrev pub without_names : Circuit → Circuit
without_names c = record c { names = empty }

-- it is the circuit of the file, names aside
abbrev pub IsCircuitOf : File → Circuit → Type 0
IsCircuitOf f c = without_names c ≡ without_names (circuit_of f)

-- ---- clauses that are written from a circuit

-- the circuit's gates that need clauses, how many clauses it has, and further ones of its variables
pub record AreWrittenFrom (c : Circuit) (optimize : Bool) (parts : ClauseParts) : Type 0 where
  pub few : length c.nodes ≤ 2 ^ 31
  pub needed : AreNeeded c optimize parts.needed.marks.items parts.needed.clauses
  pub below : AreBelow (length c.nodes) parts.extra

-- whichever list there is of the circuit's clauses, it asks so with the further ones
abbrev pub AskWith : Circuit → Bool → (WindowClauses → Type 0) → ClauseParts → Type 0
AskWith c optimize Asks parts =
    (lists : List (List (List Lit))) → HasClauses c optimize lists
    → Asks (record { clauses = lists; extra = parts.extra })

-- A circuit's window: the circuit with its further steps, its gates that need clauses, and further
-- clauses, which may be of free variables behind those of the nodes.
pub record IsUnrolledWindow (form : Window) (c : Circuit) (k : ℕ) (optimize : Bool)
    (w : UnrolledWindow) : Type 0 where
  pub circuit : IsCircuit (lists_circuit w.unrolled)
  pub few : length (lists_circuit w.unrolled).nodes + w.free ≤ 2 ^ 31
  pub needed : AreNeeded (lists_circuit w.unrolled) optimize w.needed.marks.items w.needed.clauses
  pub below : AreBelow (length (lists_circuit w.unrolled).nodes + w.free) w.extra
  -- whichever list there is of the circuit's clauses, it asks for the window with the further ones
  pub asks : (lists : List (List (List Lit))) → HasClauses (lists_circuit w.unrolled) optimize lists
      → AsksWindow form c k optimize (lists ++ replicate w.free []) w.extra

-- ---- files

-- the bytes are this file, it and its further steps are within the limit, and it has a bad literal
abbrev pub IsAsked : ℕ → ℕ → List ℕ → File → Type 0
IsAsked limit k bytes f =
    (Accepts bytes limit f × (unrolled_size (circuit_of f) k ≤ limit)) × (f.properties.bads ≢ [])

-- how many variables the clauses of a window have at most: the bound of the circuit with k + 1
-- further steps, and the free ones
abbrev pub window_size : Window → Circuit → ℕ → ℕ
window_size form c k = unrolled_size c (k + 1) + count_free form c k

-- the verdict on a file that fits and is asked for a bad state at step k: its further steps may
-- pass the limit, it has no bad literal, or it is taken
abbrev pub asked_verdict : ℕ → ℕ → File → Verdict
asked_verdict limit k f =
    if nat_lt limit (unrolled_size (circuit_of f) k) then TooLarge
    else if length f.properties.bads == 0 then NoBads else Accepted

-- it is this verdict, or Short where that is that the circuit is taken
abbrev pub IsSaidBy : Verdict → Verdict → Type 0
IsSaidBy of Short = of ≡ Accepted
IsSaidBy of v = v ≡ of

-- ---- errors

-- what an error says of the bytes
abbrev pub verdict_of : AnswerError → Verdict
verdict_of (errors.Encode e) = encoding.verdict_of e
verdict_of errors.NoBads = NoBads

-- ---- proofs

-- which proofs of clauses are taken: the answer is what the text of the proof shows
abbrev pub TellsOfProof : List (List (List Lit)) → List (List Lit) → Option (List ℕ)
    → Result (Unit {0}) RefutationError → Type 0
TellsOfProof lists extra text answer =
    Shows (length lists) (clauses_in lists ++ extra) text answer

-- the circuit has a query for step k, and the answer is so of the clauses of each: of those that
-- any call gives or prints, as there is one (`circuit_clauses_are_one`)
abbrev pub TellsOfCircuit : ℕ → Bool → Option (List ℕ) → Circuit
    → Result (Unit {0}) RefutationError → Type 0
TellsOfCircuit k optimize text c answer =
    ((q : CircuitQuery) × IsCircuitQuery c k optimize q)
    × ((q : CircuitQuery) → IsCircuitQuery c k optimize q
    → TellsOfProof q.clauses q.extra text answer)

-- ---- errors of calls

-- the errors of a file's query
abbrev pub IsOfQuery : AnswerError → Type 0
IsOfQuery (errors.Encode e) = e ≢ encode.Read read.Open
IsOfQuery errors.NoBads = Unit {0}
