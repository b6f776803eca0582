-- Part of what is promised.
-- The clauses of a bounded check of a file's machine, and what an answer says of the bytes of the
-- file and of a proof. (Bounded model checking; Tseitin encoding.)
use Rattle.std.specs.Prelude.{◌≡◌, ◌≢◌, ℕ, ◌==◌, ◌<◌, ◌≤◌, ◌^◌, if◌then◌else◌, Bool, true, false, IsTrue, Option, IfSome, List, [], ◌∷◌, ◌++◌, length, All, slice_index_or, Ok, Err}
use Rattle.std.specs.List.{AllZip}
use Rattle.aig_base.specs.declared.logic.three.Lbool.{Lbool}
use Rattle.aig_base.specs.declared.logic.three.Lbool.TheVariants.{TRUE, NONE}
use Rattle.aig_base.specs.Clauses.{are_true}
use Rattle.aig_base.specs.Formula.{clauses_in}
use Rattle.aig_circuit.specs.declared.edge.AigEdge.{AigEdge}
use Rattle.aig_circuit.specs.Circuit.{Circuit}
use Rattle.aig_circuit.specs.Edge.{edge_to, lit_of}
use Rattle.aig_circuit.specs.View.{lists_circuit}
use Rattle.aig_cnf.specs.Cnf.{FixesRoots, HasClauses, NodeValuesSatisfy}
use Rattle.aig_format.specs.Circuit.{circuit_of}
use Rattle.aig_format.specs.File.{File}
use Rattle.aig_format.specs.Fits.{Accepts}
use Rattle.aig_reader.specs.declared.error.ReadError.TheVariants as read
use Rattle.aig_reader.specs.Reading.{IsReadAs}
use Rattle.aig_reader.specs.Verdicts as reading
use Rattle.aig_reader.specs.Verdicts.{Accepted, NoBads, Short, Verdict}
use Rattle.aig_witness.specs.declared.solutions.error.SolutionError.{SolutionError}
use Rattle.aig_witness.specs.declared.solutions.error.SolutionError.TheVariants as solutions
use Rattle.aig_witness.specs.SolverAnswers.{GivesSolution, solution_in}
use Rattle.aig_bounded.specs.declared.error.BoundedError.TheVariants.{TooLarge}
use Rattle.aig_bounded.specs.Question.{IsQuestion}
use Rattle.aig_answers.specs.declared.bounded_checks.clauses.BoundedClauses.{BoundedClauses}
use Rattle.aig_answers.specs.declared.bounded_checks.error.BoundedAnswerError.{BoundedAnswerError}
use Rattle.aig_answers.specs.declared.bounded_checks.error.BoundedAnswerError.TheVariants as errors
use Rattle.aig_answers.specs.Naming.{IsNamed}

-- ---- the question

-- the bytes are this file, it is within the limit, and it has a bad literal
abbrev pub IsAskedWithin : ℕ → List ℕ → File → Type 0
IsAskedWithin limit bytes f = Accepts bytes limit f × (f.properties.bads ≢ [])

-- The clauses of the question whether the circuit reaches a bad state up to step k, and the one
-- that its output is true.
pub record AsksOfBads (c : Circuit) (k : ℕ) (optimize : Bool) (made : BoundedClauses) : Type 0 where
  pub output : AigEdge
  pub asks : IsQuestion c k (lists_circuit made.question.circuit) output
      made.question.places.items
  -- what stands at these places, one for one
  pub named : AllZip (IsNamed c) made.question.places.items made.named.items
  -- which gates have which clauses; what satisfies them, and what they fix
  pub has_clauses : HasClauses (lists_circuit made.question.circuit) optimize made.clauses
  pub fixes : FixesRoots (lists_circuit made.question.circuit) made.clauses
  pub satisfied : NodeValuesSatisfy (lists_circuit made.question.circuit) made.clauses
  pub exact : made.extra ≡ (lit_of output ∷ []) ∷ []

-- those of the question of the file's circuit
abbrev pub AsksBounded : File → ℕ → Bool → BoundedClauses → Type 0
AsksBounded f = AsksOfBads (circuit_of f)

-- the question's output is the constant false
abbrev pub IsSettled : BoundedClauses → Type 0
IsSettled made = All (λ e. e ≡ edge_to 0 false) made.question.circuit.properties.outputs.items

-- ---- the file's bytes

-- the verdict on a file that fits: it has no bad literal, or it is taken
abbrev pub bounded_verdict : File → Verdict
bounded_verdict f = if length f.properties.bads == 0 then NoBads else Accepted

-- it is the verdict on a circuit with these bad edges, or Short where that circuit would be taken
abbrev pub IsSaidOfBads : List AigEdge → Verdict → Type 0
IsSaidOfBads bads Accepted = bads ≢ []
IsSaidOfBads bads Short = bads ≢ []
IsSaidOfBads bads NoBads = bads ≡ []
IsSaidOfBads bads v = ⊥

-- What an error says of the bytes. A question that is too large is told as memory that ran out: how
-- large it is depends on what is folded, so that the file would be taken. One of a proof, or of a
-- solver's answer, says that the file is taken.
abbrev pub verdict_of : BoundedAnswerError → Verdict
verdict_of (errors.Read e) = reading.verdict_of e
verdict_of errors.NoBads = NoBads
verdict_of (errors.Question e) = Short
verdict_of (errors.Solution e) = Accepted

-- ---- errors

-- of a file's question
abbrev pub IsOfQuestion : BoundedAnswerError → Type 0
IsOfQuestion (errors.Read e) = e ≢ read.Open
IsOfQuestion errors.NoBads = Unit {0}
IsOfQuestion (errors.Question e) = Unit {0}
IsOfQuestion (errors.Solution e) = ⊥

-- of the question and a solver's answer: a witness is made only where it shows a bad state, so that
-- none is refused
abbrev pub IsOfWitness : BoundedAnswerError → Type 0
IsOfWitness (errors.Read e) = e ≢ read.Open
IsOfWitness errors.NoBads = Unit {0}
IsOfWitness (errors.Question e) = Unit {0}
IsOfWitness (errors.Solution (solutions.Check e)) = ⊥
IsOfWitness (errors.Solution e) = Unit {0}

-- a question is too large only where the bytes are a file for whose circuit this bound of what is
-- made passes the limit
abbrev pub TellsOfSize : ℕ → (Circuit → ℕ) → Option (List ℕ) → Option (List ℕ)
    → BoundedAnswerError → Type 0
TellsOfSize limit bound old new (errors.Question TooLarge) =
    IsReadAs (IsAskedWithin limit) (λ f u. limit < bound (circuit_of f)) old new (tt {0})
TellsOfSize limit bound old new e = Unit {0}

-- ---- a solver's answer

-- whether a value is known to be true
abbrev pub is_true : Lbool → Bool
is_true TRUE = true
is_true value = false

-- the assignment of values, in which a variable is false where it is unknown
abbrev pub assigned : List Lbool → ℕ → Bool
assigned values n = is_true (slice_index_or values n NONE)

-- the values satisfy the clauses and the further one
abbrev pub AreSolution : BoundedClauses → List Lbool → Type 0
AreSolution made values =
    IsTrue (are_true (assigned values) (clauses_in made.clauses ++ made.extra))

-- there is a value for each variable of the clauses; where the bytes of a solver's answer are
-- known, these are the values that they say
abbrev pub AreSaid : Option (List ℕ) → BoundedClauses → List Lbool → Type 0
AreSaid text made values =
    (length values ≡ length made.clauses)
    × IfSome text (λ bytes. solution_in (length made.clauses) bytes ≡ Ok values)

-- why an answer to the clauses gives no witness: there are no values, or they are no solution, of a
-- file with so many bad literals that a witness can name each
abbrev pub RefusesAnswer : Option (List ℕ) → Bool → ℕ → BoundedClauses → SolutionError → Type 0
RefusesAnswer text failed bads made (solutions.Check e) = ⊥
RefusesAnswer text failed bads made solutions.NoBad =
    (values : List Lbool) × AreSaid text made values × (bads ≤ 2 ^ 32 → ¬ AreSolution made values)
RefusesAnswer text failed bads made e = GivesSolution text (length made.clauses) failed (Err e)

-- the file has a question, and the answer is refused so with the clauses of each
abbrev pub RefusesSolution : Option (List ℕ) → Bool → ℕ → Bool → File → SolutionError → Type 0
RefusesSolution text failed k optimize f e =
    ((made : BoundedClauses) × AsksBounded f k optimize made)
    × ((made : BoundedClauses) → AsksBounded f k optimize made
    → RefusesAnswer text failed (length f.properties.bads) made e)

-- a refusal of a solver's answer is of a file that was read
abbrev pub TellsOfSolution : ℕ → ℕ → Bool → Option (List ℕ) → Option (List ℕ) → Option (List ℕ)
    → Bool → BoundedAnswerError → Type 0
TellsOfSolution limit k optimize old new text failed (errors.Solution e) =
    IsReadAs (IsAskedWithin limit) (RefusesSolution text failed k optimize) old new e
TellsOfSolution limit k optimize old new text failed e = Unit {0}
