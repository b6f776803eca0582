-- Part of what is promised.
-- What a command does with the bytes of a file, of a witness circuit that simulates the circuit of
-- the file that is asked about, and of the proofs for the conditions of a certificate.
-- (Certificates of the hardware model checking competition.)
use Rattle.std.specs.Prelude.{◌≡◌, ℕ, Bool, IsTrue, List, ◌++◌, length, Option, Some, None, Result, Ok, Err, IfErr, IsErrOf}
use Rattle.aig_answers.specs.Answers.{IsCircuitQuery}
use Rattle.aig_answers.specs.declared.circuits.CircuitQuery.{CircuitQuery}
use Rattle.aig_answers.specs.declared.goals.goal.Goal.TheVariants as goals
use Rattle.aig_base.specs.Formula.{clauses_in}
use Rattle.aig_circuit.specs.Circuit.{Circuit}
use Rattle.aig_dimacs.specs.Reading.{parse_formula}
use Rattle.aig_dimacs.specs.Text.{dimacs_of}
use Rattle.aig_edits.specs.declared.edit_error.EditError.{EditError}
use Rattle.aig_format.specs.File.{File}
use Rattle.aig_reader.specs.declared.error.ReadError.{ReadError}
use Rattle.aig_refutation.specs.declared.error.RefutationError.TheVariants as refutation
use Rattle.aig_runs.specs.declared.window.Window.TheVariants.{Plain}
use Rattle.aig_witness_circuit_checks.specs.Simulated as simulated
use Rattle.aig_witness_circuit_checks.specs.Simulated.{Certifies, ClaimsNothing, HasBads, IsNoQuestion, IsOfObligation, IsOwn, IsQuestionOf, OfModel, Proofs, proof_for}
use Rattle.aig_witness_circuit_checks.specs.Witnesses.{ReadsWitness}
use Rattle.aig_witness_circuit_checks.specs.declared.error.ConditionError.TheVariants as conditions
use Rattle.aig_witness_circuit_checks.specs.declared.error.SimulationError.TheVariants as simulation
use Rattle.aig_witness_circuits.specs.declared.condition.Condition.{Condition}
use Rattle.aig_subjects.specs.declared.subject.FileSubject.{FileSubject}
use Rattle.aig_check_commands.specs.declared.error.CheckError.{CheckError}
use Rattle.aig_check_commands.specs.declared.error.CheckError.TheVariants as errors
use Rattle.aig_check_commands.specs.FileSubjects.{file_line}
use Rattle.aig_check_commands.specs.Printed.{Printed}
use Rattle.aig_check_commands.specs.Sums.{IsSum, summed_text}
use Rattle.aig_check_commands.specs.Titles.{title_text}
use Rattle.aig_check_commands.specs.Titling.{condition_title}

-- ---- errors

-- why FILE is refused, or nothing is made of it, if so
abbrev pub file_error : CheckError → Option EditError
file_error (errors.Simulation e) = simulated.file_error e
file_error e = None

-- why the bytes of the witness circuit are refused, if they are
abbrev pub refusal_of : CheckError → Option ReadError
refusal_of (errors.Simulation e) = simulated.refusal_of e
refusal_of e = None

-- ---- certificates

-- the command has this error
abbrev pub IsErrorOfSimulated : CheckError → Type 0
IsErrorOfSimulated (errors.Simulation e) = IsOwn e
IsErrorOfSimulated e = ⊥

-- the proof for a condition isn't read
abbrev pub LeavesProof : Condition → CheckError → Type 0
LeavesProof condition (errors.Simulation e) = simulated.LeavesProof condition (Err e)
LeavesProof condition e = ⊥

-- the line that is printed
abbrev pub simulated_line : FileSubject → List ℕ
simulated_line own = file_line own (goals.SafeBySteps 0 Plain)

-- what is told of a file and a witness circuit that were taken: that what is asked about the file
-- is so at every step, as proofs of these texts show; or why that isn't shown
abbrev pub TellsOfSimulated : ℕ → FileSubject → Bool → (Condition → Option (List ℕ)) → File → File
    → Result (List ℕ) CheckError → Type 0
TellsOfSimulated limit own optimize texts f g (Ok text) =
    Certifies limit optimize texts own f g (Ok tt) × (text ≡ simulated_line own)
TellsOfSimulated limit own optimize texts f g (Err (errors.Simulation e)) =
    Certifies limit optimize texts own f g (Err e)
TellsOfSimulated limit own optimize texts f g (Err e) = ⊥

-- What the command answers: r, s and ps are before it the readers of FILE, of the witness circuit
-- and of the proofs; rest, other and used are these after it.
pub record AnswersSimulated {R S P : Type 0} (left : R → Option (List ℕ)) (failed : R → Bool)
    (left_of : S → Option (List ℕ)) (failed_of : S → Bool) (given : P → Option (List ℕ))
    (given_failed : P → Bool) (limit : ℕ) (own : FileSubject) (optimize : Bool) (r : R) (s : S)
    (ps : Proofs P) (rest : R) (other : S) (used : Proofs P) (answer : Result (List ℕ) CheckError)
    : Type 0 where
  -- what is said of the bytes of both files, and where they are taken, of these
  pub reads : ReadsWitness left failed left_of failed_of limit own
      (TellsOfSimulated limit own optimize (λ condition. given (proof_for ps condition))) file_error
      refusal_of IsErrorOfSimulated r s answer rest other
  -- a proof is read only where what comes before it is taken
  pub unread : IfErr answer (λ e. (condition : Condition) → LeavesProof condition e
      → proof_for used condition ≡ proof_for ps condition)
  -- a read of it is said to have failed only where one did
  pub stream : (condition : Condition)
      → IsErrOf answer (errors.Simulation
      (simulation.Condition condition (conditions.Refutation refutation.Stream)))
      → IsTrue (given_failed (proof_for used condition))

-- what the command does: w is the writer before it, and made is it after it
abbrev pub RunsSimulated : {R S P W : Type 0} → (R → Option (List ℕ)) → (R → Bool)
    → (S → Option (List ℕ)) → (S → Bool) → (P → Option (List ℕ)) → (P → Bool)
    → (W → Option (List ℕ)) → (W → Bool) → ℕ → FileSubject → Bool → R → S → Proofs P → W
    → Result Unit CheckError → R → S → Proofs P → W → Type 0
RunsSimulated left failed left_of failed_of given given_failed held write_failed limit own optimize
    r s ps w result rest other used made =
    Printed held write_failed
    (AnswersSimulated left failed left_of failed_of given given_failed limit own optimize r s ps
    rest other used) w result made

-- ---- clauses

-- the text of the clauses of which the proof for a condition, whose question is q, is one: their
-- title, with these sums, and then the clauses; from it a plain reader reads just these again
pub record IsObligationText (condition : Condition) (optimize : Bool) (q : Circuit)
    (sum beside text : List ℕ) : Type 0 where
  pub query : CircuitQuery
  pub asks : IsCircuitQuery q 0 optimize query
  pub exact : text
      ≡ title_text (condition_title condition optimize sum beside)
      ++ dimacs_of (length query.clauses) (clauses_in query.clauses ++ query.extra)
  pub again : parse_formula text
      ≡ Some (length query.clauses, clauses_in query.clauses ++ query.extra)

-- the command has this error
abbrev pub IsErrorOfObligation : Condition → CheckError → Type 0
IsErrorOfObligation condition (errors.Simulation e) = IsOfObligation condition e
IsErrorOfObligation condition e = ⊥

-- what is answered of a model m and a witness circuit w: the text of the condition's question, with
-- the sums of the text of the first and of the bytes of the second in the title; or why there is
-- none
abbrev pub AnswersModel : ℕ → FileSubject → Condition → Bool → Option (List ℕ) → Option (List ℕ)
    → (ℕ → Option ℕ) → Circuit → Circuit → Result (List ℕ) CheckError → Type 0
AnswersModel limit own condition optimize bytes others node m w (Ok text) =
    HasBads m × ((q : Circuit) × IsQuestionOf condition node m w q × ((sum : List ℕ)
    × IsSum (summed_text own bytes m) sum × ((beside : List ℕ) × IsSum others beside
    × IsObligationText condition optimize q sum beside text)))
AnswersModel limit own condition optimize bytes others node m w
    (Err (errors.Simulation (simulation.Condition asked (conditions.Question e)))) =
    HasBads m × ((q : Circuit) × IsQuestionOf condition node m w q × IsNoQuestion limit q e)
AnswersModel limit own condition optimize bytes others node m w (Err (errors.Simulation e)) =
    ClaimsNothing node m w e
AnswersModel limit own condition optimize bytes others node m w (Err e) = ⊥

-- so of the file and the witness circuit
abbrev pub TellsOfObligation : ℕ → FileSubject → Condition → Bool → Option (List ℕ)
    → Option (List ℕ) → File → File → Result (List ℕ) CheckError → Type 0
TellsOfObligation limit own condition optimize bytes others f g answer =
    OfModel own f g
    (λ node m w. AnswersModel limit own condition optimize bytes others node m w answer)

-- What the command does: r, s and w are before it the readers of FILE and of the witness circuit,
-- and the writer; rest, other and made are these after it.
abbrev pub RunsObligation : {R S W : Type 0} → (R → Option (List ℕ)) → (R → Bool)
    → (S → Option (List ℕ)) → (S → Bool) → (W → Option (List ℕ)) → (W → Bool) → ℕ → FileSubject
    → Condition → Bool → R → S → W → Result Unit CheckError → R → S → W → Type 0
RunsObligation left failed left_of failed_of held write_failed limit own condition optimize r s w
    result rest other made =
    Printed held write_failed
    (λ answer. ReadsWitness left failed left_of failed_of limit own
    (TellsOfObligation limit own condition optimize (left r) (left_of s)) file_error refusal_of
    (IsErrorOfObligation condition) r s answer rest other) w result made
