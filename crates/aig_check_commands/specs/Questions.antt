-- Part of what is promised.
-- What a command does that prints the clauses of a question of a circuit: of FILE's own, or of one
-- that is made of it. (DIMACS CNF format; bounded model checking.)
use Rattle.std.specs.Prelude.{◌≡◌, ◌⊎◌, ℕ, Bool, List, [], ◌∷◌, ◌++◌, length, Option, Some, Result, Ok, Err}
use Rattle.aig_answers.specs.Answers.{IsCircuitQuery, query_with}
use Rattle.aig_answers.specs.Asking.{AsksOfBads}
use Rattle.aig_answers.specs.Goals.{goal_of}
use Rattle.aig_answers.specs.Plans.{HasNone, clauses_only, room_of}
use Rattle.aig_answers.specs.declared.bounded_checks.clauses.BoundedClauses.{BoundedClauses}
use Rattle.aig_answers.specs.declared.goals.error.GoalFault.TheVariants as faults
use Rattle.aig_answers.specs.declared.plans.asking.Ask.{Ask}
use Rattle.aig_answers.specs.declared.plans.asking.Ask.TheVariants as asks
use Rattle.aig_answers.specs.declared.plans.asking.Question.{Question}
use Rattle.aig_answers.specs.declared.plans.errors.PlanError.{PlanError}
use Rattle.aig_answers.specs.declared.plans.errors.PlanError.TheVariants as plans
use Rattle.aig_answers.specs.declared.plans.errors.Why.TheVariants as whys
use Rattle.aig_answers.specs.declared.windows.WindowClauses.{WindowClauses}
use Rattle.aig_bounded.specs.declared.error.BoundedError.{BoundedError}
use Rattle.aig_circuit.specs.Circuit.{Circuit}
use Rattle.aig_dimacs.specs.Reading.{parse_formula}
use Rattle.aig_dimacs.specs.Text.{dimacs_of}
use Rattle.aig_edits.specs.Edits.{IsEditOwn, ReadsFile, edit_verdict}
use Rattle.aig_format.specs.File.{File}
use Rattle.aig_reader.specs.Verdicts.{Accepted, Verdict}
use Rattle.aig_runs.specs.WindowClauses.{AsksWindow}
use Rattle.aig_subjects.specs.FileSubjects.{IsFileSubject, IsUnmadeFile}
use Rattle.aig_subjects.specs.declared.subject.FileSubject.{FileSubject}
use Rattle.aig_subjects.specs.declared.subject.Subject.TheVariants as subjects
use Rattle.aig_check_commands.specs.declared.error.CheckError.{CheckError}
use Rattle.aig_check_commands.specs.declared.error.CheckError.TheVariants as errors
use Rattle.aig_check_commands.specs.Bounded.{bounded_comments}
use Rattle.aig_check_commands.specs.Checked.{goal_error}
use Rattle.aig_check_commands.specs.Comments.{comments_of}
use Rattle.aig_check_commands.specs.Pairs.{formula_of}
use Rattle.aig_check_commands.specs.Printed.{Printed}
use Rattle.aig_check_commands.specs.Sums.{IsSum, summed_text}
use Rattle.aig_check_commands.specs.Titles.{title_text}
use Rattle.aig_check_commands.specs.Titling.{title_of}

-- ---- the text

-- These clauses ask it of the circuit, and behind these comments they are printed: of a step, where
-- inputs, latches and bad literals stand; of the first steps, what each input of the question is.
-- Where a question needs none, they say that the constant node is false, and that it is true.
abbrev pub ArePrinted : Ask → Bool → Circuit → List ℕ → WindowClauses → Type 0
ArePrinted (asks.Step k) optimize m comments made =
    (unrolled : Circuit) × IsCircuitQuery m k optimize (query_with unrolled made)
    × (comments ≡ comments_of m unrolled k)
ArePrinted (asks.UpTo k) optimize m comments made =
    (q : BoundedClauses) × AsksOfBads m k optimize q × (clauses_only q ≡ made)
    × (comments ≡ bounded_comments q)
ArePrinted (asks.Window k form) optimize m comments made =
    AsksWindow form m k optimize made.clauses made.extra × (comments ≡ [])

-- the text of a question of a circuit: its title, with this sum, its comments, and then its
-- clauses; from it a plain reader reads just these again
pub record IsQuestionText (q : Question) (m : Circuit) (sum text : List ℕ) : Type 0 where
  pub comments : List ℕ
  pub made : WindowClauses
  pub printed : ArePrinted q.ask q.optimize m comments made
  pub exact : text
      ≡ title_text (title_of q sum) ++ comments
      ++ dimacs_of (length made.clauses) (formula_of made)
  pub again : parse_formula text ≡ Some (length made.clauses, formula_of made)

-- ---- answers

-- why the question has no clauses: there is no room, as for a check; or what is made for them is
-- too large, or memory runs out
abbrev pub HasNoClauses : ℕ → Question → Circuit → PlanError → Type 0
HasNoClauses limit q m e =
    (room_of limit (q ∷ []) m ≡ Err e)
    ⊎ ((room_of limit (q ∷ []) m ≡ Ok tt)
    × ((x : BoundedError) × (e ≡ plans.Refused (record { index = 0; why = whys.Clauses x }))
    × HasNone limit q.ask m x))

-- the error of a question of FILE's circuit
abbrev pub question_error : FileSubject → Question → PlanError → CheckError
question_error own q e = goal_error (subjects.File own) (goal_of q.ask) (faults.Plan e)

-- the question is printed of the circuit, with this sum in the title, or it is said why not
abbrev pub AnswersQuestion : ℕ → FileSubject → Question → Circuit → List ℕ
    → Result (List ℕ) CheckError → Type 0
AnswersQuestion limit own q m sum (Ok text) =
    (room_of limit (q ∷ []) m ≡ Ok tt) × IsQuestionText q m sum text
AnswersQuestion limit own q m sum (Err (errors.Goal e)) =
    (why : PlanError) × (errors.Goal e ≡ question_error own q why) × HasNoClauses limit q m why
AnswersQuestion limit own q m sum (Err e) = e ≡ errors.Memory

-- what an error says of the bytes of FILE: one of what is asked, that they are a file
abbrev pub made_verdict : CheckError → Verdict
made_verdict (errors.Unmade e) = edit_verdict e
made_verdict e = Accepted

-- no path is opened
abbrev pub IsMadeOwn : CheckError → Type 0
IsMadeOwn (errors.Unmade e) = IsEditOwn e
IsMadeOwn e = Unit {0}

-- so of the circuit of FILE that is asked about; or it is said why there is none
abbrev pub TellsOfClauses : ℕ → FileSubject → Question → Option (List ℕ) → File
    → Result (List ℕ) CheckError → Type 0
TellsOfClauses limit own q bytes f (Err (errors.Unmade e)) = IsUnmadeFile own f e
TellsOfClauses limit own q bytes f answer =
    (m : Circuit) × IsFileSubject own f m
    × ((sum : List ℕ) × IsSum (summed_text own bytes m) sum
    × AnswersQuestion limit own q m sum answer)

-- what the command does: r is FILE's reader, and w the writer before it, and rest and made are
-- these after it
abbrev pub RunsQuestion : {R W : Type 0} → (R → Option (List ℕ)) → (R → Bool)
    → (W → Option (List ℕ)) → (W → Bool) → ℕ → FileSubject → Question → R → W
    → Result Unit CheckError → R → W → Type 0
RunsQuestion left failed held write_failed limit own q r w result rest made =
    Printed held write_failed
    (λ answer. ReadsFile left failed limit (TellsOfClauses limit own q (left r)) made_verdict
    IsMadeOwn r answer rest) w result made
