-- Part of what is promised.
-- What a command does that prints the clauses of which the proofs of a certificate are: of FILE's
-- own circuit, or of one that is made of it. (DIMACS CNF format.)
use Rattle.std.specs.Prelude.{◌≡◌, ℕ, Bool, List, [], ◌∷◌, ◌++◌, length, Option, Some, Result, Ok, Err, codes}
use Rattle.aig_base.specs.declared.logic.literal.Lit.{Lit}
use Rattle.aig_base.specs.Formula.{clauses_in}
use Rattle.aig_answers.specs.Goals.{IsGoalOwn}
use Rattle.aig_answers.specs.Plans.{Asks, plan_certified, room_of}
use Rattle.aig_answers.specs.declared.goals.error.GoalFault.{GoalFault}
use Rattle.aig_answers.specs.declared.goals.error.GoalFault.TheVariants as faults
use Rattle.aig_answers.specs.declared.goals.goal.Goal.TheVariants as goals
use Rattle.aig_answers.specs.declared.plans.asking.Ask.TheVariants as asks
use Rattle.aig_answers.specs.declared.windows.WindowClauses.{WindowClauses}
use Rattle.aig_circuit.specs.Circuit.{Circuit}
use Rattle.aig_dimacs.specs.Reading.{parse_formula}
use Rattle.aig_dimacs.specs.Text.{dimacs_of}
use Rattle.aig_format.specs.File.{File}
use Rattle.aig_reader.specs.Verdicts.{Accepted, Verdict}
use Rattle.aig_runs.specs.declared.window.Window.TheVariants.{Plain}
use Rattle.aig_subjects.specs.Reads.{ReadsFiles}
use Rattle.aig_subjects.specs.FileSubjects.{IsFileSubject}
use Rattle.aig_subjects.specs.Subjects.{IsBeside, IsUnmade, error_verdicts}
use Rattle.aig_subjects.specs.declared.subject.FileSubject.{FileSubject}
use Rattle.aig_subjects.specs.declared.subject.Subject.TheVariants as subjects
use Rattle.aig_check_commands.specs.Checked.{goal_error}
use Rattle.aig_check_commands.specs.Printed.{Printed}
use Rattle.aig_check_commands.specs.Sums.{IsSum, summed_text}
use Rattle.aig_check_commands.specs.Titles.{title_text}
use Rattle.aig_check_commands.specs.Titling.{pair_title}
use Rattle.aig_check_commands.specs.declared.error.CheckError.{CheckError}

-- ---- the text

-- the clauses with the further ones
abbrev pub formula_of : WindowClauses → List (List Lit)
formula_of made = clauses_in made.clauses ++ made.extra

-- the text of clauses, after a line that names them
abbrev pub part_text : List ℕ → WindowClauses → List ℕ
part_text name made = (name ++ 10 ∷ []) ++ dimacs_of (length made.clauses) (formula_of made)

-- the text of the two questions of a certificate's plan, of the joint circuit: their title, with
-- these sums, and then two parts, from each of which a plain reader reads just its clauses again
pub record IsObligationsText (optimize : Bool) (m : Circuit) (sum beside text : List ℕ) : Type 0
  where
    pub base_clauses : WindowClauses
    pub base_asks : Asks (asks.Step 0) optimize m base_clauses
    pub step_clauses : WindowClauses
    pub step_asks : Asks (asks.Window 0 Plain) optimize m step_clauses
    pub base : List ℕ
    pub base_exact : base ≡ part_text (codes "c base") base_clauses
    pub step : List ℕ
    pub step_exact : step ≡ part_text (codes "c step") step_clauses
    pub exact : text ≡ title_text (pair_title optimize sum beside) ++ base ++ step
    pub base_again : parse_formula base
        ≡ Some (length base_clauses.clauses, formula_of base_clauses)
    pub step_again : parse_formula step
        ≡ Some (length step_clauses.clauses, formula_of step_clauses)

-- ---- answers

-- the joint circuit is FILE's circuit that is asked about beside that of CERT, and the sums are
-- those of the text of the first and of the bytes of CERT
abbrev pub AreSummed : FileSubject → Option (List ℕ) → Option (List ℕ) → List File → Circuit
    → List ℕ → List ℕ → Type 0
AreSummed own bytes others (f ∷ g ∷ []) m sum beside =
    (made : Circuit) × IsFileSubject own f made × IsBeside made g m
    × IsSum (summed_text own bytes made) sum × IsSum others beside
AreSummed own bytes others files m sum beside = ⊥

-- the clauses of the joint circuit are printed, or it is said why not
abbrev pub TellsOfJoint : ℕ → Bool → Circuit → List ℕ → List ℕ → Result (List ℕ) GoalFault → Type 0
TellsOfJoint limit optimize m sum beside (Ok text) =
    (room_of limit (plan_certified optimize) m ≡ Ok tt)
    × IsObligationsText optimize m sum beside text
TellsOfJoint limit optimize m sum beside (Err (faults.Plan e)) =
    room_of limit (plan_certified optimize) m ≡ Err e
TellsOfJoint limit optimize m sum beside (Err faults.Memory) = Unit {0}
TellsOfJoint limit optimize m sum beside (Err (faults.Subject e)) = ⊥

-- so of the files; or it is said why there is no joint circuit
abbrev pub TellsOfObligations : ℕ → FileSubject → Bool → Option (List ℕ) → Option (List ℕ)
    → List File → Result (List ℕ) GoalFault → Type 0
TellsOfObligations limit own optimize bytes others files (Err (faults.Subject e)) =
    IsUnmade (subjects.Certified own) files e
TellsOfObligations limit own optimize bytes others files made =
    (m : Circuit) × ((sum : List ℕ) × ((beside : List ℕ)
    × AreSummed own bytes others files m sum beside
    × TellsOfJoint limit optimize m sum beside made))

-- what is said of the bytes of each file that was read
abbrev pub obligation_verdicts : FileSubject → Result (List ℕ) GoalFault → List Verdict
obligation_verdicts own (Err (faults.Subject e)) = error_verdicts (subjects.Certified own) e
obligation_verdicts own made = Accepted ∷ Accepted ∷ []

-- ---- errors

-- an error is that of a proof of the certificate's plan
abbrev pub certified_error : FileSubject → GoalFault → CheckError
certified_error own = goal_error (subjects.Certified own) (goals.SafeBySteps 0 Plain)

-- the text, or such an error
abbrev pub obligation_answer : FileSubject → Result (List ℕ) GoalFault
    → Result (List ℕ) CheckError
obligation_answer own (Ok text) = Ok text
obligation_answer own (Err e) = Err (certified_error own e)

-- ---- runs

-- What a command answers of two files: r and s are before it the readers of FILE and CERT, and rest
-- and other are these after it.
pub record AnswersObligations {S : Type 0} (left : S → Option (List ℕ)) (failed : S → Bool)
    (limit : ℕ) (own : FileSubject) (optimize : Bool) (r s rest other : S)
    (answer : Result (List ℕ) CheckError) : Type 0 where
  pub made : Result (List ℕ) GoalFault
  pub reads : ReadsFiles left failed limit (obligation_verdicts own)
      (TellsOfObligations limit own optimize (left r) (left s)) IsGoalOwn (r ∷ s ∷ []) made
      (rest ∷ other ∷ [])
  pub told : answer ≡ obligation_answer own made

-- what the command does: w is the writer before it, and written is it after it
abbrev pub RunsObligations : {S W : Type 0} → (S → Option (List ℕ)) → (S → Bool)
    → (W → Option (List ℕ)) → (W → Bool) → ℕ → FileSubject → Bool → S → S → W
    → Result Unit CheckError → S → S → W → Type 0
RunsObligations left failed held write_failed limit own optimize r s w result rest other written =
    Printed held write_failed
    (AnswersObligations left failed limit own optimize r s rest other) w result written
