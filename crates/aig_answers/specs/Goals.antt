-- Part of what is promised.
-- What proofs are to show of a subject: the plan of questions that they answer, what is then so of
-- the files, and what is told of these and of the proofs. (Bounded model checking; k-induction.)
use Rattle.std.specs.Prelude.{◌≡◌, ℕ, ◌+◌, ◌≤◌, Bool, List, ◌∷◌, [], Option, Result, Ok, Err, IfErr, replicate}
use Rattle.aig_circuit.specs.Circuit.{Circuit}
use Rattle.aig_format.specs.File.{File}
use Rattle.aig_reader.specs.Verdicts.{Accepted, Verdict}
use Rattle.aig_runs.specs.Induction.{IsKInductive}
use Rattle.aig_runs.specs.declared.window.Window.{Window}
use Rattle.aig_subjects.specs.Reads.{ReadsFiles}
use Rattle.aig_subjects.specs.Shown.{HasNoCertificate, ShowsAlways, ShowsAt}
use Rattle.aig_subjects.specs.Subjects.{IsOwn, IsSubject, IsUnmade, error_verdicts, file_count}
use Rattle.aig_subjects.specs.declared.subject.FileSubject.TheVariants.{Own}
use Rattle.aig_subjects.specs.declared.subject.Subject.{Subject}
use Rattle.aig_subjects.specs.declared.subject.Subject.TheVariants as subjects
use Rattle.aig_answers.specs.Plans.{ChecksCircuit, asked_with, plan_each, plan_to}
use Rattle.aig_answers.specs.declared.goals.error.GoalError.{GoalError}
use Rattle.aig_answers.specs.declared.goals.error.GoalFault.{GoalFault}
use Rattle.aig_answers.specs.declared.goals.error.GoalFault.TheVariants as faults
use Rattle.aig_answers.specs.declared.goals.goal.Goal.{Goal}
use Rattle.aig_answers.specs.declared.goals.goal.Goal.TheVariants as goals
use Rattle.aig_answers.specs.declared.plans.asking.Ask.{Ask}
use Rattle.aig_answers.specs.declared.plans.asking.Ask.TheVariants as asks
use Rattle.aig_answers.specs.declared.plans.asking.Question.{Question}
use Rattle.aig_answers.specs.declared.plans.errors.PlanError.{PlanError}

-- ---- plans

-- the plan: its windows have the second setting, and what else it asks has the first
abbrev pub plan_of : Goal → Bool → Bool → List Question
plan_of (goals.Refuted k) base step = asked_with base (asks.Step k) ∷ []
plan_of (goals.RefutedTo k) base step = asked_with base (asks.UpTo k) ∷ []
plan_of (goals.Inductive k form) base step = asked_with step (asks.Window k form) ∷ []
plan_of (goals.Safe k form) base step = plan_to k form base step
plan_of (goals.SafeBySteps k form) base step = plan_each k form base step

-- what a proof of the clauses that ask this shows
abbrev pub goal_of : Ask → Goal
goal_of (asks.Step k) = goals.Refuted k
goal_of (asks.UpTo k) = goals.RefutedTo k
goal_of (asks.Window k form) = goals.Inductive k form

-- how many proofs there are: one for each question
abbrev pub proof_count : Goal → ℕ
proof_count (goals.Safe k form) = 2
proof_count (goals.SafeBySteps k form) = k + 2
proof_count goal = 1

-- the step that it names
abbrev pub last_step : Goal → ℕ
last_step (goals.Refuted k) = k
last_step (goals.RefutedTo k) = k
last_step (goals.Inductive k form) = k
last_step (goals.Safe k form) = k
last_step (goals.SafeBySteps k form) = k

-- ---- what is so of the files

-- it is so of each of the steps 0 to k
abbrev pub ShowsTo : Subject → List File → ℕ → Type 0
ShowsTo subject files k = (n : ℕ) → n ≤ k → ShowsAt subject files n

-- a window of k + 2 steps of FILE's own machine reaches no bad state first at its end
abbrev pub ShowsWindow : Window → Subject → List File → ℕ → Type 0
ShowsWindow form (subjects.File Own) (f ∷ []) k = IsKInductive form f k
ShowsWindow form subject files k = Unit {0}

-- What the goal says of the files: of a step, of the steps up to one, of every step if it is so up
-- to one, which a window beside a certificate doesn't show, or of every step.
abbrev pub Shows : Subject → Goal → List File → Type 0
Shows subject (goals.Refuted k) files = ShowsAt subject files k
Shows subject (goals.RefutedTo k) files = ShowsTo subject files k
Shows subject (goals.Inductive k form) files =
    ShowsWindow form subject files k
    × (HasNoCertificate subject → ShowsTo subject files k → ShowsAlways subject files)
Shows subject goal files = ShowsAlways subject files

-- ---- answers

-- the goal's plan is answered so, of the subject's circuit
abbrev pub AnswersGoal : {P : Type 0} → (P → Option (List ℕ)) → (P → Bool) → ℕ → Subject → Goal
    → Bool → Bool → List P → List P → List File → Result Unit PlanError → Type 0
AnswersGoal left failed limit subject goal base step proofs others files result =
    (m : Circuit) × IsSubject subject files m
    × ChecksCircuit left failed limit (plan_of goal base step) m proofs others result

-- What is told of the files that were taken: what the goal says of them, and that the proofs are
-- taken; or which isn't, or why none is read.
abbrev pub TellsOfGoal : {P : Type 0} → (P → Option (List ℕ)) → (P → Bool) → ℕ → Subject → Goal
    → Bool → Bool → List P → List P → List File → Result Unit GoalFault → Type 0
TellsOfGoal left failed limit subject goal base step proofs others files (Ok done) =
    Shows subject goal files
    × AnswersGoal left failed limit subject goal base step proofs others files (Ok tt)
TellsOfGoal left failed limit subject goal base step proofs others files (Err (faults.Plan e)) =
    AnswersGoal left failed limit subject goal base step proofs others files (Err e)
TellsOfGoal left failed limit subject goal base step proofs others files (Err (faults.Subject e)) =
    IsUnmade subject files e
TellsOfGoal left failed limit subject goal base step proofs others files (Err faults.Memory) =
    (m : Circuit) × IsSubject subject files m

-- what is said of the bytes of each file that was read: one of what is asked, that all are taken
abbrev pub goal_verdicts : Subject → Result Unit GoalFault → List Verdict
goal_verdicts subject (Err (faults.Subject e)) = error_verdicts subject e
goal_verdicts subject result = replicate (file_count subject) Accepted

-- no path is opened
abbrev pub IsGoalOwn : GoalFault → Type 0
IsGoalOwn (faults.Subject e) = IsOwn e
IsGoalOwn e = Unit {0}

-- there is no plan, or no circuit to ask about
abbrev pub LeavesProofs : GoalFault → Type 0
LeavesProofs (faults.Plan e) = ⊥
LeavesProofs e = Unit {0}

-- What is made of files and proofs: before and proofs are their readers, and after and others are
-- these after it.
pub record ChecksGoal {S P : Type 0} (left : S → Option (List ℕ)) (failed : S → Bool)
    (given : P → Option (List ℕ)) (given_failed : P → Bool) (limit : ℕ) (subject : Subject)
    (goal : Goal) (base step : Bool) (before : List S) (proofs : List P)
    (result : Result Unit GoalFault) (after : List S) (others : List P) : Type 0 where
  -- what is said of the bytes of the files, and of the files that they are
  pub reads : ReadsFiles left failed limit (goal_verdicts subject)
      (TellsOfGoal given given_failed limit subject goal base step proofs others) IsGoalOwn before
      result after
  -- no proof is read where a file isn't taken
  pub unread : IfErr result (λ e. LeavesProofs e → others ≡ proofs)

-- ---- errors

-- why, without what it is about
abbrev pub fault_of : Result Unit GoalError → Result Unit GoalFault
fault_of (Ok done) = Ok tt
fault_of (Err e) = Err e.fault

-- it is about this
abbrev pub IsErrorOf : Subject → Goal → GoalError → Type 0
IsErrorOf subject goal e = e ≡ record { subject = subject; goal = goal; fault = e.fault }
