-- Part of what is promised.
-- What a command does that checks proofs of a subject.
use Rattle.std.specs.Prelude.{◌≡◌, ℕ, Bool, List, Option, Result, Ok, Err}
use Rattle.aig_answers.specs.Goals.{ChecksGoal}
use Rattle.aig_answers.specs.declared.goals.error.GoalFault.{GoalFault}
use Rattle.aig_answers.specs.declared.goals.goal.Goal.{Goal}
use Rattle.aig_subjects.specs.declared.subject.Subject.{Subject}
use Rattle.aig_check_commands.specs.FileSubjects.{line_of}
use Rattle.aig_check_commands.specs.Printed.{Printed}
use Rattle.aig_check_commands.specs.declared.error.CheckError.{CheckError}
use Rattle.aig_check_commands.specs.declared.error.CheckError.TheVariants as errors

-- the error of a goal that isn't shown
abbrev pub goal_error : Subject → Goal → GoalFault → CheckError
goal_error subject goal e =
    errors.Goal (record { subject = subject; goal = goal; fault = e })

-- the line that is printed where the goal is shown, or the error where it isn't
abbrev pub answer_of : Subject → Goal → Result Unit GoalFault → Result (List ℕ) CheckError
answer_of subject goal (Ok done) = Ok (line_of subject goal)
answer_of subject goal (Err e) = Err (goal_error subject goal e)

-- The answer is that of a check: before and proofs are the readers of the files and of the proofs,
-- and after and others are these after it.
pub record AnswersCheck {S P : Type 0} (left : S → Option (List ℕ)) (failed : S → Bool)
    (given : P → Option (List ℕ)) (given_failed : P → Bool) (limit : ℕ) (subject : Subject)
    (goal : Goal) (base step : Bool) (before : List S) (proofs : List P) (after : List S)
    (others : List P) (answer : Result (List ℕ) CheckError) : Type 0 where
  pub checked : Result Unit GoalFault
  pub checks : ChecksGoal left failed given given_failed limit subject goal base step before proofs
      checked after others
  pub told : answer ≡ answer_of subject goal checked

-- what the command does: w is the writer before it, and made is it after it
abbrev pub RunsGoal : {S P W : Type 0} → (S → Option (List ℕ)) → (S → Bool)
    → (P → Option (List ℕ)) → (P → Bool) → (W → Option (List ℕ)) → (W → Bool) → ℕ → Subject → Goal
    → Bool → Bool → List S → List P → W → Result Unit CheckError → List S → List P → W → Type 0
RunsGoal left failed given given_failed held write_failed limit subject goal base step before proofs
    w result after others made =
    Printed held write_failed
    (AnswersCheck left failed given given_failed limit subject goal base step before proofs after
    others) w result made
