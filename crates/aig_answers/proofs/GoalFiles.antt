-- What a check of a goal tells of the files of its subject.
use Rattle.aig_answers.proofs.Words.{◌≡◌, ℕ, Bool, List, Option, Result, Ok, Err, refl, subst, sym, lists_circuit, CircuitLists}
use Rattle.std.specs.Prelude.{IfErr, replicate}
use Rattle.aig_format.specs.File.{File}
use Rattle.aig_reader.specs.Verdicts.{Accepted}
use Rattle.aig_subjects.specs.Reads.{AreAccepted, AreReadAs, ReadsFiles}
use Rattle.aig_subjects.specs.Subjects.{Gives, IsOwn, IsSubject, error_verdicts, file_count, verdicts}
use Rattle.aig_subjects.specs.declared.error.SubjectError.{SubjectError}
use Rattle.aig_subjects.specs.declared.subject.Subject.{Subject}
use Rattle.aig_subjects.proofs.InOrder.{files_on}
use Rattle.aig_answers.specs.Goals.{ChecksGoal, IsGoalOwn, LeavesProofs, TellsOfGoal, goal_verdicts}
use Rattle.aig_answers.specs.declared.goals.error.GoalFault.{GoalFault}
use Rattle.aig_answers.specs.declared.goals.error.GoalFault.TheVariants as faults
use Rattle.aig_answers.specs.declared.goals.goal.Goal.{Goal}

module _ {S P : Type 0} (left : S → Option (List ℕ)) (failed : S → Bool)
    (given : P → Option (List ℕ)) (given_failed : P → Bool) (limit : ℕ) (subject : Subject)
    (goal : Goal) (base step : Bool) (before after : List S) (proofs others : List P) where
  -- a file is refused, or there is no circuit
  pub subject_refused : (e : SubjectError)
      → ReadsFiles left failed limit (verdicts subject) (Gives subject) IsOwn before (Err e) after
      → others ≡ proofs
      → ChecksGoal left failed given given_failed limit subject goal base step before proofs
      (Err (faults.Subject e)) after others
  subject_refused e told same = record {
    reads = record {
      reads = files_on left failed limit (error_verdicts subject e) (Gives subject)
          (TellsOfGoal given given_failed limit subject goal base step proofs others) before after
          (Err e) (Err (faults.Subject e)) told.reads (λ files are unmade. unmade);
      own = told.own;
    };
    unread = λ is. same;
  }

  -- the circuit was made
  pub goal_told : (lists : CircuitLists) (result : Result Unit GoalFault)
      → ReadsFiles left failed limit (verdicts subject) (Gives subject) IsOwn before (Ok lists) after
      → goal_verdicts subject result ≡ replicate (file_count subject) Accepted
      → IfErr result IsGoalOwn → IfErr result (λ e. LeavesProofs e → others ≡ proofs)
      → ((files : List File) → AreAccepted limit files → IsSubject subject files (lists_circuit lists)
      → TellsOfGoal given given_failed limit subject goal base step proofs others files result)
      → ChecksGoal left failed given given_failed limit subject goal base step before proofs result
      after others
  goal_told lists result told said own unread so = record {
    reads = record {
      reads = subst (λ vs. AreReadAs left failed limit
          (TellsOfGoal given given_failed limit subject goal base step proofs others) vs before after
          result) (sym said)
          (files_on left failed limit (replicate (file_count subject) Accepted) (Gives subject)
          (TellsOfGoal given given_failed limit subject goal base step proofs others) before after
          (Ok lists) result told.reads so);
      own = own;
    };
    unread = unread;
  }
