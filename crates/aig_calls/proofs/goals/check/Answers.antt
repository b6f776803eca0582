use Rattle.std.specs.Prelude.{IfErr}
use Rattle.aig_calls.proofs.Words.{◌≡◌, ℕ, Result, Ok, Err, refl, ap, ◌∙◌, arith}
use Rattle.aig_answers.specs.Goals.{IsErrorOf, fault_of}
use Rattle.aig_answers.specs.declared.goals.error.GoalError.{GoalError}
use Rattle.aig_answers.specs.declared.goals.goal.Goal.{Goal}
use Rattle.aig_subjects.specs.declared.subject.Subject.{Subject}
use Rattle.aig_calls.specs.Statuses.{goal_status, status_by}
use Rattle.aig_calls.proofs.goals.check.Goals as goal

-- the status of an error that names the subject and the goal
abbrev number : GoalError → ℕ
number e = goal_status e.subject e.goal e.fault

named : (subject : Subject) (of : Goal) (r : Result (Unit {0}) GoalError)
    → IfErr r (IsErrorOf subject of)
    → status_by number r ≡ status_by (goal_status subject of) (fault_of r)
named subject of (Ok done) own = refl
named subject of (Err e) own = ap number own

pub returns : goal.returns
returns c =
    let run = c.check_goal in (
      λ many. absurd (omega (arith, many, c.if-last_step.false, c.last_step.ensures)),
      λ few. record {
        result = fault_of run.result;
        rest = run.new.files;
        others = run.new.proofs;
        checks = run.ensures.checks;
        told = c.status_of.ensures ∙ named c.args.subject c.args.goal run.result run.ensures.named;
      },
    )
