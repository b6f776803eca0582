use Rattle.aig_check_commands.proofs.Words.{CheckError, Err, List, Ok, Result, ap, err_from_is_err_and, refl, ℕ}
use Rattle.aig_answers.specs.declared.goals.error.GoalError.{GoalError}
use Rattle.aig_check_commands.specs.FileSubjects.{line_of}
use Rattle.aig_check_commands.specs.declared.error.CheckError.TheVariants as errors
use Rattle.aig_check_commands.proofs.check_lemmas.Outcomes.{error_printed, text_printed}
use Rattle.aig_check_commands.proofs.checks.checked.print_checked.Goals as goal

abbrev told : GoalError → Result (List ℕ) CheckError
told e = Err (errors.Goal e)

pub returns-in_err-check_goal : goal.returns-in_err-check_goal
returns-in_err-check_goal g c =
    let p = err_from_is_err_and c.from_residual.result c.from_residual.ensures.1 in
    let e = c.in_err-check_goal.field-0.0 in
    rw (p.1, p.2) (error_printed (errors.Goal e) (record {
      checked = Err e.fault;
      checks = c.in_err-check_goal.ensures.checks;
      told = ap told c.in_err-check_goal.ensures.named;
    }) refl)

pub returns : goal.returns
returns g c =
    let a = c.args in
    rw c.after_writing.ensures (text_printed c.write_shown.result (line_of a.subject a.goal) (record {
      checked = Ok tt;
      checks = c.in_ok-check_goal.ensures.checks;
      told = refl;
    }) c.write_shown.ensures)
