use Rattle.aig_check_commands.proofs.Words.{refl, err_from_is_err_and, shown_line}
use Rattle.aig_check_commands.proofs.check_lemmas.Outcomes.{answer_ends}
use Rattle.aig_check_commands.proofs.check_lemmas.Shown.{claim_refused, shown_answers}
use Rattle.aig_check_commands.proofs.checks.run.print_run.Goals as goal

pub returns-in_err-shown : goal.returns-in_err-shown
returns-in_err-shown g c =
    let p = err_from_is_err_and c.from_residual.result c.from_residual.ensures.1 in
    let told = c.in_err-shown.ensures in
    rw (p.1, p.2) (claim_refused c.in_err-shown.field-0.0 told.verdict told.never_open told.unread
    refl told.refusal)

pub returns : goal.returns
returns g c =
    let read = c.in_ok-shown.ensures in
    rw c.after_writing.ensures (answer_ends c.write_shown.result (shown_line c.in_ok-shown.shown)
    read.verdict (shown_answers c.args.limit _ _ _ c.in_ok-shown.shown read.answer)
    c.write_shown.ensures)
