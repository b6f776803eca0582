use Rattle.aig_calls.proofs.Given.{at_step}
use Rattle.aig_calls.proofs.checked_printing.aig_window.Goals as goal

pub returns-in-Ok : goal.returns-in-Ok
returns-in-Ok c =
    let step = c.in-Ok.ensures.ok in
    rw (← step.0, ← c.window_form.ensures) (at_step step c.print.ensures)
