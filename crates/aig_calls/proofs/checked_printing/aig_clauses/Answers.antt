use Rattle.aig_calls.proofs.Given.{at_step}
use Rattle.aig_calls.proofs.checked_printing.aig_clauses.Goals as goal

pub returns-in-Ok : goal.returns-in-Ok
returns-in-Ok c =
    let step = c.in-Ok.ensures.ok in rw (← step.0) (at_step step c.print.ensures)
