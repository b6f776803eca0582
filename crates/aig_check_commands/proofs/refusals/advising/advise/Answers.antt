use Rattle.aig_check_commands.proofs.refusals.advising.advise.Goals as goal

pub returns-then-has_misfit : goal.returns-then-has_misfit
returns-then-has_misfit g c = rw (← c.if-has_misfit.ensures) c.tell.ensures
