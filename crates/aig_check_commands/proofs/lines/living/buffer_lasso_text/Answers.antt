use Rattle.aig_check_commands.proofs.lines.living.buffer_lasso_text.Goals as goal

pub returns-in-Refuted : goal.returns-in-Refuted
returns-in-Refuted g c = rw c.in-Refuted.is c.buffer_about.ensures

pub returns-in-RefutedTo : goal.returns-in-RefutedTo
returns-in-RefutedTo g c = rw c.in-RefutedTo.is c.buffer_about-in-RefutedTo.ensures
