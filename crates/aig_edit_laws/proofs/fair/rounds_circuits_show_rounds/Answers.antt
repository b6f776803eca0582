use Rattle.aig_edit_laws.proofs.Rounds.{bads_are_rounds, no_rounds}
use Rattle.aig_edit_laws.proofs.fair.rounds_circuits_show_rounds.Goals as goal

pub returns-clause-step : goal.returns-clause-step
returns-clause-step c = bads_are_rounds

pub returns-clause-none : goal.returns-clause-none
returns-clause-none c = no_rounds
