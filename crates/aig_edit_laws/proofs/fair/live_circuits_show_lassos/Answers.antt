use Rattle.aig_edit_laws.proofs.Justice.{bads_are_lassos, none_are}
use Rattle.aig_edit_laws.proofs.fair.live_circuits_show_lassos.Goals as goal

pub returns-clause-step : goal.returns-clause-step
returns-clause-step c = bads_are_lassos

pub returns-clause-none : goal.returns-clause-none
returns-clause-none c = none_are
