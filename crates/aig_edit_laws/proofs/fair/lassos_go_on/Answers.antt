use Rattle.aig_edit_laws.proofs.Going.{IsFairRun-around}
use Rattle.aig_edit_laws.proofs.fair.lassos_go_on.Goals as goal

pub returns : goal.returns
returns c = IsFairRun-around
