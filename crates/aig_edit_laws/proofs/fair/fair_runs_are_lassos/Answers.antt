use Rattle.aig_edit_laws.proofs.Justice.{runs_are_lassos}
use Rattle.aig_edit_laws.proofs.fair.fair_runs_are_lassos.Goals as goal

pub returns : goal.returns
returns c = runs_are_lassos
