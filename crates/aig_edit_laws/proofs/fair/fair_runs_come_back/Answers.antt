use Rattle.aig_edit_laws.proofs.Coming.{IsFairLasso-found}
use Rattle.aig_edit_laws.proofs.fair.fair_runs_come_back.Goals as goal

pub returns : goal.returns
returns c = IsFairLasso-found
