use Rattle.aig_steps.proofs.Further.{goes_on}
use Rattle.aig_steps.proofs.laws.steps_go_on.Goals as goal

pub returns : goal.returns
returns c = goes_on
