use Rattle.aig_live.proofs.Saving.{since}
use Rattle.aig_live.proofs.lasso.saving_keeps_one_step.Goals as goal

pub returns : goal.returns
returns c = since
