use Rattle.aig_live.proofs.RoundsAgain.{rounds_reach}
use Rattle.aig_live.proofs.lasso.rounds_end_again.Goals as goal

pub returns : goal.returns
returns c = rounds_reach
