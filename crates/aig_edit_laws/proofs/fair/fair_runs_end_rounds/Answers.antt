use Rattle.aig_edit_laws.proofs.Rounds.{fair_runs_reach}
use Rattle.aig_edit_laws.proofs.fair.fair_runs_end_rounds.Goals as goal

pub returns : goal.returns
returns c = fair_runs_reach
