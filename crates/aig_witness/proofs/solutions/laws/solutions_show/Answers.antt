use Rattle.aig_witness.proofs.ShowingSolutions.{solution_shows}
use Rattle.aig_witness.proofs.solutions.laws.solutions_show.Goals as goal

pub returns : goal.returns
returns c = solution_shows
