use Rattle.aig_witness.proofs.Lassos.{shows_lasso}
use Rattle.aig_witness.proofs.fair.laws.known_lassos_show.Goals as goal

pub returns : goal.returns
returns c = λ f limit l w fits known. shows_lasso f limit l w fits c.known_values_hold.ensures known
