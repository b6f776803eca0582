use Rattle.aig_witness.proofs.ExactLassos.{nothing_wrong}
use Rattle.aig_witness.proofs.fair.laws.wrong_lassos_show_nothing.Goals as goal

pub returns : goal.returns
returns c = λ f limit l w e fits given ne wrong shows.
    nothing_wrong f limit l w fits given shows e ne wrong
