use Rattle.aig_witness.proofs.Exact.{wrong_shows_nothing}
use Rattle.aig_witness.proofs.showing.wrong_witnesses_show_nothing.Goals as goal

pub returns : goal.returns
returns c = wrong_shows_nothing
