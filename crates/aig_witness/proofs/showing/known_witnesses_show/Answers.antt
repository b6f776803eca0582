use Rattle.aig_witness.proofs.ShownRuns.{shows_bad}
use Rattle.aig_witness.proofs.showing.known_witnesses_show.Goals as goal

pub returns : goal.returns
returns c = λ f limit w fits known. shows_bad f limit w fits c.known_values_hold.ensures known
