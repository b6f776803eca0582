use Rattle.aig_witness.proofs.Exact.{given_known_witness}
use Rattle.aig_witness.proofs.showing.given_witnesses_are_known.Goals as goal

pub returns : goal.returns
returns c = given_known_witness
