use Rattle.aig_refutation.proofs.WrittenPlain.{plain_steps_in-written}
use Rattle.aig_refutation.proofs.laws.plain_proofs_are_read.Goals as goal

pub returns : goal.returns
returns c = plain_steps_in-written
