use Rattle.aig_edit_laws.proofs.WrittenLive.{FitsFormat-rounds}
use Rattle.aig_edit_laws.proofs.fair.small_rounds_circuits_fit.Goals as goal

pub returns : goal.returns
returns c = FitsFormat-rounds
