use Rattle.aig_edit_laws.proofs.WrittenLive.{FitsFormat-live}
use Rattle.aig_edit_laws.proofs.fair.small_live_circuits_fit.Goals as goal

pub returns : goal.returns
returns c = FitsFormat-live
