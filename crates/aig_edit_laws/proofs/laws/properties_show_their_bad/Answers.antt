use Rattle.aig_edit_laws.proofs.Asserted.{property_witnesses}
use Rattle.aig_edit_laws.proofs.laws.properties_show_their_bad.Goals as goal

pub returns : goal.returns
returns c = property_witnesses
