use Rattle.aig_edit_laws.proofs.Written.{outputs_witnesses}
use Rattle.aig_edit_laws.proofs.laws.outputs_become_bads.Goals as goal

pub returns : goal.returns
returns c = outputs_witnesses
