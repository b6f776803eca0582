use Rattle.aig_edit_laws.proofs.Unrolled.{unrolled_witnesses}
use Rattle.aig_edit_laws.proofs.laws.unrolled_witnesses_are_runs.Goals as goal

pub returns : goal.returns
returns c = unrolled_witnesses
