use Rattle.aig_edit_laws.proofs.Asserted.{always_bad_witnesses}
use Rattle.aig_edit_laws.proofs.laws.always_bad_runs_are_runs.Goals as goal

pub returns : goal.returns
returns c = always_bad_witnesses
