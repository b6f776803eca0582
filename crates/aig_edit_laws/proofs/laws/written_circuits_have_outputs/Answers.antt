use Rattle.aig_edit_laws.proofs.Written.{written_outputs}
use Rattle.aig_edit_laws.proofs.laws.written_circuits_have_outputs.Goals as goal

pub returns : goal.returns
returns c = written_outputs c.shown_runs_are_machine_runs.ensures.outputs
