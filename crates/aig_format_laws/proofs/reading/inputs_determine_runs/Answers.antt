use Rattle.aig_format_laws.proofs.MachineRuns.{agree_on_known, given_run}
use Rattle.aig_format_laws.proofs.reading.inputs_determine_runs.Goals as goal

pub returns-clause-one : goal.returns-clause-one
returns-clause-one c = λ f limit last run other fits is too agree. agree_on_known f limit last fits run other is too agree

pub returns-clause-each : goal.returns-clause-each
returns-clause-each c = given_run
