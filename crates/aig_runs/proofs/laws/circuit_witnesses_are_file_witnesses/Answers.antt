use Rattle.aig_runs.proofs.Queries.{asks_of_file}
use Rattle.aig_runs.proofs.Witnesses.{leaves_agree, witness_back, witness_forth}
use Rattle.aig_runs.proofs.laws.circuit_witnesses_are_file_witnesses.Goals as goal

pub returns-clause-forth : goal.returns-clause-forth
returns-clause-forth c = witness_forth

pub returns-clause-back : goal.returns-clause-back
returns-clause-back c = witness_back

pub returns-clause-one : goal.returns-clause-one
returns-clause-one c = leaves_agree

pub returns-clause-asks : goal.returns-clause-asks
returns-clause-asks c = asks_of_file
