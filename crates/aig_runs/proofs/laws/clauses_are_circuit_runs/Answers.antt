use Rattle.aig_runs.proofs.CircuitRuns.{assignments_are_runs, runs_are_assignments}
use Rattle.aig_runs.proofs.laws.clauses_are_circuit_runs.Goals as goal

pub returns-clause-assignments : goal.returns-clause-assignments
returns-clause-assignments c = assignments_are_runs

pub returns-clause-runs : goal.returns-clause-runs
returns-clause-runs c = runs_are_assignments
