use Rattle.aig_join.proofs.Miters.{ComparesRuns-miter, IsCircuit-miter, safe-is_equal}
use Rattle.aig_join.proofs.laws.miters_compare_runs.Goals as goal

pub returns-clause-circuit : goal.returns-clause-circuit
returns-clause-circuit c = IsCircuit-miter

pub returns-clause-runs : goal.returns-clause-runs
returns-clause-runs c = ComparesRuns-miter

pub returns-clause-safe : goal.returns-clause-safe
returns-clause-safe c = λ a b m k is_a is_b counts miters. safe-is_equal a b m is_a is_b counts
    miters k
