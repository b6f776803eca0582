use Rattle.aig_join.proofs.Deferred.{deferred-compare}
use Rattle.aig_join.proofs.laws.constrained_miters_compare_runs.Goals as goal

pub returns : goal.returns
returns c = λ starts a b m k is_a is_b counts miters. deferred-compare starts a b miters.0 miters.1 m
    k is_a is_b counts miters.2 miters.3 miters.4
