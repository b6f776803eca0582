use Rattle.aig_base.proofs.Words.{◌≡◌, ◌++◌, take, flat_map}
use Rattle.aig_runs.specs.Queries.{start_clauses}
use Rattle.aig_runs.proofs.clauses.push_starts.Given as goal

abbrev pub invariant-loop-latch : goal.invariant-loop-latch
invariant-loop-latch l = l.extra ≡ l.initial.extra ++ flat_map start_clauses (take l.latch-index l.latchs)
