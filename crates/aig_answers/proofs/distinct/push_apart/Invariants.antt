use Rattle.std.proofs.Common.{◌≡◌, ◌++◌}
use Rattle.aig_runs.specs.WindowClauses.{apart_clauses}
use Rattle.aig_answers.proofs.distinct.push_apart.Given as goal

abbrev pub invariant-loop-s : goal.invariant-loop-s
invariant-loop-s l = l.extra ≡ l.initial.extra ++ apart_clauses l.first l.latchs l.edges l.t l.s
