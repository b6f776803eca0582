use Rattle.std.proofs.Common.{◌≡◌, ◌+◌, ◌*◌, ◌++◌}
use Rattle.aig_runs.specs.WindowClauses.{count_pairs, pairwise_clauses}
use Rattle.aig_answers.proofs.distinct.push_distinct.Given as goal

abbrev pub invariant-loop-t : goal.invariant-loop-t
invariant-loop-t l = record {
  next : l.next ≡ l.first + count_pairs l.t * l.latchs;
  extra : l.extra ≡ l.initial.extra ++ pairwise_clauses l.first l.latchs l.edges l.t;
}
