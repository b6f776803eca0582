use Rattle.std.proofs.Common.{◌≡◌, ◌++◌, take}
use Rattle.aig_runs.specs.WindowClauses.{difference_clauses, variables_from}
use Rattle.aig_answers.proofs.distinct.push_pair.Given as goal

abbrev pub invariant-loop-i : goal.invariant-loop-i
invariant-loop-i l = record {
  extra : l.extra ≡ l.initial.extra ++ difference_clauses l.first (take l.i l.xs) (take l.i l.ys);
  some : l.some.items ≡ variables_from l.first l.i;
}
