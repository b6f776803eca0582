use Rattle.std.proofs.Common.{◌≡◌, ◌++◌}
use Rattle.aig_answers.proofs.Growing.{free}
use Rattle.aig_answers.proofs.windows.add_free.Given as goal

abbrev pub invariant-loop : goal.invariant-loop
invariant-loop l = l.clauses ≡ l.initial.clauses ++ free l.counter
