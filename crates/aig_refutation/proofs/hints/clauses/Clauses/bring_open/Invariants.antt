use Rattle.std.proofs.Common.{◌≤◌}
use Rattle.aig_refutation.proofs.hints.clauses.Clauses.bring_open.Given as goal

abbrev pub invariant-loop-i : goal.invariant-loop-i
invariant-loop-i l = l.found ≤ 1
