use Rattle.std.proofs.Common.{◌≡◌, ◌+◌, ◌++◌, take}
use Rattle.aig_base.proofs.logic.near_clauses.write_after.Given as goal

abbrev pub invariant-loop-i : goal.invariant-loop-i
invariant-loop-i l = take (l.used + l.i) l.literals ≡ take l.used l.fn.literals ++ take l.i l.clause
