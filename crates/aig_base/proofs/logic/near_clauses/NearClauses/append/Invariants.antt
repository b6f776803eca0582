use Rattle.std.proofs.Common.{◌≡◌, ◌++◌, take}
use Rattle.aig_base.proofs.logic.near_clauses.NearClauses.append.Given as goal

abbrev pub invariant-loop-i : goal.invariant-loop-i
invariant-loop-i l = l.both ≡ l.fn.self ++ take l.i l.others
