use Rattle.std.proofs.Common.{◌≡◌, take}
use Rattle.aig_base.proofs.logic.clauses.to_far.Given as goal

abbrev pub invariant-loop-i : goal.invariant-loop-i
invariant-loop-i l = l.far ≡ take l.i l.near
