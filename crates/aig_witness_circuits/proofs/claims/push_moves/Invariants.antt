use Rattle.std.proofs.Common.{◌≡◌, ◌++◌, map, take}
use Rattle.aig_witness_circuits.specs.Claims.{move_claim}
use Rattle.aig_witness_circuits.proofs.claims.push_moves.Given as goal

abbrev pub invariant-loop-latch : goal.invariant-loop-latch
invariant-loop-latch l =
    l.claims.items
    ≡ l.fn.claims.items ++ map (move_claim l.before l.after) (take l.latch-index l.latch-items)
