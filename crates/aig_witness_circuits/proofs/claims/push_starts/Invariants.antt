use Rattle.std.proofs.Common.{◌≡◌, ◌++◌, take}
use Rattle.aig_witness_circuits.specs.Claims.{start_claims}
use Rattle.aig_witness_circuits.proofs.claims.push_starts.Given as goal

abbrev pub invariant-loop-latch : goal.invariant-loop-latch
invariant-loop-latch l =
    l.claims.items ≡ l.fn.claims.items ++ start_claims (take l.latch-index l.latchs) l.images
