use Rattle.std.proofs.Common.{◌≡◌, map, take}
use Rattle.aig_join.specs.Starts.{open_places}
use Rattle.aig_join.proofs.Partners.{register}
use Rattle.aig_join.proofs.alike.open_leaves.Given as goal

abbrev pub invariant-loop-latch : goal.invariant-loop-latch
invariant-loop-latch l = l.leaves.items
    ≡ open_places (map (register l.circuit.names) (take l.latch-index l.latch-items))
