use Rattle.std.proofs.Common.{◌≡◌, map, take}
use Rattle.aig_join.specs.declared.starts.Matching.TheVariants.{ByName}
use Rattle.aig_join.specs.Starts.{circuit_registers, partners}
use Rattle.aig_join.proofs.Partners.{register}
use Rattle.aig_join.proofs.alike.partners_by_name.Given as goal

abbrev pub invariant-loop-latch : goal.invariant-loop-latch
invariant-loop-latch l = l.made.items
    ≡ partners ByName (circuit_registers l.a)
    (map (register l.b.names) (take l.latch-index l.latch-items))
