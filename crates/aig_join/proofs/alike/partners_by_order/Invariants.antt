use Rattle.std.proofs.Common.{◌≡◌, ◌++◌, ◌≤◌, drop, map}
use Rattle.aig_join.specs.Starts.{in_turn}
use Rattle.aig_join.proofs.Partners.{register}
use Rattle.aig_join.proofs.alike.partners_by_order.Given as goal

abbrev pub invariant-loop-latch : goal.invariant-loop-latch
invariant-loop-latch l = record {
  used : l.used ≤ l.latch-index;
  items : l.made.items
      ++ in_turn (drop l.used l.leaves.items)
      (map (register l.b.names) (drop l.latch-index l.latch-items))
      ≡ in_turn l.leaves.items (map (register l.b.names) l.latch-items);
}
