use Rattle.std.proofs.Common.{◌≡◌, ◌++◌, ◌≤◌, length, take}
use Rattle.std.specs.List.{zip}
use Rattle.aig_witness_circuits.proofs.sharing.shared.push_in_order.Given as goal

abbrev pub invariant-loop-i : goal.invariant-loop-i
invariant-loop-i l = record {
  pairs : l.shared.items ≡ l.fn.shared.items ++ zip (take l.i l.model) (take l.i l.witness);
  within : l.i ≤ length l.witness;
}
