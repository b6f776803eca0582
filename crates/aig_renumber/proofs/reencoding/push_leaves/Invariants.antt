use Rattle.std.proofs.Common.{◌≡◌, ◌++◌, take}
use Rattle.aig_circuit.specs.Circuit.{latch_leaves}
use Rattle.aig_renumber.proofs.reencoding.push_leaves.Given as goal

abbrev pub invariant-loop-latch : goal.invariant-loop-latch
invariant-loop-latch l = l.order.items ≡ l.initial.order.items ++ latch_leaves (take l.latch-index l.latchs)
