use Rattle.std.proofs.Common.{◌≡◌, ◌++◌, take}
use Rattle.aig_circuit.specs.Circuit.{latch_leaves}
use Rattle.aig_cone.proofs.refine.push_leaves.Given as goal

abbrev pub invariant-loop-latch : goal.invariant-loop-latch
invariant-loop-latch l = l.roots.items ≡ l.initial.roots.items ++ latch_leaves (take l.latch-index l.latchs)
