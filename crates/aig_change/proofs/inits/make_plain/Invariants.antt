use Rattle.std.proofs.Common.{◌≡◌, ◌++◌, map, take}
use Rattle.std.specs.Prelude.{drop}
use Rattle.aig_change.specs.Changes.{with_constant_start}
use Rattle.aig_change.proofs.inits.make_plain.Given as goal

abbrev pub invariant-loop-latch : goal.invariant-loop-latch
invariant-loop-latch l = l.latchs ≡ map with_constant_start (take l.latch-index l.fn.latchs) ++ drop l.latch-index l.fn.latchs
