use Rattle.std.proofs.Common.{◌≡◌, ◌++◌, take}
use Rattle.aig_live.specs.Live.{false_latches}
use Rattle.aig_live.proofs.making.push_latches.Given as goal

abbrev pub invariant-loop-i : goal.invariant-loop-i
invariant-loop-i l = l.latchs.items ≡ l.initial.latchs.items ++ false_latches l.leaf
    (take l.i l.nexts)
