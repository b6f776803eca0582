use Rattle.std.proofs.Common.{◌≡◌, ◌++◌, map, take}
use Rattle.aig_calls.proofs.Words.{AigLatch, variable_number}
use Rattle.aig_calls.proofs.mapping.push_latchs.Given as goal

abbrev pub invariant-loop-latch : goal.invariant-loop-latch
invariant-loop-latch l =
    let number = λ (latch : AigLatch). variable_number latch.input in
    l.numbers.items ≡ l.fn.numbers.items ++ map number (take l.latch-index l.latchs)
