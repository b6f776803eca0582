use Rattle.std.proofs.Common.{◌≡◌, map, take}
use Rattle.aig_ternary.specs.Step.{value_by}
use Rattle.aig_ternary.proofs.step.move_state.Given as goal

abbrev pub invariant-loop-i : goal.invariant-loop-i
invariant-loop-i l = take l.i l.state ≡ map (λ latch. value_by l.values latch.next) (take l.i l.latchs)
