use Rattle.std.proofs.Common.{◌≡◌, map, take}
use Rattle.aig_answers.specs.Solving.{start_value}
use Rattle.aig_answers.proofs.bounded_checks.values.first_state.Given as goal

abbrev pub invariant-loop-latch : goal.invariant-loop-latch
invariant-loop-latch l = l.state.items ≡ map start_value (take l.latch-index l.latchs)
