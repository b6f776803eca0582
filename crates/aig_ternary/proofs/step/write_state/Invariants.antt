use Rattle.std.proofs.Common.{◌≡◌, drop}
use Rattle.aig_circuit.specs.Circuit.{latch_leaves}
use Rattle.aig_ternary.specs.Step.{with_given}
use Rattle.aig_ternary.proofs.step.write_state.Given as goal

abbrev pub invariant-loop-i : goal.invariant-loop-i
invariant-loop-i l = with_given l.values (drop l.i (latch_leaves l.latchs)) (drop l.i l.state) ≡ with_given l.initial.values (latch_leaves l.latchs) l.state
