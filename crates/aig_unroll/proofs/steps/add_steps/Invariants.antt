use Rattle.aig_circuit.specs.View.{lists_circuit}
use Rattle.aig_unroll.specs.Step.{IsUnrolled}
use Rattle.aig_unroll.proofs.steps.add_steps.Given as goal

abbrev pub invariant-loop-step : goal.invariant-loop-step
invariant-loop-step l = IsUnrolled l.circuit l._step (lists_circuit l.lists)
