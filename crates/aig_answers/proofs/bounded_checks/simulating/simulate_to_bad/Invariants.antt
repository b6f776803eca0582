use Rattle.std.proofs.Common.{◌≡◌, ℕ, ◌<◌, take}
use Rattle.aig_answers.proofs.Words.{simulation_of, stepped_all, AreTrueIn, rows_of, HasNoTrueIn, after}
use Rattle.aig_answers.proofs.bounded_checks.simulating.simulate_to_bad.Given as goal

abbrev pub invariant-loop-step : goal.invariant-loop-step
invariant-loop-step l = record {
  so_far : l.simulator ≡ stepped_all (simulation_of l.circuit l.fn.simulator.state)
      (take l.step (rows_of l.steps));
  constraints : (s : ℕ) → s < l.step
      → AreTrueIn (after l.circuit l.fn.simulator.state (rows_of l.steps) s)
      l.circuit.properties.constraints;
  none : (s : ℕ) → s < l.step
      → HasNoTrueIn (after l.circuit l.fn.simulator.state (rows_of l.steps) s)
      l.circuit.properties.bads;
}
