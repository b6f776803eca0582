use Rattle.std.proofs.Common.{◌+◌, ◌*◌, ◌≤◌, length}
use Rattle.aig_bounded.specs.Question.{step_size}
use Rattle.aig_bounded.proofs.Steady.{AreMade}
use Rattle.aig_bounded.proofs.frames.Frames.add_steps.Given as goal

abbrev pub invariant-loop-step : goal.invariant-loop-step
invariant-loop-step l = record {
  are_made : AreMade l.circuit l.last l.step l.depths l.fn.self l.self l.states l.sums;
  few : length l.self.nodes.items ≤ length l.fn.self.nodes.items + l.step * step_size l.circuit;
}
