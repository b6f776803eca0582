use Rattle.std.proofs.Common.{◌+◌, ◌≤◌, drop, length, map, vec_capacity, vec_len}
use Rattle.aig_ternary.specs.Step.{simulation_at}
use Rattle.aig_ternary.proofs.Stepping.{StepsTo}
use Rattle.aig_ternary.proofs.step.steps.Given as goal

abbrev pub invariant-loop-given : goal.invariant-loop-given
invariant-loop-given l =
    let from = simulation_at l.circuit l.initial.state l.initial.values in
    let now = simulation_at l.circuit l.state l.values in
    StepsTo l.e (map (λ list. list.items) l.inputs) from l.initial.answers.items now l.answers.items (map (λ list. list.items) (drop l.given-index l.inputs))
    × (vec_len l.answers + length l.inputs ≤ vec_capacity l.answers + l.given-index)
