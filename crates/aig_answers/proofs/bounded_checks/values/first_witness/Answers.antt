use Rattle.std.proofs.Common.{length, map, ap, ◌∙◌}
use Rattle.aig_answers.specs.Solving.{start_value}
use Rattle.aig_answers.proofs.Saying.{begins, blank}
use Rattle.aig_answers.proofs.bounded_checks.values.first_witness.Goals as goal

pub returns-clause-begins : goal.returns-clause-begins
returns-clause-begins c =
    begins c.args.circuit.now c.args.k _ c.in_ok-state.state.items c.in_ok-steps.steps.items
    c.requires
    (c.in_ok-state.ensures ∙ ap (map start_value) c.latchs.ensures.value) (ap length
    c.inputs.ensures.value) c.in_ok-steps.ensures.count c.in_ok-steps.ensures.rows

pub returns-clause-blank : goal.returns-clause-blank
returns-clause-blank c =
    blank c.args.circuit.now _ c.in_ok-state.state.items c.in_ok-steps.steps.items
    (c.in_ok-state.ensures ∙ ap (map start_value) c.latchs.ensures.value)
    c.in_ok-steps.ensures.rows
