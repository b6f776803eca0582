use Rattle.std.proofs.Common.{ap, ◌∙◌}
use Rattle.aig.specs.Ternary.{stepped, value_in}
use Rattle.aig_callers.proofs.callers.second_value.Goals as goal

pub returns : goal.returns
returns c =
    let once = c.in_ok-simulate.ensures.ok ∙ ap (λ s. stepped s c.args.first.items) c.new-simulation.ensures in
    let twice = c.in_ok-simulate-2.ensures.ok ∙ ap (λ s. stepped s c.args.second.items) once in
    c.value.ensures ∙ ap (λ s. value_in s c.args.e) twice
