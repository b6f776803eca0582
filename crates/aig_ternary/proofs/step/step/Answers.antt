use Rattle.std.proofs.Common.{ap₂, ◌∙◌}
use Rattle.aig_ternary.specs.Step.{simulation_at}
use Rattle.aig_ternary.specs.Ternary.{given_values}
use Rattle.aig_ternary.proofs.Stepping.{next_state-is}
use Rattle.aig_ternary.proofs.step.step.Goals as goal

pub returns : goal.returns
returns c =
    let circuit = c.args.circuit.now in
    let x = given_values circuit c.args.inputs.now c.args.state.now in
    let moved = next_state-is circuit c.latchs.ensures.circuit x c.value_circuit.new.values c.value_circuit.ensures c.latchs.result.now c.latchs.ensures.value in
    ap₂ (simulation_at circuit) (c.move_state.ensures ∙ moved) c.value_circuit.ensures
