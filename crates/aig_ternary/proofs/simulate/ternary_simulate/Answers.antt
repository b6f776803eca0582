use Rattle.aig_base.proofs.Words.{length, ap, ◌∙◌, arith, with_items_is}
use Rattle.aig_ternary.proofs.simulate.ternary_simulate.Goals as goal

pub value_circuit-requires-clause-inputs : goal.value_circuit-requires-clause-inputs
value_circuit-requires-clause-inputs c = c.requires.inputs

pub value_circuit-requires-clause-state : goal.value_circuit-requires-clause-state
value_circuit-requires-clause-state c = c.requires.latchs

pub returns : goal.returns
returns c =
    with_items_is c.in_ok-values.values c.value_circuit.new.values (omega (arith, c.in_ok-values.values.ok.0, ap length c.deref_mut.ensures.value)) ∙ c.value_circuit.ensures
