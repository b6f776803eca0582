use Rattle.aig_base.proofs.Words.{List, length, map, ap, ap₂, ◌∙◌, length-map}
use Rattle.aig_base.specs.declared.logic.three.Lbool.{Lbool}
use Rattle.aig_circuit.specs.declared.node.AigLatch.{AigLatch}
use Rattle.aig_ternary.specs.Step.{simulation_at, value_by}
use Rattle.aig_ternary.specs.Ternary.{given_values}
use Rattle.aig_held.proofs.Moving.{follows}
use Rattle.aig_held.proofs.stepping.step.Goals as goal

pub returns : goal.returns
returns c =
    let circuit = c.args.aig.now in
    let x = given_values circuit c.args.inputs.now c.args.state.now in
    let values = c.in_ok-values.ensures in
    let latchs = c.latchs.ensures in
    let read = λ (vs : List Lbool) (ls : List AigLatch). map (λ l. value_by vs l.next) ls in
    let state =
    c.in_ok-state.ensures ∙ ap₂ read (c.as_slice.ensures.value ∙ values) latchs.value
    ∙ follows circuit latchs.circuit x circuit.latchs latchs.circuit.latchs in
    record {
      stepped = ap₂ (simulation_at circuit) state values;
      values = ap length values ∙ length-map circuit.nodes _;
      state = ap length state ∙ length-map circuit.latchs _;
    }
