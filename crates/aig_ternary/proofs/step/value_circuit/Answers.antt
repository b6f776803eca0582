use Rattle.aig_base.proofs.Words.{◌≡◌, ℕ, length, get_or, replicate, ap, arith, length-replicate}
use Rattle.aig_base.specs.declared.logic.three.Lbool.{Lbool}
use Rattle.aig_base.specs.declared.logic.three.Lbool.TheVariants.{NONE}
use Rattle.aig_circuit.specs.declared.node.AigNodeType.TheVariants.{Leaf}
use Rattle.aig_circuit.specs.Circuit.{latch_leaves}
use Rattle.aig_circuit.proofs.Circuits.{latch_leaves-leaves}
use Rattle.aig_circuit.proofs.Trees.{kind_at-within}
use Rattle.aig_ternary.specs.Step.{with_given}
use Rattle.aig_ternary.specs.Ternary.{given_values}
use Rattle.aig_ternary.proofs.Stepping.{given-read, three_values-by_number}
use Rattle.aig_ternary.proofs.step.value_circuit.Goals as goal

pub write_inputs-requires-clause-leaves : goal.write_inputs-requires-clause-leaves
write_inputs-requires-clause-leaves c =
    let circuit = c.args.circuit.now in
    let count : length c.args.values.now ≡ length circuit.nodes = omega (arith, ap length c.requires.unknown, length-replicate (length circuit.nodes) NONE) in
    rw c.inputs.ensures.value (λ k d h. omega (arith, kind_at-within circuit.nodes _ Leaf (c.inputs.ensures.circuit.inputs k d h)))

pub write_state-requires-clause-leaves : goal.write_state-requires-clause-leaves
write_state-requires-clause-leaves c =
    let circuit = c.args.circuit.now in
    let is = c.inputs.ensures.circuit in
    let count : length c.args.values.now ≡ length circuit.nodes = omega (arith, ap length c.requires.unknown, length-replicate (length circuit.nodes) NONE) in
    rw c.latchs.ensures.value (λ k d h. omega (arith, kind_at-within circuit.nodes _ Leaf (latch_leaves-leaves circuit is k d h)))

pub returns : goal.returns
returns c =
    let circuit = c.args.circuit.now in
    let is = c.inputs.ensures.circuit in
    let x = given_values circuit c.args.inputs.now c.args.state.now in
    let y : ℕ → Lbool = λ m. get_or c.write_state.new.values m NONE in
    let count : length c.args.values.now ≡ length circuit.nodes = omega (arith, ap length c.requires.unknown, length-replicate (length circuit.nodes) NONE) in
    let written : c.write_state.new.values ≡ with_given (with_given (replicate (length circuit.nodes) NONE) circuit.inputs c.args.inputs.now) (latch_leaves circuit.latchs) c.args.state.now = cc in
    three_values-by_number circuit is.nodes x y c.value_nodes.new.values (omega arith)
    (λ n. rw written (given-read circuit is c.args.inputs.now c.args.state.now c.requires.inputs n))
    (rw c.nodes.ensures.value at c.value_nodes.ensures)
