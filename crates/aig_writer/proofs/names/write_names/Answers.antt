use Rattle.aig_base.proofs.Words.{◌∷◌, [], ap, arith, length, rules, enumerate_from, get, take_all, length-enumerate_from}
use Rattle.aig_circuit.specs.Circuit.{latch_leaves}
use Rattle.aig_output.proofs.Writing.{all_done, calls_laws, failed_turn, failed_within, then_call, then_turn}
use Rattle.aig_writer.proofs.Entries.{input_entry-at, latch_entries, latch_entry-at, length-leaves, name_entry, name_lines-both}
use Rattle.aig_writer.proofs.names.write_names.Goals as goal

pub returns-in_err-write_node_name : goal.returns-in_err-write_node_name
returns-in_err-write_node_name g c =
    let circuit = c.args.circuit.now in
    let inputs = c.inputs-n-items.ensures.value in
    let turn = rw (← input_entry-at circuit c.inputs-n-items.result.now c.loop-i.i inputs
    c.loop-i-test.true) at c.in_err-write_node_name.ensures in
    rw (name_lines-both circuit) (failed_within calls_laws {c = c.write_node_name.new.out} (latch_entries circuit ∷ []) (name_entry 105 (get circuit.names)) (enumerate_from 0 circuit.inputs) c.loop-i.i (0, 0) (omega (arith, length-enumerate_from 0 circuit.inputs, ap length inputs)) c.loop-i.invariant turn (search rules))

pub loop-i-preserved : goal.loop-i-preserved
loop-i-preserved g c =
    let circuit = c.args.circuit.now in
    let inputs = c.inputs-n-items.ensures.value in
    let turn = rw (← input_entry-at circuit c.inputs-n-items.result.now c.loop-i.i inputs
    c.loop-i-test.true) at c.in_ok-write_node_name.ensures.ok in
    then_turn (name_entry 105 (get circuit.names)) (enumerate_from 0 circuit.inputs) c.loop-i.i (0, 0) (omega (arith, length-enumerate_from 0 circuit.inputs, ap length inputs)) c.loop-i.invariant turn

pub returns-in_err-write_node_name-2 : goal.returns-in_err-write_node_name-2
returns-in_err-write_node_name-2 g c =
    let circuit = c.args.circuit.now in
    let places = enumerate_from 0 circuit.inputs in
    let leaves = enumerate_from 0 (latch_leaves circuit.latchs) in
    let latchs = c.latchs-latch-items.ensures.value in
    let inputs = rw (take_all c.loop-i.i places (omega (arith, length-enumerate_from 0 circuit.inputs, ap length c.inputs-n-items.ensures.value))) at c.loop-i.invariant in
    let turn = rw (← latch_entry-at circuit c.latchs-latch-items.result.now c.loop-i-2.i
    c.input.result _ latchs c.loop-i-2-test.true c.input.ensures) at
    c.in_err-write_node_name-2.ensures in
    rw (name_lines-both circuit) (then_call calls_laws {c = c.write_node_name-in-loop-i-2.new.out} inputs (failed_turn calls_laws (name_entry 108 (get circuit.names)) leaves c.loop-i-2.i (0, 0) (omega (arith, length-enumerate_from 0 (latch_leaves circuit.latchs), length-leaves circuit.latchs, ap length latchs)) c.loop-i-2.invariant turn (search rules)))

pub loop-i-2-preserved : goal.loop-i-2-preserved
loop-i-2-preserved g c =
    let circuit = c.args.circuit.now in
    let leaves = enumerate_from 0 (latch_leaves circuit.latchs) in
    let latchs = c.latchs-latch-items.ensures.value in
    let turn = rw (← latch_entry-at circuit c.latchs-latch-items.result.now c.loop-i-2.i
    c.input.result _ latchs c.loop-i-2-test.true c.input.ensures) at
    c.in_ok-write_node_name-2.ensures.ok in
    then_turn (name_entry 108 (get circuit.names)) leaves c.loop-i-2.i (0, 0) (omega (arith, length-enumerate_from 0 (latch_leaves circuit.latchs), length-leaves circuit.latchs, ap length latchs)) c.loop-i-2.invariant turn

pub returns : goal.returns
returns g c =
    let circuit = c.args.circuit.now in
    let places = enumerate_from 0 circuit.inputs in
    let leaves = enumerate_from 0 (latch_leaves circuit.latchs) in
    let inputs = rw (take_all c.loop-i.i places (omega (arith, length-enumerate_from 0 circuit.inputs, ap length c.inputs-n-items.ensures.value))) at c.loop-i.invariant in
    rw (name_lines-both circuit) (then_call calls_laws inputs (all_done (name_entry 108 (get circuit.names)) leaves c.loop-i-2.i (omega (arith, length-enumerate_from 0 (latch_leaves circuit.latchs), length-leaves circuit.latchs, ap length c.latchs-latch-items.ensures.value)) c.loop-i-2.invariant))
