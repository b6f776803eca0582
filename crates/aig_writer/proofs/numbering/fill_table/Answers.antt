use Rattle.std.proofs.Common.{arith, sym, ◌∙◌}
use Rattle.aig_circuit.proofs.Circuits.{leaf-read}
use Rattle.aig_writer.proofs.Tables.{all_filled, gate_counted, gate_turn, input_turn, input_within, latch_turn, leaf_within, node_within, none_filled, other_turn}
use Rattle.aig_writer.proofs.numbering.fill_table.Goals as goal
use Rattle.aig_writer.proofs.numbering.fill_table.Goals.{then-is_and, else-is_and}

pub loop-n-init : goal.loop-n-init
loop-n-init c = record {
  next = omega arith;
  within = omega arith;
  filled = none_filled c.args.circuit.now c.inputs-n-items.ensures.circuit c.requires.closed
      c.args.numbers.now c.requires.count c.requires.zero;
}

pub offset_bounds-numbers-n : goal.offset_bounds-numbers-n
offset_bounds-numbers-n c =
    let within = input_within c.args.circuit.now c.inputs-n-items.ensures.circuit c.requires.closed
    c.inputs-n-items.result.now c.loop-n.n-index c.inputs-n-items.ensures.value
    c.loop-n-test.true in
    omega (arith, c.loop-n.invariant.filled.count)

pub bounds-numbers-n : goal.bounds-numbers-n
bounds-numbers-n c =
    let within = input_within c.args.circuit.now c.inputs-n-items.ensures.circuit c.requires.closed
    c.inputs-n-items.result.now c.loop-n.n-index c.inputs-n-items.ensures.value
    c.loop-n-test.true in
    omega (arith, c.loop-n.invariant.filled.count)

pub loop-n-preserved : goal.loop-n-preserved
loop-n-preserved c =
    let circuit = c.args.circuit.now in
    let so_far = c.loop-n.invariant in
    rw c.inputs-n-items.ensures.value (let h = rw c.inputs-n-items.ensures.value at c.loop-n-test.true in record {
      next = omega arith;
      within = omega arith;
      filled = input_turn circuit c.inputs-n-items.ensures.circuit c.requires.closed c.loop-n.n-index c.loop-n.next c.loop-n.numbers h so_far.next so_far.filled;
    })

pub offset_bounds-numbers-input : goal.offset_bounds-numbers-input
offset_bounds-numbers-input c =
    let within = leaf_within c.args.circuit.now c.inputs-n-items.ensures.circuit c.requires.closed c.latchs-latch-items.result.now c.loop-latch.latch-index c.input.result _ c.latchs-latch-items.ensures.value c.loop-latch-test.true c.input.ensures in
    omega (arith, c.loop-latch.invariant.filled.count)

pub bounds-numbers-input : goal.bounds-numbers-input
bounds-numbers-input c =
    let within = leaf_within c.args.circuit.now c.inputs-n-items.ensures.circuit c.requires.closed c.latchs-latch-items.result.now c.loop-latch.latch-index c.input.result _ c.latchs-latch-items.ensures.value c.loop-latch-test.true c.input.ensures in
    omega (arith, c.loop-latch.invariant.filled.count)

pub loop-latch-preserved : goal.loop-latch-preserved
loop-latch-preserved c =
    let circuit = c.args.circuit.now in
    let so_far = c.loop-latch.invariant in
    let latchs = c.latchs-latch-items.ensures.value in
    let h = rw latchs at c.loop-latch-test.true in
    let own = rw latchs at c.input.ensures in
    record {
      next = omega arith;
      within = omega arith;
      filled = latch_turn circuit c.inputs-n-items.ensures.circuit c.requires.closed c.loop-latch.latch-index c.loop-latch.next c.input.result c.loop-latch.numbers h so_far.next (leaf-read circuit.latchs c.loop-latch.latch-index _ h ∙ sym own) so_far.filled;
    }

pub offset_bounds-numbers-node_id : goal.offset_bounds-numbers-node_id
offset_bounds-numbers-node_id c =
    let within = node_within c.args.circuit.now c.inputs-n-items.ensures.circuit c.requires.closed c.nodes-node-items.result.now c.loop-node.node-index c.node_id.result _ c.nodes-node-items.ensures.value c.loop-node-test.true c.node_id.ensures in
    omega (arith, c.loop-node.invariant.filled.count)

pub bounds-numbers-node_id : goal.bounds-numbers-node_id
bounds-numbers-node_id c =
    let within = node_within c.args.circuit.now c.inputs-n-items.ensures.circuit c.requires.closed c.nodes-node-items.result.now c.loop-node.node-index c.node_id.result _ c.nodes-node-items.ensures.value c.loop-node-test.true c.node_id.ensures in
    omega (arith, c.loop-node.invariant.filled.count)

pub overflow_add-next-then-is_and : goal.overflow_add-next-then-is_and
overflow_add-next-then-is_and c =
    let nodes = c.nodes-node-items.ensures.value in
    let fewer = gate_counted c.args.circuit.now c.inputs-n-items.ensures.circuit c.requires.closed c.loop-node.node-index _ c.is_and.result (rw nodes at c.loop-node-test.true) (rw nodes at c.is_and.ensures) c.if-is_and.true in
    omega (arith, c.loop-node.invariant.count, c.loop-node.invariant.filled.count)

pub loop-node-preserved : goal.loop-node-preserved
loop-node-preserved c =
    let circuit = c.args.circuit.now in
    let nodes = c.nodes-node-items.ensures.value in
    let h = rw nodes at c.loop-node-test.true in
    let told = rw nodes at c.is_and.ensures in
    elim c.if-is_and.branch [
      | then-is_and w ↦ rw (w.numbers-is, w.next-is) (gate_turn circuit c.inputs-n-items.ensures.circuit c.requires.closed c.loop-node.node-index _ c.is_and.result c.loop-node.next w.node_id.result c.loop-node.numbers h told w.if-is_and.true (rw nodes at w.node_id.ensures) c.loop-node.invariant)
      | else-is_and w ↦ rw (w.numbers-is, w.next-is) (other_turn circuit c.loop-node.node-index _ c.is_and.result c.loop-node.next c.loop-node.numbers h told w.if-is_and.false c.loop-node.invariant)
    ]

pub returns : goal.returns
returns c =
    all_filled c.args.circuit.now c.inputs-n-items.ensures.circuit c.requires.closed c.loop-node.node-index c.loop-node.next c.loop-node.numbers (rw c.nodes-node-items.ensures.value at c.loop-node-test.false) c.loop-node.invariant
