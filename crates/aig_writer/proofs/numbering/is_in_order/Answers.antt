use Rattle.std.proofs.Common.{◌+◌, ap, arith, length, refl}
use Rattle.aig_writer.proofs.Tables.{row-at, row-input, row-other, row-turn, row_length}
use Rattle.aig_writer.proofs.numbering.is_in_order.Goals as goal

pub loop-i-init : goal.loop-i-init
loop-i-init c = λ k h. absurd (omega arith)

pub returns-then-n-i-clause-order : goal.returns-then-n-i-clause-order
returns-then-n-i-clause-order c =
    let inputs = c.inputs-inputs.ensures.value in
    row-other c.args.circuit.now c.loop-i.i _ (omega (arith, ap length inputs))
    (row-input c.args.circuit.now c.inputs-inputs.result.now c.loop-i.i inputs
    c.loop-i-test.true) c.if-n-i.true

pub loop-i-preserved : goal.loop-i-preserved
loop-i-preserved c =
    row-turn c.args.circuit.now c.loop-i.i _ _ c.loop-i.invariant
    (row-input c.args.circuit.now c.inputs-inputs.result.now c.loop-i.i
    c.inputs-inputs.ensures.value c.loop-i-test.true) c.if-n-i.false refl

pub loop-i-2-init : goal.loop-i-2-init
loop-i-2-init c = λ k h. c.loop-i.invariant k
    (omega (arith, ap length c.inputs-inputs.ensures.value))

pub returns-then-input-inputs-clause-order : goal.returns-then-input-inputs-clause-order
returns-then-input-inputs-clause-order c =
    let circuit = c.args.circuit.now in
    let i = c.loop-i-2.i in
    let latchs = c.latchs-latch-items.ensures.value in
    let at = row-at circuit c.latchs-latch-items.result.now i c.input.result _ latchs c.loop-i-2-test.true c.input.ensures in
    row-other circuit (length circuit.inputs + i) c.input.result (omega (arith, ap length latchs))
    at (rw c.inputs-inputs.ensures.value at c.if-input-inputs.true)

pub loop-i-2-preserved : goal.loop-i-2-preserved
loop-i-2-preserved c =
    let circuit = c.args.circuit.now in
    let i = c.loop-i-2.i in
    let at = row-at circuit c.latchs-latch-items.result.now i c.input.result _ c.latchs-latch-items.ensures.value c.loop-i-2-test.true c.input.ensures in
    row-turn circuit (length circuit.inputs + i) (length circuit.inputs + (i + 1)) c.input.result
    c.loop-i-2.invariant at (omega (arith, ap length c.inputs-inputs.ensures.value))
    (omega arith)

pub returns-clause-order : goal.returns-clause-order
returns-clause-order c =
    let circuit = c.args.circuit.now in
    let latchs = ap length c.latchs-latch-items.ensures.value in
    (λ yes i h. c.loop-i-2.invariant i (omega (arith, row_length circuit)), λ order. refl)
