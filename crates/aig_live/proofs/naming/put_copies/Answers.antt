use Rattle.std.proofs.Common.{ap, length, arith, ◌∙◌}
use Rattle.aig_base.proofs.Words.{take_all}
use Rattle.aig_circuit.specs.View.{names_of}
use Rattle.aig_live.specs.Names.{copy_names, with_row}
use Rattle.aig_live.proofs.Rows.{copies-long, copies-more}
use Rattle.aig_live.proofs.naming.put_copies.Goals as goal

pub loop-i-preserved : goal.loop-i-preserved
loop-i-preserved c =
    c.in_ok-put_copy.ensures
    ∙ copies-more c.args.circuit.now (names_of c.args.names.now.entries)
    (names_of c.loop-i.names.entries) c.args.node c.latchs-latch-items.result.now
    c.latchs-latch-items.ensures.value c.loop-i.i c.input.result _ c.loop-i-test.true
    c.input.ensures c.loop-i.invariant

pub returns : goal.returns
returns c =
    let circuit = c.args.circuit.now in
    let count = ap length c.latchs-latch-items.ensures.value in
    c.loop-i.invariant
    ∙ ap (with_row (names_of c.args.names.now.entries) c.args.node)
    (take_all c.loop-i.i (copy_names circuit)
    (omega (arith, copies-long circuit, count, c.loop-i-test.false)))
