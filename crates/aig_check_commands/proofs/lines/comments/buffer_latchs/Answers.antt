use Rattle.aig_check_commands.proofs.Words.{arith, enumerate_from, length-enumerate_from, Buffers-turn, all_done, failed_turn, latch_leaves, latch_comment}
use Rattle.aig_base.proofs.Words.{rules}
use Rattle.aig_check_commands.proofs.line_lemmas.Commenting.{line_at}
use Rattle.aig_circuit.proofs.Circuits.{leaf-read}
use Rattle.aig_writer.proofs.Entries.{length-leaves}
use Rattle.aig_check_commands.proofs.lines.comments.buffer_latchs.Goals as goal

pub returns-in_err-buffer_literal : goal.returns-in_err-buffer_literal
returns-in_err-buffer_literal g c =
    let ns = latch_leaves c.args.latchs.now in
    let turn = rw (c.lit.ensures, c.new.ensures, c.input.ensures, ← leaf-read c.args.latchs.now c.loop-i.i _ c.loop-i-test.true, ← line_at latch_comment ns c.loop-i.i 0 (omega (arith, length-leaves c.args.latchs.now))) at c.in_err-buffer_literal.ensures in
    failed_turn latch_comment (enumerate_from 0 ns) c.loop-i.i (0, 0) (omega (arith, length-enumerate_from 0 ns, length-leaves c.args.latchs.now)) c.loop-i.invariant turn (search rules)

pub loop-i-preserved : goal.loop-i-preserved
loop-i-preserved g c =
    let ns = latch_leaves c.args.latchs.now in
    let turn = rw (c.lit.ensures, c.new.ensures, c.input.ensures, ← leaf-read c.args.latchs.now c.loop-i.i _ c.loop-i-test.true, ← line_at latch_comment ns c.loop-i.i 0 (omega (arith, length-leaves c.args.latchs.now))) at c.in_ok-buffer_literal.ensures.ok in
    Buffers-turn latch_comment (enumerate_from 0 ns) c.loop-i.i (0, 0) (omega (arith, length-enumerate_from 0 ns, length-leaves c.args.latchs.now)) c.loop-i.invariant turn

pub returns : goal.returns
returns g c =
    let ns = latch_leaves c.args.latchs.now in
    all_done latch_comment (enumerate_from 0 ns) c.loop-i.i (omega (arith, length-enumerate_from 0 ns, length-leaves c.args.latchs.now)) c.loop-i.invariant
