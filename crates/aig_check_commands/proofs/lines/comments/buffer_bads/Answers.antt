use Rattle.aig_check_commands.proofs.Words.{arith, false, enumerate_from, length-enumerate_from, Buffers-turn, all_done, failed_turn, bad_line}
use Rattle.aig_base.proofs.Words.{rules}
use Rattle.aig_check_commands.proofs.line_lemmas.Commenting.{line_at}
use Rattle.aig_circuit.specs.Edge.{edge_to}
use Rattle.aig_check_commands.proofs.lines.comments.buffer_bads.Goals as goal

pub returns-in_err-buffer_literal : goal.returns-in_err-buffer_literal
returns-in_err-buffer_literal g c =
    let es = c.args.bads.now in
    let none = edge_to 0 false in
    let turn = rw (c.to_lit.ensures, ← line_at (bad_line c.args.k) es c.loop-i.i none c.loop-i-test.true) at c.in_err-buffer_literal.ensures in
    failed_turn (bad_line c.args.k) (enumerate_from 0 es) c.loop-i.i (0, none)
    (omega (arith, length-enumerate_from 0 es)) c.loop-i.invariant turn (search rules)

pub loop-i-preserved : goal.loop-i-preserved
loop-i-preserved g c =
    let es = c.args.bads.now in
    let none = edge_to 0 false in
    let turn = rw (c.to_lit.ensures, ← line_at (bad_line c.args.k) es c.loop-i.i none c.loop-i-test.true) at c.in_ok-buffer_literal.ensures.ok in
    Buffers-turn (bad_line c.args.k) (enumerate_from 0 es) c.loop-i.i (0, none) (omega (arith, length-enumerate_from 0 es)) c.loop-i.invariant turn

pub returns : goal.returns
returns g c =
    let es = c.args.bads.now in
    all_done (bad_line c.args.k) (enumerate_from 0 es) c.loop-i.i
    (omega (arith, length-enumerate_from 0 es)) c.loop-i.invariant
