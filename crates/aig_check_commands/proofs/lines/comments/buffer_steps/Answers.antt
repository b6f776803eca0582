use Rattle.aig_check_commands.proofs.Words.{◌≡◌, ◌+◌, ◌<◌, ℕ, get_or, arith, ◌∙◌, range_with_len, get_or-range_with_len, length-range_with_len, Buffers-turn, all_done, failed_turn}
use Rattle.aig_base.proofs.Words.{rules, zero-add}
use Rattle.aig_check_commands.proofs.line_lemmas.Placing.{place_below}
use Rattle.aig_check_commands.specs.Comments.{input_lines}
use Rattle.aig_check_commands.proofs.lines.comments.buffer_steps.Goals as goal

-- the number at t
at : (n t : ℕ) → t < n → get_or (range_with_len 0 n) t 0 ≡ t
at n t h = get_or-range_with_len 0 n t 0 h ∙ zero-add t

pub buffer_inputs-requires-clause-few : goal.buffer_inputs-requires-clause-few
buffer_inputs-requires-clause-few g c i d h =
    let u = c.args.asked.now in
    let is = c.steps-t-end.ensures.unrolled in
    let below = place_below u.circuit u.unrolled u.steps is.steps is.unrolled c.loop-t.t _ (is.circuit.inputs i d h) in
    omega (arith, below, c.requires.few)

pub returns-in_err-buffer_inputs : goal.returns-in_err-buffer_inputs
returns-in_err-buffer_inputs g c =
    let lines = input_lines c.args.asked.now.circuit c.args.asked.now.unrolled in
    let count = c.args.asked.now.steps + 1 in
    let lt : c.loop-t.t < count = rw c.steps-t-end.ensures.value at c.loop-t-test.true in
    let turn = rw (← at count c.loop-t.t lt) at c.in_err-buffer_inputs.ensures in
    failed_turn lines (range_with_len 0 count) c.loop-t.t 0
    (omega (arith, length-range_with_len 0 count)) c.loop-t.invariant turn (search rules)

pub loop-t-preserved : goal.loop-t-preserved
loop-t-preserved g c =
    let lines = input_lines c.args.asked.now.circuit c.args.asked.now.unrolled in
    let count = c.args.asked.now.steps + 1 in
    let lt : c.loop-t.t < count = rw c.steps-t-end.ensures.value at c.loop-t-test.true in
    let turn = rw (← at count c.loop-t.t lt) at c.in_ok-buffer_inputs.ensures.ok in
    Buffers-turn lines (range_with_len 0 count) c.loop-t.t 0 (omega (arith, length-range_with_len 0 count)) c.loop-t.invariant turn

pub returns : goal.returns
returns g c =
    let lines = input_lines c.args.asked.now.circuit c.args.asked.now.unrolled in
    let count = c.args.asked.now.steps + 1 in
    all_done lines (range_with_len 0 count) c.loop-t.t
    (omega (arith, length-range_with_len 0 count)) c.loop-t.invariant
