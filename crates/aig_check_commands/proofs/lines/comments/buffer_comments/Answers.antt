use Rattle.aig_check_commands.proofs.Words.{◌*◌, ◌<◌, ◌^◌, [], ◌∷◌, length, arith, enumerate_from, flat_map, All-drop, All-weaker, AigEdge, IsInRange, IsLatch, latch_leaves, last_bads, Buffers-trans, failed_among, failed_first, then_call, bad_line, latch_comment}
use Rattle.aig_base.proofs.Words.{rules}
use Rattle.aig_circuit.specs.declared.node.AigLatch.{AigLatch}
use Rattle.aig_check_commands.proofs.line_lemmas.Placing.{leaf_below}
use Rattle.aig_check_commands.specs.Comments.{comments_of}
use Rattle.aig_check_commands.proofs.lines.comments.buffer_comments.Goals as goal

pub buffer_latchs-requires : goal.buffer_latchs-requires
buffer_latchs-requires g c =
    let u = c.args.asked.now in
    let is = c.circuit.ensures.unrolled in
    let Few = λ (latch : AigLatch). latch.input < 2 ^ 31 in
    rw (c.latchs.ensures.value, c.circuit.ensures.value) (All-weaker (IsLatch u.circuit.nodes) Few (λ latch h. let below = leaf_below u.circuit u.unrolled u.steps is.steps latch.input h.leaf in omega (arith, below, c.requires.few)) u.circuit.latchs is.circuit.latchs)

pub buffer_bads-requires : goal.buffer_bads-requires
buffer_bads-requires g c =
    let u = c.args.asked.now in
    let is = c.last_bads.ensures.unrolled in
    let Few = λ (e : AigEdge). e.node_id < 2 ^ 31 in
    let are = All-weaker (IsInRange u.unrolled.nodes) Few (λ e h. omega (arith, c.requires.few)) u.unrolled.properties.bads is.unrolled.properties.bads in
    rw c.last_bads.ensures.value
    (All-drop Few (u.steps * length u.circuit.properties.bads) u.unrolled.properties.bads are)

pub returns-in_err-buffer_steps : goal.returns-in_err-buffer_steps
unfolding comments_of
returns-in_err-buffer_steps g c =
    let u = c.args.asked.now in
    failed_first (flat_map latch_comment (enumerate_from 0 (latch_leaves u.circuit.latchs)) ∷ flat_map (bad_line u.steps) (enumerate_from 0 (last_bads u.circuit u.steps u.unrolled)) ∷ []) c.in_err-buffer_steps.ensures (search rules)

pub returns-in_err-buffer_latchs : goal.returns-in_err-buffer_latchs
unfolding comments_of
returns-in_err-buffer_latchs g c =
    let u = c.args.asked.now in
    failed_among (flat_map (bad_line u.steps) (enumerate_from 0 (last_bads u.circuit u.steps u.unrolled)) ∷ []) c.in_ok-buffer_steps.ensures.ok (rw (c.latchs.ensures.value, c.circuit.ensures.value) at c.in_err-buffer_latchs.ensures) (search rules)

pub returns : goal.returns
unfolding comments_of
returns g c =
    let latches = rw (c.latchs.ensures.value, c.circuit.ensures.value) at c.in_ok-buffer_latchs.ensures.ok in
    let bads = rw (c.last_bads.ensures.value, c.steps.ensures.value) at c.buffer_bads.ensures in
    then_call (Buffers-trans c.in_ok-buffer_steps.ensures.ok latches) bads
