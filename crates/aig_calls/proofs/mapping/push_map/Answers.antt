use Rattle.aig_calls.proofs.Words.{◌<◌, ◌-◌, ◌^◌, arith, All-drop, All-same, All-take, All-weaker, AigEdge, AigLatch, IsInRange, IsLatch}
use Rattle.aig_calls.proofs.Placing.{bads_room, leaf_below, place_below}
use Rattle.aig_calls.proofs.mapping.push_map.Goals as goal

pub overflow_mul-first : goal.overflow_mul-first
overflow_mul-first c =
    let room = bads_room _ _ c.args.k c.requires.steps _ _ c.bads.ensures.value
    c.bads-bads.ensures.value in
    omega (arith, room, c.bads-bads.type_inv.0)

pub offset_bounds-bads-first : goal.offset_bounds-bads-first
offset_bounds-bads-first c =
    let room = bads_room _ _ c.args.k c.requires.steps _ _ c.bads.ensures.value
    c.bads-bads.ensures.value in
    omega (arith, room, c.bads-bads.type_inv.1)

pub slice_bounds-push_bads-count : goal.slice_bounds-push_bads-count
slice_bounds-push_bads-count c =
    let room = bads_room _ _ c.args.k c.requires.steps _ _ c.bads.ensures.value
    c.bads-bads.ensures.value in
    omega (arith, room)

pub slice_bounds-push_bads-start : goal.slice_bounds-push_bads-start
slice_bounds-push_bads-start c =
    let room = bads_room _ _ c.args.k c.requires.steps _ _ c.bads.ensures.value
    c.bads-bads.ensures.value in
    omega (arith, room)

pub push_steps-requires-clause-few : goal.push_steps-requires-clause-few
push_steps-requires-clause-few c t low i d h =
    let q = c.args.asked.now.encoded in
    let leaf = c.latchs-latchs.ensures.circuit.inputs i d h in
    let is = c.bads-bads.ensures.circuit in
    let below = place_below q.circuit q.unrolled c.args.k c.requires.steps is t _ leaf in
    omega (arith, below, c.requires.few)

pub push_latchs-requires : goal.push_latchs-requires
push_latchs-requires c =
    let q = c.args.asked.now.encoded in
    let Few = λ (latch : AigLatch). latch.input < 2 ^ 31 - 1 in
    let latchs = c.latchs-latchs in
    let leaf = leaf_below q.circuit q.unrolled c.args.k c.requires.steps in
    let are = All-weaker (IsLatch q.circuit.nodes) Few
    (λ latch h. let below = leaf latch.input h.leaf in omega (arith, below, c.requires.few))
    q.circuit.latchs latchs.ensures.circuit.latchs in
    All-same Few latchs.result.now q.circuit.latchs latchs.ensures.value are

pub push_bads-requires : goal.push_bads-requires
push_bads-requires c =
    let q = c.args.asked.now.encoded in
    let Few = λ (e : AigEdge). e.node_id < 2 ^ 31 - 1 in
    let bads = c.bads-bads in
    let all = q.unrolled.properties.bads in
    let are = All-weaker (IsInRange q.unrolled.nodes) Few
    (λ e h. omega (arith, h, c.requires.few)) all bads.ensures.circuit.properties.bads in
    All-take Few _ _ (All-drop Few _ _ (All-same Few bads.result.now all bads.ensures.value are))
