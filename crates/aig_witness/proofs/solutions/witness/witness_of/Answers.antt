use Rattle.std.proofs.Common.{arith, subst}
use Rattle.aig_witness.specs.Solutions.{HasNoTrue, IsFirstTrue}
use Rattle.aig_witness.proofs.Steps.{bads_cut, bads_room}
use Rattle.aig_witness.proofs.solutions.witness.witness_of.Goals as goal

pub overflow_mul-first : goal.overflow_mul-first
overflow_mul-first c =
    let room = bads_room _ _ c.args.k c.bads.result.now c.bads-bads.result.now c.requires.steps
    c.bads.ensures.value c.bads-bads.ensures.value in
    omega (arith, room, c.bads-bads.type_inv.0)

pub offset_bounds-bads-first : goal.offset_bounds-bads-first
offset_bounds-bads-first c =
    let room = bads_room _ _ c.args.k c.bads.result.now c.bads-bads.result.now c.requires.steps
    c.bads.ensures.value c.bads-bads.ensures.value in
    omega (arith, room, c.bads-bads.type_inv.1)

pub slice_bounds-first_true-count : goal.slice_bounds-first_true-count
slice_bounds-first_true-count c =
    let room = bads_room _ _ c.args.k c.bads.result.now c.bads-bads.result.now c.requires.steps
    c.bads.ensures.value c.bads-bads.ensures.value in
    omega (arith, room)

pub slice_bounds-first_true-start : goal.slice_bounds-first_true-start
slice_bounds-first_true-start c =
    let room = bads_room _ _ c.args.k c.bads.result.now c.bads-bads.result.now c.requires.steps
    c.bads.ensures.value c.bads-bads.ensures.value in
    omega (arith, room)

pub read_steps-requires-clause-step : goal.read_steps-requires-clause-step
read_steps-requires-clause-step c = omega (arith, c.requires.steps.inputs)

pub returns : goal.returns
returns c =
    let cut = bads_cut c.args.asked.now.encoded.circuit c.args.asked.now.encoded.unrolled c.args.k
    c.bads.result.now c.bads-bads.result.now c.bads.ensures.value c.bads-bads.ensures.value in
    record {
      state = c.in_ok-state.ensures;
      steps = c.in_ok-steps.ensures;
      bad = subst (λ edges. IsFirstTrue edges c.args.values.now c.in-Some.bad) cut
          c.in-Some.ensures.some;
    }

pub returns-in_default : goal.returns-in_default
returns-in_default c =
    let cut = bads_cut c.args.asked.now.encoded.circuit c.args.asked.now.encoded.unrolled c.args.k
    c.bads.result.now c.bads-bads.result.now c.bads.ensures.value c.bads-bads.ensures.value in
    subst (λ edges. HasNoTrue edges c.args.values.now) cut c.in_default.ensures.none
