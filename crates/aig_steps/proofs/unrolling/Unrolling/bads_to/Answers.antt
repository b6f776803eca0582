use Rattle.aig_base.proofs.Words.{◌≡◌, ◌+◌, ◌*◌, arith, length, length-take-le, sym}
use Rattle.aig_steps.proofs.Kept.{bads_room, first_bads_are}
use Rattle.aig_steps.proofs.unrolling.Unrolling.bads_to.Goals as goal

pub overflow_mul-result : goal.overflow_mul-result
overflow_mul-result c =
    let inside = c.self.inside in
    omega (
      arith,
      bads_room inside.circuit inside.unrolled inside.ends.items c.args.self.now
          c.self.invariant c.self.view_is c.args.step c.requires c.bads-count.result.now
          c.bads.result.now c.bads-count.ensures.value c.bads.ensures.value,
    )

pub slice_bounds-result-end : goal.slice_bounds-result-end
slice_bounds-result-end c =
    let inside = c.self.inside in
    sym (length-take-le ((c.args.step + 1) * length c.bads-count.result.now) c.bads.result.now
    (bads_room inside.circuit inside.unrolled inside.ends.items c.args.self.now c.self.invariant
    c.self.view_is c.args.step c.requires c.bads-count.result.now c.bads.result.now
    c.bads-count.ensures.value c.bads.ensures.value))

pub returns-clause-edges : goal.returns-clause-edges
returns-clause-edges c =
    let inside = c.self.inside in
    first_bads_are inside.circuit inside.unrolled inside.ends.items c.args.self.now c.self.invariant
    c.self.view_is c.args.step c.requires c.bads-count.result.now c.bads.result.now
    c.bads-count.ensures.value c.bads.ensures.value
