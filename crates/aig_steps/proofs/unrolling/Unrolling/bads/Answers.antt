use Rattle.aig_steps.proofs.Kept.{bads_are, bads_below, bads_room}
use Rattle.aig_steps.proofs.unrolling.Unrolling.bads.Goals as goal

pub entries_of-requires : goal.entries_of-requires
entries_of-requires c =
    let inside = c.self.inside in
    bads_room inside.circuit inside.unrolled inside.ends.items c.args.self.now c.self.invariant
    c.self.view_is c.args.step c.requires c.bads-count.result.now c.bads.result.now
    c.bads-count.ensures.value c.bads.ensures.value

pub returns-clause-edges : goal.returns-clause-edges
returns-clause-edges c =
    let inside = c.self.inside in
    bads_are inside.circuit inside.unrolled inside.ends.items c.args.self.now c.self.invariant
    c.self.view_is c.args.step c.requires c.bads-count.result.now c.bads.result.now
    c.entries_of.result.now c.bads-count.ensures.value c.bads.ensures.value c.entries_of.ensures

pub returns-clause-below : goal.returns-clause-below
returns-clause-below c =
    let inside = c.self.inside in
    bads_below inside.circuit inside.unrolled inside.ends.items c.args.self.now c.self.invariant
    c.self.view_is c.args.step c.requires c.bads-count.result.now c.bads.result.now
    c.entries_of.result.now c.bads.ensures.value c.entries_of.ensures
