use Rattle.aig_steps.proofs.Kept.{constraints_are, constraints_below, constraints_room}
use Rattle.aig_steps.proofs.unrolling.Unrolling.constraints_of.Goals as goal

pub entries_of-requires : goal.entries_of-requires
entries_of-requires c =
    let inside = c.self.inside in
    constraints_room inside.circuit inside.unrolled inside.ends.items c.args.self.now
    c.self.invariant c.self.view_is c.args.step c.requires c.constraints-count.result.now
    c.constraints.result.now c.constraints-count.ensures.value c.constraints.ensures.value

pub returns-clause-edges : goal.returns-clause-edges
returns-clause-edges c =
    let inside = c.self.inside in
    constraints_are inside.circuit inside.unrolled inside.ends.items c.args.self.now
    c.self.invariant c.self.view_is c.args.step c.requires c.constraints-count.result.now
    c.constraints.result.now c.entries_of.result.now c.constraints-count.ensures.value
    c.constraints.ensures.value c.entries_of.ensures

pub returns-clause-below : goal.returns-clause-below
returns-clause-below c =
    let inside = c.self.inside in
    constraints_below inside.circuit inside.unrolled inside.ends.items c.args.self.now
    c.self.invariant c.self.view_is c.args.step c.requires c.constraints-count.result.now
    c.constraints.result.now c.entries_of.result.now c.constraints.ensures.value
    c.entries_of.ensures
