use Rattle.aig_steps.proofs.Kept.{first_is}
use Rattle.aig_steps.proofs.unrolling.Unrolling.first_node.Goals as goal

pub returns-else-step-eq0 : goal.returns-else-step-eq0
returns-else-step-eq0 c =
    let inside = c.self.inside in
    first_is inside.circuit inside.unrolled inside.ends.items c.args.self.now c.self.invariant
    c.self.view_is c.args.step c.index.result.now _ c.requires c.if-step-eq0.false
    c.index.ensures
