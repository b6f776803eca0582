use Rattle.aig_steps.proofs.Kept.{inputs_are}
use Rattle.aig_steps.proofs.unrolling.Unrolling.added_inputs.Goals as goal

pub returns : goal.returns
returns c =
    let inside = c.self.inside in
    inputs_are inside.circuit inside.unrolled inside.ends.items c.args.self.now c.self.invariant
    c.self.view_is c.args.step c.steps.result c.requires.first c.requires.last
    c.steps.ensures.value c.inputs-own.result.now c.inputs.result.now c.inputs-2.result.now
    c.inputs-own.ensures.value c.inputs.ensures.value c.inputs-2.ensures.value
