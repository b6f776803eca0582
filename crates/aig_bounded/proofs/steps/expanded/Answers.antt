use Rattle.aig_bounded.specs.Steps.{is_read}
use Rattle.aig_bounded.proofs.Attained.{reads}
use Rattle.aig_bounded.proofs.steps.expanded.Goals as goal

pub add_steps-requires-clause-states : goal.add_steps-requires-clause-states
add_steps-requires-clause-states c =
    rw (c.deref.ensures.value, c.deref_mut-2.ensures.value)
    (c.in_ok-states.ensures.has c.in_ok-depths.depths.items c.args.last c.in_ok-frames.frames (c.in_ok-frames.ensures.frames c.args.circuit.now).shared.gates.sound)

pub add_steps-requires-clause-frames : goal.add_steps-requires-clause-frames
add_steps-requires-clause-frames c = c.in_ok-frames.ensures.frames c.args.circuit.now

pub returns-clause-exact : goal.returns-clause-exact
returns-clause-exact c =
    let depths = c.in_ok-depths.depths.items in
    (is_read depths, reads c.args.circuit.now c.args.last depths c.in_ok-depths.ensures, rw c.deref.ensures.value at c.in_ok-output.ensures.exact)
