use Rattle.std.proofs.Common.{◌<◌, ◌∙◌, Some, length, get_or, arith}
use Rattle.std.proofs.lemmas.Bool.{or_parts}
use Rattle.aig_circuit.specs.declared.node.AigLatch.{AigLatch}
use Rattle.aig_unroll.specs.Frame.{image_in}
use Rattle.aig_bounded.proofs.Stepped.{SetsStates-more, SetsStates-whole, leaf_there, no_latch}
use Rattle.aig_bounded.proofs.steps.advance.Goals as goal

pub loop-latch-preserved : goal.loop-latch-preserved
loop-latch-preserved c =
    let circuit = c.latchs-latch-items.ensures.circuit in
    let same = c.latchs-latch-items.ensures.value in
    let latchs = c.latchs-latch-items.result.now in
    let i = c.loop-latch.latch-index in
    let there : (get_or latchs i no_latch).input < length c.loop-latch.states =
    omega (arith, leaf_there c.args.circuit.now latchs i no_latch circuit same c.loop-latch-test.true, c.requires.states, c.loop-latch.auto.states) in
    let more = SetsStates-more latchs
    (λ (latch : AigLatch). Some (image_in c.args.images.now latch.next)) c.args.states.now
    c.loop-latch.states i no_latch c.loop-latch-test.true there
    (rw same circuit.latchs_distinct) c.loop-latch.invariant.sets in
    record {
      sets = rw (
        c.set_state-changed.ensures.sets,
        c.image_of.ensures,
        c.next.ensures,
        c.input.ensures,
      ) more;
      same = λ none.
          let both = or_parts c.loop-latch.changed c.set_state-changed.result none in
          c.set_state-changed.ensures.same both.1 ∙ c.loop-latch.invariant.same both.0;
    }

pub returns-clause-sets : goal.returns-clause-sets
returns-clause-sets c =
    SetsStates-whole c.latchs-latch-items.result.now c.args.circuit.now.latchs
    (λ (latch : AigLatch). Some (image_in c.args.images.now latch.next)) c.args.states.now
    c.loop-latch.states c.loop-latch.latch-index c.loop-latch-test.false
    c.latchs-latch-items.ensures.value c.loop-latch.invariant.sets
