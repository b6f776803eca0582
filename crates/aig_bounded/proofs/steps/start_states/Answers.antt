use Rattle.std.proofs.Common.{◌≡◌, ◌<◌, List, length, length-set, get_or, ap, subst, sym, ◌∙◌, arith}
use Rattle.std.specs.Prelude.{replicate}
use Rattle.aig_base.proofs.Words.{length-replicate}
use Rattle.aig_circuit.specs.declared.node.AigLatch.{AigLatch}
use Rattle.aig_circuit.specs.declared.node.AigNode.{AigNode}
use Rattle.aig_bounded.specs.Steps.{SetsStates}
use Rattle.aig_bounded.proofs.Exactly.{states_set}
use Rattle.aig_bounded.proofs.Stepped.{HasStates-start, SetsStates-more, SetsStates-none, SetsStates-whole, leaf_there, no_latch, none_alone, none_there, the_none}
use Rattle.aig_bounded.proofs.steps.start_states.Goals as goal

pub loop-latch-init : goal.loop-latch-init
loop-latch-init c =
    let nodes = c.args.circuit.now.nodes in
    let none = replicate (length nodes) the_none in
    let nothing : c.in_ok-states.states.items ≡ none = c.in_ok-states.ensures.items_if_clones_equal (none_alone _ (λ e h. h)) ∙ ap (λ (nodes : List AigNode). replicate (length nodes) the_none) c.nodes.ensures.value in
    record {
      count = ap length nothing ∙ length-replicate (length nodes) the_none;
      set = subst (SetsStates c.latchs-latch-items.result.now 0 (λ (latch : AigLatch). latch.init) none) (sym nothing) (SetsStates-none c.latchs-latch-items.result.now (λ (latch : AigLatch). latch.init) none);
    }

pub loop-latch-preserved : goal.loop-latch-preserved
loop-latch-preserved c =
    let circuit = c.latchs-latch-items.ensures.circuit in
    let same = c.latchs-latch-items.ensures.value in
    let latchs = c.latchs-latch-items.result.now in
    let i = c.loop-latch.latch-index in
    let states = c.loop-latch.states.items in
    let there : (get_or latchs i no_latch).input < length states =
    omega (arith, leaf_there c.args.circuit.now latchs i no_latch circuit same c.loop-latch-test.true, c.loop-latch.invariant.count) in
    let more = SetsStates-more latchs (λ (latch : AigLatch). latch.init) (replicate (length c.args.circuit.now.nodes) the_none) states i no_latch c.loop-latch-test.true there (rw same circuit.latchs_distinct) c.loop-latch.invariant.set in
    record {
      count = length-set states c.input.result c.init.result ∙ c.loop-latch.invariant.count;
      set = rw (c.init.ensures, c.input.ensures) more;
    }

pub returns-clause-has : goal.returns-clause-has
returns-clause-has c = λ depths left f sound.
    let count = length c.args.circuit.now.nodes in
    HasStates-start c.args.circuit.now c.latchs-latch-items.ensures.circuit c.requires left depths f sound (replicate count the_none) c.loop-latch.states.items (none_there count)
    (SetsStates-whole c.latchs-latch-items.result.now c.args.circuit.now.latchs (λ (latch : AigLatch). latch.init) (replicate count the_none) c.loop-latch.states.items c.loop-latch.latch-index c.loop-latch-test.false c.latchs-latch-items.ensures.value c.loop-latch.invariant.set)
    c.loop-latch.invariant.count

pub returns-clause-exact : goal.returns-clause-exact
returns-clause-exact c = λ n.
    let count = length c.args.circuit.now.nodes in
    states_set c.args.circuit.now.latchs (λ (latch : AigLatch). latch.init) (replicate count the_none) c.loop-latch.states.items
    (SetsStates-whole c.latchs-latch-items.result.now c.args.circuit.now.latchs (λ (latch : AigLatch). latch.init) (replicate count the_none) c.loop-latch.states.items c.loop-latch.latch-index c.loop-latch-test.false c.latchs-latch-items.ensures.value c.loop-latch.invariant.set) n
    (λ gone. none_there count n)
