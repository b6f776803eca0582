use Rattle.aig_base.proofs.Words.{ap, get_or, ◌∙◌, arith, Contains-get_or}
use Rattle.aig_circuit.specs.Circuit.{Circuit}
use Rattle.aig_unroll.specs.Places.{place_at}
use Rattle.aig_unroll.proofs.Others.{inputs_are_others}
use Rattle.aig_witness.specs.Solutions.{value_at}
use Rattle.aig_witness.proofs.Steps.{map_more, map_whole}
use Rattle.aig_witness.proofs.solutions.witness.read_inputs.Goals as goal

pub place-requires-clause-leaf : goal.place-requires-clause-leaf
place-requires-clause-leaf c =
    let circuit = c.args.circuit.now in
    let has = rw c.inputs-inputs.ensures.value at (Contains-get_or c.inputs-inputs.result.now c.loop-n.n-index 0 c.loop-n-test.true) in
    rw (c.requires.places, c.inputs-inputs.ensures.value) (inputs_are_others circuit c.inputs-inputs.ensures.circuit _ has)

pub loop-n-preserved : goal.loop-n-preserved
loop-n-preserved c =
    let values = c.args.values.now in
    let unrolled = c.args.unrolled.now in
    let t = c.args.t in
    let n = get_or c.inputs-inputs.result.now c.loop-n.n-index 0 in
    let place = c.place.ensures ∙ ap (λ (d : Circuit). place_at d unrolled t n) c.requires.places in
    map_more (λ m. value_at values (place_at c.args.circuit.now unrolled t m)) _ _ c.inputs-inputs.result.now c.loop-n.n-index 0 _ c.loop-n-test.true c.loop-n.invariant c.in_ok-push.ensures.items (c.value_of.ensures ∙ ap (value_at values) place)

pub returns : goal.returns
returns c = map_whole (λ n. value_at c.args.values.now (place_at c.args.circuit.now c.args.unrolled.now c.args.t n)) _ c.inputs-inputs.result.now _ c.loop-n.n-index (omega (arith, c.loop-n-test.false)) c.loop-n.invariant c.inputs-inputs.ensures.value
