use Rattle.aig_base.proofs.Words.{◌≡◌, length, ◌∙◌, slice_index, IfOk-weaker}
use Rattle.aig_circuit.proofs.Words.{kept_circuit, lists_circuit}
use Rattle.aig_cone.specs.Refine.{ArePlaces}
use Rattle.aig_cone.proofs.Agreeing.{refined-by_table}
use Rattle.aig_cone.proofs.Keeping.{kept-first, kept-there}
use Rattle.aig_cone.proofs.refine.kept_lists.Goals as goal

pub places-requires : goal.places-requires
places-requires c =
    let circuit = c.args.circuit.now in
    let kept = c.args.kept.now in
    rw c.nodes.ensures.value (record {
      rising = c.requires.rising;
      there = kept-there circuit kept c.nodes.ensures.circuit c.requires;
      some = (kept-first circuit kept c.nodes.ensures.circuit c.requires).0;
    })

pub renumber-requires : goal.renumber-requires
renumber-requires c =
    let circuit = c.args.circuit.now in
    let kept = c.args.kept.now in
    let places : ArePlaces kept (length circuit.nodes) c.in_ok-numbers.numbers.items = rw c.nodes.ensures.value at c.in_ok-numbers.ensures in
    rw c.deref.ensures.value (record {
      table = places.count;
      there = kept-there circuit kept c.nodes.ensures.circuit c.requires;
      within = places.within;
      places = places.places;
      false_first = kept-first circuit kept c.nodes.ensures.circuit c.requires;
    })

pub returns : goal.returns
returns c =
    let circuit = c.args.circuit.now in
    let kept = c.args.kept.now in
    let numbers = c.in_ok-numbers.numbers.items in
    let places : ArePlaces kept (length circuit.nodes) numbers = rw c.nodes.ensures.value at c.in_ok-numbers.ensures in
    IfOk-weaker c.renumber.result _ _
    (λ lists same.
    let made : lists_circuit lists ≡ kept_circuit (slice_index numbers) kept circuit = rw c.deref.ensures.value at same in
    made ∙ refined-by_table circuit kept numbers (length circuit.nodes) c.nodes.ensures.circuit c.requires places)
    c.renumber.ensures
