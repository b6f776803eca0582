use Rattle.aig_base.proofs.Words.{◌<◌, true, cond, refl, ap, sym, subst, ◌∙◌, arith, list_any, is_some, length-map}
use Rattle.std.specs.Ordering.{is_eq}
use Rattle.std.specs.BTreeSet.{contains}
use Rattle.std.proofs.lemmas.Bool.{not-false, not-true}
use Rattle.aig_circuit.specs.declared.node.AigLatch.{AigLatch}
use Rattle.aig_circuit.proofs.Words.{latch_leaves, names_of}
use Rattle.aig_format.specs.Letters.{count_of}
use Rattle.aig_lexer.specs.Header.{numbers_of}
use Rattle.aig_lexer.specs.Takes.{feed, Misses}
use Rattle.aig_lexer.proofs.Faults.{tells-weaker}
use Rattle.aig_lexer.proofs.Taking.{takes_fewer}
use Rattle.aig_symbols.specs.Names.{name_cause}
use Rattle.aig_symbols.specs.NameSteps.{parse_place}
use Rattle.aig_symbols.proofs.KeptNames.{equal_spots, spot_cmp}
use Rattle.aig_symbols.proofs.NameFaults.{name-from_word}
use Rattle.aig_symbols.proofs.NameLines.{name_text_at}
use Rattle.aig_symbols.proofs.Places.{came_place, came_end, takes_within}
use Rattle.aig_symbols.proofs.SoFar.{so_far_none, place_refused, names_end, repeated_refused, name_refused, name_read}
use Rattle.aig_symbols.proofs.names.read_names.Goals as goal

pub loop-place-init : goal.loop-place-init
loop-place-init g c =
    so_far_none (numbers_of c.args.header.now) c.args.inputs.now (latch_leaves c.args.latchs.now) (feed g.R.Source.left g.R.Source.failed g.R.Source.pulls c.args.buffer.now c.args.r.now) (feed g.R.Source.left g.R.Source.failed g.R.Source.pulls c.args.buffer.now c.args.r.now) (contains spot_cmp c.new-places.result) (names_of c.new-names.result.entries)
    (λ q. ap (list_any (λ k. is_eq (spot_cmp q k))) c.new-places.ensures.empty) (ap names_of c.new-names.ensures.empty)

pub returns-in-Ok-None : goal.returns-in-Ok-None
returns-in-Ok-None g c =
    let mid = feed g.R.Source.left g.R.Source.failed g.R.Source.pulls c.next_place.new.buffer c.next_place.new.r in
    names_end (numbers_of c.args.header.now) c.args.inputs.now (latch_leaves c.args.latchs.now) _ _ _ _ mid c.loop-place.invariant (came_end (numbers_of c.args.header.now) _ mid c.in-Ok-None.field-0 c.in-Ok-None.ensures c.in-Ok-None.field-0-is)

pub returns-in-Err : goal.returns-in-Err
returns-in-Err g c =
    rw c.into.ensures (name-from_word c.in-Err.error _ _ _ (place_refused (numbers_of c.args.header.now) c.args.inputs.now (latch_leaves c.args.latchs.now) _ _ _ _ c.loop-place.invariant) c.in-Err.ensures)

pub returns-in-Ok-false : goal.returns-in-Ok-false
returns-in-Ok-false g c =
    let place = c.in-Ok-Some.place in
    let k = came_place (numbers_of c.args.header.now) _ (feed g.R.Source.left g.R.Source.failed g.R.Source.pulls c.next_place.new.buffer c.next_place.new.r) c.in-Ok-Some.field-0 place c.in-Ok-Some.ensures c.in-Ok-Some.field-0-is in
    repeated_refused (numbers_of c.args.header.now) c.args.inputs.now (latch_leaves c.args.latchs.now) _ _ _ _ _ place c.loop-place.invariant k (not-false _ (sym c.in-Ok-false.ensures.added ∙ c.in-Ok-false.field-0-test))

pub named_node-node-requires-clause-inputs : goal.named_node-node-requires-clause-inputs
named_node-node-requires-clause-inputs g c = λ is.
    let place = c.in-Ok-Some.place in
    let k = came_place (numbers_of c.args.header.now) _ (feed g.R.Source.left g.R.Source.failed g.R.Source.pulls c.next_place.new.buffer c.next_place.new.r) c.in-Ok-Some.field-0 place c.in-Ok-Some.ensures c.in-Ok-Some.field-0-is in
    let small : place.1 < c.args.header.now.inputs = subst (λ l. place.1 < count_of (numbers_of c.args.header.now) l) is (takes_within (numbers_of c.args.header.now) _ _ place k) in
    omega (arith, c.requires.inputs)

pub named_node-node-requires-clause-latchs : goal.named_node-node-requires-clause-latchs
named_node-node-requires-clause-latchs g c = λ is.
    let place = c.in-Ok-Some.place in
    let k = came_place (numbers_of c.args.header.now) _ (feed g.R.Source.left g.R.Source.failed g.R.Source.pulls c.next_place.new.buffer c.next_place.new.r) c.in-Ok-Some.field-0 place c.in-Ok-Some.ensures c.in-Ok-Some.field-0-is in
    let small : place.1 < c.args.header.now.latches = subst (λ l. place.1 < count_of (numbers_of c.args.header.now) l) is (takes_within (numbers_of c.args.header.now) _ _ place k) in
    omega (arith, c.requires.latchs)

pub returns-in-Err-read_name : goal.returns-in-Err-read_name
returns-in-Err-read_name g c =
    let place = c.in-Ok-Some.place in
    let k = came_place (numbers_of c.args.header.now) _ (feed g.R.Source.left g.R.Source.failed g.R.Source.pulls c.next_place.new.buffer c.next_place.new.r) c.in-Ok-Some.field-0 place c.in-Ok-Some.ensures c.in-Ok-Some.field-0-is in
    tells-weaker (name_cause c.in-Err-read_name.error) _ _ (g.R.Source.failed c.read_name.new.r)
    (λ (none : Misses (name_text_at (is_some c.named_node-node.result)) (feed g.R.Source.left g.R.Source.failed g.R.Source.pulls c.next_place.new.buffer c.next_place.new.r)). name_refused (numbers_of c.args.header.now) c.args.inputs.now (latch_leaves c.args.latchs.now) _ _ _ _ _ place c.loop-place.invariant k c.named_node-node.result c.named_node-node.ensures
    (not-true _ (sym c.in-Ok-true.ensures.added ∙ c.in-Ok-true.field-0-test)) none)
    c.in-Err-read_name.ensures

pub loop-place-smaller : goal.loop-place-smaller
loop-place-smaller g c =
    let place = c.in-Ok-Some.place in
    let k = came_place (numbers_of c.args.header.now) _ (feed g.R.Source.left g.R.Source.failed g.R.Source.pulls c.next_place.new.buffer c.next_place.new.r) c.in-Ok-Some.field-0 place c.in-Ok-Some.ensures c.in-Ok-Some.field-0-is in
    let fewer = takes_fewer (parse_place (numbers_of c.args.header.now)) _ _ place refl k in
    omega (arith, fewer, c.in_default.ensures.2.advances.fewer)

pub loop-place-preserved : goal.loop-place-preserved
loop-place-preserved g c =
    let place = c.in-Ok-Some.place in
    let k = came_place (numbers_of c.args.header.now) _ (feed g.R.Source.left g.R.Source.failed g.R.Source.pulls c.next_place.new.buffer c.next_place.new.r) c.in-Ok-Some.field-0 place c.in-Ok-Some.ensures c.in-Ok-Some.field-0-is in
    let name = c.in_default.ensures in
    name_read (numbers_of c.args.header.now) c.args.inputs.now (latch_leaves c.args.latchs.now) _ _ _ _ _ place c.loop-place.invariant k
    c.named_node-node.result c.named_node-node.ensures (not-true _ (sym c.in-Ok-true.ensures.added ∙ c.in-Ok-true.field-0-test))
    c.requires.inputs (length-map c.args.latchs.now (λ (latch : AigLatch). latch.input) ∙ c.requires.latchs) c.requires.distinct
    _ name.0 (contains spot_cmp c.insert.new.self) (names_of c.read_name.new.names.entries) name.2
    (λ q. c.in-Ok-true.ensures.updates.0 q ∙ ap (λ b. cond b true (contains spot_cmp c.loop-place.places q)) (equal_spots place q)) name.1
