use Rattle.aig_base.proofs.Words.{◌∷◌, [], rules, take_all}
use Rattle.aig_circuit.specs.declared.prop_list.PropList.TheVariants.{Fairness}
use Rattle.aig_output.proofs.Writing.{calls_laws, failed_among, failed_within, then_call, then_text, then_turn}
use Rattle.aig_writer.specs.Numbering.{written_number}
use Rattle.aig_writer.proofs.Small.{list_small, sets_small}
use Rattle.aig_writer.proofs.Texts.{first_lists, justice_lines, list_lines, properties-lists}
use Rattle.aig_writer.proofs.sections.write_properties.Goals as goal

pub write_edges-requires : goal.write_edges-requires
write_edges-requires g c = rw c.edges.ensures.value (list_small c.args.circuit.now c.edges.ensures.circuit c.args.numbers.now c.requires _)

pub returns-in_err-write_edges : goal.returns-in_err-write_edges
returns-in_err-write_edges g c =
    let number = written_number c.args.numbers.now in
    let circuit = c.args.circuit.now in
    rw (properties-lists number circuit)
    (failed_within calls_laws {c = c.write_edges.new.out} (justice_lines number circuit ∷ list_lines number circuit Fairness ∷ []) (list_lines number circuit) first_lists c.loop-list.list-index _ c.loop-list-test.true c.loop-list.invariant (rw c.edges.ensures.value at c.in_err-write_edges.ensures) (search rules))

pub loop-list-preserved : goal.loop-list-preserved
loop-list-preserved g c =
    then_turn (list_lines (written_number c.args.numbers.now) c.args.circuit.now) first_lists c.loop-list.list-index _ c.loop-list-test.true c.loop-list.invariant (rw c.edges.ensures.value at c.in_ok-write_edges.ensures.ok)

pub write_sets-requires : goal.write_sets-requires
write_sets-requires g c = sets_small c.args.circuit.now c.justice.ensures.circuit c.args.numbers.now c.requires c.justice.result.now c.justice.ensures.value

pub returns-in_err-write_sets : goal.returns-in_err-write_sets
returns-in_err-write_sets g c =
    let number = written_number c.args.numbers.now in
    let lists = rw (take_all c.loop-list.list-index first_lists c.loop-list-test.false) at c.loop-list.invariant in
    rw (properties-lists number c.args.circuit.now)
    (failed_among calls_laws (list_lines number c.args.circuit.now Fairness ∷ []) lists (rw c.justice.ensures.value at c.in_err-write_sets.ensures) (search rules))

pub write_edges-requires-2 : goal.write_edges-requires-2
write_edges-requires-2 g c = rw c.fairness.ensures.value
    (list_small c.args.circuit.now c.fairness.ensures.circuit c.args.numbers.now c.requires
    Fairness)

pub returns : goal.returns
returns g c =
    let lists = rw (take_all c.loop-list.list-index first_lists c.loop-list-test.false) at c.loop-list.invariant in
    rw (properties-lists (written_number c.args.numbers.now) c.args.circuit.now)
    (then_call calls_laws (then_text lists (rw c.justice.ensures.value at c.in_ok-write_sets.ensures.ok)) (rw c.fairness.ensures.value at c.write_edges-2.ensures))
