use Rattle.std.proofs.Common.{length, ap, ◌∙◌}
use Rattle.aig_circuit.proofs.Words.{Circuit, lists_circuit, names_of}
use Rattle.aig_unroll.specs.Step.{AppendsImages, CopiesAll, IsPrepared}
use Rattle.aig_unroll.proofs.Table.{as_many_latchs}
use Rattle.aig_unroll.proofs.Stepped.{stepped_in_parts, stepped_is_circuit, stepped_unrolls}
use Rattle.aig_unroll.proofs.steps.unroll.Goals as goal

-- what both clauses stand on
stepped : (c : goal.After-append_step)
    → CopiesAll c.args.from.now c.args.lists.now.latchs.items c.args.lists.now.nodes.items
    c.append_step.new.lists.nodes.items c.add_nodes_and_reserve.new.images
    × AppendsImages c.args.from.now (lists_circuit c.args.lists.now)
    c.add_nodes_and_reserve.new.images (lists_circuit c.append_step.new.lists)
stepped c =
    let old = c.args.lists.now in
    let mid = c.add_nodes_and_reserve.new.lists in
    let new = c.append_step.new.lists in
    let images = c.add_nodes_and_reserve.new.images in
    let prepared : IsPrepared c.args.from.now old mid images = c.in-Ok.ensures.ok in
    let ensures = c.append_step.ensures in
    stepped_in_parts c.args.from.now (lists_circuit old) (lists_circuit mid) (lists_circuit new) images prepared.copies prepared.inputs prepared.justice prepared.same
    ensures.nodes ensures.inputs ensures.latchs ensures.properties (ap (λ names. names_of names.entries) ensures.names)

pub returns-in-Ok-clause-circuit : goal.returns-in-Ok-clause-circuit
returns-in-Ok-clause-circuit c = stepped_is_circuit c.args.from.now (lists_circuit c.args.lists.now) (lists_circuit c.append_step.new.lists) c.add_nodes_and_reserve.new.images c.append_step.ensures.circuit c.requires.circuit (stepped c).0 (stepped c).1

pub returns-in-Ok-clause-unrolls : goal.returns-in-Ok-clause-unrolls
returns-in-Ok-clause-unrolls c = stepped_unrolls c.args.from.now (lists_circuit c.args.lists.now) (lists_circuit c.append_step.new.lists) c.add_nodes_and_reserve.new.images c.append_step.ensures.circuit c.requires.circuit (stepped c).0 (stepped c).1

pub add_nodes_and_reserve-requires-clause-circuit :
    goal.add_nodes_and_reserve-requires-clause-circuit
add_nodes_and_reserve-requires-clause-circuit c = c.requires.circuit

pub add_nodes_and_reserve-requires-clause-begins : goal.add_nodes_and_reserve-requires-clause-begins
add_nodes_and_reserve-requires-clause-begins c = c.requires.begins

pub add_nodes_and_reserve-requires-clause-table : goal.add_nodes_and_reserve-requires-clause-table
add_nodes_and_reserve-requires-clause-table c = c.requires.table

pub append_step-requires-clause-room : goal.append_step-requires-clause-room
append_step-requires-clause-room c = c.in-Ok.ensures.ok.room

pub append_step-requires-clause-table : goal.append_step-requires-clause-table
append_step-requires-clause-table c = c.in-Ok.ensures.ok.copies.count

pub append_step-requires-clause-latchs : goal.append_step-requires-clause-latchs
append_step-requires-clause-latchs c =
    ap (λ (d : Circuit). length d.latchs) c.in-Ok.ensures.ok.same ∙ as_many_latchs c.args.lists.now.latchs.items c.args.from.now.latchs c.requires.begins.leaves
