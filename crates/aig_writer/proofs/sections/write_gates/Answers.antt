use Rattle.std.proofs.Common.{rules}
use Rattle.aig_output.proofs.Writing.{all_done, calls_laws, failed_turn, then_turn}
use Rattle.aig_writer.specs.Numbering.{written_number, renumbered_node}
use Rattle.aig_writer.proofs.Items.{text_of_gate, numbered_gates}
use Rattle.aig_writer.proofs.Numbered.{numbered_falls}
use Rattle.aig_writer.proofs.Small.{node_small}
use Rattle.aig_writer.proofs.sections.write_gates.Goals as goal

pub write_node-requires-clause-small : goal.write_node-requires-clause-small
write_node-requires-clause-small g c =
    node_small c.args.circuit.now c.nodes-node-items.ensures.circuit c.args.numbers.now c.requires.small c.nodes-node-items.result.now c.loop-node.node-index _ c.nodes-node-items.ensures.value c.loop-node-test.true

pub write_node-requires-clause-falls : goal.write_node-requires-clause-falls
write_node-requires-clause-falls g c binary =
    let fits = c.requires.binary binary in
    let h = rw c.nodes-node-items.ensures.value at c.loop-node-test.true in
    rw c.nodes-node-items.ensures.value (numbered_falls c.args.circuit.now c.nodes-node-items.ensures.circuit fits.closed c.args.numbers.now fits.few fits.numbering c.loop-node.node-index _ h)

pub returns-in_err-write_node : goal.returns-in_err-write_node
returns-in_err-write_node g c =
    rw (← c.nodes-node-items.ensures.value, numbered_gates (written_number c.args.numbers.now) c.args.kind c.nodes-node-items.result.now)
    (failed_turn calls_laws {c = c.write_node.new.out} (λ node. text_of_gate c.args.kind (renumbered_node (written_number c.args.numbers.now) node)) c.nodes-node-items.result.now c.loop-node.node-index _ c.loop-node-test.true c.loop-node.invariant c.in_err-write_node.ensures (search rules))

pub loop-node-preserved : goal.loop-node-preserved
loop-node-preserved g c =
    then_turn (λ node. text_of_gate c.args.kind (renumbered_node (written_number c.args.numbers.now) node)) c.nodes-node-items.result.now c.loop-node.node-index _ c.loop-node-test.true c.loop-node.invariant c.in_ok-write_node.ensures.ok

pub returns : goal.returns
returns g c =
    rw (← c.nodes-node-items.ensures.value, numbered_gates (written_number c.args.numbers.now) c.args.kind c.nodes-node-items.result.now)
    (all_done (λ node. text_of_gate c.args.kind (renumbered_node (written_number c.args.numbers.now) node)) c.nodes-node-items.result.now c.loop-node.node-index c.loop-node-test.false c.loop-node.invariant)
