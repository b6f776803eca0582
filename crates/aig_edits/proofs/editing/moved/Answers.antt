use Rattle.aig_circuit.specs.View.{lists_circuit}
use Rattle.aig_edits.proofs.Edited.{plain_of}
use Rattle.aig_edits.proofs.editing.moved.Goals as goal

pub returns : goal.returns
returns c =
    let old = c.args.circuit.now in
    let told = c.in_ok-aig_move.ensures in
    let plain = c.changed_circuits_are_plain.ensures.folded old
    (lists_circuit c.in_ok-aig_move.field-0) c.nodes-nodes.ensures.circuit
    (plain_of old c.requires) told.moves in
    record { made = (told.moves, plain, told.circuit); fault = tt }
