use Rattle.aig_circuit.specs.View.{lists_circuit}
use Rattle.aig_edits.proofs.Edited.{plain_of}
use Rattle.aig_edits.proofs.editing.unrolled.Goals as goal

pub returns : goal.returns
returns c =
    let told = c.in_ok-unroll_to.ensures in
    let old = c.args.circuit.now in
    let plain = c.changed_circuits_are_plain.ensures.unrolled old
    (lists_circuit c.in_ok-unroll_to.field-0) c.args.k c.nodes-nodes.ensures.circuit
    (plain_of old c.requires) told.unrolls in
    record { made = ((told.unrolls, told.steps), plain, told.circuit); fault = tt }
