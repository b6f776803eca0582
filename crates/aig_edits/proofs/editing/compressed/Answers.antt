use Rattle.aig_circuit.specs.View.{lists_circuit}
use Rattle.aig_edits.proofs.Edited.{plain_of}
use Rattle.aig_edits.proofs.editing.compressed.Goals as goal

pub returns : goal.returns
returns c =
    let old = lists_circuit c.args.circuit in
    let made = c.compress_property.new.lists in
    let compresses = c.in_ok-compress_property.ensures.compresses in
    let plain = c.changed_circuits_are_plain.ensures.compressed old (lists_circuit made)
    (plain_of old c.requires.plain) compresses in
    record { made = (compresses, plain, c.in_ok-compress_property.ensures.circuit); fault = tt }
