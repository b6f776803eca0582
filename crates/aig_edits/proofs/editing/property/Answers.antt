use Rattle.std.proofs.Common.{refl}
use Rattle.aig_circuit.specs.View.{lists_circuit}
use Rattle.aig_edit_laws.specs.Shown.{bad_alone}
use Rattle.aig_edits.specs.declared.editing.Edit.TheVariants.{Property}
use Rattle.aig_edits.proofs.Edited.{in_range_at, yields}
use Rattle.aig_edits.proofs.editing.property.Goals as goal

pub with_bad-requires-clause-there : goal.with_bad-requires-clause-there
with_bad-requires-clause-there c =
    let old = lists_circuit c.args.circuit in
    in_range_at old old.properties.bads c.args.n c.args.bad
    c.requires.circuit.properties.bads c.requires.there

pub returns : goal.returns
returns c =
    let old = lists_circuit c.args.circuit in
    yields (Property c.args.n) old (bad_alone old c.args.bad) c.with_bad.result
    (record { bad = c.args.bad; there = c.requires.there; exact = refl }) c.with_bad.ensures.made
    c.with_bad.ensures.fault
