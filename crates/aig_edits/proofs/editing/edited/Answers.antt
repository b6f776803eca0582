use Rattle.aig_base.proofs.Words.{◌≡◌, ◌<◌, ◌∙◌, ap, arith, eqb-true, length, slice_get-get_or, sym}
use Rattle.std.specs.Prelude.{Some, vec_len}
use Rattle.std.proofs.lemmas.List.{nil_from_length}
use Rattle.aig_circuit.specs.View.{lists_circuit}
use Rattle.aig_edits.specs.declared.editing.Edit.TheVariants.{Bads, Cone, Property, Reencode}
use Rattle.aig_edits.proofs.Edited.{edits}
use Rattle.aig_edits.proofs.editing.edited.Goals as goal

pub returns-in-Reencode : goal.returns-in-Reencode
returns-in-Reencode c =
    rw c.in-Reencode.is (edits Reencode c.args.limit (lists_circuit c.args.circuit)
    c.reencoded.result tt tt (rw c.new-in-Reencode.ensures at c.reencoded.ensures))

pub with_outputs_as_bads-requires-clause-none : goal.with_outputs_as_bads-requires-clause-none
with_outputs_as_bads-requires-clause-none c =
    let bads = c.args.circuit.properties.bads in
    let none = eqb-true (vec_len bads) 0 (sym c.is_empty.ensures ∙ c.if-not-is_empty.false) in
    nil_from_length bads.items (omega (arith, none, bads.ok.0))

pub returns-in-Bads-2 : goal.returns-in-Bads-2
returns-in-Bads-2 c =
    let bads = c.args.circuit.properties.bads in
    let zero = eqb-true (vec_len bads) 0 (sym c.is_empty.ensures ∙ c.if-not-is_empty.false) in
    let none = nil_from_length bads.items (omega (arith, zero, bads.ok.0)) in
    rw c.in-Bads-2.is (edits Bads c.args.limit (lists_circuit c.args.circuit)
    c.with_outputs_as_bads.result none tt c.with_outputs_as_bads.ensures)

pub property-requires-clause-there : goal.property-requires-clause-there
property-requires-clause-there c =
    let bads = c.args.circuit.properties.bads in
    let n = c.in-Property-2.n in
    let one : Property c.in-Property.n ≡ Property n = sym c.in-Property.is ∙ c.in-Property-2.is in
    let same : c.in-Property.n ≡ n = cc in
    let there : n < length bads.items =
    omega (arith, c.if-n-len.false, c.len.ensures, same, bads.ok.0) in
    slice_get-get_or bads.items n c.index-bad.result.now there ∙ ap Some (sym c.index-bad.ensures)

pub cone-requires-clause-there : goal.cone-requires-clause-there
cone-requires-clause-there c =
    let outputs = c.args.circuit.properties.outputs in
    let n = c.in-Cone-2.n in
    let one : Cone c.in-Cone.n ≡ Cone n = sym c.in-Cone.is ∙ c.in-Cone-2.is in
    let same : c.in-Cone.n ≡ n = cc in
    let there : n < length outputs.items =
    omega (arith, c.if-n-len-2.false, same, outputs.ok.0) in
    slice_get-get_or outputs.items n c.index-output.result.now there
    ∙ ap Some (sym c.index-output.ensures)
