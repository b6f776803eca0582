use Rattle.std.proofs.Common.{◌≡◌, ap, subst, sym, ◌∙◌}
use Rattle.aig_circuit.proofs.Words.{Circuit, IsCircuit, lists_circuit}
use Rattle.aig_cone.specs.Refine.{AreKept, refined}
use Rattle.aig_edit_laws.specs.Shown.{IsConeOf, output_alone}
use Rattle.aig_edits.proofs.Edited.{circuit_output_alone, in_range_at, plain_of}
use Rattle.aig_edits.proofs.editing.cone.Goals as goal

pub new-asked-requires : goal.new-asked-requires
new-asked-requires c =
    let old = lists_circuit c.args.circuit in
    let there = in_range_at old old.properties.outputs c.args.n c.args.output
    c.requires.circuit.properties.outputs c.requires.there in
    subst IsCircuit (sym c.in_ok-asked.ensures)
    (circuit_output_alone old c.args.output c.requires.circuit there)

pub returns : goal.returns
returns c =
    let old = lists_circuit c.args.circuit in
    let e = c.args.output in
    let there = in_range_at old old.properties.outputs c.args.n e
    c.requires.circuit.properties.outputs c.requires.there in
    let alone : c.new-asked.result ≡ output_alone old e = c.new-asked.ensures ∙ c.in_ok-asked.ensures in
    let refines = c.in_ok-made.ensures in
    let kept = refines.0 in
    let are = subst (λ (d : Circuit). AreKept d kept) alone refines.1 in
    let exact = refines.2 ∙ ap (refined kept) alone in
    let of : IsConeOf c.args.n old (lists_circuit c.in_ok-made.made) =
    record { output = e; there = c.requires.there; kept = kept; are_kept = are; exact = exact } in
    let plain = c.changed_circuits_are_plain.ensures.cones old (lists_circuit c.in_ok-made.made)
    c.args.n c.requires.circuit (plain_of old c.requires.plain) of in
    let is = c.refining_is_circuit.ensures (output_alone old e) kept
    (circuit_output_alone old e c.requires.circuit there) are in
    record { made = (of, plain, subst IsCircuit (sym exact) is); fault = tt }
