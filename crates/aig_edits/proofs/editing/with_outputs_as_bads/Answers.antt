use Rattle.aig_base.proofs.Words.{◌≡◌, [], List, ap, subst, sym, ◌∙◌}
use Rattle.aig_circuit.specs.declared.edge.AigEdge.{AigEdge}
use Rattle.aig_circuit.proofs.Words.{Circuit, IsCircuit, lists_circuit}
use Rattle.aig_edit_laws.specs.Plain.{IsPlain}
use Rattle.aig_edit_laws.specs.Shown.{outputs_as_bads}
use Rattle.aig_edits.proofs.Edited.{circuit_outputs_as_bads, plain_of}
use Rattle.aig_edits.proofs.editing.with_outputs_as_bads.Goals as goal

pub returns : goal.returns
returns c =
    let lists = c.args.circuit in
    let old = lists_circuit lists in
    let made : List AigEdge → List AigEdge → Circuit =
    λ outputs bads. record old {
      properties = record old.properties { outputs = outputs; bads = bads };
    } in
    let outputs : c.swap.new.x.items ≡ [] =
    ap (λ v. v.items) c.swap.ensures.x_after ∙ c.requires.none in
    let bads : c.swap.new.y.items ≡ old.properties.outputs =
    ap (λ v. v.items) c.swap.ensures.y_after in
    let exact : made c.swap.new.x.items c.swap.new.y.items ≡ outputs_as_bads old =
    ap (λ es. made es c.swap.new.y.items) outputs ∙ ap (made []) bads in
    let plain = c.changed_circuits_are_plain.ensures.bads old (plain_of old c.requires.plain) in
    record {
      made = (
        exact,
        subst IsPlain (sym exact) plain,
        subst IsCircuit (sym exact) (circuit_outputs_as_bads old c.requires.circuit),
      );
      fault = tt;
    }
