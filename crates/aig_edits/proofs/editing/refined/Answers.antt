use Rattle.std.proofs.Common.{subst, sym}
use Rattle.aig_circuit.proofs.Words.{IsCircuit}
use Rattle.aig_edit_laws.specs.Plain.{IsPlain}
use Rattle.aig_edits.proofs.Edited.{plain_of}
use Rattle.aig_edits.proofs.editing.refined.Goals as goal

pub returns : goal.returns
returns c =
    let refines = c.in_ok-made.ensures in
    let old = c.args.circuit.now in
    let circuit = c.nodes-nodes.ensures.circuit in
    let is = c.refining_is_circuit.ensures old refines.0 circuit refines.1 in
    let plain = c.changed_circuits_are_plain.ensures.refined old refines.0 circuit refines.1
    (plain_of old c.requires) in
    record {
      made = (
        (refines.0, refines.1, refines.2),
        subst IsPlain (sym refines.2) plain,
        subst IsCircuit (sym refines.2) is,
      );
      fault = tt;
    }
