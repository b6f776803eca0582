use Rattle.std.proofs.Common.{subst, sym}
use Rattle.aig_circuit.proofs.Words.{IsCircuit}
use Rattle.aig_circuit.specs.Reencode.{reencoded}
use Rattle.aig_edit_laws.specs.Plain.{IsPlain}
use Rattle.aig_edits.proofs.Edited.{plain_of}
use Rattle.aig_edits.proofs.editing.reencoded.Goals as goal

pub returns : goal.returns
returns c =
    let old = c.args.circuit.now in
    let circuit = c.nodes-nodes.ensures.circuit in
    let same = c.in_ok-reencode.ensures in
    let writable = c.binary_is_read.ensures.writable old circuit c.requires in
    let is = c.reencoding_is_circuit.ensures.circuit old circuit c.requires.closed in
    record {
      made = (
        same,
        subst IsPlain (sym same) (plain_of (reencoded old) writable),
        subst IsCircuit (sym same) is,
      );
      fault = tt;
    }
