use Rattle.aig_base.proofs.Words.{◌≡◌, List, ap, subst, sym}
use Rattle.aig_circuit.specs.declared.edge.AigEdge.{AigEdge}
use Rattle.aig_circuit.proofs.Words.{IsCircuit, lists_circuit}
use Rattle.aig_edit_laws.specs.Plain.{IsPlain}
use Rattle.aig_edit_laws.specs.Shown.{bad_alone}
use Rattle.aig_edits.proofs.Edited.{circuit_bad_alone, plain_of}
use Rattle.aig_edits.proofs.editing.with_bad.Goals as goal

pub returns-clause-made : goal.returns-clause-made
returns-clause-made c =
    let old = lists_circuit c.args.circuit in
    let e = c.args.bad in
    let exact : record old { properties = record old.properties { bads = c.set_alone.new.edges.items } } ≡ bad_alone old e =
    ap (λ (es : List AigEdge). record old { properties = record old.properties { bads = es } }) c.in_ok-set_alone.ensures in
    let plain = c.changed_circuits_are_plain.ensures.bad old e (plain_of old c.requires.plain) in (
      exact,
      subst IsPlain (sym exact) plain,
      subst IsCircuit (sym exact) (circuit_bad_alone old e c.requires.circuit c.requires.there),
    )
