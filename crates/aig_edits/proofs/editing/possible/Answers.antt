use Rattle.std.proofs.Common.{ap, subst, sym}
use Rattle.aig_circuit.specs.declared.node.AigNodeType.TheVariants.{False}
use Rattle.aig_circuit.proofs.Trees.{kind_at-within}
use Rattle.aig_circuit.proofs.Words.{IsInRange, lists_circuit}
use Rattle.aig_edit_laws.specs.Shown.{bad_alone}
use Rattle.aig_edits.specs.declared.editing.Edit.TheVariants.{Possible}
use Rattle.aig_edits.proofs.Edited.{yields}
use Rattle.aig_edits.proofs.editing.possible.Goals as goal

pub with_bad-requires-clause-there : goal.with_bad-requires-clause-there
with_bad-requires-clause-there c =
    let nodes = c.args.circuit.nodes.items in
    subst (IsInRange nodes) (sym c.constant.ensures)
    (kind_at-within nodes 0 False c.requires.circuit.nodes.false_first)

pub returns : goal.returns
returns c =
    let old = lists_circuit c.args.circuit in
    yields Possible old (bad_alone old c.constant.result) c.with_bad.result
    (ap (bad_alone old) c.constant.ensures) c.with_bad.ensures.made c.with_bad.ensures.fault
