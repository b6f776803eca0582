use Rattle.aig_base.proofs.Words.{Vec, Global, sym, subst, ap, ◌∙◌, map, set, All}
use Rattle.aig_circuit.specs.declared.edge.AigEdge.{AigEdge}
use Rattle.aig_circuit.proofs.Words.{inverse, Circuit, IsCircuit, IsInRange, lists_circuit}
use Rattle.aig_circuit.proofs.Joining.{All-inverse}
use Rattle.aig_change.specs.Changes.{CompressesBads}
use Rattle.aig_change.proofs.Compressing.{compressed}
use Rattle.aig_change.proofs.changes.compress_property.Goals as goal

pub new_ands_node-requires-clause-edges : goal.new_ands_node-requires-clause-edges
new_ands_node-requires-clause-edges c =
    let nodes = c.args.lists.now.nodes.items in
    subst (All (IsInRange nodes)) (sym (c.deref-2.ensures.value ∙ c.in_ok-inverted.ensures ∙ ap (map inverse) c.deref.ensures.value)) (All-inverse nodes c.args.lists.now.properties.bads.items c.requires.properties.bads)

-- the circuit that is left
abbrev made : goal.After-drop-inverted-2 → Circuit
made c = record (lists_circuit c.args.lists.now) { nodes = c.new_ands_node.new.nodes.items; properties = record (lists_circuit c.args.lists.now).properties { bads = c.replace.new.dest.items } }

both : (c : goal.After-drop-inverted-2) → IsCircuit (made c) × CompressesBads (lists_circuit c.args.lists.now) (made c)
both c =
    compressed (lists_circuit c.args.lists.now) c.requires
    c.new_ands_node.new.nodes.items c.deref-2.result.now c.in_ok-new_ands_node.field-0 c.not.result c.replace.new.dest.items
    (c.deref-2.ensures.value ∙ c.in_ok-inverted.ensures ∙ ap (map inverse) c.deref.ensures.value)
    c.in_ok-new_ands_node.ensures.gates c.in_ok-new_ands_node.ensures.rule c.in_ok-new_ands_node.ensures.joins c.not.ensures
    (ap (λ (v : Vec AigEdge Global). v.items) c.replace.ensures.after ∙ ap (λ l. set l 0 c.not.result) (c.in_ok-bads.ensures.items_if_clones_equal (λ y e. e)))

pub returns-clause-circuit : goal.returns-clause-circuit
returns-clause-circuit c = (both c).0

pub returns-clause-compresses : goal.returns-clause-compresses
returns-clause-compresses c = (both c).1
