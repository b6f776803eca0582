use Rattle.aig_witness_circuits.proofs.Words.{All, FoldsOrAddsAll, IfOk-weaker, IsInRange, subst, sym}
use Rattle.aig_witness_circuits.proofs.Exactly.{refuting_is}
use Rattle.aig_witness_circuits.proofs.Gates.{All-later, conclusions_list, conclusions_there, premises_list, premises_stay}
use Rattle.aig_witness_circuits.proofs.claims.refuting_edge.Goals as goal

pub edges_of-requires-2-clause-sound : goal.edges_of-requires-2-clause-sound
edges_of-requires-2-clause-sound c =
    (premises_list c.args.nodes.now.items c.requires.sound c.args.premises.now
    c.args.conclusions.now c.requires.premises c.requires.conclusions _
    c.in_ok-given.ensures).grows.sound

pub edges_of-requires-2-clause-there : goal.edges_of-requires-2-clause-there
edges_of-requires-2-clause-there c =
    conclusions_there c.args.nodes.now.items c.requires.sound c.args.premises.now
    c.args.conclusions.now c.requires.premises c.requires.conclusions _ c.in_ok-given.ensures

pub new_ands_node-requires-clause-sound : goal.new_ands_node-requires-clause-sound
new_ands_node-requires-clause-sound c =
    (conclusions_list c.args.nodes.now.items c.requires.sound c.args.premises.now
    c.args.conclusions.now c.requires.premises c.requires.conclusions _ c.in_ok-given.ensures _
    c.in_ok-wanted.ensures).grows.sound

pub new_ands_node-requires-clause-edges : goal.new_ands_node-requires-clause-edges
new_ands_node-requires-clause-edges c =
    subst (All (IsInRange c.edges_of-2.new.nodes.items)) (sym c.deref.ensures.value)
    (premises_stay c.args.nodes.now.items c.requires.sound c.args.premises.now
    c.args.conclusions.now c.requires.premises c.requires.conclusions _ c.in_ok-given.ensures _
    c.in_ok-wanted.ensures)

pub new_ands_node-requires-2-clause-edges : goal.new_ands_node-requires-2-clause-edges
new_ands_node-requires-2-clause-edges c =
    subst (All (IsInRange c.new_ands_node.new.nodes.items)) (sym c.deref-2.ensures.value)
    (All-later c.edges_of-2.new.nodes.items c.new_ands_node.new.nodes.items
    c.in_ok-asked.ensures.gates.grows c.in_ok-wanted.wanted.items
    (conclusions_list c.args.nodes.now.items c.requires.sound c.args.premises.now
    c.args.conclusions.now c.requires.premises c.requires.conclusions _ c.in_ok-given.ensures _
    c.in_ok-wanted.ensures).there)

pub returns : goal.returns
returns c =
    IfOk-weaker c.new_and_node.result _ _
    (λ e rule.
    refuting_is c.args.nodes.now.items c.edges_of.new.nodes.items c.edges_of-2.new.nodes.items
    c.new_ands_node.new.nodes.items c.new_ands_node-2.new.nodes.items
    c.new_and_node.new.nodes.items c.args.premises.now c.args.conclusions.now
    c.in_ok-given.given.items c.in_ok-wanted.wanted.items c.in_ok-asked.asked c.in_ok-shown.shown
    c.not.result e c.in_ok-given.ensures c.in_ok-wanted.ensures
    (subst (λ es. FoldsOrAddsAll c.edges_of-2.new.nodes.items es
    c.new_ands_node.new.nodes.items c.in_ok-asked.asked) c.deref.ensures.value
    c.in_ok-asked.ensures.rule)
    (subst (λ es. FoldsOrAddsAll c.new_ands_node.new.nodes.items es
    c.new_ands_node-2.new.nodes.items c.in_ok-shown.shown) c.deref-2.ensures.value
    c.in_ok-shown.ensures.rule) c.not.ensures rule) c.new_and_node.ensures.rule
