use Rattle.aig_base.proofs.Words.{◌++◌, ◌∙◌, ap, ◌∷◌, [], append-nil, sym, take_all}
use Rattle.aig_circuit.specs.declared.edge.AigEdge.{AigEdge}
use Rattle.aig_circuit.specs.Edges.{nodes_of}
use Rattle.aig_circuit.proofs.Lists.{mapped_more}
use Rattle.aig_edits.proofs.reducing.push_nodes.Goals as goal

pub loop-e-init : goal.loop-e-init
loop-e-init c = sym (append-nil c.args.nodes.now.items)

pub loop-e-preserved : goal.loop-e-preserved
loop-e-preserved c =
    mapped_more (λ (e : AigEdge). e.node_id) c.args.edges.now c.loop-e.e-index _ c.args.nodes.now.items c.loop-e.nodes.items c.push.new.self.items c.loop-e-test.true c.loop-e.invariant
    (c.in_ok-push.ensures.items ∙ ap (λ n. c.loop-e.nodes.items ++ n ∷ []) c.node_id.ensures)

pub returns : goal.returns
returns c = c.loop-e.invariant ∙ ap (λ es. c.args.nodes.now.items ++ nodes_of es) (take_all c.loop-e.e-index c.args.edges.now c.loop-e-test.false)
