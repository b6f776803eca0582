use Rattle.aig_base.proofs.Words.{◌++◌, ◌∙◌, ap, ◌∷◌, [], append-nil, map, sym, take_all}
use Rattle.aig_circuit.specs.declared.edge.AigEdge.{AigEdge}
use Rattle.aig_circuit.proofs.Lists.{mapped_more}
use Rattle.aig_cone.proofs.refine.push_nodes.Goals as goal

pub loop-e-init : goal.loop-e-init
loop-e-init c = sym (append-nil c.args.roots.now.items)

pub loop-e-preserved : goal.loop-e-preserved
loop-e-preserved c =
    mapped_more (λ (e : AigEdge). e.node_id) c.args.edges.now c.loop-e.e-index _ c.args.roots.now.items c.loop-e.roots.items c.push.new.self.items c.loop-e-test.true c.loop-e.invariant
    (c.in_ok-push.ensures.items ∙ ap (λ n. c.loop-e.roots.items ++ n ∷ []) c.node_id.ensures)

pub returns : goal.returns
returns c = c.loop-e.invariant ∙ ap (λ es. c.args.roots.now.items ++ map (λ (e : AigEdge). e.node_id) es) (take_all c.loop-e.e-index c.args.edges.now c.loop-e-test.false)
