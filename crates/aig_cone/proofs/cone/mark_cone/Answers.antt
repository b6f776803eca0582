use Rattle.std.proofs.Common.{◌≡◌, ◌+◌, ◌-◌, map, subst, arith}
use Rattle.aig_circuit.specs.declared.edge.AigEdge.{AigEdge}
use Rattle.aig_cone.proofs.Marking.{MarkedDownTo, MarkedDownTo-start, MarkedDownTo-step, reached_is_marked}
use Rattle.aig_cone.proofs.cone.mark_cone.Goals as goal

pub loop-id-init : goal.loop-id-init
loop-id-init c =
    MarkedDownTo-start c.args.nodes.now (map (λ (e : AigEdge). e.node_id) c.args.logic.now) c.args.marks.now c.mark_edges.new.marks c.requires.unmarked c.mark_edges.ensures

pub loop-id-preserved : goal.loop-id-preserved
loop-id-preserved c =
    let nodes = c.args.nodes.now in
    let roots = map (λ (e : AigEdge). e.node_id) c.args.logic.now in
    let next : c.loop-id.id ≡ c.loop-id.id - 1 + 1 = omega arith in
    MarkedDownTo-step nodes roots c.loop-id.marks c.mark_operands.new.marks (c.loop-id.id - 1) c.requires.sound.ordered (subst (MarkedDownTo nodes roots c.loop-id.marks) next c.loop-id.invariant) c.mark_operands.ensures

pub returns : goal.returns
returns c n =
    let nodes = c.args.nodes.now in
    let roots = map (λ (e : AigEdge). e.node_id) c.args.logic.now in
    let done : c.loop-id.id ≡ 0 = omega arith in
    let all = subst (MarkedDownTo nodes roots c.loop-id.marks) done c.loop-id.invariant in
    (all.only n, reached_is_marked nodes roots c.loop-id.marks all n)
