use Rattle.aig_base.proofs.Words.{Option, ◌++◌, ◌∙◌, ap, append-nil, sym, option_to_list, take_all}
use Rattle.aig_circuit.specs.declared.edge.AigEdge.{AigEdge}
use Rattle.aig_circuit.specs.declared.node.AigLatch.{AigLatch}
use Rattle.aig_circuit.specs.Edges.{initial_edges}
use Rattle.aig_cone.specs.Refine.{variable_nodes}
use Rattle.aig_cone.proofs.Keeping.{appended_more, starts-push}
use Rattle.aig_cone.proofs.refine.push_starts.Goals as goal

pub loop-latch-init : goal.loop-latch-init
loop-latch-init c = sym (append-nil c.args.roots.now.items)

pub loop-latch-preserved : goal.loop-latch-preserved
loop-latch-preserved c =
    appended_more (λ latchs. variable_nodes (initial_edges latchs)) (λ (latch : AigLatch). variable_nodes (option_to_list latch.init)) starts-push c.args.latchs.now c.loop-latch.latch-index _ c.args.roots.now.items c.loop-latch.roots.items c.push_start.new.roots.items c.loop-latch-test.true c.loop-latch.invariant
    (c.in_ok-push_start.ensures ∙ ap (λ (start : Option AigEdge). c.loop-latch.roots.items ++ variable_nodes (option_to_list start)) c.init.ensures)

pub returns : goal.returns
returns c = c.loop-latch.invariant ∙ ap (λ latchs. c.args.roots.now.items ++ variable_nodes (initial_edges latchs)) (take_all c.loop-latch.latch-index c.args.latchs.now c.loop-latch-test.false)
