use Rattle.std.proofs.Common.{Vec, Global, subst, ap, ◌∙◌}
use Rattle.aig_circuit.specs.declared.edge.AigEdge.{AigEdge}
use Rattle.aig_circuit.specs.Marks.{AddsEdgeMarks}
use Rattle.aig_circuit.proofs.Marking.{AddsEdgeMarks-more_of}
use Rattle.aig_cnf.proofs.marks.mark_sets.Goals as goal

pub loop-set-preserved : goal.loop-set-preserved
loop-set-preserved c =
    let items = λ (set : Vec AigEdge Global). set.items in
    let marked = subst (AddsEdgeMarks c.loop-set.marks c.mark_edges.new.marks) (c.deref.ensures.value ∙ ap items c.set-item.is) c.mark_edges.ensures in
    AddsEdgeMarks-more_of items c.args.sets.now c.loop-set.set-index c.set-item.result c.args.marks.now c.loop-set.marks c.mark_edges.new.marks c.loop-set-test.true c.loop-set.invariant marked
