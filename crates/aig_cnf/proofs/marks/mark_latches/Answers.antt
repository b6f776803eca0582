use Rattle.aig_circuit.specs.Edges.{latch_edges}
use Rattle.aig_circuit.proofs.Marking.{AddsEdgeMarks-more_of}
use Rattle.aig_cnf.proofs.marks.mark_latches.Goals as goal

pub loop-latch-preserved : goal.loop-latch-preserved
loop-latch-preserved c =
    AddsEdgeMarks-more_of latch_edges c.args.latchs.now c.loop-latch.latch-index _ c.args.marks.now c.loop-latch.marks c.mark_latch.new.marks c.loop-latch-test.true c.loop-latch.invariant c.mark_latch.ensures
