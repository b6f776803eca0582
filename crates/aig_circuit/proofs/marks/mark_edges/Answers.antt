use Rattle.std.proofs.Common.{◌<◌, false, length, get_or, arith}
use Rattle.aig_circuit.specs.Edge.{edge_to}
use Rattle.aig_circuit.proofs.Marking.{AddsEdgeMarks-more, AddsEdgeMarks-set}
use Rattle.aig_circuit.proofs.marks.mark_edges.Goals as goal

pub loop-e-preserved : goal.loop-e-preserved
loop-e-preserved c =
    let i = c.loop-e.e-index in
    let e = get_or c.args.edges.now i (edge_to 0 false) in
    let there : e.node_id < length c.loop-e.marks = omega (arith, c.requires i (edge_to 0 false) c.loop-e-test.true) in
    rw c.node_id.ensures (AddsEdgeMarks-more c.args.edges.now i (edge_to 0 false) c.args.marks.now c.loop-e.marks _ c.loop-e-test.true c.loop-e.invariant (AddsEdgeMarks-set c.loop-e.marks e there))
