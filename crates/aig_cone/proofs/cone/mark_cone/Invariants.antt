use Rattle.std.proofs.Common.{map}
use Rattle.aig_circuit.specs.declared.edge.AigEdge.{AigEdge}
use Rattle.aig_cone.proofs.Marking.{MarkedDownTo}
use Rattle.aig_cone.proofs.cone.mark_cone.Given as goal

abbrev pub invariant-loop-id : goal.invariant-loop-id
invariant-loop-id l = MarkedDownTo l.nodes (map (λ (e : AigEdge). e.node_id) l.logic) l.marks l.id
