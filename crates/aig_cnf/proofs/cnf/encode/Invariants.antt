use Rattle.std.proofs.Common.{◌≤◌}
use Rattle.aig_circuit.specs.Edges.{roots_of}
use Rattle.aig_cnf.proofs.Adding.{AddedDownTo}
use Rattle.aig_cnf.proofs.Marking.{MarkedDownTo}
use Rattle.aig_cnf.proofs.cnf.encode.Given as goal

abbrev pub invariant-loop-id : goal.invariant-loop-id
invariant-loop-id l = record {
  low : 1 ≤ l.id;
  marked : MarkedDownTo l.circuit.nodes l.optimize (roots_of l.circuit) l.marks.items l.id;
  added : AddedDownTo l.circuit.nodes l.optimize l.marks.items l.lists l.id;
}
