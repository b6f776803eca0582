use Rattle.aig_base.proofs.Words.{◌≡◌, ◌+◌, ◌*◌, ◌≤◌, List, length, All, sum_by}
use Rattle.aig_base.specs.declared.logic.literal.Lit.{Lit}
use Rattle.aig_base.specs.Clauses.{AreBelow}
use Rattle.aig_circuit.specs.Edges.{roots_of}
use Rattle.aig_cnf.proofs.Adding.{AddedDownTo}
use Rattle.aig_cnf.proofs.Marking.{MarkedDownTo}
use Rattle.aig_cnf.proofs.needed.find_needed.Given as goal

abbrev pub invariant-loop-id : goal.invariant-loop-id
invariant-loop-id l = record {
  low : 1 ≤ l.id;
  marked : MarkedDownTo l.circuit.nodes l.optimize (roots_of l.circuit) l.marks.items l.id;
  lists : List (List (List Lit));
  added : AddedDownTo l.circuit.nodes l.optimize l.marks.items lists l.id;
  below : All (AreBelow (length l.circuit.nodes)) lists;
  total : l.clauses ≡ sum_by length lists;
  few : l.clauses + 4 * l.id ≤ 4 * length l.circuit.nodes + 1;
}
