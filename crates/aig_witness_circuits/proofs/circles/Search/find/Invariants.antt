use Rattle.aig_circuit.specs.Marks.{IsMarked}
use Rattle.aig_witness_circuits.specs.Circles.{IsAt, StaysOpen, work_of}
use Rattle.aig_witness_circuits.proofs.circles.Search.find.Given as goal

abbrev pub invariant-loop-next : goal.invariant-loop-next
invariant-loop-next l = record {
  at : IsAt l.nodes l.resets l.self l.node;
  opened : StaysOpen l.fn.self l.self;
  started : IsMarked l.self.opened.items l.start;
}

abbrev pub decreases-loop-next : goal.decreases-loop-next
decreases-loop-next l = work_of l.self
