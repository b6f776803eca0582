use Rattle.aig_base.proofs.Words.{take, flat_map}
use Rattle.aig_circuit.proofs.Words.{latch_edges, AddsEdgeMarks}
use Rattle.aig_cnf.proofs.marks.mark_latches.Given as goal

abbrev pub invariant-loop-latch : goal.invariant-loop-latch
invariant-loop-latch l = AddsEdgeMarks l.initial.marks l.marks (flat_map latch_edges (take l.latch-index l.latchs))
