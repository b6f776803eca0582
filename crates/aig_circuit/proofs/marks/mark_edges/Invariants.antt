use Rattle.std.proofs.Common.{take}
use Rattle.aig_circuit.specs.Marks.{AddsEdgeMarks}
use Rattle.aig_circuit.proofs.marks.mark_edges.Given as goal

abbrev pub invariant-loop-e : goal.invariant-loop-e
invariant-loop-e l = AddsEdgeMarks l.initial.marks l.marks (take l.e-index l.edges)
