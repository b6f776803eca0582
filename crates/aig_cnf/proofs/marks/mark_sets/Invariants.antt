use Rattle.aig_base.proofs.Words.{take, flat_map}
use Rattle.aig_circuit.specs.Marks.{AddsEdgeMarks}
use Rattle.aig_cnf.proofs.marks.mark_sets.Given as goal

abbrev pub invariant-loop-set : goal.invariant-loop-set
invariant-loop-set l = AddsEdgeMarks l.initial.marks l.marks (flat_map (λ set. set.items) (take l.set-index l.sets))
