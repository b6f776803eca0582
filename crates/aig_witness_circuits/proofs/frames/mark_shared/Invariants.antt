use Rattle.aig_witness_circuits.proofs.Words.{take, MarksShared}
use Rattle.aig_witness_circuits.proofs.frames.mark_shared.Given as goal

abbrev pub invariant-loop-pair : goal.invariant-loop-pair
invariant-loop-pair l = MarksShared (take l.pair-index l.shared) l.initial.marks l.marks
