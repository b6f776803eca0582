use Rattle.aig_witness_circuits.proofs.Words.{take, MarksNodes}
use Rattle.aig_witness_circuits.proofs.sharing.marks.mark_nodes.Given as goal

abbrev pub invariant-loop-n : goal.invariant-loop-n
invariant-loop-n l = MarksNodes (take l.n-index l.nodes) l.initial.marks l.marks
