use Rattle.aig_ternary.proofs.Stepping.{ValuedBelow}
use Rattle.aig_ternary.proofs.step.value_nodes.Given as goal

abbrev pub invariant-loop-id : goal.invariant-loop-id
invariant-loop-id l = ValuedBelow l.nodes l.initial.values l.values l.id
