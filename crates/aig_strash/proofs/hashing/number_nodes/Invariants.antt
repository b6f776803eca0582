use Rattle.aig_strash.specs.Numbering.{HasNumbered}
use Rattle.aig_strash.proofs.hashing.number_nodes.Given as goal

abbrev pub invariant-loop-n : goal.invariant-loop-n
invariant-loop-n l = HasNumbered l.nodes l.n l.numbering
