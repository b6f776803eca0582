use Rattle.aig_refutation.proofs.Taken.{taken_keeps}
use Rattle.aig_refutation.proofs.laws.taken_steps_keep_satisfiable.Goals as goal

pub returns : goal.returns
returns c = taken_keeps
