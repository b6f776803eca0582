use Rattle.aig_join.proofs.Joined.{names-first, names-second}
use Rattle.aig_join.proofs.laws.joint_circuits_keep_names.Goals as goal

pub returns-clause-first : goal.returns-clause-first
returns-clause-first c = λ latches first second n is other can h. names-first latches first second
    is other can n h

pub returns-clause-second : goal.returns-clause-second
returns-clause-second c = names-second
