use Rattle.aig_cone.proofs.Twice.{AreKept-all, again-numbers, refined-again}
use Rattle.aig_cone.proofs.laws.refining_twice.Goals as goal

pub returns-clause-all : goal.returns-clause-all
returns-clause-all c = AreKept-all

pub returns-clause-only : goal.returns-clause-only
returns-clause-only c circuit kept again is are kept_again = again-numbers circuit kept is are again kept_again

pub returns-clause-same : goal.returns-clause-same
returns-clause-same c circuit kept again is are kept_again = refined-again circuit kept is are again kept_again
