use Rattle.aig_refutation.proofs.RatSteps.{rat_refuted}
use Rattle.aig_refutation.proofs.laws.rat_refuted_clauses_are_unsatisfiable.Goals as goal

pub returns : goal.returns
returns c = rat_refuted
