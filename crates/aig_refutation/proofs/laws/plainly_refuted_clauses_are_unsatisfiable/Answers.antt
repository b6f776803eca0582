use Rattle.aig_refutation.proofs.Plainly.{refuted_unsatisfiable}
use Rattle.aig_refutation.proofs.laws.plainly_refuted_clauses_are_unsatisfiable.Goals as goal

pub returns : goal.returns
returns c = refuted_unsatisfiable
