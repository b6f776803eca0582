use Rattle.aig_refutation.proofs.Showing as lemma
use Rattle.aig_refutation.proofs.laws.shown_clauses_are_unsatisfiable.Goals as goal

pub returns : goal.returns
returns c = lemma.shown
