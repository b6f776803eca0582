use Rattle.aig_refutation.proofs.Ordered as lemma
use Rattle.aig_refutation.proofs.laws.ordered_refutations_are_taken.Goals as goal

pub returns : goal.returns
returns c = lemma.ordered_taken
