use Rattle.aig_refutation.proofs.Ordered as lemma
use Rattle.aig_refutation.proofs.laws.ordered_rat_refutations_are_taken.Goals as goal

pub returns : goal.returns
returns c = lemma.ordered_rat_taken
