use Rattle.aig_refutation.proofs.WrittenNumbered as lemma
use Rattle.aig_refutation.proofs.laws.numbered_proofs_are_read.Goals as goal

pub returns : goal.returns
returns c = lemma.worded_read
