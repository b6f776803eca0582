use Rattle.aig_refutation.proofs.WrittenNumbered as lemma
use Rattle.aig_refutation.proofs.laws.written_numbered_proofs_are_taken.Goals as goal

pub returns : goal.returns
returns c = lemma.worded_taken
