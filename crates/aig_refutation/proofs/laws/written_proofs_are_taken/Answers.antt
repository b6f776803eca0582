use Rattle.aig_refutation.proofs.WrittenProofs as lemma
use Rattle.aig_refutation.proofs.laws.written_proofs_are_taken.Goals as goal

pub returns : goal.returns
returns c = lemma.written_taken
