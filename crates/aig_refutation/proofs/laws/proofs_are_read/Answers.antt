use Rattle.aig_refutation.proofs.WrittenProofs as lemma
use Rattle.aig_refutation.proofs.laws.proofs_are_read.Goals as goal

pub returns : goal.returns
returns c = lemma.steps_in-written
