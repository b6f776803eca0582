use Rattle.aig_refutation.proofs.WrittenBinary.{binary_read, told_dropped, told_learned}
use Rattle.aig_refutation.proofs.laws.binary_proofs_are_read.Goals as goal

pub returns-clause-read : goal.returns-clause-read
returns-clause-read c = binary_read

pub returns-clause-adds : goal.returns-clause-adds
returns-clause-adds c = told_learned

pub returns-clause-drops : goal.returns-clause-drops
returns-clause-drops c = told_dropped
