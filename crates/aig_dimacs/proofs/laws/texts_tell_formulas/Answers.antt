use Rattle.aig_dimacs.proofs.Reading.{dimacs_of-injective}
use Rattle.aig_dimacs.proofs.laws.texts_tell_formulas.Goals as goal

pub returns : goal.returns
returns c = dimacs_of-injective
