use Rattle.aig_dimacs.proofs.Reading.{parse_formula-dimacs_of}
use Rattle.aig_dimacs.proofs.laws.formulas_are_read.Goals as goal

pub returns : goal.returns
returns c = parse_formula-dimacs_of
