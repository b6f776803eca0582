use Rattle.aig_witness.proofs.Written.{solution_in-refused, solution_in-written}
use Rattle.aig_witness.proofs.solutions.laws.solutions_are_read.Goals as goal

pub returns-clause-read : goal.returns-clause-read
returns-clause-read c = solution_in-written

pub returns-clause-refused : goal.returns-clause-refused
returns-clause-refused c = solution_in-refused
