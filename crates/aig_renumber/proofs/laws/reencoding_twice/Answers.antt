use Rattle.aig_renumber.proofs.Placed.{reencoded-placed, reencoded-twice}
use Rattle.aig_renumber.proofs.laws.reencoding_twice.Goals as goal

pub returns-clause-placed : goal.returns-clause-placed
returns-clause-placed c = λ a is closed placed. reencoded-placed a is closed placed

pub returns-clause-twice : goal.returns-clause-twice
returns-clause-twice c = λ a is closed. reencoded-twice a is closed
