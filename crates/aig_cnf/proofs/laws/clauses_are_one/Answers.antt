use Rattle.aig_cnf.proofs.OneList.{one_list}
use Rattle.aig_cnf.proofs.laws.clauses_are_one.Goals as goal

pub returns : goal.returns
returns c = one_list
