use Rattle.aig_cnf.proofs.Fixing.{clauses_fix, node_values_satisfy}
use Rattle.aig_cnf.proofs.laws.clauses_fix_roots.Goals as goal

pub returns-clause-fixes : goal.returns-clause-fixes
returns-clause-fixes c = clauses_fix

pub returns-clause-satisfied : goal.returns-clause-satisfied
returns-clause-satisfied c = node_values_satisfy
