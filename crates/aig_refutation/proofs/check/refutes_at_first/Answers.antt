use Rattle.aig_refutation.proofs.Kept.{kept_itself}
use Rattle.aig_refutation.proofs.check.refutes_at_first.Goals as goal

pub returns-in-None-clause-keeps : goal.returns-in-None-clause-keeps
returns-in-None-clause-keeps c live h = kept_itself live c.args.checker.now.table h
