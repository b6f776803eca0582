use Rattle.aig_refutation.proofs.Following.{kept_itself}
use Rattle.aig_refutation.proofs.numbered.Numbered.reclaim.Goals as goal

pub returns-then-self-clause-kept : goal.returns-then-self-clause-kept
returns-then-self-clause-kept c = kept_itself c.args.self.now.clauses
