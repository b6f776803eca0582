use Rattle.aig_runs.proofs.SafeSteps as lemma
use Rattle.aig_runs.proofs.laws.refuted_queries_are_safe.Goals as goal

pub returns : goal.returns
returns c = lemma.refuted_queries_are_safe
