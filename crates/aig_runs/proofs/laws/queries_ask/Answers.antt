use Rattle.aig_runs.proofs.Queries as lemma
use Rattle.aig_runs.proofs.laws.queries_ask.Goals as goal

pub returns : goal.returns
returns c = lemma.queries_ask
