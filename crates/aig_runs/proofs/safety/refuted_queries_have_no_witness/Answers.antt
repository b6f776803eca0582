use Rattle.aig_runs.proofs.SafetyRefuted as lemma
use Rattle.aig_runs.proofs.safety.refuted_queries_have_no_witness.Goals as goal

pub returns : goal.returns
returns c = lemma.no_witness
