use Rattle.aig_runs.proofs.FileRuns as lemma
use Rattle.aig_runs.proofs.laws.clauses_are_file_runs.Goals as goal

pub returns : goal.returns
returns c = lemma.files_are_encoded
