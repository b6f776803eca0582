use Rattle.aig_runs.proofs.Windows as lemma
use Rattle.aig_runs.proofs.safety.refuted_windows_are_inductive.Goals as goal

pub returns : goal.returns
returns c = lemma.refuted_window
