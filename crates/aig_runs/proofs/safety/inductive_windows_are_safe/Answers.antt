use Rattle.aig_runs.proofs.Induction as lemma
use Rattle.aig_runs.proofs.safety.inductive_windows_are_safe.Goals as goal

pub returns : goal.returns
returns c = lemma.always_safe_by_windows
