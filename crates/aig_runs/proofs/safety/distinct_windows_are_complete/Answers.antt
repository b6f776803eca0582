use Rattle.aig_runs.proofs.States as lemma
use Rattle.aig_runs.proofs.safety.distinct_windows_are_complete.Goals as goal

pub returns-clause-inductive : goal.returns-clause-inductive
returns-clause-inductive c = lemma.no_long_window

pub returns-clause-safe : goal.returns-clause-safe
returns-clause-safe c = lemma.safe_by_count
