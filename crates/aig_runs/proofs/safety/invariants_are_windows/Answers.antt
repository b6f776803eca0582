use Rattle.aig_runs.proofs.Invariants as lemma
use Rattle.aig_runs.proofs.safety.invariants_are_windows.Goals as goal

pub returns : goal.returns
returns c = λ f invariant same. lemma.is_shown_by_windows f invariant same
