use Rattle.aig_runs.proofs.Invariants as lemma
use Rattle.aig_runs.proofs.safety.inductive_invariants_are_safe.Goals as goal

pub returns : goal.returns
returns c = lemma.always_safe
