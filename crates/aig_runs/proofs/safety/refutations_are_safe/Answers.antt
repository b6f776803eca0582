use Rattle.aig_runs.proofs.SafetyRefuted.{refuted_both}
use Rattle.aig_runs.proofs.safety.refutations_are_safe.Goals as goal

pub returns : goal.returns
returns c = λ f n circuit unrolled clauses extra asks none.
    (c.refuted_queries_are_safe.ensures f n circuit unrolled clauses extra asks).0 (λ k h. refuted_both (clauses k) (extra k) (none k h))
