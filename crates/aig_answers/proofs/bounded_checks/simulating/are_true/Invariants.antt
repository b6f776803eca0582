use Rattle.aig_answers.proofs.Words.{◌≡◌, ℕ, ◌<◌, slice_index_or, TRUE, AigEdge, value_in}
use Rattle.aig_answers.proofs.bounded_checks.simulating.are_true.Given as goal

abbrev pub invariant-loop-e : goal.invariant-loop-e
invariant-loop-e l = (k : ℕ) (d : AigEdge) → k < l.e-index → value_in l.simulator (slice_index_or
    l.edges k d) ≡ TRUE
