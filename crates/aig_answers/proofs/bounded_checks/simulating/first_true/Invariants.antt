use Rattle.aig_answers.proofs.Words.{◌≢◌, ℕ, ◌<◌, false, slice_index_or, TRUE, value_in}
use Rattle.aig_circuit.specs.Edge.{edge_to}
use Rattle.aig_answers.proofs.bounded_checks.simulating.first_true.Given as goal

abbrev pub invariant-loop-i : goal.invariant-loop-i
invariant-loop-i l = (k : ℕ) → k < l.i → value_in l.simulator (slice_index_or l.edges k (edge_to 0
    false)) ≢ TRUE
