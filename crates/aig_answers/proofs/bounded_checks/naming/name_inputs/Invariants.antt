use Rattle.aig_answers.proofs.Words.{◌≡◌, ℕ, ◌<◌, length, slice_index, HasName}
use Rattle.aig_answers.proofs.bounded_checks.naming.name_inputs.Given as goal

abbrev pub invariant-loop-number : goal.invariant-loop-number
invariant-loop-number l = (length l.names ≡ length l.circuit.nodes)
    × ((k : ℕ) → k < l.number → HasName l.circuit l.names (slice_index l.circuit.inputs k))
