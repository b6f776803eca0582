use Rattle.aig_answers.proofs.Words.{◌≡◌, ℕ, ◌<◌, length, slice_index, latch_leaves, HasName}
use Rattle.aig_answers.proofs.bounded_checks.naming.name_latchs.Given as goal

abbrev pub invariant-loop-number : goal.invariant-loop-number
invariant-loop-number l = (length l.names ≡ length l.circuit.nodes)
    × ((n : ℕ) → HasName l.circuit l.initial.names n → HasName l.circuit l.names n)
    × ((k : ℕ) → k < l.number → HasName l.circuit l.names (slice_index (latch_leaves
    l.circuit.latchs) k))
