use Rattle.std.proofs.Common.{◌≡◌, ℕ, ◌+◌, ◌<◌, ◌++◌, length, slice_index}
use Rattle.aig_circuit.specs.Circuit.{latch_leaves}
use Rattle.aig_writer.proofs.numbering.is_in_order.Given as goal

abbrev pub invariant-loop-i : goal.invariant-loop-i
invariant-loop-i l = (k : ℕ) → k < l.i → slice_index (l.circuit.inputs ++ latch_leaves l.circuit.latchs) k ≡ k + 1

abbrev pub invariant-loop-i-2 : goal.invariant-loop-i-2
invariant-loop-i-2 l = (k : ℕ) → k < length l.circuit.inputs + l.i → slice_index (l.circuit.inputs ++ latch_leaves l.circuit.latchs) k ≡ k + 1
