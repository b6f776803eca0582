use Rattle.aig_base.proofs.Words.{◌≡◌, ◌<◌, ℕ, Bool, length, take, slice_index_or}
use Rattle.aig_circuit.proofs.Words.{latch_leaves, is_in}
use Rattle.aig_witness.proofs.solutions.places.mark_latchs.Given as goal

abbrev pub invariant-loop-latch : goal.invariant-loop-latch
invariant-loop-latch g l = record {
  count : length l.marks.items ≡ length (g.C.HasLeaves.circuit l.circuit).nodes;
  each : (n : ℕ) (d : Bool) → n < length (g.C.HasLeaves.circuit l.circuit).nodes → slice_index_or l.marks.items n d ≡ is_in (latch_leaves (take l.latch-index l.latchs)) n;
}
