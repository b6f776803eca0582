use Rattle.aig_base.proofs.Words.{ℕ, ◌<◌, false, IsTrue, slice_index_or}
use Rattle.aig_witness.proofs.fair.loops.first_unmarked.Given as goal

abbrev pub invariant-loop-i : goal.invariant-loop-i
invariant-loop-i l = (k : ℕ) → k < l.i → IsTrue (slice_index_or l.marks k false)
