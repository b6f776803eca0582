use Rattle.std.proofs.Common.{◌≡◌, ℕ, ◌<◌, length, slice_index}
use Rattle.aig_renumber.proofs.reencoding.places.Given as goal

abbrev pub invariant-loop-i : goal.invariant-loop-i
invariant-loop-i l = (length l.numbers.items ≡ length l.order) × ((k : ℕ) → k < l.i → slice_index l.numbers.items (slice_index l.order k) ≡ k)
