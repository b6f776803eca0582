use Rattle.std.proofs.Common.{◌≡◌, ℕ, ◌<◌, length, slice_index}
use Rattle.aig_base.proofs.Words.{All}
use Rattle.aig_cone.proofs.refine.places.Given as goal

abbrev pub invariant-loop-i : goal.invariant-loop-i
invariant-loop-i l = record {
  count : length l.numbers.items ≡ l.count;
  within : All (λ n. n < length l.kept) l.numbers.items;
  places : (k : ℕ) → k < l.i → slice_index l.numbers.items (slice_index l.kept k) ≡ k;
}
