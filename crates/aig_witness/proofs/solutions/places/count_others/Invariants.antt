use Rattle.aig_base.proofs.Words.{◌≡◌, ◌<◌, ℕ, length, take, count_by, slice_index}
use Rattle.aig_unroll.specs.Places.{is_other_leaf}
use Rattle.aig_witness.proofs.solutions.places.count_others.Given as goal

abbrev pub invariant-loop-i : goal.invariant-loop-i
invariant-loop-i g l = record {
  so_far : l.count ≡ count_by (is_other_leaf (g.C.HasLeaves.circuit l.circuit)) (take l.i l.nodes);
  count : length l.turns.items ≡ l.i;
  each : (n : ℕ) → n < l.i → slice_index l.turns.items n ≡ count_by (is_other_leaf (g.C.HasLeaves.circuit l.circuit)) (take n l.nodes);
}
