use Rattle.std.proofs.Common.{◌≡◌, map, take}
use Rattle.aig_circuit.proofs.Words.{latch_leaves, next_edges}
use Rattle.aig_unroll.specs.Step.{image_in}
use Rattle.aig_unroll.specs.Unroll.{starts_of}
use Rattle.aig_unroll.proofs.entries.set_next_images.Given as goal

abbrev pub invariant-loop-i : goal.invariant-loop-i
invariant-loop-i l = record {
  leaves : latch_leaves l.latchs ≡ latch_leaves l.initial.latchs;
  starts : starts_of l.latchs ≡ starts_of l.initial.latchs;
  next : take l.i (next_edges l.latchs) ≡ map (image_in l.images) (take l.i (next_edges l.others));
}
