use Rattle.std.proofs.Common.{◌≡◌, ◌+◌, ◌-◌, ◌≤◌, ◌++◌, length, map, take, vec_len, vec_capacity}
use Rattle.aig_unroll.specs.Step.{image_in}
use Rattle.aig_unroll.proofs.entries.append_images.Given as goal

abbrev pub invariant-loop-edge : goal.invariant-loop-edge
invariant-loop-edge l = record {
  items : l.list.items ≡ l.fn.list.items ++ map (image_in l.images) (take l.edge-index l.edges);
  room : vec_len l.list + (length l.edges - l.edge-index) ≤ vec_capacity l.list;
}
