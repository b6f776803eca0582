use Rattle.std.proofs.Common.{◌≡◌, ◌+◌, ◌≤◌, length, map, take}
use Rattle.aig_unroll.specs.Frame.{image_in}
use Rattle.aig_bounded.specs.Frames.{MakesEdge, net_of}
use Rattle.aig_bounded.specs.Shared.{made_in, shared_ands}
use Rattle.aig_bounded.proofs.Joined.{all_true}
use Rattle.aig_bounded.proofs.frames.Frames.and_all.Given as goal

abbrev pub invariant-loop-edge : goal.invariant-loop-edge
invariant-loop-edge l = record {
  so_far : MakesEdge (all_true l.fn.self l.images l.fn.first (take l.edge-index l.edges)) l.fn.self
      l.self l.all;
  exact : made_in (net_of l.self) l.all ≡ shared_ands (made_in (net_of l.fn.self) l.fn.first) (map (image_in l.images) (take l.edge-index l.edges));
  few : length l.self.nodes.items ≤ length l.fn.self.nodes.items + l.edge-index;
}
