use Rattle.std.proofs.Common.{◌≡◌, ◌+◌, ◌≤◌, false, length, map, take}
use Rattle.aig_circuit.specs.Edge.{edge_to}
use Rattle.aig_unroll.specs.Frame.{image_in}
use Rattle.aig_bounded.specs.Frames.{MakesEdge, net_of}
use Rattle.aig_bounded.specs.Shared.{made_in, shared_ors}
use Rattle.aig_bounded.proofs.Joined.{any_true}
use Rattle.aig_bounded.proofs.frames.Frames.or_all.Given as goal

abbrev pub invariant-loop-edge : goal.invariant-loop-edge
invariant-loop-edge l = record {
  so_far : MakesEdge (any_true l.fn.self l.images (take l.edge-index l.edges)) l.fn.self l.self
      l.any;
  exact : made_in (net_of l.self) l.any ≡ shared_ors (made_in (net_of l.fn.self) (edge_to 0 false)) (map (image_in l.images) (take l.edge-index l.edges));
  few : length l.self.nodes.items ≤ length l.fn.self.nodes.items + l.edge-index;
}
