use Rattle.std.proofs.Common.{◌+◌, ◌-◌, ◌≤◌, None, length}
use Rattle.std.specs.Prelude.{slice_index_or}
use Rattle.aig_bounded.specs.Exact.{frame_to}
use Rattle.aig_bounded.specs.Frames.{net_of}
use Rattle.aig_bounded.specs.Steps.{IsFrame, is_read}
use Rattle.aig_bounded.proofs.Stepped.{ImagesSoFar}
use Rattle.aig_bounded.proofs.frames.Frames.add_nodes.Given as goal

abbrev pub invariant-loop-id : goal.invariant-loop-id
invariant-loop-id l = record {
  so_far : ImagesSoFar l.circuit l.step l.left l.id l.depths l.fn.self l.self l.images;
  exact : IsFrame (is_read l.depths l.left) (frame_to l.circuit l.step (is_read l.depths l.left) (λ n. slice_index_or l.states n None) (net_of l.fn.self) l.id) l.self l.images;
  few : length l.self.nodes.items ≤ length l.fn.self.nodes.items + (l.id - 1);
}
