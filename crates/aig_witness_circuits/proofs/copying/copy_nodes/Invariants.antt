use Rattle.std.proofs.Common.{◌≡◌}
use Rattle.aig_unroll.specs.Frame.{frame_to}
use Rattle.aig_witness_circuits.specs.Exact.{frame_in}
use Rattle.aig_witness_circuits.specs.Frames.{given_at}
use Rattle.aig_witness_circuits.proofs.copying.copy_nodes.Given as goal

abbrev pub invariant-loop-id : goal.invariant-loop-id
invariant-loop-id l =
    frame_in l.nodes.items l.images.items
    ≡ frame_to l.source (given_at l.given) l.fn.nodes.items l.id
