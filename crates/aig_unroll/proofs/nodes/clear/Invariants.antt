use Rattle.std.proofs.Common.{◌≡◌, ℕ, ◌<◌, false}
use Rattle.aig_circuit.specs.Edge.{edge_to}
use Rattle.aig_unroll.specs.Step.{image_at}
use Rattle.aig_unroll.proofs.nodes.clear.Given as goal

abbrev pub invariant-loop-image : goal.invariant-loop-image
invariant-loop-image l = (n : ℕ) → n < l.image-index → image_at l.images n ≡ edge_to l.unset false
