use Rattle.std.proofs.Common.{ℕ, take}
use Rattle.std.specs.Prelude.{All}
use Rattle.aig_circuit.specs.Circuit.{Circuit}
use Rattle.aig_bounded.specs.Depths.{AreNoDeeper, AreRead, HaveNoDepth}
use Rattle.aig_bounded.specs.Exact.{IsRead}
use Rattle.aig_bounded.proofs.depths.clear_depths.Given as goal

abbrev pub invariant-loop-edge : goal.invariant-loop-edge
invariant-loop-edge l = record {
  none : HaveNoDepth (take l.edge-index l.edges) l.depths;
  lower : AreNoDeeper l.fn.depths l.depths;
  read : (d : Circuit) (last : ℕ) → All (λ e. IsRead d 0 e.node_id) l.edges → AreRead d last l.fn.depths
      → AreRead d last l.depths;
}
