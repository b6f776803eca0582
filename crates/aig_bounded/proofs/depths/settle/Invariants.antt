use Rattle.std.proofs.Common.{◌≡◌, ◌+◌, false, cond}
use Rattle.std.specs.Prelude.{sum}
use Rattle.aig_bounded.specs.Depths.{AreNoDeeper, AreRead, AreSettled}
use Rattle.aig_bounded.proofs.depths.settle.Given as goal

abbrev pub invariant-loop-lowered : goal.invariant-loop-lowered
invariant-loop-lowered l = record {
  lower : AreNoDeeper l.fn.depths l.depths;
  settled : l.lowered ≡ false → AreSettled l.circuit l.last l.depths;
  read : AreRead l.circuit l.last l.fn.depths → AreRead l.circuit l.last l.depths;
}

abbrev pub decreases-loop-lowered : goal.decreases-loop-lowered
decreases-loop-lowered l = sum l.depths + cond l.lowered 1 0
