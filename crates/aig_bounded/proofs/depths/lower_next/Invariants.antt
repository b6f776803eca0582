use Rattle.std.proofs.Common.{◌≡◌, take}
use Rattle.aig_circuit.specs.Circuit.{Circuit}
use Rattle.aig_bounded.specs.Depths.{AreRead, HaveNextDepths, Lowers}
use Rattle.aig_bounded.proofs.depths.lower_next.Given as goal

abbrev pub invariant-loop-latch : goal.invariant-loop-latch
invariant-loop-latch l = record {
  lowers : Lowers (HaveNextDepths (take l.latch-index l.latchs) l.last) l.fn.depths l.depths l.lowered;
  read : (d : Circuit) → d.latchs ≡ l.latchs → AreRead d l.last l.fn.depths → AreRead d l.last l.depths;
}
