use Rattle.aig_witness_circuits.proofs.Words.{take, HoldsResets}
use Rattle.aig_witness_circuits.proofs.circles.write_resets.Given as goal

abbrev pub invariant-loop-latch : goal.invariant-loop-latch
invariant-loop-latch l = HoldsResets (take l.latch-index l.latchs) l.resets
