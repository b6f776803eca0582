use Rattle.std.proofs.Common.{◌≡◌, take}
use Rattle.aig_witness_circuits.specs.Frames.{own_among}
use Rattle.aig_witness_circuits.proofs.frames.own_latches.Given as goal

abbrev pub invariant-loop-latch : goal.invariant-loop-latch
invariant-loop-latch l = l.own.items ≡ own_among l.shared (take l.latch-index l.latch-items)
