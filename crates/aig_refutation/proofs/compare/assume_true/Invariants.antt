use Rattle.std.proofs.Common.{◌≡◌, length, take}
use Rattle.aig_refutation.specs.Propagation.{has, marked}
use Rattle.aig_refutation.proofs.compare.assume_true.Given as goal

abbrev pub invariant-loop-lit : goal.invariant-loop-lit
invariant-loop-lit l = (length l.marks ≡ length l.fn.marks) × (marked l.marks ≡ has (take l.lit-index l.clause))
