use Rattle.std.proofs.Common.{◌≡◌, take}
use Rattle.aig_refutation.specs.Propagation.{marked, reading_of}
use Rattle.aig_refutation.proofs.Literals.{found_reading}
use Rattle.aig_refutation.proofs.propagation.read_any.Given as goal

abbrev pub invariant-loop-lit : goal.invariant-loop-lit
invariant-loop-lit l = reading_of (marked l.marks) (take l.lit-index l.clause) ≡ found_reading l.found
