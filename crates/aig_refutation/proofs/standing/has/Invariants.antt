use Rattle.aig_base.proofs.Words.{◌≡◌, false, take}
use Rattle.aig_refutation.specs.Propagation.{has}
use Rattle.aig_refutation.proofs.standing.has.Given as goal

abbrev pub invariant-loop-other : goal.invariant-loop-other
invariant-loop-other l = has (take l.other-index l.clause) l.lit ≡ false
