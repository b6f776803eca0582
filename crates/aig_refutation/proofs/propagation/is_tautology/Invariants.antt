use Rattle.aig_base.proofs.Words.{◌≡◌, false, take, list_any}
use Rattle.aig_refutation.specs.Propagation.{when_false}
use Rattle.aig_refutation.proofs.propagation.is_tautology.Given as goal

abbrev pub invariant-loop-lit : goal.invariant-loop-lit
invariant-loop-lit l = list_any (when_false l.clause) (take l.lit-index l.clause) ≡ false
