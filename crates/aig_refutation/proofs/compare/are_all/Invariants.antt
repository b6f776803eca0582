use Rattle.aig_base.proofs.Words.{◌≡◌, true, take, list_all}
use Rattle.aig_refutation.specs.Propagation.{is_lit}
use Rattle.aig_refutation.proofs.compare.are_all.Given as goal

abbrev pub invariant-loop-other : goal.invariant-loop-other
invariant-loop-other l = list_all (is_lit l.lit) (take l.other-index l.clause) ≡ true
