use Rattle.aig_base.proofs.Words.{◌≡◌, true, take, list_all}
use Rattle.aig_refutation.specs.Propagation.{marked}
use Rattle.aig_refutation.proofs.compare.are_marked.Given as goal

abbrev pub invariant-loop-lit : goal.invariant-loop-lit
invariant-loop-lit l = list_all (marked l.marks) (take l.lit-index l.clause) ≡ true
