use Rattle.std.proofs.Common.{◌≡◌, length}
use Rattle.aig_refutation.specs.Closure.{AreAmong, Entails, unmarked}
use Rattle.aig_refutation.specs.Propagation.{marked, when_false}
use Rattle.aig_refutation.proofs.closure.refutes_inverses.Given as goal

abbrev pub invariant-loop : goal.invariant-loop
invariant-loop l = record {
  length : length l.marks ≡ length l.fn.marks;
  start : AreAmong (when_false l.clause) (marked l.marks);
  entails : Entails l.numbered l.clause (marked l.marks);
}

abbrev pub decreases-loop : goal.decreases-loop
decreases-loop l = unmarked l.marks
