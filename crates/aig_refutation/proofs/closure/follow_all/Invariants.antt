use Rattle.std.proofs.Common.{◌≡◌, List, length}
use Rattle.aig_base.specs.declared.logic.literal.Lit.{Lit}
use Rattle.aig_refutation.specs.Closure.{AreAmong, Entails}
use Rattle.aig_refutation.specs.Propagation.{marked}
use Rattle.aig_refutation.proofs.closure.follow_all.Given as goal

abbrev pub invariant-loop-number : goal.invariant-loop-number
invariant-loop-number l = record {
  length : length l.marks ≡ length l.fn.marks;
  kept : AreAmong (marked l.fn.marks) (marked l.marks);
  entails : (clause : List Lit) → Entails l.numbered clause (marked l.fn.marks)
      → Entails l.numbered clause (marked l.marks);
}
