use Rattle.std.proofs.Common.{◌≡◌, ◌<◌, ℕ, List, length}
use Rattle.aig_base.specs.declared.logic.literal.Lit.{Lit}
use Rattle.aig_refutation.specs.declared.closure.Found.TheVariants as found
use Rattle.aig_refutation.specs.Closure.{AreAmong, Entails, IfNothing, IsSettled, Narrows}
use Rattle.aig_refutation.specs.Propagation.{marked, reading_if}
use Rattle.aig_refutation.specs.Tables.{clause_in}
use Rattle.aig_refutation.proofs.closure.pass.Given as goal

abbrev pub invariant-loop-number : goal.invariant-loop-number
invariant-loop-number l = record {
  length : length l.marks ≡ length l.fn.marks;
  kept : AreAmong (marked l.fn.marks) (marked l.marks);
  entails : (clause : List Lit) → Entails l.numbered clause (marked l.fn.marks)
      → Entails l.numbered clause (marked l.marks);
  clear : l.found ≡ found.Conflict → ⊥;
  narrows : Narrows l.fn.marks l.marks l.found;
  settled : IfNothing l.found ((n : ℕ) → n < l.number → IsSettled (marked l.fn.marks)
      (reading_if (marked l.fn.marks) (clause_in l.numbered n)));
}
