use Rattle.std.proofs.Common.{◌≡◌, ◌≤◌, take}
use Rattle.aig_refutation.specs.declared.propagation.Reading.TheVariants.{Conflict, Implied}
use Rattle.aig_refutation.specs.Propagation.{marked, reading_of}
use Rattle.aig_refutation.proofs.propagation.read_clause.Given as goal

abbrev pub invariant-loop-lit : goal.invariant-loop-lit
invariant-loop-lit l = record {
  few : l.count ≤ l.lit-index;
  none : l.count ≡ 0 → reading_of (marked l.marks) (take l.lit-index l.clause) ≡ Conflict;
  one : l.count ≡ 1
      → reading_of (marked l.marks) (take l.lit-index l.clause) ≡ Implied l.found;
}
