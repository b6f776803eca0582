use Rattle.aig_base.proofs.Words.{◌≡◌, ◌-◌, drop, length}
use Rattle.aig_refutation.specs.Checking.{Live}
use Rattle.aig_refutation.specs.Starts.{AreStarts}
use Rattle.aig_refutation.specs.Tables.{Holds}
use Rattle.aig_refutation.proofs.starts.find_starts.Given as goal

abbrev pub invariant-loop-passed : goal.invariant-loop-passed
invariant-loop-passed l = record {
  count : length l.starts.items ≡ length l.numbered.clauses;
  starts : (live : Live) → Holds l.numbered live → AreStarts l.numbered l.groups
      (drop (length l.groups - l.passed) l.groups) l.starts.items;
}
