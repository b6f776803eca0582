use Rattle.aig_base.proofs.Words.{◌≡◌, ◌*◌, ◌-◌, ◌<◌, ◌^◌, true, length, min}
use Rattle.aig_refutation.specs.Checking.{are_all_in}
use Rattle.aig_refutation.proofs.Conflicts.{IsSearched}
use Rattle.aig_refutation.proofs.units.find_conflict.Given as goal

abbrev pub invariant-loop-i : goal.invariant-loop-i
invariant-loop-i l = record {
  count : length l.units.items ≡ min (l.variables * 2) (2 ^ 64 - 1);
  searched : are_all_in l.variables l.clauses ≡ true → length l.clauses < 2 ^ 32 - 1
      → record { number : l.number ≡ l.i; units : IsSearched l.clauses l.i l.units.items };
}
