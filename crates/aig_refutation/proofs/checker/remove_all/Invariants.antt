use Rattle.std.proofs.Common.{◌≡◌, drop}
use Rattle.aig_refutation.specs.Checking.{Live, deleted}
use Rattle.aig_refutation.specs.Tables.{Holds}
use Rattle.aig_refutation.proofs.checker.remove_all.Given as goal

abbrev pub invariant-loop-number : goal.invariant-loop-number
invariant-loop-number l = record {
  same : l.numbered.clauses ≡ l.fn.numbered.clauses;
  moves : (live : Live) → Holds l.fn.numbered live → (now : Live) × Holds l.numbered now × (deleted
      live l.numbers ≡ deleted now (drop l.number-index l.numbers));
}
