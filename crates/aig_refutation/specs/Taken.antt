-- Part of what laws say, and of no promise of a call.
-- Whether clauses that are there can all be true.
use Rattle.std.specs.Prelude.{ℕ, Bool, IsTrue}
use Rattle.std.specs.List.{AllByRecursion}
use Rattle.aig_base.specs.Clauses.{is_true_clause}
use Rattle.aig_refutation.specs.Checking.{Live}

-- some assignment makes each clause true that is there
abbrev pub CanHold : Live → Type 0
CanHold live =
    (v : ℕ → Bool) × AllByRecursion (λ entry. IsTrue (is_true_clause v entry.1)) live.clauses

-- where the clauses before can hold, so can those after
abbrev pub KeepsLive : Live → Live → Type 0
KeepsLive live next = CanHold live → CanHold next
