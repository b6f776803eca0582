use Rattle.aig_base.proofs.Words.{◌≡◌, ◌<◌, ℕ, true, length}
use Rattle.aig_refutation.specs.Checking.{Live, are_named, clause_at}
use Rattle.aig_refutation.specs.Starts.{AreStarts}
use Rattle.aig_refutation.specs.Tables.{Holds, entry_in, is_apart_if}
use Rattle.aig_refutation.specs.Tokens.{said_numbers}
use Rattle.aig_refutation.proofs.standing.Resolvent.is_rat.Given as goal

abbrev pub invariant-loop-place : goal.invariant-loop-place
invariant-loop-place l = record {
  length : length l.marks ≡ length l.fn.marks;
  apart : (live : Live) → Holds l.numbered live
      → are_named live l.hints (said_numbers l.groups) ≡ true → (i : ℕ) → i < l.place
      → is_apart_if (clause_at live) l.pivot l.clause l.hints (said_numbers l.groups)
      (entry_in l.numbered i) ≡ true;
  starts : (live : Live) → Holds l.numbered live
      → AreStarts l.numbered l.groups l.groups l.self.starts.items;
}
