-- Serves private clauses alone.
-- Where the hints for each clause begin, among those of a step for other clauses.
use Rattle.std.specs.Prelude.{◌≡◌, ℕ, ◌-◌, ◌^◌, ◌<◌, ◌==◌, false, if◌then◌else◌, List, [], drop, length, slice_index_or, slice_set, Option, Some, None}
use Rattle.aig_refutation.specs.declared.words.Number.{Number}
use Rattle.aig_refutation.specs.Proofs.{hints_at}
use Rattle.aig_refutation.specs.Rat.{hints_for}
use Rattle.aig_refutation.specs.Tables.{Table, name_in}
use Rattle.aig_refutation.specs.Tokens.{said_numbers}

-- what stands for a clause for which hints begin at several places
abbrev pub several : ℕ
several = 2 ^ 64 - 1

-- what stands for the clause at a place: where its hints begin, or 0 where there are none
abbrev pub start_in : List ℕ → ℕ → ℕ
start_in starts i = slice_index_or starts i 0

-- hints for the clause at a place begin here, too
abbrev pub with_start : Option ℕ → ℕ → List ℕ → List ℕ
with_start None start starts = starts
with_start (Some i) start starts =
    slice_set starts i (if start_in starts i == 0 then start else several)

-- The hints for a number, among those that are left, are the ones from this place on. There are
-- none where that is 0, and it says nothing where they begin at several.
pub record IsStart (groups left : List Number) (n start : ℕ) : Type 0 where
  pub none : start ≡ 0 → hints_for n false (said_numbers left) ≡ []
  pub one : 0 < start → start < several
      → hints_for n false (said_numbers left) ≡ hints_at (said_numbers (drop start groups))

-- so it is for each clause that a number names
abbrev pub AreStarts : Table → List Number → List Number → List ℕ → Type 0
AreStarts t groups left starts =
    (i n : ℕ) → i < length t.clauses → name_in t i ≡ Some n
    → IsStart groups left n (start_in starts i)
