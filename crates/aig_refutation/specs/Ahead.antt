-- Serves private clauses alone.
-- The clauses that are there, beside those that steps without numbers leave.
use Rattle.std.specs.Prelude.{◌≡◌, ℕ, zero, suc, ◌+◌, ◌<◌, ◌≤◌, Bool, true, false, if◌then◌else◌, List, [], ◌∷◌, length, Option, Some, None, Result, Ok, Err}
use Rattle.aig_base.specs.declared.logic.literal.Lit.{Lit}
use Rattle.aig_refutation.specs.declared.error.RefutationError.{RefutationError}
use Rattle.aig_refutation.specs.declared.error.RefutationError.TheVariants as errors
use Rattle.aig_refutation.specs.Checking.{Live, clause_at, is_used}
use Rattle.aig_refutation.specs.Steps.{Drops, Follows, Learns, PlainStep, are_same, dropped, is_empty}
use Rattle.aig_refutation.specs.Tables.{Holds, Table}
use Rattle.aig_refutation.specs.Tokens.{TellsOfText}

-- how many clauses have the same literals as this one
abbrev pub copies : List Lit → List (List Lit) → ℕ
copies clause [] = 0
copies clause (other ∷ clauses) = copies clause clauses + (if are_same clause other then 1 else 0)

-- how many numbers below an end pass a test
abbrev pub amount : (ℕ → Bool) → ℕ → ℕ
amount test zero = 0
amount test (suc n) = amount test n + (if test n then 1 else 0)

-- whether a number names a clause of the same literals as this one
abbrev pub is_same_if : List Lit → Option (List Lit) → Bool
is_same_if clause None = false
is_same_if clause (Some other) = are_same clause other

abbrev pub names : Live → List Lit → ℕ → Bool
names live clause n = is_same_if clause (clause_at live n)

-- each number that was used is at most the count of those that were
abbrev pub IsRow : Live → Type 0
IsRow live = (n : ℕ) → length live.used < n → is_used live n ≡ false

-- of each clause at least as many are there as of this count
abbrev pub IsEnough : (List Lit → ℕ) → Live → Type 0
IsEnough count live =
    (clause : List Lit) → count clause ≤ amount (names live clause) (suc (length live.used))

-- the table has at least these clauses, and the numbers from 1 on were used, one after another
pub record IsAhead (clauses : List (List Lit)) (t : Table) : Type 0 where
  pub live : Live
  pub holds : Holds t live
  pub row : IsRow live
  pub enough : IsEnough (λ clause. copies clause clauses) live

-- so it is after a step, unless memory ran out
abbrev pub StaysAhead : {X : Type 0} → List (List Lit) → Table → Result X RefutationError → Type 0
StaysAhead clauses new (Ok x) = IsAhead clauses new
StaysAhead clauses new (Err e) = TellsOfText e ⊥

-- a clause is added, or not
abbrev pub AddsAhead : List (List Lit) → List Lit → Table → Result (Option ℕ) RefutationError
    → Type 0
AddsAhead clauses clause new (Ok (Some n)) = IsAhead (clause ∷ clauses) new
AddsAhead clauses clause new (Ok None) = IsAhead clauses new
AddsAhead clauses clause new (Err e) = TellsOfText e ⊥

-- A clause is added, and the proof goes on, which isn't the case after the empty clause. Or it
-- isn't added, since it doesn't follow.
abbrev pub LearnsAhead : List (List Lit) → List Lit → Table → Result Bool RefutationError → Type 0
LearnsAhead clauses clause new (Ok true) = Unit {0}
LearnsAhead clauses clause new (Ok false) =
    IsAhead (clause ∷ clauses) new × (is_empty clause ≡ false)
LearnsAhead clauses clause new (Err e) =
    TellsOfText e ((e ≡ errors.Step) × (Follows clauses clause → ⊥))

-- the same of a step
abbrev pub TakesPlain : List (List Lit) → PlainStep → Table → Result Bool RefutationError → Type 0
TakesPlain clauses (Learns clause) new result = LearnsAhead clauses clause new result
TakesPlain clauses (Drops clause) new result = StaysAhead (dropped clause clauses) new result
