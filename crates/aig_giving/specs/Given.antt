-- Part of what is promised.
-- Items that are put into the caller's memory.
use Rattle.std.specs.Prelude.{◌≡◌, ℕ, ◌<◌, ◌++◌, ◌⊎◌, List, length, drop, Result, Ok, Err, Vec}
use Rattle.std.specs.declared.alloc.Global.{Global}
use Rattle.aig_giving.specs.declared.status.TheConstants.{DONE, SMALL}

-- Where the items fit, they are at the front of the caller's memory, and what follows stays. Else
-- all of it stays. Either way their count is told.
pub record IsGiven {X : Type 0} (status : ℕ) (items old new : List X) (needed : ℕ) : Type 0 where
  pub count : needed ≡ length items
  pub whole : status ≡ DONE → new ≡ items ++ drop (length items) old
  pub short : status ≡ SMALL → (length old < length items) × (new ≡ old)
  pub only : status < 2

-- the items that were made are given; or the status is that of the refusal, and all stays
abbrev pub GivesMade : {X : Type 0} → Result (Vec X Global) ℕ → ℕ → List X → List X → ℕ → ℕ
    → Type 0
GivesMade (Ok items) status old new before needed = IsGiven status items.items old new needed
GivesMade (Err refusal) status old new before needed =
    (status ≡ refusal) × (new ≡ old) × (needed ≡ before)

-- such items are given
pub record GivesSuch {X : Type 0} (Are : List X → Type 0) (status : ℕ) (old new : List X)
    (needed : ℕ) : Type 0 where
  pub items : List X
  pub are : Are items
  pub given : IsGiven status items old new needed

-- such items are given; or nothing is, and the status is that of a refusal
abbrev pub GivesOr : {X : Type 0} → (List X → Type 0) → ℕ → List X → List X → ℕ → ℕ → Type 0
    → Type 0
GivesOr Are status old new before needed Refused =
    GivesSuch Are status old new needed ⊎ ((new ≡ old) × (needed ≡ before) × Refused)
