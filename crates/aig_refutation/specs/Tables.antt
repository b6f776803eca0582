-- Serves private clauses alone.
-- The table of numbers by which clauses are found, beside the clauses that are there.
use Rattle.std.specs.Prelude.{◌≡◌, ◌⊎◌, ℕ, ◌+◌, ◌-◌, ◌^◌, ◌<◌, ◌≤◌, ◌==◌, max, min, Bool, true, false, not, nat_lt, if◌then◌else◌, List, [], length, slice_get, slice_index_or, is_some, map, Option, Some, None, option_map, Result, Ok, Err}
use Rattle.std.specs.List.{AllByRecursion, list_all}
use Rattle.aig_base.specs.declared.logic.literal.Lit.{Lit}
use Rattle.aig_refutation.specs.declared.error.RefutationError.{RefutationError}
use Rattle.aig_refutation.specs.declared.error.RefutationError.TheVariants as errors
use Rattle.aig_refutation.specs.Checking.{Live, all_live, are_in, clause_at, is_used}
use Rattle.aig_refutation.specs.Propagation.{reading_of}
use Rattle.aig_refutation.specs.Rat.{is_apart}
use Rattle.aig_refutation.specs.Tokens.{TellsOfText}

-- clauses by their places, the number of each place, for each number one more than its clause's
-- place, or 0 where it was never used, and how many were added
pub record Table : Type 0 where
  pub clauses : List (List Lit)
  pub numbers : List ℕ
  pub places : List ℕ
  pub added : ℕ

-- the clauses of so many variables
pub record Checked : Type 0 where
  pub table : Table
  pub variables : ℕ

-- the entry of a number
abbrev pub entry_at : List ℕ → ℕ → ℕ
entry_at places n = slice_index_or places n 0

-- the place of an entry among so many clauses
abbrev pub place_by : ℕ → ℕ → Option ℕ
place_by count entry =
    if entry == 0 then None else if nat_lt (entry - 1) count then Some (entry - 1) else None

-- the place of a number's clause
abbrev pub place_in : Table → ℕ → Option ℕ
place_in t n = place_by (length t.clauses) (entry_at t.places n)

-- the clause of an entry
abbrev pub clause_by : List (List Lit) → ℕ → Option (List Lit)
clause_by clauses entry = if entry == 0 then None else slice_get clauses (entry - 1)

-- the clause of a number
abbrev pub clause_in : Table → ℕ → Option (List Lit)
clause_in t n = clause_by t.clauses (entry_at t.places n)

-- the number that names the clause at a place, if one does
abbrev pub name_in : Table → ℕ → Option ℕ
name_in t i =
    if entry_at t.places (slice_index_or t.numbers i 0) == i + 1
    then Some (slice_index_or t.numbers i 0) else None

-- the clause at a place, and the number that names it
abbrev pub entry_in : Table → ℕ → Option (ℕ × List Lit)
entry_in t i = option_map (λ n. (n, slice_index_or t.clauses i [])) (name_in t i)

-- the places of the clauses of numbers
abbrev pub places_of : Table → List ℕ → List ℕ
places_of t numbers = map (λ n. entry_at t.places n - 1) numbers

-- a clause with its number, if it is there, keeps out of the way of the pivot
abbrev pub is_apart_if : (ℕ → Option (List Lit)) → Lit → List Lit → List ℕ → List (Bool × ℕ)
    → Option (ℕ × List Lit) → Bool
is_apart_if clause_of pivot clause hints groups None = true
is_apart_if clause_of pivot clause hints groups (Some entry) =
    is_apart clause_of pivot clause hints groups entry

-- clauses that say the same wherever literals are true
abbrev pub SaysSame : Option (List Lit) → Option (List Lit) → Type 0
SaysSame None None = Unit {0}
SaysSame (Some a) (Some b) = (holds : Lit → Bool) → reading_of holds a ≡ reading_of holds b
SaysSame a b = ⊥

-- the entry of a number is that of a clause, or none
abbrev pub IsEntry : ℕ → ℕ → Type 0
IsEntry count entry = (entry ≤ count) ⊎ (entry ≡ 2 ^ 32 - 1)

-- the entries are those of the clauses by their numbers
pub record IsNumbering (clauses : List (List Lit)) (numbers places : List ℕ) : Type 0 where
  pub few : length clauses < 2 ^ 32 - 1
  pub within : (n : ℕ) → IsEntry (length clauses) (entry_at places n)
  pub named : (n i : ℕ) → entry_at places n ≡ i + 1 → i < length clauses
      → slice_index_or numbers i 0 ≡ n

pub record IsTable (t : Table) : Type 0 where
  pub count : length t.numbers ≡ length t.clauses
  pub numbering : IsNumbering t.clauses t.numbers t.places

-- the table has these clauses under these numbers
pub record Holds (t : Table) (live : Live) : Type 0 where
  pub table : IsTable t
  pub there : (n : ℕ) → SaysSame (clause_in t n) (clause_at live n)
  pub own : AllByRecursion (λ entry. clause_at live entry.0 ≡ Some entry.1) live.clauses
  pub used : (n : ℕ) → is_used live n ≡ not (entry_at t.places n == 0)
  pub added : t.added ≡ min (length live.used) (2 ^ 64 - 1)

-- the table has the clauses that are said to be there, or this is why there are none
abbrev pub HoldsNext : {X : Type 0} → Table → Result X RefutationError
    → Result Live RefutationError → Type 0
HoldsNext new (Ok x) said = (next : Live) × (said ≡ Ok next) × Holds new next
HoldsNext new (Err e) said = TellsOfText e (said ≡ Err e)

-- no error but that memory ran out
abbrev pub OnlyMemory : {X : Type 0} → Result X RefutationError → Type 0
OnlyMemory (Ok x) = Unit {0}
OnlyMemory (Err e) = TellsOfText e ⊥

-- each number of the formula's clauses is the one after the last
pub record IsInRow (t : Table) : Type 0 where
  pub all : t.added ≡ length t.clauses
  pub next : max (length t.places) 1 ≡ t.added + 1

-- the clauses of the first places were moved together, and their numbers name them there
pub record IsMovedUpTo (i : ℕ) (clauses : List (List Lit)) (before : List ℕ) (live : List (List
    Lit))
    (numbers now : List ℕ) : Type 0 where
  pub count : length numbers ≡ length live
  pub most : length live ≤ i
  pub above : (n : ℕ) → 0 < entry_at before n → entry_at before n ≤ i → 0 < entry_at now n
  pub below : (n : ℕ) → 0 < entry_at before n → entry_at before n ≤ i → entry_at now n ≤ length live
  pub same : (n : ℕ) → 0 < entry_at before n → entry_at before n ≤ i
      → slice_get live (entry_at now n - 1) ≡ slice_get clauses (entry_at before n - 1)
  pub named : (n : ℕ) → 0 < entry_at before n → entry_at before n ≤ i
      → slice_index_or numbers (entry_at now n - 1) 0 ≡ n
  pub unused : (n : ℕ) → entry_at before n ≡ 0 → entry_at now n ≡ 0
  pub kept : (n : ℕ) → i < entry_at before n → entry_at now n ≡ entry_at before n

-- so were all
abbrev pub IsMoved : List (List Lit) → List ℕ → List (List Lit) → List ℕ → List ℕ → Type 0
IsMoved clauses before live numbers now = IsMovedUpTo (length clauses) clauses before live numbers
    now

-- the places of the clauses that hints name are found, or one names none
abbrev pub FindsHints : {E : Type 0} → Table → List ℕ → List ℕ → Result Bool E → Type 0
FindsHints t hints places (Ok true) = (places ≡ places_of t hints)
    × (list_all (λ h. is_some (place_in t h)) hints ≡ true)
FindsHints t hints places (Ok false) = list_all (λ h. is_some (place_in t h)) hints ≡ false
FindsHints t hints places (Err e) = Unit {0}

-- the table has the clauses of a formula, numbered from 1 on
pub record HoldsFormula (t : Table) : Type 0 where
  pub holds : Holds t (all_live t.clauses)
  pub row : IsInRow t

-- a clause of a formula is refused, where a literal has no variable
abbrev pub RefusesClause : ℕ → List Lit → Result (Unit {0}) RefutationError → Type 0
RefusesClause variables clause (Ok done) = are_in variables clause ≡ true
RefusesClause variables clause (Err e) =
    TellsOfText e ((e ≡ errors.Variable) × (are_in variables clause ≡ false))
