-- Serves private clauses alone.
-- The variables that are defined so far, and what a test of a literal returns.
use Rattle.std.specs.Prelude.{◌≡◌, ◌≢◌, ℕ, ◌+◌, ◌*◌, ◌/◌, ◌^◌, ◌<◌, ◌≤◌, ◌==◌, Bool, true, false, List, length, nat_le}
use Rattle.std.specs.List.{AllByRecursion, list_any}
use Rattle.aig_format.specs.Fits.{IsDefinable}
use Rattle.aig_format.specs.declared.FileKind.{FileKind}
use Rattle.aig_format.specs.declared.FileKind.TheVariants.{Text, Binary}
use Rattle.aig_ordering.specs.Bits.{bit_is_set}
use Rattle.aig_reader.specs.declared.variables.Marks.{Marks}
use Rattle.aig_reader.specs.declared.variables.DefinedVariables.{DefinedVariables}
use Rattle.aig_reader.specs.declared.variables.DefinedVariables.TheVariants as kinds

-- these literals may be defined, and the marks of the variables up to the greatest tell which of
-- them they define
pub record AreMarks (greatest : ℕ) (marks : Marks) (literals : List ℕ) : Type 0 where
  pub top : marks.greatest ≡ greatest
  pub definable : AllByRecursion (IsDefinable greatest) literals
  pub marked : (v : ℕ) → v ≤ greatest
      → bit_is_set marks.marked.items v ≡ list_any (λ e. e == 2 * v) literals

-- there are so many even literals, and no variable of theirs is above the count
pub record AreCounted (count : ℕ) (literals : List ℕ) : Type 0 where
  pub all : length literals ≡ count
  pub below : AllByRecursion (IsDefinable count) literals

-- these literals are defined in a file of this kind; in a binary file their count tells which they
-- are
abbrev pub AreDefined : FileKind → ℕ → DefinedVariables → List ℕ → Type 0
AreDefined kind greatest (kinds.Text marks) literals =
    (kind ≡ Text) × AreMarks greatest marks literals
AreDefined kind greatest (kinds.Binary count) literals = (kind ≡ Binary) × AreCounted count literals

-- whether this variable, which is not 0, is defined
abbrev pub is_marked : DefinedVariables → ℕ → Bool
is_marked (kinds.Text marks) v = bit_is_set marks.marked.items v
is_marked (kinds.Binary count) v = nat_le v count

-- whether each variable from one to below another, of which none is 0, is defined
abbrev pub TellsDefined : DefinedVariables → ℕ → ℕ → Bool → Type 0
TellsDefined variables from to true = (v : ℕ) → from ≤ v → v < to → is_marked variables v ≡ true
TellsDefined variables from to false =
    (v : ℕ) × (from ≤ v) × (v < to) × (is_marked variables v ≡ false)

-- in a binary file the literal of the next variable is a number of 32 bits
abbrev pub HasNext : DefinedVariables → Type 0
HasNext (kinds.Text marks) = Unit {0}
HasNext (kinds.Binary count) = count + 1 < 2 ^ 31

-- in a binary file the literal is that of the next variable
abbrev pub IsNext : DefinedVariables → ℕ → Type 0
IsNext (kinds.Text marks) e = Unit {0}
IsNext (kinds.Binary count) e = e ≡ 2 * (count + 1)

-- the literal's variable is that of none of these literals
abbrev pub IsNewAmong : List ℕ → ℕ → Type 0
IsNewAmong before e = AllByRecursion (λ d. d / 2 ≢ e / 2) before
