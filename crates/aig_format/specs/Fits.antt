-- Part of what is promised.
-- What the numbers of a file must be: each rule is a test, which is true of what is accepted.
-- (AIGER format 20071012: "Header", "Input/Latch/Output/And section", "Symbol table"; AIGER 1.9:
-- "Reset logic".)
use Rattle.std.specs.Prelude.{ℕ, ◌+◌, ◌*◌, ◌/◌, ◌%◌, ◌<◌, ◌≤◌, Bool, true, not, ◌&&◌, ◌||◌, ◌==◌, nat_le, nat_lt, nat_eq, IsTrue, List, Option, Some, None}
use Rattle.std.specs.List.{AllByRecursion, IsDistinct, list_all}
use Rattle.std.specs.Str.{is_utf8}
use Rattle.aig_format.specs.Text.{◌then◌}
use Rattle.aig_format.specs.declared.FileKind.{FileKind}
use Rattle.aig_format.specs.declared.FileKind.TheVariants.{Text, Binary}
use Rattle.aig_format.specs.File.{LatchLine, NameLine, File, HeaderNumbers, defined, header_of, used}
use Rattle.aig_format.specs.Variables.{is_known}
use Rattle.aig_format.specs.Levels.{has_level}
use Rattle.aig_format.specs.Numbering.{is_compact}
use Rattle.aig_format.specs.Letters.{count_of, is_kept}
use Rattle.aig_format.specs.Spells.{IsHeader, Spells}

-- ---- the header (AIGER format 20071012: "Header")

-- how many variables a header defines: I + L + A
abbrev pub count_defined : HeaderNumbers → ℕ
count_defined numbers = numbers.inputs + numbers.latches + numbers.gates

-- a text file may leave variables out, so M >= I + L + A; in a binary file M = I + L + A
abbrev pub has_enough : FileKind → HeaderNumbers → Bool
has_enough Text numbers = nat_le (count_defined numbers) numbers.greatest
has_enough Binary numbers = numbers.greatest == count_defined numbers

-- ---- a line (AIGER format 20071012: "Input/Latch/Output/And section", "Symbol table"; AIGER 1.9:
-- "Reset logic")

-- an even literal of a variable from 1 to the greatest
abbrev pub is_definable : ℕ → ℕ → Bool
is_definable greatest e = e % 2 == 0 && nat_le 2 e && nat_le e (2 * greatest)

-- the literal may be defined
abbrev pub IsDefinable : ℕ → ℕ → Type 0
IsDefinable greatest e = IsTrue (is_definable greatest e)

-- a literal of a variable from 0 to the greatest
abbrev pub is_literal : ℕ → ℕ → Bool
is_literal greatest e = nat_le e (2 * greatest + 1)

-- no reset, or 0, 1 or the latch's own literal
abbrev pub is_reset : ℕ → Option ℕ → Bool
is_reset own None = true
is_reset own (Some r) = nat_le r 1 || (r == own)

-- a latch's reset is one
abbrev pub has_reset : LatchLine → Bool
has_reset l = is_reset l.literal l.reset

-- the name stands below its section's count; names of inputs and latches are UTF-8
abbrev pub is_name : HeaderNumbers → NameLine → Bool
is_name numbers n =
    nat_lt n.position (count_of numbers n.letter) && (not (is_kept n.letter) || is_utf8 n.name)

-- whether two names are for one letter and position
abbrev pub same_place : NameLine → NameLine → Bool
same_place a b = (a.letter == b.letter) && (a.position == b.position)

-- ---- the order of variables and gates (AIGER format 20071012: "Input/Latch/Output/And section",
-- "Binary encoding"; that a text file may have gaps: docs/FORMAT.md)

-- what is used is 0 or defined
abbrev pub uses_known : File → Bool
uses_known f = list_all (λ e. is_known f (e / 2)) (used f)

-- a well-founded file: variables may be missing and gates stand in any order, but what is used is 0
-- or defined, and no gate depends on itself
abbrev pub is_well_founded : File → Bool
is_well_founded f = uses_known f && list_all (has_level f) f.gates

-- a text file is compact or well-founded; a binary file is compact
abbrev pub is_accepted_order : FileKind → File → Bool
is_accepted_order Text f = is_compact f || is_well_founded f
is_accepted_order Binary f = is_compact f

-- ---- the file

-- each passes the test
abbrev pub AllPass : {A : Type 0} → (A → Bool) → List A → Type 0
AllPass test xs = AllByRecursion (λ x. IsTrue (test x)) xs

-- the numbers and names of a file allow its reading within the limit
pub record Fits (f : File) (limit : ℕ) : Type 0 where
  pub within : f.greatest + 1 ≤ limit
  pub enough : IsTrue (has_enough f.kind (header_of f))
  pub definable : AllPass (is_definable f.greatest) (defined f)
  pub distinct : IsDistinct nat_eq (defined f)
  pub in_range : AllPass (is_literal f.greatest) (used f)
  pub resets : AllPass has_reset f.latches
  pub order : IsTrue (is_accepted_order f.kind f)
  pub named : AllPass (is_name (header_of f)) f.names
  pub once : IsDistinct same_place f.names

-- the header line is good: it stands at the front of the bytes, and its greatest variable is great
-- enough for all that are defined
pub record HasGoodHeader (bytes : List ℕ) (kind : FileKind) (numbers : HeaderNumbers) : Type 0 where
  pub line : (IsHeader kind numbers then λ _. Unit {0}) bytes
  pub enough : IsTrue (has_enough kind numbers)

-- the header line is good, and M + 1 passes the limit
abbrev pub TooMany : List ℕ → ℕ → Type 0
TooMany bytes limit =
    (kind : FileKind) × (numbers : HeaderNumbers) × HasGoodHeader bytes kind numbers
    × (limit < numbers.greatest + 1)

-- the bytes are accepted, and are this file
abbrev pub Accepts : List ℕ → ℕ → File → Type 0
Accepts bytes limit f = Spells f bytes × Fits f limit
