-- Part of what is promised.
-- Counts of bytes that came, and the place of the last of them.
use Rattle.std.specs.List.{list_any}
use Rattle.std.specs.Prelude.{◌≡◌, ◌==◌, ◌&&◌, ◌||◌, ℕ, ◌+◌, ◌-◌, ◌^◌, ◌≤◌, Bool, true, false, if◌then◌else◌, List, ◌++◌, length, take, get_or, count_by, Option, Some, None}
use Rattle.aig_command_line.specs.declared.tally.Measure.{Measure}
use Rattle.aig_command_line.specs.declared.tally.Measure.TheVariants as measures
use Rattle.aig_command_line.specs.declared.tally.Place.{Place}
use Rattle.aig_command_line.specs.declared.tally.Place.TheVariants as places
use Rattle.aig_command_line.specs.declared.tally.Tally.{Tally}

-- how many line feeds there are
abbrev pub feeds_in : List ℕ → ℕ
feeds_in bytes = count_by (λ b. b == 10) bytes

-- the line of the last byte: one more than there are line feeds before it
abbrev pub line_of : List ℕ → ℕ
line_of came = 1 + feeds_in (take (length came - 1) came)

-- how many bytes at the front tell whether a proof that begins with `d` is binary
abbrev pub telling : ℕ
telling = 1024

-- whether a byte 0 is among them
abbrev pub has_zero : List ℕ → Bool
has_zero came = list_any (λ b. b == 0) (take telling came)

-- Places are told by bytes in a binary AIGER file, whose second byte is `i`, and in a binary proof:
-- it begins with `a`, with the `l` of the word `lrat`, or with `d` and a byte 0 is among the first.
abbrev pub is_by_bytes : Measure → List ℕ → Bool
is_by_bytes measures.Line came = false
is_by_bytes measures.Byte came = true
is_by_bytes measures.Aiger came = get_or came 1 0 == 105
is_by_bytes measures.Proof came =
    get_or came 0 0 == 97 || get_or came 0 0 == 108 || get_or came 0 0 == 100 && has_zero came

-- the place of the last byte
abbrev pub place_of : Measure → List ℕ → Place
place_of measure came =
    if is_by_bytes measure came then places.Byte (length came) else places.Line (line_of came)

-- the counts are those of these bytes
pub record IsTally (t : Tally) (came : List ℕ) : Type 0 where
  pub bytes : t.bytes ≡ length came
  pub feeds : t.feeds ≡ feeds_in came
  pub line : t.line ≡ line_of came
  pub first : t.first ≡ get_or came 0 0
  pub second : t.second ≡ get_or came 1 0
  pub zero : t.has_zero ≡ has_zero came

-- the counts with the bytes of a piece, unless there were none, or there are too many bytes
abbrev pub CountsWith : Option Tally → List ℕ → Option Tally → Type 0
CountsWith None piece made = made ≡ None
CountsWith (Some t) piece (Some made) =
    (came : List ℕ) → IsTally t came → IsTally made (came ++ piece)
CountsWith (Some t) piece None = 2 ^ 64 ≤ t.bytes + length piece
