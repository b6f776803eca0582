-- Part of what is promised.
-- Which bytes came of a source.
use Rattle.std.specs.Prelude.{◌≡◌, ℕ, ◌+◌, ◌^◌, ◌≤◌, ◌⊎◌, Bool, false, List, length, take, drop, Option, Some, IfSome}
use Rattle.std.specs.Option.{ForNone, ForSome}
use Rattle.aig_command_line.specs.Counts.{IsTally, place_of}
use Rattle.aig_command_line.specs.declared.tally.Measure.{Measure}
use Rattle.aig_command_line.specs.declared.tally.Place.{Place}
use Rattle.aig_command_line.specs.declared.tally.Place.TheVariants.{Whole}
use Rattle.aig_command_line.specs.declared.tally.Tally.{Tally}

-- Where the bytes are known that there were at the start, the counts are of as many of these, from
-- the first on, and the others are left, where no read failed.
pub record Came (start left : Option (List ℕ)) (failed : Bool) (t : Tally) : Type 0 where
  pub counts : (bytes : List ℕ) → start ≡ Some bytes → IsTally t (take t.bytes bytes)
  pub now : (bytes : List ℕ) → start ≡ Some bytes → failed ≡ false
      → left ≡ Some (drop t.bytes bytes)

-- Of these bytes some came, from the first on: the counts are of those before the last piece, and
-- the others are left, where no read failed.
pub record ComesIn (bytes : List ℕ) (left : Option (List ℕ)) (failed : Bool) (t : Tally)
    (piece : List ℕ) : Type 0 where
  pub counts : IsTally t (take t.bytes bytes)
  pub last : take (length piece) (drop t.bytes bytes) ≡ piece
  pub now : failed ≡ false → left ≡ Some (drop (t.bytes + length piece) bytes)

-- Where the bytes are known that there were at the start, it is so of them, unless there are too
-- many to be counted.
pub record Follows (start left : Option (List ℕ)) (failed : Bool) (before : Option Tally)
    (piece : List ℕ) : Type 0 where
  pub counted : (bytes : List ℕ) → start ≡ Some bytes
      → ForSome before (λ t. ComesIn bytes left failed t piece)
  pub many : (bytes : List ℕ) → start ≡ Some bytes → ForNone before (2 ^ 64 ≤ length bytes)

-- where the bytes are known, it is the place of the last of some of them, from the first on
abbrev pub IsPlaceIn : Option (List ℕ) → Measure → Place → Type 0
IsPlaceIn known measure place = IfSome known
    (λ bytes. (n : ℕ) × (n ≤ length bytes) × (place ≡ place_of measure (take n bytes)))

-- Of these bytes some were taken, from the first on, and it is the place of the last of them. Some
-- more came, at most as many as a piece has, and the others are left, where no read failed.
pub record StopsIn (bytes : List ℕ) (left : Option (List ℕ)) (failed : Bool) (measure : Measure)
    (place : Place) : Type 0 where
  pub taken : ℕ
  pub came : ℕ
  pub within : came ≤ length bytes
  pub first : taken ≤ came
  pub near : came ≤ taken + 2 ^ 14
  pub rest : failed ≡ false → left ≡ Some (drop came bytes)
  pub at : place ≡ place_of measure (take taken bytes)

-- where the bytes are known, it is such a place, or the file as a whole where there are too many to
-- be counted
abbrev pub IsPlaceOf : Option (List ℕ) → Option (List ℕ) → Bool → Measure → Place → Type 0
IsPlaceOf known left failed measure place = IfSome known
    (λ bytes. StopsIn bytes left failed measure place ⊎ ((place ≡ Whole) × (2 ^ 64 ≤ length bytes)))
