-- Part of what is promised.
-- The number that digits are, and what a call takes of its digits.
use Rattle.std.specs.Prelude.{◌≡◌, ℕ, ◌+◌, ◌-◌, ◌*◌, ◌^◌, ◌&&◌, ◌≤◌, nat_lt, true, false, if◌then◌else◌, List, [], ◌∷◌, ◌++◌, Option, Some, None, IfSome, Result, Ok, Err}
use Rattle.aig_format.specs.Parse.{is_digit}
use Rattle.aig_lexer.specs.declared.error.LexError.{LexError}
use Rattle.aig_lexer.specs.Faults.{Tells, word_cause}
use Rattle.aig_lexer.specs.Takes.{Advances, Ends, Feed}

-- the number of digits after others, if it is below 2^32
unfoldable pub number_after : ℕ → List ℕ → Option ℕ
number_after value [] = Some value
number_after value (b ∷ bs) =
    if is_digit b && nat_lt (10 * value + (b - 48)) (2 ^ 32)
    then number_after (10 * value + (b - 48)) bs
    else None

-- these bytes came, and then this one, or none is left
abbrev pub StepsAfter : Feed → Feed → List ℕ → Option ℕ → Type 0
StepsAfter before after bytes (Some byte) = Advances before after (bytes ++ byte ∷ [])
StepsAfter before after bytes None = Ends before after bytes

-- the digits of this number came that follow its first, and then a byte that is none, or the end
pub record TakesDigits (first : ℕ) (before after : Feed) (number : ℕ) (end : Option ℕ)
    : Type 0 where
  pub digits : List ℕ
  pub is : number_after first digits ≡ Some number
  pub other : IfSome end (λ b. is_digit b ≡ false)
  pub came : StepsAfter before after digits end

-- digits came that follow the first, and one more, with which the number isn't below 2^32
pub record TakesTooMany (first : ℕ) (before after : Feed) : Type 0 where
  pub digits : List ℕ
  pub number : ℕ
  pub is : number_after first digits ≡ Some number
  pub last : ℕ
  pub digit : is_digit last ≡ true
  pub large : 2 ^ 32 ≤ 10 * number + (last - 48)
  pub came : Advances before after (digits ++ last ∷ [])

-- the rest of a number, and the byte after it, if there is one, or an error that tells that the
-- number is too large
abbrev pub GivesDigits : ℕ → Feed → Feed → Result (ℕ × Option ℕ) LexError → Type 0
GivesDigits first before after (Ok x) = TakesDigits first before after x.0 x.1
GivesDigits first before after (Err e) =
    Tells (word_cause e) (TakesTooMany first before after) after.failed
