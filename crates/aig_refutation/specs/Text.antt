-- Part of what is promised.
-- The words of a proof's text, line by line. (The text forms of LRAT and DRAT files.)
use Rattle.std.specs.Prelude.{ℕ, ◌+◌, ◌-◌, ◌*◌, ◌^◌, ◌==◌, ◌||◌, Bool, true, false, nat_le, nat_lt, if◌then◌else◌, List, [], ◌∷◌, Result, Ok, Err}
use Rattle.aig_format.specs.Parse.{is_digit}
use Rattle.aig_refutation.specs.declared.error.RefutationError.{RefutationError}
use Rattle.aig_refutation.specs.declared.error.RefutationError.TheVariants as errors

-- what follows a value, if there is one
infixl 10 ◌>>=◌
abbrev pub ◌>>=◌ : {A B : Type 0} → Result A RefutationError → (A → Result B RefutationError)
    → Result B RefutationError
(Ok x) >>= f = f x
(Err e) >>= f = Err e

-- ---- lines and words

-- a space, a tab or a carriage return
abbrev pub is_blank : ℕ → Bool
is_blank b = (b == 32) || (b == 9) || (b == 13)

-- whether a byte ends a word: a line feed or a blank
abbrev pub ends_word : ℕ → Bool
ends_word b = (b == 10) || is_blank b

-- the word at the front, and the byte that ends it, if there is one
unfoldable pub word_at : List ℕ → List ℕ
word_at [] = []
word_at (b ∷ bs) = b ∷ (if ends_word b then [] else word_at bs)

-- a word in front of others, unless it is empty
abbrev pub in_front : List ℕ → List (List ℕ) → List (List ℕ)
in_front [] words = words
in_front (b ∷ bs) words = if ends_word b then words else (b ∷ bs) ∷ words

-- the words of the first line after the one at the front
unfoldable pub words_after : List ℕ → List (List ℕ)
words_after [] = []
words_after (b ∷ bs) =
    if b == 10 then []
    else if is_blank b then in_front (word_at bs) (words_after bs)
    else words_after bs

-- the words of the first line
unfoldable pub words_of : List ℕ → List (List ℕ)
words_of bytes = in_front (word_at bytes) (words_after bytes)

-- the words of the lines after the first
unfoldable pub lines_after : List ℕ → List (List (List ℕ))
lines_after [] = []
lines_after (b ∷ bs) = if b == 10 then words_of bs ∷ lines_after bs else lines_after bs

-- the words of each line; what follows the last line feed is the last line
abbrev pub lines_of : List ℕ → List (List (List ℕ))
lines_of bytes = words_of bytes ∷ lines_after bytes

-- whether a word begins with this letter
abbrev pub begins : ℕ → List ℕ → Bool
begins letter [] = false
begins letter (b ∷ bs) = b == letter

-- ---- what words are

-- a word: a number, which may have a minus in front, or the letter `d`
pub data Word : Type 0 where
  Number : (positive : Bool) → (value : ℕ) → Word
  Deletes : Word

-- why a byte is refused that stands where no step has it: a text has no such byte at all, or the
-- line is no step
abbrev pub fault : ℕ → RefutationError
fault b =
    if nat_le b 8 then errors.Binary
    else if nat_le b 13 then errors.Line
    else if nat_le b 31 then errors.Binary
    else if nat_le 127 b then errors.Binary
    else errors.Line

-- the number of digits after others, which is below 2^32
unfoldable pub digits_after : ℕ → List ℕ → Result ℕ RefutationError
digits_after value [] = Ok value
digits_after value (b ∷ bs) =
    if is_digit b
    then (if nat_lt (10 * value + (b - 48)) (2 ^ 32) then digits_after (10 * value + (b - 48)) bs
    else Err errors.Line)
    else if ends_word b then Ok value
    else Err (fault b)

-- the number of a word of one digit or more
unfoldable pub number_in : List ℕ → Result ℕ RefutationError
number_in [] = Err errors.Unfinished
number_in (b ∷ bs) = if is_digit b then digits_after (b - 48) bs else Err (fault b)

-- a number without a minus, or with one
abbrev pub signed : Bool → Result ℕ RefutationError → Result Word RefutationError
signed positive number = number >>= λ value. Ok (Number positive value)

-- what a word is that begins with `d`, by what follows it
unfoldable pub letter_before : List ℕ → Result Word RefutationError
letter_before [] = Ok Deletes
letter_before (b ∷ bs) = if ends_word b then Ok Deletes else Err (fault b)

-- what a word is
unfoldable pub word_in : List ℕ → Result Word RefutationError
word_in [] = Err errors.Line
word_in (b ∷ bs) =
    if b == 100 then letter_before bs
    else if b == 45 then signed false (number_in bs)
    else signed true (number_in (b ∷ bs))
