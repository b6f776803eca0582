-- Serves private clauses alone.
-- Numbers that may have a minus in front, at the front of bytes.
use Rattle.std.specs.Prelude.{◌≡◌, ℕ, ◌-◌, ◌==◌, Bool, true, false, if◌then◌else◌, List, [], ◌∷◌, ◌++◌, Some}
use Rattle.aig_format.specs.Parse.{is_digit}
use Rattle.aig_lexer.specs.Digits.{number_after}

-- how many bytes the minus in front takes, if there is one
abbrev pub minus_at : List ℕ → ℕ
minus_at [] = 0
minus_at (b ∷ bs) = if b == 45 then 1 else 0

-- bytes without a minus in front, or with one
abbrev pub signed_by : Bool → List ℕ → List ℕ
signed_by true bytes = bytes
signed_by false bytes = 45 ∷ bytes

-- these bytes are a number, which may have a minus in front, and the byte that ends it
pub record IsSigned (bytes : List ℕ) (positive : Bool) (number end : ℕ) : Type 0 where
  pub first : ℕ
  pub digits : List ℕ
  pub whole : bytes ≡ signed_by positive (first ∷ digits ++ end ∷ [])
  pub digit : is_digit first ≡ true
  pub is : number_after (first - 48) digits ≡ Some number
  pub other : is_digit end ≡ false
