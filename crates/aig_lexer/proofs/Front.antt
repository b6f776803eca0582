-- What is read at the front of a list of bytes, byte after byte.
use Rattle.std.proofs.Common.{◌≡◌, ℕ, ◌+◌, ◌<◌, List, [], ◌∷◌, ◌++◌, Option, length, take, slice_index_or, ap, ◌∙◌, append_assoc, arith}
use Rattle.std.specs.Char.{IsNotAsciiDigit}
use Rattle.aig_format.specs.Parse.{is_digit}
use Rattle.aig_base.proofs.Words.{false, nat_tests, take_more}
use Rattle.aig_format.proofs.NumberReaders.{OtherThanDigit}

-- one byte more is read, after those before it
pub reads_more : {Y : Type 0} (p q r : List ℕ → Option (Y × List ℕ)) (bytes : List ℕ) (i : ℕ)
    → i < length bytes → ((rest : List ℕ) → p (take i bytes ++ rest) ≡ q rest)
    → ((rest : List ℕ) → q (slice_index_or bytes i 0 ∷ rest) ≡ r rest)
    → (rest : List ℕ) → p (take (i + 1) bytes ++ rest) ≡ r rest
reads_more p q r bytes i inside before next rest =
    let b = slice_index_or bytes i 0 in
    ap (λ (bs : List ℕ). p (bs ++ rest)) (take_more bytes i 0 inside)
    ∙ ap p (append_assoc (take i bytes) (b ∷ []) rest) ∙ before (b ∷ rest) ∙ next rest

-- a byte that std takes for no digit
pub is_other_than_digit : (b : ℕ) → IsNotAsciiDigit b → OtherThanDigit b
is_other_than_digit b h = grind arith

pub no_digit : (b : ℕ) → IsNotAsciiDigit b → is_digit b ≡ false
no_digit b h = grind (arith, nat_tests)
