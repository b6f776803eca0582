-- Serves private clauses alone.
-- Bytes that are read before a word, and in one, and numbers that lie near.
use Rattle.std.specs.Prelude.{◌≡◌, ◌⊎◌, ◌<◌, ◌≤◌, ℕ, Bool, true, false, IfSome, List, [], ◌∷◌, ◌++◌, length, map, take, drop, Option, None, Result, Ok, Err}
use Rattle.aig_lexer.specs.declared.signed.Signed.{Signed}
use Rattle.aig_lexer.specs.SignedNumbers.{IsSigned}
use Rattle.aig_lexer.specs.Takes.{Feed}
use Rattle.aig_refutation.specs.declared.error.RefutationError.{RefutationError}
use Rattle.aig_refutation.specs.declared.error.RefutationError.TheVariants as errors
use Rattle.aig_refutation.specs.Proofs.{ended, groups_at, hints_at}
use Rattle.aig_refutation.specs.Text.{◌>>=◌, is_blank, lines_after, lines_of}
use Rattle.aig_refutation.specs.Tokens.{Leaves, Says, Text, front}

-- the next byte that isn't blank, if there is one
abbrev pub SkipsBlanks : Feed → Feed → Result (Option ℕ) RefutationError → Type 0
SkipsBlanks before after (Ok o) = IfSome o (λ b. is_blank b ≡ false)
    × Leaves before after (λ bytes rest. lines_of bytes ≡ lines_of (front o rest))
SkipsBlanks before after (Err e) = e ≡ errors.Stream

-- the line is passed over, and whether another one follows
abbrev pub EndsLine : Feed → Feed → Result Bool RefutationError → Type 0
EndsLine before after (Ok true) =
    Leaves before after (λ bytes rest. lines_after bytes ≡ lines_of rest)
EndsLine before after (Ok false) = Says before (λ bytes. lines_after bytes ≡ [])
EndsLine before after (Err e) = e ≡ errors.Stream

-- nothing more stands in a line
abbrev pub end_line : Bool → List (List ℕ) → Result (Unit {0} × List (List ℕ)) RefutationError
end_line is_last words = ended words >>= λ end. Ok (tt, [])

-- a number is next in a line that goes on, and so many of the bytes that are held are read as it
pub record IsNear (text : Text) (x : Signed) : Type 0 where
  pub goes_on : text.end ≡ None
  pub some : 0 < x.count
  pub within : x.count ≤ length text.held
  pub reads : IsSigned (take x.count text.held) x.positive x.value x.end

-- a number is next in bytes, without a minus, not 0 and with a space behind it, and these are left
pub record IsNext (bytes : List ℕ) (n : ℕ) (rest : List ℕ) : Type 0 where
  pub count : ℕ
  pub reads : IsSigned (take count bytes) true n 32
  pub some : 0 < n
  pub left : rest ≡ drop count bytes

-- such numbers are next
abbrev pub AreNext : List ℕ → List ℕ → List ℕ → Type 0
AreNext bytes [] rest = rest ≡ bytes
AreNext bytes (n ∷ numbers) rest =
    (mid : List ℕ) × IsNext bytes n mid × AreNext mid numbers rest

-- such numbers are taken of a line that goes on, or none is
pub record TakesNumbers (text rest : Text) (numbers : List ℕ) : Type 0 where
  pub next : AreNext text.held numbers rest.held
  pub same : rest.end ≡ text.end
  pub goes_on : (text.end ≡ None) ⊎ (numbers ≡ [])

-- a number without a minus
abbrev pub unsigned : ℕ → Bool × ℕ
unsigned n = (true, n)

-- the same, behind others of the line
pub record TakesHints (text rest : Text) (numbers : List (Bool × ℕ)) (hints : List ℕ)
    (groups : List (Bool × ℕ)) : Type 0 where
  pub taken : List ℕ
  pub takes : TakesNumbers text rest taken
  pub hints_are : hints_at (numbers ++ map unsigned taken) ≡ hints
  pub groups_are : groups_at (numbers ++ map unsigned taken) ≡ groups
