-- The header line, with its tests.
use Rattle.std.proofs.Common.{◌≡◌, ◌∙◌, ℕ, ◌+◌, ◌≤◌, Bool, true, false, cond, List, [], ◌++◌, Option, Some, None, Err, IfSome, ap, subst, ltb, leb, refl}
use Rattle.std.specs.Prelude.{◌&&◌}
use Rattle.aig_base.proofs.Words.{and_parts, leb-true, le-ltb, IfSome_then, same_Some}
use Rattle.aig_format.specs.declared.FileKind.{FileKind}
use Rattle.aig_format.proofs.Words.{HeaderNumbers, has_enough, ◌>>=◌, parse_header, too_many_at, too_many_of}
use Rattle.aig_format.specs.ParseTested.{fits_header, parse_fitting_header}
use Rattle.aig_format.proofs.NumberReaders.{bind_some}
use Rattle.aig_lexer.specs.declared.error.LexError.{LexError}
use Rattle.aig_lexer.specs.declared.error.LexError.TheVariants.{Stream, Shape}
use Rattle.aig_lexer.specs.Faults.{Tells, word_cause}
use Rattle.aig_lexer.specs.Takes.{Feed, Misses, Takes}
use Rattle.aig_lexer.proofs.Going.{known_after}
use Rattle.aig_reader.specs.Errors.{header_error_of}
use Rattle.aig_reader.specs.Headers.{HasNoHeader, ReadsHeader}

-- a header, and what stands after it
abbrev Read : Type 0
Read = (FileKind × HeaderNumbers) × List ℕ

abbrev passes : ℕ → Read → Option Read
passes limit x = cond (fits_header limit x.0) (Some x) None

-- a header line that isn't read
pub unread_header : (limit : ℕ) (before after : Feed) (fault : LexError)
    → Tells (word_cause fault) (Misses parse_header before) after.failed
    → ReadsHeader limit before after (Err (header_error_of fault))
unread_header limit before after Stream h = h
unread_header limit before after Shape h = IfSome_then before.coming h (λ bytes none. (ap (λ (o : Option Read). o >>= passes limit) none, ap (too_many_of limit) none))

-- one that is read and fails a test
pub no_header : (limit : ℕ) (before after : Feed) (x : FileKind × HeaderNumbers) (many : Bool) → Takes parse_header before after x → fits_header limit x ≡ false → (has_enough x.0 x.1 && ltb limit (x.1.greatest + 1)) ≡ many
    → IfSome before.coming (HasNoHeader limit many)
no_header limit before after x many taken fails is =
    known_after before.coming after.coming taken.taken (HasNoHeader limit many) taken.advances.consumed
    (λ rest. (
      ap (λ (o : Option Read). o >>= passes limit) (taken.reads rest) ∙ ap (λ (b : Bool). cond b (Some (x, rest)) None) fails,
      ap (too_many_of limit) (taken.reads rest) ∙ is,
    ))

-- ---- one that passes

fits_read : (limit : ℕ) (x : FileKind × HeaderNumbers) (rest : List ℕ) (y : Read)
    → passes limit y ≡ Some (x, rest) → (y ≡ (x, rest)) × (fits_header limit x ≡ true)
fits_read limit x rest y h = by_test (fits_header limit y.0) refl h
  where
    by_test : (b : Bool) → fits_header limit y.0 ≡ b → cond b (Some y) None ≡ Some (x, rest)
        → (y ≡ (x, rest)) × (fits_header limit x ≡ true)
    by_test true is h = let same = same_Some y (x, rest) h in (same, subst (λ (z : Read). fits_header limit z.0 ≡ true) same is)
    by_test false is h = absurd cc

-- it doesn't pass the limit
pub header_read : (limit : ℕ) (bytes : List ℕ) (x : Read)
    → parse_fitting_header limit bytes ≡ Some x
    → too_many_at limit bytes ≡ false
header_read limit bytes x read =
    let y = bind_some (parse_header bytes) (passes limit) x read in
    let is = fits_read limit x.0 x.1 y.0 y.2 in
    let fits = and_parts (has_enough x.0.0 x.0.1) (leb (x.0.1.greatest + 1) limit) is.1 in
    let high = leb-true (x.0.1.greatest + 1) limit fits.1 in
    ap (too_many_of limit) (y.1 ∙ ap (λ (z : Read). Some z) is.0)
    ∙ rw (fits.0, le-ltb limit (x.0.1.greatest + 1) high) refl

module _ (limit : ℕ) (before after : Feed) (x : FileKind × HeaderNumbers) (taken : Takes (parse_fitting_header limit) before after x) where
  fits : (has_enough x.0 x.1 ≡ true) × (leb (x.1.greatest + 1) limit ≡ true)
  fits =
      let y = bind_some (parse_header (taken.taken ++ [])) (passes limit) (x, []) (taken.reads []) in
      and_parts (has_enough x.0 x.1) (leb (x.1.greatest + 1) limit) (fits_read limit x [] y.0 y.2).1

  pub header_good : has_enough x.0 x.1 ≡ true
  header_good = fits.0

  pub header_within : x.1.greatest + 1 ≤ limit
  header_within = leb-true (x.1.greatest + 1) limit fits.1

  pub header_small : IfSome before.coming (λ bytes. too_many_at limit bytes ≡ false)
  header_small =
      known_after before.coming after.coming taken.taken (λ bytes. too_many_at limit bytes ≡ false) taken.advances.consumed
      (λ rest. header_read limit (taken.taken ++ rest) (x, rest) (taken.reads rest))
