-- Serves private clauses alone.
-- What reading the header line within a limit gives.
use Rattle.std.specs.Prelude.{◌≡◌, ℕ, Bool, true, false, List, None, IfSome, Result, Ok, Err}
use Rattle.aig_format.specs.Parse.{too_many_at}
use Rattle.aig_format.specs.ParseTested.{parse_fitting_header}
use Rattle.aig_lexer.specs.declared.header.Header.{Header}
use Rattle.aig_lexer.specs.Header.{numbers_of}
use Rattle.aig_lexer.specs.Takes.{Feed, Takes}
use Rattle.aig_reader.specs.declared.error.ReadError.{ReadError}
use Rattle.aig_reader.specs.declared.error.ReadError.TheVariants as errors

-- the bytes begin with no good header line within the limit, and this tells whether with a good one
-- past it
abbrev pub HasNoHeader : ℕ → Bool → List ℕ → Type 0
HasNoHeader limit many bytes =
    (parse_fitting_header limit bytes ≡ None) × (too_many_at limit bytes ≡ many)

-- a good header within the limit, a failed read, or that known bytes have none
abbrev pub ReadsHeader : ℕ → Feed → Feed → Result Header ReadError → Type 0
ReadsHeader limit before after (Ok h) =
    Takes (parse_fitting_header limit) before after (h.kind, numbers_of h)
ReadsHeader limit before after (Err errors.Stream) = after.failed ≡ true
ReadsHeader limit before after (Err errors.Header) = IfSome before.coming (HasNoHeader limit false)
ReadsHeader limit before after (Err errors.TooMany) = IfSome before.coming (HasNoHeader limit true)
ReadsHeader limit before after (Err e) = ⊥
