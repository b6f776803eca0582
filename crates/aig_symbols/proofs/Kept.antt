-- A name that is kept is UTF-8.
use Rattle.aig_base.proofs.Words.{◌≡◌, ℕ, List, Result, Ok, Err, String, Vec, sym, ap, subst, false_from_ne_true, false≢true}
use Rattle.std.specs.Prelude.{IfOk, IsOk, string_bytes}
use Rattle.std.specs.String.{string_vec}
use Rattle.std.specs.Result.{result_or}
use Rattle.std.specs.declared.alloc.Global.{Global}
use Rattle.std.specs.Str.{IsUtf8, is_utf8}
use Rattle.std.proofs.lemmas.Str.{IsUtf8-string_bytes, IsUtf8-from_is_utf8, is_utf8-from_IsUtf8}
use Rattle.aig_format.specs.Parse.{parse_if, parse_text}
use Rattle.aig_lexer.specs.declared.error.LineError.{LineError}
use Rattle.aig_lexer.specs.declared.error.LineError.TheVariants as line
use Rattle.aig_lexer.specs.Takes.{Feed, Gives, Takes, Misses}
use Rattle.aig_lexer.proofs.Taking.{takes_tested, misses_test}
use Rattle.aig_symbols.specs.Names.{name_cause}

takes_kept : (b a : Feed) (text : String Global) (bytes : List ℕ) → string_bytes text ≡ bytes → Takes parse_text b a bytes → Takes (parse_if parse_text is_utf8) b a (string_bytes text)
takes_kept b a text bytes e h = takes_tested parse_text is_utf8 b a (string_bytes text) (subst (Takes parse_text b a) (sym e) h) (is_utf8-from_IsUtf8 (string_bytes text) (IsUtf8-string_bytes text))

misses_kept : (b a : Feed) (bytes : List ℕ) → Takes parse_text b a bytes → (IsUtf8 bytes → ⊥) → Misses (parse_if parse_text is_utf8) b
misses_kept b a bytes h ne = misses_test parse_text is_utf8 b a bytes h (false_from_ne_true (is_utf8 bytes) (λ e. ne (IsUtf8-from_is_utf8 bytes e)))

-- the answer of a test for UTF-8, whose fault is told as that of a name's shape
pub gives_kept : {E : Type 0} (b a : Feed) (bytes : Vec ℕ Global)
    (tested : Result (String Global) E) (answer : Result (String Global) LineError)
    → Takes parse_text b a bytes.items → IfOk tested (λ text. string_vec text ≡ bytes)
    → (IsUtf8 bytes.items → IsOk tested) → answer ≡ result_or tested (Err line.Syntax)
    → Gives name_cause (λ text. string_bytes text) b a answer (parse_if parse_text is_utf8)
gives_kept b a bytes (Ok text) answer h same valid is = rw is (takes_kept b a text bytes.items (ap (λ (v : Vec ℕ Global). v.items) same) h)
gives_kept b a bytes (Err e) answer h same valid is = rw is (misses_kept b a bytes.items h (λ u. false≢true (valid u)))
