-- Part of what is promised.
-- What an error tells.
use Rattle.std.specs.Prelude.{◌≡◌, Bool, true, false, Result, Ok, Err}
use Rattle.aig_lexer.specs.declared.error.LexError.{LexError}
use Rattle.aig_lexer.specs.declared.error.LexError.TheVariants as lex
use Rattle.aig_lexer.specs.declared.error.LineError.{LineError}
use Rattle.aig_lexer.specs.declared.error.LineError.TheVariants as line

-- why a call gives no value
pub data Cause : Type 0 where
  -- memory ran out
  Memory : Cause
  -- a read failed
  Stream : Cause
  -- another reason
  Other : Cause
  -- none: the error never comes
  Never : Cause

-- memory tells nothing, a failed read that the stream failed, and another cause this fact
abbrev pub Tells : Cause → Type 0 → Bool → Type 0
Tells Memory P failed = Unit {0}
Tells Stream P failed = failed ≡ true
Tells Other P failed = P
Tells Never P failed = ⊥

-- a value where the test is passed, and else an error that tells that it isn't; no read failed
abbrev pub Tested : {X E : Type 0} → (E → Cause) → Bool → (X → Type 0) → Result X E → Type 0
Tested cause test P (Ok x) = (test ≡ true) × P x
Tested cause test P (Err e) = Tells (cause e) (test ≡ false) false

-- ---- causes

-- why a word isn't read
abbrev pub word_cause : LexError → Cause
word_cause lex.Stream = Stream
word_cause lex.Shape = Other

-- why a line isn't read
abbrev pub line_cause : LineError → Cause
line_cause line.Memory = Memory
line_cause line.Stream = Stream
line_cause line.Syntax = Other
line_cause line.Literal = Other

-- a word's error as one of its line
abbrev pub line_error_of : LexError → LineError
line_error_of lex.Stream = line.Stream
line_error_of lex.Shape = line.Syntax
