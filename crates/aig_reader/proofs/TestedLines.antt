-- A line whose numbers are tested.
use Rattle.std.proofs.Common.{◌≡◌, ℕ, Bool, false, List, Option, Result, Ok, Err, sym, subst}
use Rattle.aig_format.specs.Parse.{◌>>=◌, parse_if}
use Rattle.aig_lexer.specs.declared.error.LineError.{LineError}
use Rattle.aig_lexer.specs.declared.error.LexError.{LexError}
use Rattle.aig_lexer.specs.declared.error.LexError.TheVariants as lex
use Rattle.aig_lexer.specs.Faults.{Tells, Tested, line_cause, line_error_of, word_cause}
use Rattle.aig_lexer.specs.Takes.{Feed, Takes, Makes}
use Rattle.aig_lexer.proofs.Faults.{tells-sound, tells-weaker}
use Rattle.aig_lexer.proofs.Taking.{misses_next, misses_test, takes_bind, takes_tested}

-- a malformed word, as a fault in a line
pub line-from_word : (e : LexError) (P Q : Type 0) (failed : Bool) → (P → Q)
    → Tells (word_cause e) P failed → Tells (line_cause (line_error_of e)) Q failed
line-from_word lex.Stream P Q failed f h = h
line-from_word lex.Shape P Q failed f h = f h

-- a value that is made where what was read passes a test
pub makes_tested : {X A : Type 0} (IsOf : X → A → Type 0) (p : List ℕ → Option (A × List ℕ))
    (test : A → Bool) (b a : Feed) (x : A) (r : Result X LineError) → Takes p b a x
    → Tested line_cause (test x) (λ y. IsOf y x) r → Makes line_cause IsOf b a r (parse_if p test)
makes_tested IsOf p test b a x (Ok y) taken h = (x, h.1, takes_tested p test b a x taken h.0)
makes_tested IsOf p test b a x (Err e) taken h = tells-sound (line_cause e) _ _ a.failed (λ (no : test x ≡ false). misses_test p test b a x taken no) h

-- a call that reads on after what was taken
pub makes_next : {X Y Z : Type 0} (IsOf : X → Z → Type 0) (p : List ℕ → Option (Y × List ℕ)) (next : Y × List ℕ → Option (Z × List ℕ)) (b m a : Feed) (y z : Y) (r : Result X LineError) → Takes p b m y → z ≡ y
    → Makes line_cause IsOf m a r (λ bs. next (z, bs)) → Makes line_cause IsOf b a r (λ bs. p bs >>= next)
makes_next {X} {Y} {Z} IsOf p next b m a y z r h is = go r
  where
    taken : Takes p b m z
    taken = subst (λ (x : Y). Takes p b m x) (sym is) h

    go : (r : Result X LineError) → Makes line_cause IsOf m a r (λ bs. next (z, bs))
        → Makes line_cause IsOf b a r (λ bs. p bs >>= next)
    go (Ok x) k = (k.0, k.1, takes_bind p next b m a z k.0 taken k.2)
    go (Err e) k = tells-weaker (line_cause e) _ _ a.failed (misses_next p next b m z taken) k
