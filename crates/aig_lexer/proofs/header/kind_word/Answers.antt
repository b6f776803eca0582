use Rattle.std.proofs.Common.{◌<◌, ◌∷◌, [], length, take, ap, sym, subst, ◌∙◌, length-take, arith}
use Rattle.aig_base.proofs.Words.{take_all, take_more_set, err_from_is_err_and}
use Rattle.std.specs.Cmp.Lexicographic.{same_text, other_text}
use Rattle.aig_format.specs.declared.FileKind.TheVariants.{Text, Binary}
use Rattle.aig_lexer.specs.Takes.{Advances}
use Rattle.aig_lexer.proofs.Feeds.{advances_on}
use Rattle.aig_lexer.proofs.KindWord.{takes_word, misses_word, misses_short}
use Rattle.aig_lexer.proofs.Taking.{byte_came}
use Rattle.aig_lexer.specs.Faults.{word_cause}
use Rattle.aig_lexer.proofs.Faults.{tells-weaker}
use Rattle.aig_lexer.proofs.header.kind_word.Goals as goal

pub returns-in_err-byte : goal.returns-in_err-byte
returns-in_err-byte g c =
    let p = err_from_is_err_and c.from_residual.result c.from_residual.ensures.1 in
    let short : length (take c.loop-byte.byte-index c.loop-byte.byte-items) < 4 = omega (arith, length-take c.loop-byte.byte-index c.loop-byte.byte-items) in
    rw (p.1, p.2) (tells-weaker (word_cause c.in_err-byte.field-0.0) _ _ _ (misses_short _ _ _ c.loop-byte.invariant short) c.in_err-byte.ensures)

pub loop-byte-preserved : goal.loop-byte-preserved
loop-byte-preserved g c =
    let i = c.loop-byte.byte-index in
    let items = c.loop-byte.byte-items in
    let byte = c.in_ok-byte.field-0 in
    subst (Advances _ _) (sym (take_more_set items i byte (omega arith)))
    (advances_on _ _ _ (take i items) (byte ∷ []) c.loop-byte.invariant (byte_came _ _ byte c.in_ok-byte.ensures))

pub returns-then-eq : goal.returns-then-eq
returns-then-eq g c =
    let items = c.loop-byte.byte-items in
    let whole = take_all c.loop-byte.byte-index items (omega arith) in
    takes_word _ _ _ c.loop-byte.invariant Text (whole ∙ same_text items _ c.if-eq.ensures)

pub returns-then-eq-2 : goal.returns-then-eq-2
returns-then-eq-2 g c =
    let items = c.loop-byte.byte-items in
    let whole = take_all c.loop-byte.byte-index items (omega arith) in
    takes_word _ _ _ c.loop-byte.invariant Binary (whole ∙ same_text items _ c.if-eq-2.ensures)

pub returns-else-eq-2 : goal.returns-else-eq-2
returns-else-eq-2 g c =
    let items = c.loop-byte.byte-items in
    let whole = take_all c.loop-byte.byte-index items (omega arith) in
    misses_word _ _ _ c.loop-byte.invariant (ap length whole ∙ c.loop-byte-test.array_long)
    (λ is. other_text items _ c.if-eq.ensures (sym whole ∙ is))
    (λ is. other_text items _ c.if-eq-2.ensures (sym whole ∙ is))
