use Rattle.std.proofs.Common.{◌∷◌, ◌++◌, [], refl, sym, ◌∙◌}
use Rattle.aig_lexer.specs.Header.{numbers_of}
use Rattle.aig_lexer.proofs.Feeds.{advances_on, ends_on, steps_byte, steps_end}
use Rattle.aig_lexer.specs.Faults.{word_cause}
use Rattle.aig_lexer.proofs.Faults.{tells-weaker}
use Rattle.aig_symbols.proofs.Starts.{no_tail, comment_comes, place_comes, no_number, no_space, too_great}
use Rattle.aig_symbols.proofs.names.place.next_place.Goals as goal

pub returns-in-Ok-None-2 : goal.returns-in-Ok-None-2
returns-in-Ok-None-2 g c =
    let one = c.in-Ok-Some in
    let none = c.in-Ok-None-next in
    no_tail (numbers_of c.args.header.now) _ _ _ none.field-0 one.letter (steps_byte _ _ one.field-0 one.ensures.steps one.letter one.field-0-is) none.ensures.steps none.field-0-is c.if-letter-eq99.false

pub returns-in-Ok : goal.returns-in-Ok
returns-in-Ok g c =
    let one = c.in-Ok-Some in
    let two = c.in-Ok-Some-next in
    let rest = c.in-Ok.ensures in (
      (one.letter ∷ []) ++ ((two.first ∷ []) ++ rest.0),
      comment_comes one.letter two.first rest.0 (sym c.begins_comment.ensures ∙ c.if-begins_comment.true),
      ends_on _ _ _ (one.letter ∷ []) ((two.first ∷ []) ++ rest.0) (steps_byte _ _ one.field-0 one.ensures.steps one.letter one.field-0-is)
          (ends_on _ _ _ (two.first ∷ []) rest.0 (steps_byte _ _ two.field-0 two.ensures.steps two.first two.field-0-is) rest.1),
    )

pub returns-in-Err-number_from : goal.returns-in-Err-number_from
returns-in-Err-number_from g c =
    let one = c.in-Ok-Some in
    let two = c.in-Ok-Some-next in
    tells-weaker (word_cause c.in-Err-number_from.error) _ _ _
    (no_number (numbers_of c.args.header.now) _ _ one.letter two.first
    (advances_on _ _ _ (one.letter ∷ []) (two.first ∷ []) (steps_byte _ _ one.field-0 one.ensures.steps one.letter one.field-0-is) (steps_byte _ _ two.field-0 two.ensures.steps two.first two.field-0-is))
    (sym c.begins_comment.ensures ∙ c.if-begins_comment.false))
    c.in-Err-number_from.ensures

pub returns-then-end-ne32 : goal.returns-then-end-ne32
returns-then-end-ne32 g c =
    let one = c.in-Ok-Some in
    let two = c.in-Ok-Some-next in
    no_space (numbers_of c.args.header.now) _ _ one.letter two.first
    (advances_on _ _ _ (one.letter ∷ []) (two.first ∷ []) (steps_byte _ _ one.field-0 one.ensures.steps one.letter one.field-0-is) (steps_byte _ _ two.field-0 two.ensures.steps two.first two.field-0-is))
    (sym c.begins_comment.ensures ∙ c.if-begins_comment.false)
    _ c.in-Ok-number_from.position c.in-Ok-number_from.end c.in-Ok-number_from.ensures c.if-end-ne32.true

pub returns-then-position-entry_count : goal.returns-then-position-entry_count
returns-then-position-entry_count g c =
    let one = c.in-Ok-Some in
    let two = c.in-Ok-Some-next in
    too_great (numbers_of c.args.header.now) _ _ one.letter two.first
    (advances_on _ _ _ (one.letter ∷ []) (two.first ∷ []) (steps_byte _ _ one.field-0 one.ensures.steps one.letter one.field-0-is) (steps_byte _ _ two.field-0 two.ensures.steps two.first two.field-0-is))
    (sym c.begins_comment.ensures ∙ c.if-begins_comment.false)
    _ c.in-Ok-number_from.position c.in-Ok-number_from.end c.in-Ok-number_from.ensures c.if-end-ne32.false (rw c.entry_count.ensures at c.if-position-entry_count.true)

pub returns-else-position-entry_count : goal.returns-else-position-entry_count
returns-else-position-entry_count g c =
    let one = c.in-Ok-Some in
    let two = c.in-Ok-Some-next in
    place_comes (numbers_of c.args.header.now) _ _ one.letter two.first
    (advances_on _ _ _ (one.letter ∷ []) (two.first ∷ []) (steps_byte _ _ one.field-0 one.ensures.steps one.letter one.field-0-is) (steps_byte _ _ two.field-0 two.ensures.steps two.first two.field-0-is))
    _ c.in-Ok-number_from.position c.in-Ok-number_from.end c.in-Ok-number_from.ensures c.if-end-ne32.false (rw c.entry_count.ensures at c.if-position-entry_count.false)

pub returns-in-Ok-None : goal.returns-in-Ok-None
returns-in-Ok-None g c = ([], refl, steps_end _ _ c.in-Ok-None.field-0 c.in-Ok-None.ensures.steps c.in-Ok-None.field-0-is)

pub returns-in-Ok-None-next : goal.returns-in-Ok-None-next
returns-in-Ok-None-next g c =
    let one = c.in-Ok-Some in
    let none = c.in-Ok-None-next in (
      one.letter ∷ [],
      rw c.if-letter-eq99.true refl,
      ends_on _ _ _ (one.letter ∷ []) [] (steps_byte _ _ one.field-0 one.ensures.steps one.letter one.field-0-is) (steps_end _ _ none.field-0 none.ensures.steps none.field-0-is),
    )
