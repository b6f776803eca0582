use Rattle.aig_base.proofs.Words.{ap, arith, map, string_bytes, ◌∙◌, ◌∷◌}
use Rattle.aig_edit_laws.specs.declared.fairness.Fairness.TheVariants.{Alone, Justice}
use Rattle.aig_subjects.specs.declared.subject.FileSubject.TheVariants.{Live, Property}
use Rattle.aig_check_commands.proofs.Calling.{all_given, none_given}
use Rattle.aig_check_commands.proofs.file_subjects.subject_first.Goals as goal

pub returns-then-is_word-clause-some : goal.returns-then-is_word-clause-some
returns-then-is_word-clause-some c =
    let words = ap (λ l. map string_bytes l) c.in-Some.ensures.cases.0
    ∙ ap (λ w. w ∷ map string_bytes c.in-Some.rest.now) (c.is_word.ensures.0 c.if-is_word.true) in
    all_given (Property 0) (λ is. cc) (omega arith) _ _ words (λ p. p.0)
    (λ p. map string_bytes p.1.now)
    c.property_first.result c.property_first.ensures.word c.property_first.ensures.some

pub returns-then-is_word-clause-none : goal.returns-then-is_word-clause-none
returns-then-is_word-clause-none c =
    let words = ap (λ l. map string_bytes l) c.in-Some.ensures.cases.0
    ∙ ap (λ w. w ∷ map string_bytes c.in-Some.rest.now) (c.is_word.ensures.0 c.if-is_word.true) in
    none_given (Property 0) (λ is. cc) (omega arith) _ _ words c.property_first.result
    c.property_first.ensures.none

pub returns-then-is_word-2-clause-some : goal.returns-then-is_word-2-clause-some
returns-then-is_word-2-clause-some c =
    let words = ap (λ l. map string_bytes l) c.in-Some.ensures.cases.0
    ∙ ap (λ w. w ∷ map string_bytes c.in-Some.rest.now)
    (c.is_word-else-is_word.ensures.0 c.if-is_word-2.true) in
    all_given (Live (Justice 0)) (λ is. cc) (omega arith) _ _ words (λ p. p.0)
    (λ p. map string_bytes p.1.now)
    c.justice_first.result c.justice_first.ensures.word c.justice_first.ensures.some

pub returns-then-is_word-2-clause-none : goal.returns-then-is_word-2-clause-none
returns-then-is_word-2-clause-none c =
    let words = ap (λ l. map string_bytes l) c.in-Some.ensures.cases.0
    ∙ ap (λ w. w ∷ map string_bytes c.in-Some.rest.now)
    (c.is_word-else-is_word.ensures.0 c.if-is_word-2.true) in
    none_given (Live (Justice 0)) (λ is. cc) (omega arith) _ _ words c.justice_first.result
    c.justice_first.ensures.none

pub returns-then-is_word-3-clause-some : goal.returns-then-is_word-3-clause-some
returns-then-is_word-3-clause-some c =
    let words = ap (λ l. map string_bytes l) c.in-Some.ensures.cases.0
    ∙ ap (λ w. w ∷ map string_bytes c.in-Some.rest.now)
    (c.is_word-else-is_word-2.ensures.0 c.if-is_word-3.true) in
    all_given (Live Alone) (λ is. cc) (omega arith) _ _ words (λ p. p.0)
    (λ p. map string_bytes p.1.now)
    c.endless_first.result c.endless_first.ensures.word c.endless_first.ensures.some

pub returns-then-is_word-3-clause-none : goal.returns-then-is_word-3-clause-none
returns-then-is_word-3-clause-none c =
    let words = ap (λ l. map string_bytes l) c.in-Some.ensures.cases.0
    ∙ ap (λ w. w ∷ map string_bytes c.in-Some.rest.now)
    (c.is_word-else-is_word-2.ensures.0 c.if-is_word-3.true) in
    none_given (Live Alone) (λ is. cc) (omega arith) _ _ words c.endless_first.result
    c.endless_first.ensures.none
