-- Words that are read byte by byte.
use Rattle.aig_base.proofs.Words.{◌≡◌, ◌≢◌, ℕ, ◌+◌, ◌-◌, ◌*◌, ◌<◌, Bool, true, false, List, [], ◌∷◌, ◌++◌, Option, Some, None, Result, Ok, Err, refl, sym, ap, subst, ◌∙◌, append_assoc, arith, ne_eqb, same_Some}
use Rattle.aig_lexer.specs.Digits.{TakesDigits, TakesTooMany, number_after}
use Rattle.aig_lexer.specs.Takes.{Advances, Feed, Steps}
use Rattle.aig_lexer.proofs.Digits.{number_after-nil, number_first}
use Rattle.aig_format.specs.Parse.{is_digit}
use Rattle.aig_refutation.specs.declared.error.RefutationError.{RefutationError}
use Rattle.aig_refutation.specs.declared.error.RefutationError.TheVariants as errors
use Rattle.aig_refutation.specs.declared.words.End.{End}
use Rattle.aig_refutation.specs.declared.words.Word as code
use Rattle.aig_refutation.specs.declared.words.Word.TheVariants as words
use Rattle.aig_refutation.specs.Text as text
use Rattle.aig_refutation.specs.Text.{◌>>=◌, digits_after, fault, letter_before, number_in, signed, word_in}
use Rattle.aig_refutation.specs.Tokens.{GivesWord, Leaves, Says, end_after, front, held_word, left_after, left_at}
use Rattle.aig_refutation.proofs.Known.{at_end, consumed, leaves_on, leaves_same, says_now, says_on, step_leaves, tells, tells_on}
use Rattle.aig_refutation.proofs.Texts.{digit_no_blank, digit_no_line, digit_on, digit_wrong, digits_end, digits_refused, first_digit, left_end, letter_end, letter_refused, no_digit, number_digit, number_none, word_goes, word_letter, word_minus, word_plain}

steps_some : (before after : Feed) (o : Option ℕ) (b : ℕ) → Steps before after o → o ≡ Some b →
    Advances before after (b ∷ [])
steps_some before after o b h is = subst (Steps before after) is h

-- one byte came
pub leaves_byte : (before now after : Feed) (R S : List ℕ → List ℕ → Type 0) (o : Option ℕ) (b : ℕ)
    → Leaves before now R → Steps now after o → o ≡ Some b
    → ((bytes rest : List ℕ) → R bytes (b ∷ rest) → S bytes rest) → Leaves before after S
leaves_byte before now after R S o b so_far step is h =
    leaves_on before now R so_far after (λ bytes rest. (bytes ≡ front o rest) × (o ≡ None → rest ≡
    [])) S (step_leaves now after o step)
    (λ bytes mid rest r k. h bytes rest (subst (R bytes) (k.0 ∙ ap (λ p. front p rest) is) r))

-- the bytes ended
pub leaves_none : (before now after : Feed) (R S : List ℕ → List ℕ → Type 0) (o : Option ℕ) →
    Leaves before now R → Steps now after o → o ≡ None
    → ((bytes rest : List ℕ) → R bytes [] → rest ≡ [] → S bytes rest) → Leaves before after S
leaves_none before now after R S o so_far step is h =
    leaves_on before now R so_far after (λ bytes rest. (bytes ≡ front o rest) × (o ≡ None → rest ≡
    [])) S (step_leaves now after o step)
    (λ bytes mid rest r k. h bytes rest (subst (R bytes) (k.0 ∙ ap (λ p. front p rest) is) r) (k.1
    is))

-- ---- digits

-- what is read after the digits of a number
pub digits_passed : (value n : ℕ) (ds rest : List ℕ) → number_after value ds ≡ Some n
    → (digits_after value (ds ++ rest) ≡ digits_after n rest)
    × (left_after (ds ++ rest) ≡ left_after rest)
digits_passed value n [] rest is = (
  ap (λ (v : ℕ). digits_after v rest) (same_Some value n (sym (number_after-nil value) ∙ is)),
  refl,
)
digits_passed value n (d ∷ ds) rest is =
    let first = number_first value d ds n is in
    let more = digits_passed (10 * value + (d - 48)) n ds rest first.2 in (
      digit_on value d (ds ++ rest) first.0 first.1 ∙ more.0,
      word_goes d (ds ++ rest) (digit_no_line d first.0) (digit_no_blank d first.0) ∙ more.1,
    )

module _ (before after : Feed) (first : ℕ) (digit : is_digit first ≡ true) where
  abbrev AreDigits : ℕ → Option ℕ → List ℕ → List ℕ → Type 0
  AreDigits n o bytes rest = (number_in (first ∷ bytes) ≡ digits_after n (front o rest))
      × (left_after bytes ≡ left_after (front o rest))

  digits_taken : (n : ℕ) (o : Option ℕ) (ds rest bytes : List ℕ) → number_after (first - 48) ds ≡
      Some n → bytes ≡ ds ++ front o rest → AreDigits n o bytes rest
  digits_taken n o ds rest bytes is all =
      let passed = digits_passed (first - 48) n ds (front o rest) is in (
        first_digit first bytes digit ∙ ap (digits_after (first - 48)) all ∙ passed.0,
        ap (λ (l : List ℕ). left_after l) all ∙ passed.1,
      )

  pub digits_leave : (n : ℕ) (o : Option ℕ) → TakesDigits (first - 48) before after n o
      → Leaves before after (AreDigits n o)
  digits_leave n (Some b) t bytes known =
      let c = consumed before.coming after.coming (t.digits ++ b ∷ []) bytes t.came.consumed known
      in (
        c.0,
        c.1,
        digits_taken n (Some b) t.digits c.0 bytes t.is
            (c.2 ∙ append_assoc t.digits (b ∷ []) c.0),
      )
  digits_leave n None t bytes known =
      let c = consumed before.coming after.coming t.digits bytes t.came.consumed known in (
        c.0,
        c.1,
        digits_taken n None t.digits c.0 bytes t.is
            (c.2 ∙ ap (λ (l : List ℕ). t.digits ++ l) (at_end after.coming c.0 t.came.at_end c.1)),
      )

  -- digits of a number that is too large
  pub digits_many : TakesTooMany (first - 48) before after
      → Says before (λ bytes. number_in (first ∷ bytes) ≡ Err errors.Line)
  digits_many t bytes known =
      let c = consumed before.coming after.coming (t.digits ++ t.last ∷ []) bytes t.came.consumed
      known in
      first_digit first bytes digit
      ∙ ap (digits_after (first - 48)) (c.2 ∙ append_assoc t.digits (t.last ∷ []) c.0)
      ∙ (digits_passed (first - 48) t.number t.digits (t.last ∷ c.0) t.is).0
      ∙ digit_wrong t.number t.last c.0 t.digit t.large

-- ---- numbers

-- a number was read to its end
pub signed_ok : (positive : Bool) (value : ℕ) (x : Result ℕ RefutationError) → x ≡ Ok value
    → (signed positive x >>= λ w. Ok (held_word w)) ≡ Ok (words.Number (record {
      value = value;
      positive = positive;
    }))
signed_ok positive value x is = ap (λ (r : Result ℕ RefutationError). signed positive r >>= λ w. Ok
    (held_word w)) is

pub number_ends : (before after : Feed) (digit value : ℕ) (positive : Bool) (o : Option ℕ) (end now
    : Option End) → end ≡ None
    → is_digit digit ≡ true → TakesDigits (digit - 48) before after value o
    → end_after end o ≡ Ok now
    → GivesWord (λ bytes. signed positive (number_in (digit ∷ bytes))) before after now (Ok
    (words.Number (record { value = value; positive = positive })))
number_ends before after digit value positive o end now none first given is =
    let at_none : end_after None o ≡ Ok now = subst (λ (e : Option End). end_after e o ≡ Ok now)
    none is in
    leaves_same before after (λ bytes rest. (number_in (digit ∷ bytes) ≡ digits_after value (front
    o rest)) × (left_after bytes ≡ left_after (front o rest)))
    (digits_leave before after digit first value o given)
    (λ bytes rest. ((signed positive (number_in (digit ∷ bytes)) >>= λ x. Ok (held_word x)) ≡ Ok
    (words.Number (record { value = value; positive = positive }))) × (left_at now rest ≡
    left_after bytes))
    (λ bytes rest h. (
      signed_ok positive value (number_in (digit ∷ bytes)) (h.0 ∙ digits_end value end now o rest
          given.other is),
      left_end now o rest at_none ∙ sym h.1,
    ))

pub signed_err : (positive : Bool) (x : Result ℕ RefutationError) (e : RefutationError)
    → x ≡ Err e → signed positive x ≡ Err e
signed_err positive x e is = ap (signed positive) is

pub number_stops : (before after : Feed) (digit value : ℕ) (positive : Bool) (o : Option ℕ) (end
    now : Option End) (e : RefutationError)
    → is_digit digit ≡ true → TakesDigits (digit - 48) before after value o
    → end_after end o ≡ Err e
    → GivesWord (λ bytes. signed positive (number_in (digit ∷ bytes))) before after now (Err e)
number_stops before after digit value positive o end now e first given is =
    tells e (Says before (λ bytes. signed positive (number_in (digit ∷ bytes)) ≡ Err e))
    (says_now before after (λ bytes rest. (number_in (digit ∷ bytes) ≡ digits_after value (front o
    rest)) × (left_after bytes ≡ left_after (front o rest)))
    (digits_leave before after digit first value o given)
    (λ bytes. signed positive (number_in (digit ∷ bytes)) ≡ Err e)
    (λ bytes rest h. signed_err positive (number_in (digit ∷ bytes)) e (h.0 ∙ digits_refused value
    end o rest e given.other is)))

-- a byte that begins no number
pub number_other : (before after : Feed) (digit : ℕ) (positive : Bool) (now : Option End)
    (e : RefutationError) → is_digit digit ≡ false → e ≡ fault digit
    → GivesWord (λ bytes. signed positive (number_in (digit ∷ bytes))) before after now (Err e)
number_other before after digit positive now e other is =
    tells e (Says before (λ bytes. signed positive (number_in (digit ∷ bytes)) ≡ Err e))
    (λ bytes known. signed_err positive (number_in (digit ∷ bytes)) e
    (no_digit digit bytes other ∙ ap (λ f. Err f) (sym is)))

pub number_large : (before after : Feed) (digit : ℕ) (positive : Bool) (now : Option End)
    → is_digit digit ≡ true → TakesTooMany (digit - 48) before after
    → GivesWord (λ bytes. signed positive (number_in (digit ∷ bytes))) before after now
    (Err errors.Line)
number_large before after digit positive now first many bytes known =
    signed_err positive (number_in (digit ∷ bytes)) errors.Line
    (digits_many before after digit first many bytes known)

-- ---- words

-- the letter was read to its end
pub letter_ends : (before after : Feed) (o : Option ℕ) (first : ℕ) (end now : Option End) → end ≡
    None → first ≡ 100 → Steps before after o → end_after end o ≡ Ok now
    → GivesWord (λ bytes. word_in (first ∷ bytes)) before after now (Ok words.Deletes)
letter_ends before after o first end now none letter step is =
    let at_none : end_after None o ≡ Ok now = subst (λ (e : Option End). end_after e o ≡ Ok now)
    none is in
    rw letter
    (leaves_same before after (λ bytes rest. (bytes ≡ front o rest) × (o ≡ None → rest ≡ []))
    (step_leaves before after o step)
    (λ bytes rest. ((word_in (100 ∷ bytes) >>= λ x. Ok (held_word x)) ≡ Ok words.Deletes) ×
    (left_at now rest ≡ left_after bytes))
    (λ bytes rest h. (
      ap (λ (r : Result text.Word RefutationError). r >>= λ x. Ok (held_word x)) (word_letter bytes
          ∙ ap letter_before h.0 ∙ letter_end end now o rest is),
      left_end now o rest at_none ∙ ap (λ (bs : List ℕ). left_after bs) (sym h.0),
    )))

pub letter_stops : (before after : Feed) (o : Option ℕ) (first : ℕ) (end now : Option End) (e :
    RefutationError) → first ≡ 100 → Steps before after o → end_after end o ≡ Err e
    → GivesWord (λ bytes. word_in (first ∷ bytes)) before after now (Err e)
letter_stops before after o first end now e letter step is =
    rw letter
    (tells e (Says before (λ bytes. word_in (100 ∷ bytes) ≡ Err e))
    (says_now before after (λ bytes rest. (bytes ≡ front o rest) × (o ≡ None → rest ≡ []))
    (step_leaves before after o step) (λ bytes. word_in (100 ∷ bytes) ≡ Err e)
    (λ bytes rest h. word_letter bytes ∙ ap letter_before h.0 ∙ letter_refused end o rest e is)))

-- the same word in other words
pub word_same : (before after : Feed) (p q : List ℕ → Result text.Word RefutationError) (now :
    Option End) (r : Result code.Word RefutationError) → ((bytes : List ℕ) → p bytes ≡ q bytes)
    → GivesWord p before after now r → GivesWord q before after now r
word_same before after p q now (Ok w) same given =
    leaves_same before after (λ bytes rest. ((p bytes >>= λ x. Ok (held_word x)) ≡ Ok w) × (left_at
    now rest ≡ left_after bytes)) given
    (λ bytes rest. ((q bytes >>= λ x. Ok (held_word x)) ≡ Ok w) × (left_at now rest ≡ left_after
    bytes))
    (λ bytes rest h. (
      ap (λ (r : Result text.Word RefutationError). r >>= λ x. Ok (held_word x))
          (sym (same bytes)) ∙ h.0,
      h.1,
    ))
word_same before after p q now (Err e) same given =
    tells_on e (Says before (λ bytes. p bytes ≡ Err e)) (Says before (λ bytes. q bytes ≡ Err e)) (λ
    h bytes known. sym (same bytes) ∙ h bytes known) given

pub plain_word : (before after : Feed) (first : ℕ) (now : Option End) (r : Result code.Word
    RefutationError) → first ≢ 100 → first ≢ 45
    → GivesWord (λ bytes. signed true (number_in (first ∷ bytes))) before after now r → GivesWord
    (λ bytes. word_in (first ∷ bytes)) before after now r
plain_word before after first now r n m given =
    word_same before after (λ bytes. signed true (number_in (first ∷ bytes))) (λ bytes. word_in
    (first ∷ bytes)) now r (λ bytes. sym (word_plain first bytes (ne_eqb first 100 n) (ne_eqb
    first 45 m))) given

signed_value : (positive : Bool) (x : Result ℕ RefutationError) (w : code.Word) → (signed positive
    x >>= λ y. Ok (held_word y)) ≡ Ok w → (value : ℕ) × (x ≡ Ok value)
signed_value positive (Ok value) w is = (value, refl)
signed_value positive (Err e) w is = absurd cc

-- the word that a minus and this byte begin
pub minus_word : (before mid after : Feed) (first digit : ℕ) (o : Option ℕ) (now : Option End) (r :
    Result code.Word RefutationError) → first ≡ 45 → Steps before mid o → o ≡ Some digit
    → GivesWord (λ bytes. signed false (number_in (digit ∷ bytes))) mid after now r → GivesWord (λ
    bytes. word_in (first ∷ bytes)) before after now r
minus_word before mid after first digit o now (Ok w) minus step is given =
    rw minus
    (leaves_on before mid (λ bytes rest. (bytes ≡ front o rest) × (o ≡ None → rest ≡ []))
    (step_leaves before mid o step) after
    (λ bytes rest. ((signed false (number_in (digit ∷ bytes)) >>= λ x. Ok (held_word x)) ≡ Ok w) ×
    (left_at now rest ≡ left_after bytes))
    (λ bytes rest. ((word_in (45 ∷ bytes) >>= λ x. Ok (held_word x)) ≡ Ok w) × (left_at now rest ≡
    left_after bytes)) given
    (λ bytes middle rest h k.
    let same : bytes ≡ digit ∷ middle = h.0 ∙ ap (λ p. front p middle) is in (
      ap (λ (x : Result text.Word RefutationError). x >>= λ y. Ok (held_word y)) (word_minus bytes
          ∙ ap (λ (bs : List ℕ). signed false (number_in bs)) same) ∙ k.0,
      k.1 ∙ sym (ap (λ (bs : List ℕ). left_after bs) same ∙ word_goes digit middle (digit_no_line
          digit (begun middle k.0)) (digit_no_blank digit (begun middle k.0))),
    )))
  where
    begun : (middle : List ℕ) → (signed false (number_in (digit ∷ middle)) >>= λ x. Ok (held_word
        x)) ≡ Ok w → is_digit digit ≡ true
    begun middle h = let v = signed_value false (number_in (digit ∷ middle)) w h in number_digit
        digit middle v.0 v.1
minus_word before mid after first digit o now (Err e) minus step is given =
    rw minus
    (tells_on e (Says mid (λ bytes. signed false (number_in (digit ∷ bytes)) ≡ Err e)) (Says before
    (λ bytes. word_in (45 ∷ bytes) ≡ Err e))
    (λ call. says_on before mid (λ bytes rest. (bytes ≡ front o rest) × (o ≡ None → rest ≡ []))
    (step_leaves before mid o step)
    (λ bytes. signed false (number_in (digit ∷ bytes)) ≡ Err e) (λ bytes. word_in (45 ∷ bytes) ≡
    Err e) call
    (λ bytes middle h k. word_minus bytes ∙ ap (λ (bs : List ℕ). signed false (number_in bs)) (h.0
    ∙ ap (λ p. front p middle) is) ∙ k))
    given)

-- a minus that the stream's end follows
pub minus_end : (before after : Feed) (first : ℕ) (o : Option ℕ) (now : Option End) → first ≡ 45 →
    Steps before after o → o ≡ None
    → GivesWord (λ bytes. word_in (first ∷ bytes)) before after now (Err errors.Unfinished)
minus_end before after first o now minus step is =
    rw minus
    (says_now before after (λ bytes rest. (bytes ≡ front o rest) × (o ≡ None → rest ≡ []))
    (step_leaves before after o step) (λ bytes. word_in (45 ∷ bytes) ≡ Err errors.Unfinished)
    (λ bytes rest h. word_minus bytes ∙ ap (λ (bs : List ℕ). signed false (number_in bs)) (h.0 ∙ ap
    (λ p. front p rest) is) ∙ ap (signed false) number_none))

pub steps_fewer : (before after : Feed) (o : Option ℕ) (b : ℕ) → Steps before after o → o ≡ Some b
    → after.most < before.most
steps_fewer before after o b step is = let came = steps_some before after o b step is in omega
    (arith, came.fewer)
