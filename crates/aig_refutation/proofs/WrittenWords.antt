-- The words of numbers and literals as they are written.
use Rattle.aig_base.proofs.Words.{◌≡◌, ◌≢◌, ℕ, ◌+◌, ◌-◌, ◌*◌, ◌/◌, ◌%◌, ◌^◌, ◌<◌, ◌≤◌, Bool, true, false, List, [], ◌∷◌, ◌++◌, map, Ok, Some, None, refl, sym, ap, ◌∙◌, append_assoc, arith, codes, decimal, flat_map, AllByRecursion, or_parts, ne_eqb, false≢true, if◌then◌else◌, ◌==◌, nat_tests}
use Rattle.std.proofs.lemmas.Fmt.{decimal_by_steps}
use Rattle.aig_base.specs.declared.logic.literal.Lit.{Lit}
use Rattle.aig_base.specs.Clauses.{is_positive, variable_of}
use Rattle.aig_format.specs.Parse.{is_digit}
use Rattle.aig_format.specs.Text.{IsDigit}
use Rattle.aig_format.proofs.NumberReaders.{true_digit}
use Rattle.aig_format.proofs.Printed.{number_written}
use Rattle.aig_refutation.specs.Text.{Number, begins, digits_after, ends_word, is_blank, lines_after, lines_of, number_in, signed, word_at, word_in, words_after, words_of}
use Rattle.aig_refutation.specs.Tokens.{left_after}
use Rattle.aig_refutation.specs.declared.words.End.TheVariants as ends
use Rattle.aig_refutation.specs.Written.{literal_text, number_text, signed_text}
use Rattle.aig_refutation.proofs.Texts.{digit_no_blank, digit_no_line, digit_on, first_digit, left_end, word_goes, word_minus, word_plain}

-- ---- where words end

-- no byte ends a word
abbrev pub IsPlain : List ℕ → Type 0
IsPlain = AllByRecursion (λ b. ends_word b ≡ false)

-- a word without the byte that ends it
abbrev pub IsWord : List ℕ → Type 0
IsWord word = IsPlain word × (word ≢ [])

-- a word with the space that ends it
abbrev pub IsSpaced : List ℕ → Type 0
IsSpaced bytes = (word : List ℕ) × IsWord word × (bytes ≡ word ++ 32 ∷ [])

-- the words of the first line, and the lines after it
abbrev pub Reads : List ℕ → List (List ℕ) → List (List (List ℕ)) → Type 0
Reads bytes words lines = (words_of bytes ≡ words) × (lines_after bytes ≡ lines)

pub reads_lines : (bytes : List ℕ) (words : List (List ℕ)) (lines : List (List (List ℕ))) → Reads bytes words lines → lines_of bytes ≡ words ∷ lines
reads_lines bytes words lines r = rw (r.0, r.1) refl

module _ (end : ℕ) (ends : ends_word end ≡ true) (rest : List ℕ) where
  word_at-plain : (word : List ℕ) → IsPlain word → word_at (word ++ end ∷ rest) ≡ word ++ end ∷ []
  unfolding word_at
  word_at-plain [] plain = rw ends refl
  word_at-plain (b ∷ bs) plain = rw plain.0 (ap (λ w. b ∷ w) (word_at-plain bs plain.1))

  left_after-plain : (word : List ℕ) → IsPlain word → left_after (word ++ end ∷ rest) ≡ left_after (end ∷ rest)
  left_after-plain [] plain = refl
  left_after-plain (b ∷ bs) plain =
      let parts = or_parts (b == 10) (is_blank b) plain.0 in
      word_goes b (bs ++ end ∷ rest) parts.0 parts.1 ∙ left_after-plain bs plain.1

  words_of-plain : (b : ℕ) (bs : List ℕ) → IsPlain (b ∷ bs) → words_of (b ∷ bs ++ end ∷ rest) ≡ (b ∷ bs ++ end ∷ []) ∷ words_after (end ∷ rest)
  unfolding words_of
  words_of-plain b bs plain =
      let after : words_after (b ∷ bs ++ end ∷ rest) ≡ words_after (end ∷ rest) = ap (λ l. l.words) (left_after-plain (b ∷ bs) plain) in
      rw (word_at-plain (b ∷ bs) plain, plain.0, after) refl

pub word_on : (word rest : List ℕ) (words : List (List ℕ)) (lines : List (List (List ℕ))) → IsWord word → Reads rest words lines → Reads (word ++ 32 ∷ rest) ((word ++ 32 ∷ []) ∷ words) lines
word_on [] rest words lines is r = absurd (is.1 refl)
word_on (b ∷ bs) rest words lines is r =
    let left = left_end None (Some 32) rest refl in (
      words_of-plain 32 refl rest b bs is.0 ∙ ap (λ l. (b ∷ bs ++ 32 ∷ []) ∷ l.words) (sym left) ∙ ap (λ ws. (b ∷ bs ++ 32 ∷ []) ∷ ws) r.0,
      ap (λ l. l.lines) (left_after-plain 32 refl rest (b ∷ bs) is.0 ∙ sym left) ∙ r.1,
    )

pub word_last : (word rest : List ℕ) → IsWord word → Reads (word ++ 10 ∷ rest) ((word ++ 10 ∷ []) ∷ []) (lines_of rest)
word_last [] rest is = absurd (is.1 refl)
word_last (b ∷ bs) rest is =
    let left = left_end (Some ends.Line) (Some 10) rest refl in (
      words_of-plain 10 refl rest b bs is.0 ∙ ap (λ l. (b ∷ bs ++ 10 ∷ []) ∷ l.words) (sym left),
      ap (λ l. l.lines) (left_after-plain 10 refl rest (b ∷ bs) is.0 ∙ sym left),
    )

pub spaced_on : (bytes rest : List ℕ) (words : List (List ℕ)) (lines : List (List (List ℕ))) → IsSpaced bytes → Reads rest words lines → Reads (bytes ++ rest) (bytes ∷ words) lines
spaced_on bytes rest words lines is r =
    rw (is.2, append_assoc is.0 (32 ∷ []) rest) (word_on is.0 rest words lines is.1 r)

pub each_on : {A : Type 0} (text : A → List ℕ) (xs : List A) (rest : List ℕ) (words : List (List ℕ)) (lines : List (List (List ℕ))) → AllByRecursion (λ x. IsSpaced (text x)) xs → Reads rest words lines → Reads (flat_map text xs ++ rest) (map text xs ++ words) lines
each_on text [] rest words lines all r = r
each_on text (x ∷ xs) rest words lines all r =
    rw (append_assoc (text x) (flat_map text xs) rest) (spaced_on (text x) (flat_map text xs ++ rest) (map text xs ++ words) lines all.0 (each_on text xs rest words lines all.1 r))

-- ---- numbers

digits_plain : (ds : List ℕ) → AllByRecursion IsDigit ds → IsPlain ds
digits_plain [] all = tt
digits_plain (d ∷ ds) all =
    let is = true_digit d all.0 in
    (rw (digit_no_line d is, digit_no_blank d is) refl, digits_plain ds all.1)

decimal_word : (n : ℕ) → n < 2 ^ 32 → IsWord (decimal n)
decimal_word n small = let is = number_written n small in (digits_plain (decimal n) is.each, is.some)

-- a number is read of its digits, whatever follows
abbrev IsReadOf : ℕ → List ℕ → Type 0
IsReadOf n digits = n < 2 ^ 32 → (rest : List ℕ) → number_in (digits ++ rest) ≡ digits_after n rest

one_digit : (n : ℕ) → n < 10 → IsReadOf n ((48 + n) ∷ [])
one_digit n low small rest =
    let same : 48 + n - 48 ≡ n = omega arith in
    first_digit (48 + n) rest (true_digit (48 + n) (omega arith, omega arith)) ∙ ap (λ (v : ℕ). digits_after v rest) same

more_digits : (n : ℕ) (digits : List ℕ) → 10 ≤ n → IsReadOf (n / 10) digits → IsReadOf n (digits ++ ((48 + n % 10) ∷ []))
more_digits n digits high is small rest =
    let d : ℕ = 48 + n % 10 in
    let same : 10 * (n / 10) + (48 + n % 10 - 48) ≡ n = omega arith in
    ap number_in (append_assoc digits ((48 + n % 10) ∷ []) rest)
    ∙ is (omega arith) ((48 + n % 10) ∷ rest)
    ∙ digit_on (n / 10) (48 + n % 10) rest (true_digit (48 + n % 10) (omega arith, omega arith)) (omega arith)
    ∙ ap (λ (v : ℕ). digits_after v rest) same

pub number_in-decimal : (n end : ℕ) → n < 2 ^ 32 → is_digit end ≡ false → ends_word end ≡ true → number_in (decimal n ++ end ∷ []) ≡ Ok n
unfolding digits_after
number_in-decimal n end small other ends = decimal_by_steps IsReadOf one_digit more_digits n (omega arith) small (end ∷ []) ∙ rw (other, ends) refl

-- ---- words

signed_digits : (bytes : List ℕ) (n : ℕ) → bytes ≢ [] → AllByRecursion IsDigit bytes → (rest : List ℕ) → word_in (bytes ++ rest) ≡ signed true (number_in (bytes ++ rest))
signed_digits [] n some all rest = absurd (some refl)
signed_digits (d ∷ ds) n some all rest = word_plain d (ds ++ rest) (other 100 (omega (arith, all.0.1))) (other 45 (omega (arith, all.0.0)))
  where
    other : (k : ℕ) → d ≢ k → (d == k) ≡ false
    other k ne = grind (arith, nat_tests, ne)

pub word_in-number : (n end : ℕ) → n < 2 ^ 32 → is_digit end ≡ false → ends_word end ≡ true → word_in (decimal n ++ end ∷ []) ≡ Ok (Number true n)
word_in-number n end small other ends =
    let is = number_written n small in
    signed_digits (decimal n) n is.some is.each (end ∷ []) ∙ ap (signed true) (number_in-decimal n end small other ends)

pub number_read : (n : ℕ) → n < 2 ^ 32 → word_in (number_text n) ≡ Ok (Number true n)
number_read n small = word_in-number n 32 small refl refl

pub number_spaced : (n : ℕ) → n < 2 ^ 32 → IsSpaced (number_text n)
number_spaced n small = (decimal n, decimal_word n small, refl)

-- a number after a sign, as a literal has it
abbrev sign : Bool → List ℕ
sign positive = if positive then [] else codes "-"

signed_read : (positive : Bool) (n : ℕ) → n < 2 ^ 32 → word_in (sign positive ++ number_text n) ≡ Ok (Number positive n)
signed_read true n small = number_read n small
signed_read false n small = word_minus (number_text n) ∙ ap (signed false) (number_in-decimal n 32 small refl refl)

signed_spaced : (positive : Bool) (n : ℕ) → n < 2 ^ 32 → IsSpaced (sign positive ++ number_text n)
signed_spaced true n small = number_spaced n small
signed_spaced false n small = (45 ∷ decimal n, ((refl, (decimal_word n small).0), λ e. cc), refl)

pub hint_read : (hint : Bool × ℕ) → hint.1 < 2 ^ 32
    → word_in (signed_text hint) ≡ Ok (Number hint.0 hint.1)
hint_read hint small = signed_read hint.0 hint.1 small

pub hint_spaced : (hint : Bool × ℕ) → hint.1 < 2 ^ 32 → IsSpaced (signed_text hint)
hint_spaced hint small = signed_spaced hint.0 hint.1 small

pub literal_read : (lit : Lit) → variable_of lit + 1 < 2 ^ 32 → word_in (literal_text lit) ≡ Ok (Number (is_positive lit) (variable_of lit + 1))
literal_read lit small = signed_read (is_positive lit) (variable_of lit + 1) small

pub literal_spaced : (lit : Lit) → variable_of lit + 1 < 2 ^ 32 → IsSpaced (literal_text lit)
literal_spaced lit small = signed_spaced (is_positive lit) (variable_of lit + 1) small

-- a number begins with no letter
pub begins_digit : (k : ℕ) (bytes rest : List ℕ) → is_digit k ≡ false → bytes ≢ [] → AllByRecursion IsDigit bytes → begins k (bytes ++ rest) ≡ false
begins_digit k [] rest other some all = absurd (some refl)
begins_digit k (d ∷ ds) rest other some all = ne_eqb d k (λ e. false≢true (sym other ∙ ap (λ (b : ℕ). is_digit b) (sym e) ∙ true_digit d all.0))

pub begins-number : (k n : ℕ) → n < 2 ^ 32 → is_digit k ≡ false → (rest : List ℕ) → begins k (number_text n ++ rest) ≡ false
begins-number k n small other rest =
    let is = number_written n small in
    ap (begins k) (append_assoc (decimal n) (32 ∷ []) rest) ∙ begins_digit k (decimal n) (32 ∷ rest) other is.some is.each
