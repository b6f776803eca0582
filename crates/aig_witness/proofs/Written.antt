-- What is read of a solver's answer as it is written.
use Rattle.aig_base.proofs.Words.{◌≡◌, ◌≢◌, ℕ, ◌+◌, ◌-◌, ◌*◌, ◌/◌, ◌%◌, ◌^◌, ◌<◌, ◌≤◌, ◌==◌, nat_le, ◌&&◌, true, false, List, [], ◌∷◌, ◌++◌, length, map, replicate, Some, None, Ok, Err, refl, sym, ap, ◌∙◌, append_assoc, append-nil, length-append, map-append, arith, codes, decimal, flat_map, nat_tests, AllByRecursion, slice_set, slice_index_or, Bool}
use Rattle.std.proofs.lemmas.Fmt.{decimal_by_steps}
use Rattle.aig_base.specs.declared.logic.three.Lbool.{Lbool}
use Rattle.aig_base.specs.declared.logic.three.Lbool.TheVariants.{FALSE, TRUE, NONE}
use Rattle.aig_format.specs.Text.{IsDigit}
use Rattle.aig_format.proofs.NumberReaders.{true_digit}
use Rattle.aig_format.proofs.Printed.{number_written}
use Rattle.aig_lexer.specs.Digits.{number_after}
use Rattle.aig_lexer.proofs.Digits.{number_after-append, number_after-digit, number_after-nil}
use Rattle.aig_witness.specs.declared.solutions.error.SolutionError.TheVariants as errors
use Rattle.aig_witness.specs.Lines.{end_of}
use Rattle.aig_witness.specs.SolverAnswers.{lines_after, lines_of, literal_in, solution_from, solution_in, take_words, word_in_front, words_from}
use Rattle.aig_witness.specs.Written.{rows_text, solution_text, unsatisfiable_text, values_text}
use Rattle.aig_witness.specs.Shown.{known_of}
use Rattle.aig_witness.proofs.Digits.{digit_goes}
use Rattle.aig_witness.proofs.Numbers.{literal_minus, literal_plain}
use Rattle.aig_witness.proofs.Texts.{lines_on, words_on}

-- ---- numbers

-- the number of its digits
abbrev IsReadOf : ℕ → List ℕ → Type 0
IsReadOf n digits = n < 2 ^ 32 → number_after 0 digits ≡ Some n

one_digit : (n : ℕ) → n < 10 → IsReadOf n ((48 + n) ∷ [])
one_digit n low small =
    let same : 10 * 0 + (48 + n - 48) ≡ n = omega arith in
    number_after-digit 0 (48 + n) [] (true_digit (48 + n) (omega arith, omega arith)) (omega arith)
    ∙ number_after-nil (10 * 0 + (48 + n - 48)) ∙ ap (λ m. Some m) same

more_digits : (n : ℕ) (digits : List ℕ) → 10 ≤ n → IsReadOf (n / 10) digits → IsReadOf n (digits ++ ((48 + n % 10) ∷ []))
more_digits n digits high is small =
    let same : 10 * (n / 10) + (48 + n % 10 - 48) ≡ n = omega arith in
    number_after-append 0 digits ((48 + n % 10) ∷ []) (n / 10) (is (omega arith))
    ∙ number_after-digit (n / 10) (48 + n % 10) [] (true_digit (48 + n % 10) (omega arith, omega arith)) (omega arith)
    ∙ number_after-nil (10 * (n / 10) + (48 + n % 10 - 48)) ∙ ap (λ m. Some m) same

number_after-decimal : (n : ℕ) → n < 2 ^ 32 → number_after 0 (decimal n) ≡ Some n
number_after-decimal n small = decimal_by_steps IsReadOf one_digit more_digits n (omega arith) small

plain_read : (n : ℕ) (digits : List ℕ) → digits ≢ [] → AllByRecursion IsDigit digits → number_after 0 digits ≡ Some n → literal_in digits ≡ Ok (true, n)
plain_read n [] some all is = absurd (some refl)
plain_read n (d ∷ ds) some all is = literal_plain d ds n (λ e. omega (arith, all.0.0)) is

minus_read : (n : ℕ) (digits : List ℕ) → digits ≢ [] → number_after 0 digits ≡ Some n → literal_in (45 ∷ digits) ≡ Ok (false, n)
minus_read n [] some is = absurd (some refl)
minus_read n (d ∷ ds) some is = literal_minus d ds n is

-- ---- words

-- no byte ends a word
abbrev IsPlain : List ℕ → Type 0
IsPlain = AllByRecursion (λ b. end_of b ≡ None)

digits_plain : (ds : List ℕ) → AllByRecursion IsDigit ds → IsPlain ds
digits_plain [] all = tt
digits_plain (d ∷ ds) all = (digit_goes d (true_digit d all.0), digits_plain ds all.1)

words_plain : (word begun rest : List ℕ) → IsPlain word → words_from begun (word ++ rest) ≡ words_from (begun ++ word) rest
words_plain [] begun rest plain = ap (λ w. words_from w rest) (sym (append-nil begun))
words_plain (b ∷ bs) begun rest plain =
    words_on b (bs ++ rest) begun plain.0 ∙ words_plain bs (begun ++ b ∷ []) rest plain.1 ∙ ap (λ w. words_from w rest) (append_assoc begun (b ∷ []) bs)

lines_plain : (word rest : List ℕ) → IsPlain word → lines_after (word ++ rest) ≡ lines_after rest
lines_plain [] rest plain = refl
lines_plain (b ∷ bs) rest plain = lines_on b (bs ++ rest) plain.0 ∙ lines_plain bs rest plain.1

in_front-some : (word : List ℕ) (words : List (List ℕ)) → word ≢ [] → word_in_front word words ≡ word ∷ words
in_front-some [] words some = absurd (some refl)
in_front-some (b ∷ bs) words some = refl

-- a space and a word
words_spaced : (word begun rest : List ℕ) (words : List (List ℕ)) → IsPlain word → word ≢ [] → ((begun : List ℕ) → words_from begun rest ≡ word_in_front begun words)
    → words_from begun (32 ∷ word ++ rest) ≡ word_in_front begun (word ∷ words)
unfolding words_from
words_spaced word begun rest words plain some later =
    ap (word_in_front begun) (words_plain word [] rest plain ∙ later word ∙ in_front-some word words some)

lines_spaced : (word rest : List ℕ) → IsPlain word → lines_after (32 ∷ word ++ rest) ≡ lines_after rest
unfolding lines_after
lines_spaced word rest plain = lines_plain word rest plain

-- the words of values
abbrev words_of : ℕ → List Lbool → List (List ℕ)
words_of n [] = []
words_of n (TRUE ∷ values) = decimal (n + 1) ∷ words_of (n + 1) values
words_of n (FALSE ∷ values) = (45 ∷ decimal (n + 1)) ∷ words_of (n + 1) values
words_of n (NONE ∷ values) = words_of (n + 1) values

module _ (rest : List ℕ) where
  words_row : (n : ℕ) (row : List Lbool) (begun : List ℕ) → n + length row < 2 ^ 32 → words_from begun (values_text n row ++ 10 ∷ rest) ≡ word_in_front begun (words_of n row)
  unfolding words_from
  words_row n [] begun few = refl
  words_row n (TRUE ∷ row) begun few =
      let d = number_written (n + 1) (omega arith) in
      ap (λ bytes. words_from begun (32 ∷ bytes)) (append_assoc (decimal (n + 1)) (values_text (n + 1) row) (10 ∷ rest))
      ∙ words_spaced (decimal (n + 1)) begun (values_text (n + 1) row ++ 10 ∷ rest) (words_of (n + 1) row) (digits_plain (decimal (n + 1)) d.each) d.some (λ word. words_row (n + 1) row word (omega arith))
  words_row n (FALSE ∷ row) begun few =
      let d = number_written (n + 1) (omega arith) in
      ap (λ bytes. words_from begun (32 ∷ 45 ∷ bytes)) (append_assoc (decimal (n + 1)) (values_text (n + 1) row) (10 ∷ rest))
      ∙ words_spaced (45 ∷ decimal (n + 1)) begun (values_text (n + 1) row ++ 10 ∷ rest) (words_of (n + 1) row) (refl, digits_plain (decimal (n + 1)) d.each) (λ e. cc) (λ word. words_row (n + 1) row word (omega arith))
  words_row n (NONE ∷ row) begun few = words_row (n + 1) row begun (omega arith)

  lines_row : (n : ℕ) (row : List Lbool) → n + length row < 2 ^ 32 → lines_after (values_text n row ++ 10 ∷ rest) ≡ lines_of rest
  unfolding lines_after
  lines_row n [] few = refl
  lines_row n (TRUE ∷ row) few =
      ap (λ bytes. lines_after (32 ∷ bytes)) (append_assoc (decimal (n + 1)) (values_text (n + 1) row) (10 ∷ rest))
      ∙ lines_spaced (decimal (n + 1)) (values_text (n + 1) row ++ 10 ∷ rest) (digits_plain (decimal (n + 1)) (number_written (n + 1) (omega arith)).each)
      ∙ lines_row (n + 1) row (omega arith)
  lines_row n (FALSE ∷ row) few =
      ap (λ bytes. lines_after (32 ∷ 45 ∷ bytes)) (append_assoc (decimal (n + 1)) (values_text (n + 1) row) (10 ∷ rest))
      ∙ lines_spaced (45 ∷ decimal (n + 1)) (values_text (n + 1) row ++ 10 ∷ rest) (refl, digits_plain (decimal (n + 1)) (number_written (n + 1) (omega arith)).each)
      ∙ lines_row (n + 1) row (omega arith)
  lines_row n (NONE ∷ row) few = lines_row (n + 1) row (omega arith)

  row_lines : (n : ℕ) (row : List Lbool) → n + length row < 2 ^ 32 → lines_of (codes "v" ++ values_text n row ++ 10 ∷ rest) ≡ (codes "v" ∷ words_of n row) ∷ lines_of rest
  row_lines n row few =
      let line : words_from [] (codes "v" ++ values_text n row ++ 10 ∷ rest) ≡ codes "v" ∷ words_of n row =
      words_plain (codes "v") [] (values_text n row ++ 10 ∷ rest) (refl, tt) ∙ words_row n row (codes "v") few
      in
      let later : lines_after (codes "v" ++ values_text n row ++ 10 ∷ rest) ≡ lines_of rest = lines_plain (codes "v") (values_text n row ++ 10 ∷ rest) (refl, tt) ∙ lines_row n row few in
      rw (line, later) refl

-- ---- values

-- as many values that are unknown
abbrev unknown : List Lbool → List Lbool
unknown values = map (λ _. NONE) values

unknown_all : (values : List Lbool) → replicate (length values) NONE ≡ unknown values
unknown_all [] = refl
unknown_all (value ∷ values) = ap (λ l. NONE ∷ l) (unknown_all values)

here : (taken more : List Lbool) (x : Lbool) → slice_index_or (taken ++ x ∷ more) (length taken) NONE ≡ x
here [] more x = refl
here (y ∷ taken) more x = here taken more x

put : (taken more : List Lbool) (x y : Lbool) → slice_set (taken ++ x ∷ more) (length taken) y ≡ taken ++ y ∷ more
put [] more x y = refl
put (z ∷ taken) more x y = ap (λ l. z ∷ l) (put taken more x y)

not_zero : (n : ℕ) → (n + 1 == 0) ≡ false
not_zero n = grind (arith, nat_tests)

within : (n m : ℕ) → n < m → nat_le m (n + 1 - 1) ≡ false
within n m h = grind (arith, nat_tests)

-- a word of a known value is taken
module _ (taken more : List Lbool) (value : Lbool) where
  value_taken : (positive : Bool) (word : List ℕ) (words : List (List ℕ)) → known_of positive ≡ value → literal_in word ≡ Ok (positive, length taken + 1)
      → take_words (taken ++ NONE ∷ more) (word ∷ words) ≡ take_words (taken ++ value ∷ more) words
  unfolding take_words
  value_taken positive word words known is =
      let room : length taken < length (taken ++ NONE ∷ more) = omega (arith, length-append taken (NONE ∷ more)) in
      let same : length taken + 1 - 1 ≡ length taken = omega arith in
      rw (is, not_zero (length taken), no_end positive, within (length taken) (length (taken ++ NONE ∷ more)) room, same, here taken more NONE, known, put taken more NONE value) refl
    where
      no_end : (b : Bool) → (b && false) ≡ false
      no_end true = refl
      no_end false = refl

-- with any value more, the rest of the row is taken
abbrev Later : List Lbool → List Lbool → List Lbool → Type 0
Later taken row more =
    (x : Lbool) → take_words ((taken ++ x ∷ []) ++ (unknown row ++ more)) (words_of (length (taken ++ x ∷ [])) row) ≡ Ok ((taken ++ x ∷ []) ++ (row ++ more), None)

row_taken : (row taken more : List Lbool) → length taken + length row < 2 ^ 32
    → take_words (taken ++ (unknown row ++ more)) (words_of (length taken) row) ≡ Ok (taken ++ (row ++ more), None)
unfolding take_words
row_taken [] taken more few = refl
row_taken (value ∷ row) taken more few = by (λ x. row_taken row (taken ++ x ∷ []) more (omega (arith, length-append taken (x ∷ [])))) value
  where
    rest : Later taken row more → (x : Lbool) → take_words (taken ++ x ∷ (unknown row ++ more)) (words_of (length taken + 1) row) ≡ Ok (taken ++ x ∷ (row ++ more), None)
    rest later x =
        ap (λ values. take_words values (words_of (length taken + 1) row)) (sym (append_assoc taken (x ∷ []) (unknown row ++ more)))
        ∙ ap (λ n. take_words ((taken ++ x ∷ []) ++ (unknown row ++ more)) (words_of n row)) (sym (length-append taken (x ∷ [])))
        ∙ later x
        ∙ ap (λ values. Ok (values, None)) (append_assoc taken (x ∷ []) (row ++ more))

    by : Later taken row more → (value : Lbool) → take_words (taken ++ NONE ∷ (unknown row ++ more)) (words_of (length taken) (value ∷ row)) ≡ Ok (taken ++ value ∷ (row ++ more), None)
    by later TRUE =
        let d = number_written (length taken + 1) (omega arith) in
        value_taken taken (unknown row ++ more) TRUE true (decimal (length taken + 1)) (words_of (length taken + 1) row) refl (plain_read (length taken + 1) (decimal (length taken + 1)) d.some d.each (number_after-decimal (length taken + 1) (omega arith)))
        ∙ rest later TRUE
    by later FALSE =
        let d = number_written (length taken + 1) (omega arith) in
        value_taken taken (unknown row ++ more) FALSE false (45 ∷ decimal (length taken + 1)) (words_of (length taken + 1) row) refl (minus_read (length taken + 1) (decimal (length taken + 1)) d.some (number_after-decimal (length taken + 1) (omega arith)))
        ∙ rest later FALSE
    by later NONE = rest later NONE

-- ---- the answer

abbrev all_of : List (List Lbool) → List Lbool
all_of rows = flat_map (λ row. row) rows

rows_read : (rows : List (List Lbool)) (taken : List Lbool) → length taken + length (all_of rows) < 2 ^ 32
    → solution_from true (taken ++ unknown (all_of rows)) (lines_of (rows_text (length taken) rows)) ≡ Ok (taken ++ all_of rows)
unfolding solution_from rows_text words_from lines_after take_words number_after
rows_read [] taken few = refl
rows_read (row ∷ rows) taken few =
    let split = map-append (λ (_ : Lbool). NONE) row (all_of rows) in
    let length_all = length-append row (all_of rows) in
    let longer : length taken + length row ≡ length (taken ++ row) = sym (length-append taken row) in
    let regroup : taken ++ (row ++ unknown (all_of rows)) ≡ (taken ++ row) ++ unknown (all_of rows) = sym (append_assoc taken row (unknown (all_of rows))) in
    rw (split, row_lines (rows_text (length taken + length row) rows) (length taken) row (omega arith), row_taken row taken (unknown (all_of rows)) (omega arith), regroup, longer)
    (rows_read rows (taken ++ row) (omega (arith, longer)) ∙ ap (λ values. Ok values) (append_assoc taken row (all_of rows)))

answer_read : (values : List Lbool) (rest : List ℕ) → solution_from false values (lines_of (codes "s SATISFIABLE\n" ++ rest)) ≡ solution_from true values (lines_of rest)
unfolding solution_from words_from lines_after
answer_read values rest = refl

pub solution_in-written : (rows : List (List Lbool)) → length (all_of rows) < 2 ^ 32 → solution_in (length (all_of rows)) (solution_text rows) ≡ Ok (all_of rows)
unfolding solution_text
solution_in-written rows few =
    answer_read (replicate (length (all_of rows)) NONE) (rows_text 0 rows)
    ∙ ap (λ values. solution_from true values (lines_of (rows_text 0 rows))) (unknown_all (all_of rows))
    ∙ rows_read rows [] (omega arith)

pub solution_in-refused : (variables : ℕ) → solution_in variables unsatisfiable_text ≡ Err errors.Unsatisfiable
unfolding solution_from words_from lines_after
solution_in-refused variables = refl
