-- Words and lines of bytes, byte by byte.
use Rattle.aig_base.proofs.Words.{◌≡◌, ◌⊎◌, inl, inr, ℕ, ◌+◌, ◌-◌, ◌*◌, ◌<◌, ◌≤◌, ◌^◌, Bool, true, false, cond, ◌||◌, List, [], ◌∷◌, Option, Some, None, Result, Ok, Err, refl, sym, ap, subst, ◌∙◌, arith, ◌==◌, nat_lt, IfSome, false≢true, ne_eqb, eqb-true, cond-true, cond-false}
use Rattle.aig_format.specs.Parse.{is_digit}
use Rattle.aig_refutation.specs.declared.error.RefutationError.{RefutationError}
use Rattle.aig_refutation.specs.declared.error.RefutationError.TheVariants as errors
use Rattle.aig_refutation.specs.declared.words.End.{End}
use Rattle.aig_refutation.specs.declared.words.End.TheVariants as ends
use Rattle.aig_refutation.specs.Proofs.{is_comment}
use Rattle.aig_refutation.specs.Text.{Deletes, digits_after, ends_word, fault, is_blank, letter_before, lines_after, lines_of, number_in, signed, word_at, word_in, words_after, words_of}
use Rattle.aig_refutation.specs.Tokens.{end_after, front, left_after, left_at, lines_past}

pub blank_no_line : (b : ℕ) → is_blank b ≡ true → (b == 10) ≡ false
blank_no_line b is = ne_eqb b 10 (λ e. false≢true (subst (λ n. is_blank n ≡ true) e is))

-- ---- choices

module _ {A : Type 0} (words : List A) (more : List A → List A) (later last : List A) where
  words_by_blank : (line blank : Bool) → line ≡ false → blank ≡ true → cond (line || blank) (cond
      line [] (cond blank words last)) later ≡ words
  words_by_blank true blank e f = absurd (false≢true (sym e))
  words_by_blank false true e f = refl
  words_by_blank false false e f = absurd (false≢true f)

  words_by_word : (line blank : Bool) → line ≡ false → blank ≡ false → cond (line || blank) (cond
      line [] (cond blank words last)) (more (cond line [] (cond blank words last))) ≡ more last
  words_by_word true blank e f = absurd (false≢true (sym e))
  words_by_word false true e f = absurd (false≢true (sym f))
  words_by_word false false e f = refl

  last_by : (line blank : Bool) → line ≡ false → blank ≡ false → cond line [] (cond blank words
      last) ≡ last
  last_by true blank e f = absurd (false≢true (sym e))
  last_by false true e f = absurd (false≢true (sym f))
  last_by false false e f = refl

-- ---- lines

module _ (b : ℕ) (bs : List ℕ) where
  -- a byte that ends no line
  pub same_line : (b == 10) ≡ false → lines_after (b ∷ bs) ≡ lines_after bs
  unfolding lines_after
  same_line e = cond-false (b == 10) (words_of bs ∷ lines_after bs) (lines_after bs) e

  blank_word : is_blank b ≡ true → words_of (b ∷ bs) ≡ words_of bs
  unfolding words_of words_after word_at
  blank_word is = words_by_blank (words_of bs) (λ ws. ws) ((b ∷ cond (ends_word b) [] (word_at bs))
      ∷ words_after (b ∷ bs)) (words_after bs) (b == 10) (is_blank b) (blank_no_line b is) is

  -- a blank before a line
  pub blank_first : is_blank b ≡ true → lines_of (b ∷ bs) ≡ lines_of bs
  blank_first is = rw (blank_word is, same_line (blank_no_line b is)) refl

  module _ (no_line : (b == 10) ≡ false) (no_blank : is_blank b ≡ false) where
    no_end : ends_word b ≡ false
    no_end = rw (no_line, no_blank) refl

    words_go : words_after (b ∷ bs) ≡ words_after bs
    unfolding words_after words_of
    words_go = last_by (words_of bs) (λ ws. ws) [] (words_after bs) (b == 10) (is_blank b) no_line
        no_blank

    -- a byte of a word
    pub word_goes : left_after (b ∷ bs) ≡ left_after bs
    word_goes = rw (words_go, same_line no_line) refl

    -- and the first one
    pub word_first : words_of (b ∷ bs) ≡ (b ∷ word_at bs) ∷ words_after bs
    unfolding words_of words_after word_at
    word_first = words_by_word (words_of bs) (λ ws. (b ∷ cond (ends_word b) [] (word_at bs)) ∷ ws)
        [] (words_after bs) (b == 10) (is_blank b) no_line no_blank ∙ ap (λ w. (b ∷ w) ∷
        words_after bs) (cond-false (ends_word b) [] (word_at bs) no_end)

    pub line_first : lines_of (b ∷ bs) ≡ ((b ∷ word_at bs) ∷ words_after bs) ∷ lines_after bs
    line_first = rw (word_first, same_line no_line) refl

pub next_line : (bs : List ℕ) → lines_after (10 ∷ bs) ≡ lines_of bs
unfolding lines_after
next_line bs = refl

pub no_line : lines_after [] ≡ []
unfolding lines_after
no_line = refl

pub feed_first : (bs : List ℕ) → lines_of (10 ∷ bs) ≡ [] ∷ lines_of bs
unfolding lines_after words_of words_after word_at
feed_first bs = refl

pub end_first : lines_of [] ≡ [] ∷ []
unfolding lines_after words_of words_after word_at
end_first = refl

-- ---- digits

pub digit_no_line : (b : ℕ) → is_digit b ≡ true → (b == 10) ≡ false
digit_no_line b is = ne_eqb b 10 (λ e. false≢true (subst (λ n. is_digit n ≡ true) e is))

pub digit_no_blank : (b : ℕ) → is_digit b ≡ true → is_blank b ≡ false
digit_no_blank b is =
    rw (
      ne_eqb b 32 (λ e. false≢true (subst (λ n. is_digit n ≡ true) e is)),
      ne_eqb b 9 (λ e. false≢true (subst (λ n. is_digit n ≡ true) e is)),
      ne_eqb b 13 (λ e. false≢true (subst (λ n. is_digit n ≡ true) e is)),
    ) refl

module _ (value b : ℕ) (bs : List ℕ) where
  pub digit_on : is_digit b ≡ true → 10 * value + (b - 48) < 2 ^ 32 → digits_after value (b ∷ bs) ≡
      digits_after (10 * value + (b - 48)) bs
  unfolding digits_after
  digit_on is small = rw is (by (nat_lt (10 * value + (b - 48)) (2 ^ 32)) (below small))
    where
      below : {m n : ℕ} → m < n → nat_lt m n ≡ true
      below {m} {n} h = grind (arith, h)

      by : (t : Bool) → t ≡ true → cond t (digits_after (10 * value + (b - 48)) bs) (Err
          errors.Line) ≡ digits_after (10 * value + (b - 48)) bs
      by true e = refl
      by false e = absurd (false≢true e)

  pub digit_wrong : is_digit b ≡ true → 2 ^ 32 ≤ 10 * value + (b - 48) → digits_after value (b ∷
      bs) ≡ Err errors.Line
  unfolding digits_after
  digit_wrong is large = rw is (by (nat_lt (10 * value + (b - 48)) (2 ^ 32)) (past large))
    where
      past : {m n : ℕ} → n ≤ m → nat_lt m n ≡ false
      past {m} {n} h = grind (arith, h)

      by : (t : Bool) → t ≡ false → cond t (digits_after (10 * value + (b - 48)) bs) (Err
          errors.Line) ≡ Err errors.Line
      by true e = absurd (false≢true (sym e))
      by false e = refl

pub first_digit : (b : ℕ) (bs : List ℕ) → is_digit b ≡ true → number_in (b ∷ bs) ≡ digits_after (b
    - 48) bs
unfolding number_in
first_digit b bs is = rw is refl

pub no_digit : (b : ℕ) (bs : List ℕ) → is_digit b ≡ false → number_in (b ∷ bs) ≡ Err (fault b)
unfolding number_in
no_digit b bs is = rw is refl

pub number_none : number_in [] ≡ Err errors.Unfinished
unfolding number_in
number_none = refl

-- a number begins with a digit
pub number_digit : (b : ℕ) (bs : List ℕ) (value : ℕ) → number_in (b ∷ bs) ≡ Ok value → is_digit b ≡
    true
unfolding number_in
number_digit b bs value is = by (is_digit b) (digits_after (b - 48) bs) (fault b) is
  where
    by : (t : Bool) (x : Result ℕ RefutationError) (f : RefutationError) → cond t x (Err f) ≡ Ok
        value → t ≡ true
    by true x f h = refl
    by false x f h = absurd cc

-- ---- the end of a word

digits_stop : (value b : ℕ) (rest : List ℕ) → is_digit b ≡ false → ends_word b ≡ true →
    digits_after value (b ∷ rest) ≡ Ok value
unfolding digits_after
digits_stop value b rest no_digit ends = rw (no_digit, ends) refl

digits_bad : (value b : ℕ) (rest : List ℕ) → is_digit b ≡ false → ends_word b ≡ false →
    digits_after value (b ∷ rest) ≡ Err (fault b)
unfolding digits_after
digits_bad value b rest no_digit goes = rw (no_digit, goes) refl

digits_none : (value : ℕ) → digits_after value [] ≡ Ok value
unfolding digits_after
digits_none value = refl

-- a byte that ends a word, and one that doesn't
ends_by : (end now : Option End) (line blank : Bool) (f : RefutationError) → cond line (Ok (Some
    ends.Line)) (cond blank (Ok end) (Err f)) ≡ Ok now → (line || blank) ≡ true
ends_by end now true blank f k = refl
ends_by end now false true f k = refl
ends_by end now false false f k = absurd cc

goes_by : (end : Option End) (e : RefutationError) (line blank : Bool) (f : RefutationError) → cond
    line (Ok (Some ends.Line)) (cond blank (Ok end) (Err f)) ≡ Err e → ((line || blank) ≡ false) ×
    (f ≡ e)
goes_by end e true blank f k = absurd cc
goes_by end e false true f k = absurd cc
goes_by end e false false f k = (refl, cc)

-- the bytes after a number's digits end it, or are refused
pub digits_end : (value : ℕ) (end now : Option End) (o : Option ℕ) (rest : List ℕ) → IfSome o (λ b.
    is_digit b ≡ false) → end_after end o ≡ Ok now → digits_after value (front o rest) ≡ Ok value
digits_end value end now None rest other is = digits_none value
digits_end value end now (Some b) rest other is = digits_stop value b rest other (ends_by end now
    (b == 10) (is_blank b) (fault b) is)

pub digits_refused : (value : ℕ) (end : Option End) (o : Option ℕ) (rest : List ℕ) (e :
    RefutationError) → IfSome o (λ b. is_digit b ≡ false) → end_after end o ≡ Err e → digits_after
    value (front o rest) ≡ Err e
digits_refused value end None rest e other is = absurd cc
digits_refused value end (Some b) rest e other is =
    let g = goes_by end e (b == 10) (is_blank b) (fault b) is in
    digits_bad value b rest other g.0 ∙ ap (λ f. Err f) g.1

-- the letter alone
letter_stop : (b : ℕ) (rest : List ℕ) → ends_word b ≡ true → letter_before (b ∷ rest) ≡ Ok Deletes
unfolding letter_before
letter_stop b rest ends = rw ends refl

letter_bad : (b : ℕ) (rest : List ℕ) → ends_word b ≡ false → letter_before (b ∷ rest) ≡ Err (fault
    b)
unfolding letter_before
letter_bad b rest goes = rw goes refl

letter_none : letter_before [] ≡ Ok Deletes
unfolding letter_before
letter_none = refl

pub letter_end : (end now : Option End) (o : Option ℕ) (rest : List ℕ) → end_after end o ≡ Ok now →
    letter_before (front o rest) ≡ Ok Deletes
letter_end end now None rest is = letter_none
letter_end end now (Some b) rest is = letter_stop b rest (ends_by end now (b == 10) (is_blank b)
    (fault b) is)

pub letter_refused : (end : Option End) (o : Option ℕ) (rest : List ℕ) (e : RefutationError) →
    end_after end o ≡ Err e → letter_before (front o rest) ≡ Err e
letter_refused end None rest e is = absurd cc
letter_refused end (Some b) rest e is =
    let g = goes_by end e (b == 10) (is_blank b) (fault b) is in
    letter_bad b rest g.0 ∙ ap (λ f. Err f) g.1

-- what is left after the byte that ends a word
left_stream : (rest : List ℕ) → left_at (Some ends.Stream) rest ≡ left_after []
unfolding lines_after words_after
left_stream rest = refl

left_line : (rest : List ℕ) → left_at (Some ends.Line) rest ≡ left_after (10 ∷ rest)
unfolding lines_after words_after
left_line rest = refl

by_blank : (line blank : Bool) (ws vs : List (List ℕ)) → line ≡ false → blank ≡ true → cond line []
    (cond blank ws vs) ≡ ws
by_blank true blank ws vs e f = absurd (false≢true (sym e))
by_blank false true ws vs e f = refl
by_blank false false ws vs e f = absurd (false≢true f)

words_blank : (b : ℕ) (rest : List ℕ) → (b == 10) ≡ false → is_blank b ≡ true → words_after (b ∷
    rest) ≡ words_of rest
unfolding words_after words_of
words_blank b rest n y = by_blank (b == 10) (is_blank b) (words_of rest) (words_after rest) n y

left_blank : (b : ℕ) (rest : List ℕ) → (b == 10) ≡ false → is_blank b ≡ true → left_at None rest ≡
    left_after (b ∷ rest)
left_blank b rest n y = rw (same_line b rest n, words_blank b rest n y) refl

left_by : (b : ℕ) (rest : List ℕ) (now : Option End) (line blank : Bool) (f : RefutationError) → (b
    == 10) ≡ line → is_blank b ≡ blank → cond line (Ok (Some ends.Line)) (cond blank (Ok None) (Err
    f)) ≡ Ok now
    → left_at now rest ≡ left_after (b ∷ rest)
left_by b rest now true blank f l y k =
    let same : Some ends.Line ≡ now = cc in
    rw (← same) (left_line rest ∙ ap (λ (a : ℕ). left_after (a ∷ rest)) (sym (eqb-true b 10 l)))
left_by b rest now false true f l y k = let same : None ≡ now = cc in rw (← same) (left_blank b
    rest l y)
left_by b rest now false false f l y k = absurd cc

pub left_end : (now : Option End) (o : Option ℕ) (rest : List ℕ) → end_after None o ≡ Ok now →
    left_at now rest ≡ left_after (front o rest)
left_end now None rest is = let same : Some ends.Stream ≡ now = cc in rw (← same) (left_stream rest)
left_end now (Some b) rest is = left_by b rest now (b == 10) (is_blank b) (fault b) refl refl is

-- ---- a word is all that is read of bytes

pub digits_whole : (value : ℕ) (bs : List ℕ) → digits_after value (word_at bs) ≡ digits_after value
    bs
unfolding digits_after word_at
digits_whole value [] = refl
digits_whole value (b ∷ bs) = by (is_digit b) (ends_word b) (nat_lt (10 * value + (b - 48)) (2 ^
    32)) (digit_ends b) (digits_whole (10 * value + (b - 48)) bs)
  where
    digit_ends : (b : ℕ) → is_digit b ≡ true → ends_word b ≡ false
    digit_ends b is = rw (digit_no_line b is, digit_no_blank b is) refl

    by : (digit ends small : Bool) → (digit ≡ true → ends ≡ false) → digits_after (10 * value + (b
        - 48)) (word_at bs) ≡ digits_after (10 * value + (b - 48)) bs
        → cond digit (cond small (digits_after (10 * value + (b - 48)) (cond ends [] (word_at bs)))
        (Err errors.Line)) (cond ends (Ok value) (Err (fault b)))
        ≡ cond digit (cond small (digits_after (10 * value + (b - 48)) bs) (Err errors.Line)) (cond
        ends (Ok value) (Err (fault b)))
    by false ends small h same = refl
    by true true small h same = absurd (false≢true (sym (h refl)))
    by true false true h same = same
    by true false false h same = refl

number_whole : (bs : List ℕ) → number_in (word_at bs) ≡ number_in bs
unfolding number_in word_at
number_whole [] = refl
number_whole (b ∷ bs) = by (is_digit b) (ends_word b) (λ is. rw (
  digit_no_line b is,
  digit_no_blank
      b is,
) refl)
  where
    by : (digit ends : Bool) → (digit ≡ true → ends ≡ false) → cond digit (digits_after (b - 48)
        (cond ends [] (word_at bs))) (Err (fault b)) ≡ cond digit (digits_after (b - 48) bs) (Err
        (fault b))
    by false ends h = refl
    by true true h = absurd (false≢true (sym (h refl)))
    by true false h = digits_whole (b - 48) bs

number_whole_after : (b : ℕ) (bs : List ℕ) → number_in (b ∷ word_at bs) ≡ number_in (b ∷ bs)
unfolding number_in
number_whole_after b bs = ap (λ r. cond (is_digit b) r (Err (fault b))) (digits_whole (b - 48) bs)

letter_whole : (bs : List ℕ) → letter_before (word_at bs) ≡ letter_before bs
unfolding letter_before word_at
letter_whole [] = refl
letter_whole (b ∷ bs) = refl

pub word_whole : (b : ℕ) (bs : List ℕ) → word_in (b ∷ word_at bs) ≡ word_in (b ∷ bs)
unfolding word_in
word_whole b bs = rw (letter_whole bs, number_whole bs, number_whole_after b bs) refl

pub word_letter : (bs : List ℕ) → word_in (100 ∷ bs) ≡ letter_before bs
unfolding word_in
word_letter bs = refl

pub word_minus : (bs : List ℕ) → word_in (45 ∷ bs) ≡ signed false (number_in bs)
unfolding word_in
word_minus bs = refl

pub word_plain : (b : ℕ) (bs : List ℕ) → (b == 100) ≡ false → (b == 45) ≡ false → word_in (b ∷ bs)
    ≡ signed true (number_in (b ∷ bs))
unfolding word_in
word_plain b bs n m = rw (n, m) refl

-- ---- lines that are passed over

pub past_none : lines_past [] ≡ []
unfolding lines_past
past_none = refl

pub past_empty : (lines : List (List (List ℕ))) → lines_past ([] ∷ lines) ≡ lines_past lines
unfolding lines_past
past_empty lines = refl

pub past_comment : (word : List ℕ) (more : List (List ℕ)) (lines : List (List (List ℕ))) →
    is_comment word ≡ true → lines_past ((word ∷ more) ∷ lines) ≡ lines_past lines
unfolding lines_past
past_comment word more lines is = cond-true (is_comment word) (lines_past lines) ((word ∷ more) ∷
    lines) is

pub past_word : (word : List ℕ) (more : List (List ℕ)) (lines : List (List (List ℕ))) → is_comment
    word ≡ false → lines_past ((word ∷ more) ∷ lines) ≡ (word ∷ more) ∷ lines
unfolding lines_past
past_word word more lines is = cond-false (is_comment word) (lines_past lines) ((word ∷ more) ∷
    lines) is

-- ---- digits as std tests them

-- ---- blanks as they are matched

pub is_a_blank : (b : ℕ) → (b ≡ 9) ⊎ ((b ≡ 13) ⊎ (b ≡ 32)) → is_blank b ≡ true
is_a_blank b (inl e) = rw e refl
is_a_blank b (inr (inl e)) = rw e refl
is_a_blank b (inr (inr e)) = rw e refl
