-- How the digits of a word are read.
use Rattle.aig_base.proofs.Words.{◌≡◌, ℕ, ◌+◌, ◌-◌, ◌*◌, ◌≤◌, true, false, List, [], ◌∷◌, ◌++◌, Option, Some, None, Ok, Err, refl, sym, ap, subst, ◌∙◌, append_assoc, append-nil, arith, ne_eqb, false≢true}
use Rattle.std.specs.Prelude.{◌==◌}
use Rattle.aig_format.specs.Parse.{is_digit}
use Rattle.aig_format.proofs.NumberReaders.{digit_true}
use Rattle.aig_lexer.specs.Digits.{TakesDigits, TakesTooMany, number_after}
use Rattle.aig_lexer.specs.Takes.{Advances, Feed}
use Rattle.aig_lexer.proofs.Digits.{number_after-append, number_after-digit, number_after-large, number_after-other, number_first}
use Rattle.aig_witness.specs.declared.solutions.error.SolutionError.TheVariants as errors
use Rattle.aig_witness.specs.declared.solutions.words.End.{End}
use Rattle.aig_witness.specs.declared.solutions.words.End.TheVariants.{Blank, Line, Stream}
use Rattle.aig_witness.specs.Lines.{GivesNumber, IsLeft, IsNoMore, end_of}
use Rattle.aig_witness.specs.SolverAnswers.{lines_after, words_from}
use Rattle.aig_witness.proofs.Leaving.{consumed_known, ended_known}
use Rattle.aig_witness.proofs.Texts.{goes_on_by, lines_none, lines_on, words_end, words_none, words_on}

pub digit_goes : (b : ℕ) → is_digit b ≡ true → end_of b ≡ None
digit_goes b is = rw (other 10 refl, other 32 refl, other 9 refl, other 13 refl) refl
  where
    other : (k : ℕ) → is_digit k ≡ false → (b == k) ≡ false
    other k apart = ne_eqb b k (λ e. false≢true (sym apart ∙ ap (λ n. is_digit n) (sym e) ∙ is))

-- a word that has begun is read so far
abbrev Passes : List ℕ → List ℕ → List ℕ → Type 0
Passes taken bytes rest = ((c : ℕ) (word : List ℕ) → words_from (c ∷ word) bytes ≡ words_from
    (c ∷ word ++ taken) rest)
    × (lines_after bytes ≡ lines_after rest)

passes_byte : (taken rest : List ℕ) (b : ℕ) → end_of b ≡ None → Passes taken (taken ++ b ∷ rest)
    (b ∷ rest) → Passes (taken ++ b ∷ []) (taken ++ b ∷ rest) rest
passes_byte taken rest b is h = (
  λ c word. h.0 c word ∙ words_on b rest (c ∷ word ++ taken) is ∙ ap (λ w. words_from (c ∷ w) rest)
      (append_assoc word taken (b ∷ [])),
  h.1 ∙ lines_on b rest is,
)

passes_digits : (value n : ℕ) (ds rest : List ℕ) → number_after value ds ≡ Some n
    → Passes ds (ds ++ rest) rest
passes_digits value n [] rest is =
    (λ c word. ap (λ w. words_from (c ∷ w) rest) (sym (append-nil word)), refl)
passes_digits value n (d ∷ ds) rest is =
    let first = number_first value d ds n is in
    let goes = digit_goes d first.0 in
    let more = passes_digits (10 * value + (d - 48)) n ds rest first.2 in (
      λ c word. words_on d (ds ++ rest) (c ∷ word) goes ∙ more.0 c (word ++ d ∷ [])
          ∙ ap (λ w. words_from (c ∷ w) rest) (append_assoc word (d ∷ []) ds),
      lines_on d (ds ++ rest) goes ∙ more.1,
    )

module _ (before after : Feed) (first : ℕ) (digit : is_digit first ≡ true) where
  -- the first digit is one of the number
  whole : (ds : List ℕ) (o : Option ℕ) → number_after (first - 48) ds ≡ o
      → number_after 0 (first ∷ ds) ≡ o
  whole ds o is =
      let low = digit_true first digit in
      let same : 10 * 0 + (first - 48) ≡ first - 48 = omega arith in
      number_after-digit 0 first ds digit (omega (arith, low.0, low.1))
      ∙ ap (λ (v : ℕ). number_after v ds) same ∙ is

  no_more_by : (e : End) → after.most ≤ before.most → IsNoMore e before after
  no_more_by Blank h = h
  no_more_by Line h = h
  no_more_by Stream h = tt

  pub digits_stop : (n b : ℕ) (e : End) → TakesDigits (first - 48) before after n (Some b)
      → end_of b ≡ Some e → GivesNumber first before after (Ok (n, e))
  digits_stop n b e t ends = (
    t.digits,
    whole t.digits (Some n) t.is,
    (
      no_more_by e (omega (arith, t.came.fewer)),
      λ bytes known.
          let c = consumed_known before.coming after.coming (t.digits ++ b ∷ []) bytes
          t.came.consumed known in
          let all : t.digits ++ b ∷ c.0 ≡ bytes = sym (c.2 ∙ append_assoc t.digits (b ∷ []) c.0) in
          let passes = passes_digits (first - 48) n t.digits (b ∷ c.0) t.is in
          let end = words_end b c.0 e ends in (
            c.0,
            c.1,
            λ k word. (
              end.0,
              ap (words_from (k ∷ word)) (sym all) ∙ passes.0 k word
                  ∙ end.1 (k ∷ word ++ t.digits),
              subst (λ lines. IsLeft e end.0 lines c.0) (sym passes.1 ∙ ap lines_after all) end.2,
            ),
          ),
    ),
  )

  pub digits_last : (n : ℕ) → TakesDigits (first - 48) before after n None
      → GivesNumber first before after (Ok (n, Stream))
  digits_last n t = (
    t.digits,
    whole t.digits (Some n) t.is,
    (
      tt,
      λ bytes known.
          let c = consumed_known before.coming after.coming t.digits bytes t.came.consumed known in
          let none = ended_known after.coming c.0 t.came.at_end c.1 in
          let all = c.2 ∙ ap (λ (l : List ℕ). t.digits ++ l) none in
          let passes = passes_digits (first - 48) n t.digits [] t.is in (
            [],
            subst (λ (l : List ℕ). after.coming ≡ Some l) none c.1,
            λ k word. (
              [],
              ap (words_from (k ∷ word)) all ∙ passes.0 k word
                  ∙ words_none (k ∷ word ++ t.digits),
              (refl, ap lines_after all ∙ passes.1 ∙ lines_none, refl),
            ),
          ),
    ),
  )

  -- a byte after digits with which the word is no number
  refused : (n b : ℕ) (ds : List ℕ) → number_after (first - 48) ds ≡ Some n → end_of b ≡ None
      → ((more : List ℕ) → number_after n (b ∷ more) ≡ None) → Advances before after (ds ++ b ∷ [])
      → GivesNumber first before after (Err errors.Literal)
  refused n b ds is goes none came bytes known =
      let c = consumed_known before.coming after.coming (ds ++ b ∷ []) bytes came.consumed known in
      let all : ds ++ b ∷ c.0 ≡ bytes = sym (c.2 ∙ append_assoc ds (b ∷ []) c.0) in
      let passes = passes_byte ds c.0 b goes (passes_digits (first - 48) n ds (b ∷ c.0) is) in (
        refl,
        ds ++ b ∷ [],
        λ more. whole ((ds ++ b ∷ []) ++ more) None
            (ap (λ (l : List ℕ). number_after (first - 48) l) (append_assoc ds (b ∷ []) more)
            ∙ number_after-append (first - 48) ds (b ∷ more) n is ∙ none more),
        goes_on_by (ds ++ b ∷ []) bytes c.0
            (λ k word. ap (words_from (k ∷ word)) (sym all) ∙ passes.0 k word),
      )

  pub digits_wrong : (n b : ℕ) → TakesDigits (first - 48) before after n (Some b)
      → end_of b ≡ None → GivesNumber first before after (Err errors.Literal)
  digits_wrong n b t goes =
      refused n b t.digits t.is goes (λ more. number_after-other n b more t.other) t.came

  pub digits_large : TakesTooMany (first - 48) before after
      → GivesNumber first before after (Err errors.Literal)
  digits_large t =
      refused t.number t.last t.digits t.is (digit_goes t.last t.digit)
      (λ more. number_after-large t.number t.last more t.digit t.large) t.came

pub digits_none : (start now : Feed) (first : ℕ) → is_digit first ≡ false
    → GivesNumber first start now (Err errors.Literal)
digits_none start now first other bytes known = (
  refl,
  [],
  λ more. number_after-other 0 first more other,
  goes_on_by [] bytes bytes (λ c word. ap (λ w. words_from (c ∷ w) bytes) (sym (append-nil word))),
)
