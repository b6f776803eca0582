-- Lines that are read word by word.
use Rattle.aig_base.proofs.Words.{◌≡◌, ◌≢◌, ◌⊎◌, inl, inr, ℕ, Bool, true, false, ◌||◌, List, [], ◌∷◌, Option, Some, None, Result, Ok, Err, refl, sym, ap, subst, ◌∙◌, arith, ◌==◌, IfOk, IfSome, ne_eqb}
use Rattle.aig_lexer.specs.Takes.{Feed}
use Rattle.aig_refutation.specs.declared.error.RefutationError.{RefutationError}
use Rattle.aig_refutation.specs.declared.error.RefutationError.TheVariants as errors
use Rattle.aig_refutation.specs.declared.words.End.{End}
use Rattle.aig_refutation.specs.declared.words.End.TheVariants as ends
use Rattle.aig_refutation.specs.declared.words.Word as code
use Rattle.aig_refutation.specs.declared.words.Word.TheVariants as words
use Rattle.aig_refutation.specs.Proofs.{is_none}
use Rattle.aig_refutation.specs.Text as text
use Rattle.aig_refutation.specs.Text.{◌>>=◌, is_blank, lines_after, lines_of, word_at, word_in, words_after, words_of}
use Rattle.aig_refutation.specs.Tokens.{ClosesAt, GivesValue, GivesFirst, GivesWord, IsReadOn, IsWord, Leaves, Place, Says, end_of, first_in, front, held_word, left_after, left_at, lines_at, lines_past, next_in}
use Rattle.aig_refutation.proofs.Known.{leaves_on, leaves_same, leaves_start, says_now, says_on, tells, tells_on}
use Rattle.aig_refutation.proofs.Texts.{end_first, feed_first, line_first, past_comment, past_empty, past_none, past_word, word_whole}

-- a place where the line goes on, or has ended so
abbrev pub at : Feed → Option End → Place
at f end = record { feed = f; end = end }

next_none : (last : Bool) → next_in last [] ≡ Ok (words.End (end_of last), [])
unfolding next_in
next_none last = refl

next_word : (last : Bool) (word : List ℕ) (more : List (List ℕ)) (w : code.Word) → (word_in word
    >>= λ x. Ok (held_word x)) ≡ Ok w → next_in last (word ∷ more) ≡ Ok (w, more)
unfolding next_in
next_word last word more w is = by (word_in word) is
  where
    pair : text.Word → Result (code.Word × List (List ℕ)) RefutationError
    pair x = Ok (held_word x, more)

    by : (x : Result text.Word RefutationError) → (x >>= λ y. Ok (held_word y)) ≡ Ok w → (x >>=
        pair) ≡ Ok (w, more)
    by (Ok y) h = let same : held_word y ≡ w = cc in ap (λ (k : code.Word). Ok (k, more)) same
    by (Err e) h = absurd cc

next_word_wrong : (last : Bool) (word : List ℕ) (more : List (List ℕ)) (e : RefutationError) →
    word_in word ≡ Err e → next_in last (word ∷ more) ≡ Err e
unfolding next_in
next_word_wrong last word more e is = rw is refl

-- the line has ended before
pub next_closed : (f : Feed) (end : End) → GivesValue (λ w. w) next_in (at f (Some end)) (at f (Some
    end)) (Ok (words.End end))
next_closed f ends.Line = leaves_start f (λ bytes rest. IsReadOn next_in (left_at (Some ends.Line)
    bytes) (left_at (Some ends.Line) rest) (words.End ends.Line)) (λ bytes. (refl, next_none false))
next_closed f ends.Stream = leaves_start f (λ bytes rest. IsReadOn next_in (left_at (Some
    ends.Stream) bytes) (left_at (Some ends.Stream) rest) (words.End ends.Stream)) (λ bytes. (
      refl,
      next_none true,
    ))

-- a word is no end of a line
pub closes_word : (r : Result code.Word RefutationError) (end : Option End) → IfOk r IsWord → IfOk
    r (λ word. ClosesAt word end)
closes_word (Ok (words.End e)) end h = absurd h
closes_word (Ok (words.Number n)) end h = tt
closes_word (Ok words.Deletes) end h = tt
closes_word (Err e) end h = tt

pub some_of : (P : ℕ → Type 0) (o : Option ℕ) (b : ℕ) → o ≡ Some b → IfSome o P → P b
some_of P o b is h = subst (λ (p : Option ℕ). IfSome p P) is h

module _ (before mid : Feed) where
  abbrev pub Skips : Option ℕ → Type 0
  Skips o = Leaves before mid (λ bytes rest. lines_of bytes ≡ lines_of (front o rest))

  pub skips_as : (o p : Option ℕ) → o ≡ p → Skips o → Skips p
  skips_as o p is h = subst (λ (x : Option ℕ). Skips x) is h

  pub next_line_end : Skips (Some 10) → GivesValue (λ w. w) next_in (at before None) (at mid (Some
      ends.Line)) (Ok (words.End ends.Line))
  next_line_end skipped =
      leaves_same before mid (λ bytes rest. lines_of bytes ≡ lines_of (10 ∷ rest)) skipped
      (λ bytes rest. IsReadOn next_in (left_at None bytes) (left_at (Some ends.Line) rest)
      (words.End ends.Line))
      (λ bytes rest h.
      let e : (words_of bytes ∷ lines_after bytes) ≡ ([] ∷ lines_of rest) = h ∙ feed_first rest in
      let w : words_of bytes ≡ [] = cc in
      let l : lines_after bytes ≡ lines_of rest = cc in
      (sym l, rw (w, l) (next_none false)))

  pub next_stream_end : Skips None → GivesValue (λ w. w) next_in (at before None) (at mid (Some
      ends.Stream)) (Ok (words.End ends.Stream))
  next_stream_end skipped =
      leaves_same before mid (λ bytes rest. lines_of bytes ≡ lines_of []) skipped
      (λ bytes rest. IsReadOn next_in (left_at None bytes) (left_at (Some ends.Stream) rest)
      (words.End ends.Stream))
      (λ bytes rest h.
      let e : (words_of bytes ∷ lines_after bytes) ≡ ([] ∷ []) = h ∙ end_first in
      let w : words_of bytes ≡ [] = cc in
      let l : lines_after bytes ≡ [] = cc in
      (sym l, rw (w, l) (next_none true)))

  module _ (b : ℕ) (no_line : b ≢ 10) (no_blank : is_blank b ≡ false) (skipped : Skips (Some b))
      (after : Feed) (end : Option End) where
    line_is : (bytes middle : List ℕ) → lines_of bytes ≡ lines_of (b ∷ middle) → (words_of bytes ∷
        lines_after bytes) ≡ (((b ∷ word_at middle) ∷ words_after middle) ∷ lines_after middle)
    line_is bytes middle h = h ∙ line_first b middle (ne_eqb b 10 no_line) no_blank

    pub next_some : (r : Result code.Word RefutationError) → GivesWord (λ bytes. word_in (b ∷
        bytes)) mid after end r → GivesValue (λ w. w) next_in (at before None) (at after end) r
    next_some (Ok w) given =
        leaves_on before mid (λ bytes rest. lines_of bytes ≡ lines_of (b ∷ rest)) skipped after
        (λ bytes rest. ((word_in (b ∷ bytes) >>= λ x. Ok (held_word x)) ≡ Ok w) × (left_at end rest
        ≡ left_after bytes))
        (λ bytes rest. IsReadOn next_in (left_at None bytes) (left_at end rest) w) given
        (λ bytes middle rest h k.
        let e = line_is bytes middle h in
        let ws : words_of bytes ≡ (b ∷ word_at middle) ∷ words_after middle = cc in
        let l : lines_after bytes ≡ lines_after middle = cc in
        let same : (word_in (b ∷ word_at middle) >>= λ x. Ok (held_word x)) ≡ Ok w = ap (λ (x :
        Result text.Word RefutationError). x >>= λ y. Ok (held_word y)) (word_whole b middle) ∙
        k.0 in
        rw (k.1, ws, l) (
          refl,
          next_word (is_none (lines_after middle)) (b ∷ word_at middle)
              (words_after middle) w same,
        ))
    next_some (Err e) given =
        let P : List ℕ → Type 0 = λ bytes. word_in (b ∷ bytes) ≡ Err e in
        let Q : List ℕ → Type 0 = λ bytes. next_in (is_none (lines_after bytes)) (words_of bytes) ≡
        Err e in
        tells_on e (Says mid P) (Says before Q)
        (λ call. says_on before mid (λ bytes rest. lines_of bytes ≡ lines_of (b ∷ rest)) skipped P
        Q call
        (λ bytes middle h k.
        let e2 = line_is bytes middle h in
        let ws : words_of bytes ≡ (b ∷ word_at middle) ∷ words_after middle = cc in
        rw ws (next_word_wrong (is_none (lines_after bytes)) (b ∷ word_at middle) (words_after
        middle) e (word_whole b middle ∙ k))))
        given

-- ---- the first word of a line

pub comment_byte : (b : ℕ) → (b ≡ 99) ⊎ (b ≡ 112) → (b == 99 || b == 112) ≡ true
comment_byte b (inl e) = rw e refl
comment_byte b (inr e) = rw e refl

pub comment_no_line : (b : ℕ) → (b ≡ 99) ⊎ (b ≡ 112) → b ≢ 10
comment_no_line b (inl e) f = omega arith
comment_no_line b (inr e) f = omega arith

pub no_comment_byte : (b : ℕ) → b ≢ 99 → b ≢ 112 → (b == 99 || b == 112) ≡ false
no_comment_byte b n m = rw (ne_eqb b 99 n, ne_eqb b 112 m) refl

first_word : (b : ℕ) (middle : List ℕ) → b ≢ 97 → first_in (b ∷ word_at middle) ≡ word_in (b ∷
    middle)
unfolding first_in
first_word b middle n = rw (ne_eqb b 97 n) (word_whole b middle)

first_binary : (middle : List ℕ) → first_in (97 ∷ word_at middle) ≡ Err errors.Binary
unfolding first_in
first_binary middle = refl

module _ (start now mid : Feed) (old : Option End) where
  -- the lines that were passed over so far
  abbrev pub Passed : List ℕ → List ℕ → Type 0
  Passed bytes rest = lines_past (lines_at old bytes) ≡ lines_past (lines_of rest)

  module _ (so_far : Leaves start now Passed) where
    skipped_on : (o : Option ℕ) → Leaves now mid (λ bytes rest. lines_of bytes ≡ lines_of (front o
        rest)) → Leaves start mid (λ bytes rest. lines_past (lines_at old bytes) ≡ lines_past
        (lines_of (front o rest)))
    skipped_on o skipped =
        leaves_on start now Passed so_far mid (λ bytes rest. lines_of bytes ≡ lines_of (front o
        rest)) (λ bytes rest. lines_past (lines_at old bytes) ≡ lines_past (lines_of (front o
        rest))) skipped
        (λ bytes middle rest h k. h ∙ ap lines_past k)

    -- a blank line
    pub passed_blank : Leaves now mid (λ bytes rest. lines_of bytes ≡ lines_of (10 ∷ rest)) →
        Leaves start mid Passed
    passed_blank skipped =
        leaves_same start mid (λ bytes rest. lines_past (lines_at old bytes) ≡ lines_past (lines_of
        (10 ∷ rest))) (skipped_on (Some 10) skipped) Passed
        (λ bytes rest h. h ∙ ap lines_past (feed_first rest) ∙ past_empty (lines_of rest))

    -- no line is left
    pub passed_all : Leaves now mid (λ bytes rest. lines_of bytes ≡ lines_of []) → Says start (λ
        bytes. lines_past (lines_at old bytes) ≡ [])
    passed_all skipped =
        says_now start mid (λ bytes rest. lines_past (lines_at old bytes) ≡ lines_past (lines_of
        [])) (skipped_on None skipped) (λ bytes. lines_past (lines_at old bytes) ≡ [])
        (λ bytes rest h. h ∙ ap lines_past end_first ∙ past_empty [] ∙ past_none)

    module _ (b : ℕ) (no_line : b ≢ 10) (no_blank : is_blank b ≡ false) (skipped : Leaves now mid
        (λ bytes rest. lines_of bytes ≡ lines_of (b ∷ rest))) where
      begun : Leaves start mid (λ bytes rest. lines_past (lines_at old bytes) ≡ lines_past (((b ∷
          word_at rest) ∷ words_after rest) ∷ lines_after rest))
      begun =
          leaves_same start mid (λ bytes rest. lines_past (lines_at old bytes) ≡ lines_past
          (lines_of (b ∷ rest))) (skipped_on (Some b) skipped)
          (λ bytes rest. lines_past (lines_at old bytes) ≡ lines_past (((b ∷ word_at rest) ∷
          words_after rest) ∷ lines_after rest))
          (λ bytes rest h. h ∙ ap lines_past (line_first b rest (ne_eqb b 10 no_line) no_blank))

      -- a line of a comment
      module _ (comment : (b == 99 || b == 112) ≡ true) (after : Feed) where
        pub passed_comment : Leaves mid after (λ bytes rest. lines_after bytes ≡ lines_of rest) →
            Leaves start after Passed
        passed_comment ended =
            leaves_on start mid (λ bytes rest. lines_past (lines_at old bytes) ≡ lines_past (((b ∷
            word_at rest) ∷ words_after rest) ∷ lines_after rest)) begun after
            (λ bytes rest. lines_after bytes ≡ lines_of rest) Passed ended
            (λ bytes middle rest h k. h ∙ past_comment (b ∷ word_at middle) (words_after middle)
            (lines_after middle) comment ∙ ap lines_past k)

        pub passed_last : Says mid (λ bytes. lines_after bytes ≡ []) → Says start (λ bytes.
            lines_past (lines_at old bytes) ≡ [])
        passed_last ended =
            says_on start mid (λ bytes rest. lines_past (lines_at old bytes) ≡ lines_past (((b ∷
            word_at rest) ∷ words_after rest) ∷ lines_after rest)) begun
            (λ bytes. lines_after bytes ≡ []) (λ bytes. lines_past (lines_at old bytes) ≡ []) ended
            (λ bytes middle h k. h ∙ past_comment (b ∷ word_at middle) (words_after middle)
            (lines_after middle) comment ∙ ap lines_past k ∙ past_none)

      module _ (no_comment : (b == 99 || b == 112) ≡ false) where
        found : Leaves start mid (λ bytes rest. lines_past (lines_at old bytes) ≡ ((b ∷ word_at
            rest) ∷ words_after rest) ∷ lines_after rest)
        found =
            leaves_same start mid (λ bytes rest. lines_past (lines_at old bytes) ≡ lines_past (((b
            ∷ word_at rest) ∷ words_after rest) ∷ lines_after rest)) begun
            (λ bytes rest. lines_past (lines_at old bytes) ≡ ((b ∷ word_at rest) ∷ words_after
            rest) ∷ lines_after rest)
            (λ bytes rest h. h ∙ past_word (b ∷ word_at rest) (words_after rest) (lines_after rest)
            no_comment)

        pub first_refused : (e : RefutationError) (after : Place) → ((rest : List ℕ) → first_in (b
            ∷ word_at rest) ≡ Err e) → GivesFirst (at start old) after (Err e)
        first_refused e after wrong =
            let P : List ℕ → Type 0 = λ bytes. (first : List ℕ) × (more : List (List ℕ)) × (lines :
            List (List (List ℕ))) × (first_in first ≡ Err e) × (lines_past (lines_at old bytes)
            ≡ (first ∷ more) ∷ lines) in
            tells e (Says start P)
            (says_now start mid (λ bytes rest. lines_past (lines_at old bytes) ≡ ((b ∷ word_at
            rest) ∷ words_after rest) ∷ lines_after rest) found P
            (λ bytes rest h. (b ∷ word_at rest, words_after rest, lines_after rest, wrong rest, h)))

        pub first_given : (after : Feed) (end : Option End) (w : code.Word) → b ≢ 97 → GivesWord (λ
            bytes. word_in (b ∷ bytes)) mid after end (Ok w) → GivesFirst (at start old) (at after
            end) (Ok (Some w))
        first_given after end w n given =
            leaves_on start mid (λ bytes rest. lines_past (lines_at old bytes) ≡ ((b ∷ word_at
            rest) ∷ words_after rest) ∷ lines_after rest) found after
            (λ bytes rest. ((word_in (b ∷ bytes) >>= λ x. Ok (held_word x)) ≡ Ok w) × (left_at end
            rest ≡ left_after bytes))
            (λ bytes rest. (first : List ℕ) × ((first_in first >>= λ x. Ok (held_word x)) ≡ Ok w) ×
            (lines_past (lines_at old bytes) ≡ (first ∷ (left_at end rest).words) ∷ (left_at
            end rest).lines)) given
            (λ bytes middle rest h k. (
              b ∷ word_at middle,
              ap (λ (x : Result text.Word RefutationError). x >>= λ y. Ok (held_word y))
                  (first_word b middle n) ∙ k.0,
              rw k.1 h,
            ))

        pub first_wrong : (after : Place) (e : RefutationError) → b ≢ 97 → (end : Option End) (f :
            Feed) → GivesWord (λ bytes. word_in (b ∷ bytes)) mid f end (Err e) → GivesFirst (at
            start old) after (Err e)
        first_wrong after e n end f given =
            let P : List ℕ → Type 0 = λ bytes. word_in (b ∷ bytes) ≡ Err e in
            let Q : List ℕ → Type 0 = λ bytes. (first : List ℕ) × (more : List (List ℕ)) × (lines :
            List (List (List ℕ))) × (first_in first ≡ Err e) × (lines_past (lines_at old bytes)
            ≡ (first ∷ more) ∷ lines) in
            tells_on e (Says mid P) (Says start Q)
            (λ call. says_on start mid (λ bytes rest. lines_past (lines_at old bytes) ≡ ((b ∷
            word_at rest) ∷ words_after rest) ∷ lines_after rest) found P Q call
            (λ bytes middle h k. (
              b ∷ word_at middle,
              words_after middle,
              lines_after middle,
              first_word b middle n ∙ k,
              h,
            )))
            given

pub first_is_binary : (middle : List ℕ) → first_in (97 ∷ word_at middle) ≡ Err errors.Binary
first_is_binary middle = first_binary middle
