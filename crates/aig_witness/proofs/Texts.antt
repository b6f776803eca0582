-- Lines and words of bytes, from the front.
use Rattle.aig_base.proofs.Words.{◌≡◌, ◌≢◌, ℕ, Bool, true, false, cond, List, [], ◌∷◌, ◌++◌, Option, Some, None, refl, sym, ap, subst, ◌∙◌, append_assoc, append-nil, ne_eqb, ◌==◌}
use Rattle.aig_witness.specs.declared.solutions.words.End.{End}
use Rattle.aig_witness.specs.declared.solutions.words.End.TheVariants.{Blank, Line, Stream}
use Rattle.aig_witness.specs.Lines.{GoesOnBy, IsLeft, end_of, lines_past}
use Rattle.aig_witness.specs.SolverAnswers.{is_blank, is_passed_over, lines_after, lines_of, word_in_front, words_from}

-- ---- how a byte ends a word

abbrev end_by : Bool → Bool → Option End
end_by line blank = cond line (Some Line) (cond blank (Some Blank) None)

module _ {A : Type 0} (x y z : A) where
  goes_by : (line blank : Bool) → end_by line blank ≡ None → cond line x (cond blank y z) ≡ z
  goes_by true blank is = absurd cc
  goes_by false true is = absurd cc
  goes_by false false is = refl

  blank_by : (line blank : Bool) → end_by line blank ≡ Some Blank → cond line x (cond blank y z) ≡ y
  blank_by true blank is = absurd cc
  blank_by false true is = refl
  blank_by false false is = absurd cc

  line_by : (line blank : Bool) → end_by line blank ≡ Some Line → cond line x z ≡ x
  line_by true blank is = refl
  line_by false true is = absurd cc
  line_by false false is = absurd cc

  none_by : (line blank : Bool) → end_by line blank ≡ None → cond line x z ≡ z
  none_by true blank is = absurd cc
  none_by false blank is = refl

  same_by : (line blank : Bool) → end_by line blank ≡ Some Blank → cond line x z ≡ z
  same_by true blank is = absurd cc
  same_by false blank is = refl

never_stream : (line blank : Bool) → end_by line blank ≡ Some Stream → ⊥
never_stream true blank is = cc
never_stream false true is = cc
never_stream false false is = cc

pub end_of-line : (b : ℕ) → b ≡ 10 → end_of b ≡ Some Line
end_of-line b is = subst (λ k. end_of k ≡ Some Line) (sym is) refl

pub end_of-none : (b : ℕ) → b ≢ 10 → is_blank b ≡ false → end_of b ≡ None
end_of-none b ne is = rw (ne_eqb b 10 ne) (ap (λ t. cond t (Some Blank) None) is)

-- a blank is no line feed
pub end_of-blank : (b : ℕ) → is_blank b ≡ true → end_of b ≡ Some Blank
end_of-blank b is = rw (ne_eqb b 10 ne) (ap (λ t. cond t (Some Blank) None) is)
  where
    ne : b ≢ 10
    ne line = let wrong : is_blank 10 ≡ true = subst (λ k. is_blank k ≡ true) line is in cc

-- no byte ends the stream
pub end_of-byte : (b : ℕ) → end_of b ≡ Some Stream → ⊥
end_of-byte b is = never_stream (b == 10) (is_blank b) is

module _ (b : ℕ) (bs : List ℕ) where
  -- a byte of a word
  pub words_on : (word : List ℕ) → end_of b ≡ None → words_from word (b ∷ bs) ≡ words_from
      (word ++ b ∷ []) bs
  unfolding words_from
  words_on word is = goes_by (word_in_front word []) (word_in_front word (words_from [] bs))
      (words_from (word ++ b ∷ []) bs) (b == 10) (is_blank b) is

  pub lines_on : end_of b ≡ None → lines_after (b ∷ bs) ≡ lines_after bs
  unfolding lines_after
  lines_on is = none_by (lines_of bs) (lines_of bs) (lines_after bs) (b == 10) (is_blank b) is

  -- a byte that ends a word
  pub words_end : (e : End) → end_of b ≡ Some e → (words : List (List ℕ))
      × ((word : List ℕ) → words_from word (b ∷ bs) ≡ word_in_front word words)
      × IsLeft e words (lines_after (b ∷ bs)) bs
  unfolding words_from lines_after
  words_end Blank is = (
    words_from [] bs,
    λ word. blank_by (word_in_front word [])
        (word_in_front word (words_from [] bs)) (words_from (word ++ b ∷ []) bs) (b == 10)
        (is_blank b) is,
    (
      refl,
      same_by (lines_of bs) (lines_of bs) (lines_after bs) (b == 10)
          (is_blank b) is,
    ),
  )
  words_end Line is = (
    [],
    λ word. line_by (word_in_front word []) (word_in_front word [])
        (cond (is_blank b) (word_in_front word (words_from [] bs))
        (words_from (word ++ b ∷ []) bs)) (b == 10) (is_blank b) is,
    (
      refl,
      line_by (lines_of bs)
          (lines_of bs) (lines_after bs) (b == 10) (is_blank b) is,
    ),
  )
  words_end Stream is = absurd (end_of-byte b is)

-- nothing is left
pub words_none : (word : List ℕ) → words_from word [] ≡ word_in_front word []
unfolding words_from
words_none word = refl

pub lines_none : lines_after [] ≡ []
unfolding lines_after
lines_none = refl

-- a word that has begun
abbrev Grown : ℕ → List ℕ → List ℕ → Type 0
Grown c word bs = (more : List ℕ) × (words : List (List ℕ))
    × (words_from (c ∷ word) bs ≡ (c ∷ word ++ more) ∷ words)

pub words_grow : (c : ℕ) (word bs : List ℕ) → Grown c word bs
words_grow c word [] = (
  [],
  [],
  words_none (c ∷ word) ∙ ap (λ w. (c ∷ w) ∷ [])
      (sym (append-nil word)),
)
words_grow c word (b ∷ bs) = by (words_grow c (word ++ b ∷ []) bs) (end_of b) refl
  where
    by : Grown c (word ++ b ∷ []) bs → (o : Option End) → end_of b ≡ o → Grown c word (b ∷ bs)
    by g None is = (
      b ∷ g.0,
      g.1,
      words_on b bs (c ∷ word) is ∙ g.2 ∙ ap (λ w. (c ∷ w) ∷ g.1)
          (append_assoc word (b ∷ []) g.0),
    )
    by g (Some e) is = let end = words_end b bs e is in (
      [],
      end.0,
      end.1 (c ∷ word)
          ∙ ap (λ w. (c ∷ w) ∷ end.0) (sym (append-nil word)),
    )

pub goes_on_by : (taken bytes rest : List ℕ) → ((c : ℕ) (word : List ℕ)
    → words_from (c ∷ word) bytes ≡ words_from (c ∷ word ++ taken) rest) → GoesOnBy taken bytes
goes_on_by taken bytes rest same c word =
    let g = words_grow c (word ++ taken) rest in
    (g.0, g.1, same c word ∙ g.2 ∙ ap (λ w. (c ∷ w) ∷ g.1) (append_assoc word taken g.0))

-- ---- lines that are passed over

-- the lines that are said of bytes, in a comment or not
abbrev pub past_from : Bool → List ℕ → List (List (List ℕ))
past_from true rest = lines_past (lines_after rest)
past_from false rest = lines_past (lines_of rest)

past_by : (line : List (List ℕ)) (lines : List (List (List ℕ))) (t : Bool) → is_passed_over line ≡ t
    → lines_past (line ∷ lines) ≡ cond t (lines_past lines) (line ∷ lines)
unfolding lines_past
past_by line lines t is = ap (λ u. cond u (lines_past lines) (line ∷ lines)) is

pub past_ends : past_from true [] ≡ []
unfolding lines_past lines_after
past_ends = refl

pub past_none : past_from false [] ≡ []
unfolding lines_past lines_after words_from
past_none = refl

module _ (b : ℕ) (bs : List ℕ) where
  word_begins : end_of b ≡ None → past_from false (b ∷ bs) ≡ lines_past
      (words_from (b ∷ []) bs ∷ lines_after bs)
  word_begins is = ap (λ words. lines_past (words ∷ lines_after (b ∷ bs))) (words_on b bs [] is)
      ∙ ap (λ lines. lines_past (words_from (b ∷ []) bs ∷ lines)) (lines_on b bs is)

  pub comment_begins : b ≡ 99 → past_from false (b ∷ bs) ≡ past_from true bs
  comment_begins is =
      let g = words_grow b [] bs in
      word_begins (subst (λ k. end_of k ≡ None) (sym is) refl)
      ∙ ap (λ words. lines_past (words ∷ lines_after bs)) g.2
      ∙ past_by ((b ∷ g.0) ∷ g.1) (lines_after bs) true
      (subst (λ k. is_passed_over ((k ∷ g.0) ∷ g.1) ≡ true) (sym is) refl)

  pub line_begins : b ≢ 99 → end_of b ≡ None → past_from false (b ∷ bs) ≡ words_from
      (b ∷ []) bs ∷ lines_after bs
  line_begins ne is =
      let g = words_grow b [] bs in
      word_begins is ∙ ap (λ words. lines_past (words ∷ lines_after bs)) g.2
      ∙ past_by ((b ∷ g.0) ∷ g.1) (lines_after bs) false (ne_eqb b 99 ne)
      ∙ ap (λ words. words ∷ lines_after bs) (sym g.2)

-- a byte before the first word of a line
left_past : (bs : List ℕ) (e : End) (words : List (List ℕ)) (lines : List (List (List ℕ)))
    → IsLeft e words lines bs → e ≢ Stream → lines_past (words ∷ lines) ≡ past_from false bs
unfolding lines_past
left_past bs Blank words lines left ne = rw (left.0, left.1) refl
left_past bs Line words lines left ne = rw (left.0, left.1) refl
left_past bs Stream words lines left ne = absurd (ne refl)

pub line_goes : (b : ℕ) (bs : List ℕ) (e : End) → end_of b ≡ Some e
    → past_from false (b ∷ bs) ≡ past_from false bs
line_goes b bs e is =
    let end = words_end b bs e is in
    ap (λ words. lines_past (words ∷ lines_after (b ∷ bs))) (end.1 []) ∙ left_past bs e end.0
    (lines_after (b ∷ bs)) end.2 (λ stream. end_of-byte b (is ∙ ap (λ e. Some e) stream))
