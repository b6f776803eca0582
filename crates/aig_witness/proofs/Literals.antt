-- What the literals of a line of values say.
use Rattle.aig_base.proofs.Words.{◌≡◌, ℕ, Bool, true, false, cond, List, [], ◌∷◌, Option, Some, Result, Ok, Err, refl, sym, ap, ◌∙◌}
use Rattle.std.specs.Prelude.{◌==◌, ◌-◌, length, nat_le, slice_set}
use Rattle.std.specs.Option.{option_map_or}
use Rattle.aig_base.specs.declared.logic.three.Lbool.{Lbool}
use Rattle.aig_lexer.specs.Takes.{Feed}
use Rattle.aig_witness.specs.declared.solutions.error.SolutionError.{SolutionError}
use Rattle.aig_witness.specs.declared.solutions.error.SolutionError.TheVariants as errors
use Rattle.aig_witness.specs.declared.solutions.values.Reached.TheVariants as reached
use Rattle.aig_witness.specs.declared.solutions.words.End.{End}
use Rattle.aig_witness.specs.declared.solutions.words.End.TheVariants.{Blank, Line, Stream}
use Rattle.aig_witness.specs.declared.solutions.words.Word.{Word}
use Rattle.aig_witness.specs.Lines.{GivesWord, IsLeft, IsNoMore, IsNoMoreValues, TakesValues, reached_by, reached_from, values_from, words_said}
use Rattle.aig_witness.specs.SolverAnswers.{◌>>=◌, finished, is_end, is_inverse, last_answer, lines_after, lines_of, literal_in, solution_from, take_words, with_literal, words_from}
use Rattle.aig_witness.specs.Solutions.{value_at}
use Rattle.aig_witness.specs.Shown.{known_of}
use Rattle.aig_witness.proofs.SignedWords.{IsRead, error-weaker, error_tells, read_is}

-- ---- one literal

abbrev said_then : Bool → List (List (List ℕ)) → List Lbool × Option (List (List ℕ))
    → Result (List Lbool) SolutionError
said_then answered lines said = option_map_or (λ rest. finished answered said.0 (rest ∷ lines))
    said.1 (solution_from answered said.0 lines)

-- what a literal gives, and then the words after it
abbrev taken_by : List Lbool → List (List ℕ) → Bool × ℕ
    → Result (List Lbool × Option (List (List ℕ))) SolutionError
taken_by values words n = cond (is_end n) (Ok (values, Some words))
    (with_literal values n >>= λ more. take_words more words)

module _ (answered : Bool) (values : List Lbool) (word : List ℕ) (words : List (List ℕ))
    (lines : List (List (List ℕ))) where
  pub literal_wrong : (e : SolutionError) → literal_in word ≡ Err e → values_from answered values
      (word ∷ words) lines ≡ Err e
  unfolding take_words
  literal_wrong e is = ap (λ r. r >>= taken_by values words >>= said_then answered lines) is

  module _ (n : Bool × ℕ) (is : literal_in word ≡ Ok n) where
    literal_is : values_from answered values (word ∷ words) lines ≡
        (taken_by values words n >>= said_then answered lines)
    unfolding take_words
    literal_is = ap (λ r. r >>= taken_by values words >>= said_then answered lines) is

    pub literal_end : is_end n ≡ true → values_from answered values (word ∷ words) lines ≡ finished
        answered values (words ∷ lines)
    literal_end end = literal_is ∙ ap (λ t. cond t (Ok (values, Some words))
        (with_literal values n >>= λ more. take_words more words) >>= said_then answered lines) end

    literal_by : is_end n ≡ false → values_from answered values (word ∷ words) lines ≡
        ((with_literal values n >>= λ more. take_words more words) >>= said_then answered lines)
    literal_by end = literal_is ∙ ap (λ t. cond t (Ok (values, Some words))
        (with_literal values n >>= λ more. take_words more words) >>= said_then answered lines) end

    pub literal_clash : (e : SolutionError) → is_end n ≡ false → with_literal values n ≡ Err e
        → values_from answered values (word ∷ words) lines ≡ Err e
    literal_clash e end said = literal_by end
        ∙ ap (λ r. (r >>= λ more. take_words more words) >>= said_then answered lines) said

    pub literal_taken : (more : List Lbool) → is_end n ≡ false → with_literal values n ≡ Ok more
        → values_from answered values (word ∷ words) lines ≡ values_from answered more words lines
    literal_taken more end said = literal_by end
        ∙ ap (λ r. (r >>= λ more. take_words more words) >>= said_then answered lines) said

-- ---- what is left after it

pub finished_left : (e : End) (answered : Bool) (values : List Lbool) (words : List (List ℕ))
    (lines : List (List (List ℕ))) (rest : List ℕ) → IsLeft e words lines rest
    → finished answered values (words ∷ lines) ≡ finished answered values (lines_of rest)
unfolding last_answer words_from lines_after
finished_left Blank answered values words lines rest left = ap (λ ws. finished answered values
    (ws ∷ lines)) left.0 ∙ ap (λ ls. finished answered values (words_from [] rest ∷ ls)) left.1
finished_left Line answered values words lines rest left = ap (λ ws. finished answered values
    (ws ∷ lines)) left.0 ∙ ap (λ ls. finished answered values ([] ∷ ls)) left.1 ∙ by answered
  where
    by : (answered : Bool) → finished answered values ([] ∷ lines_of rest) ≡ finished answered
        values (lines_of rest)
    by true = refl
    by false = refl
finished_left Stream answered values words lines rest left = ap (λ ws. finished answered values
    (ws ∷ lines)) left.0 ∙ ap (λ ls. finished answered values ([] ∷ ls)) left.1
    ∙ ap (λ bs. finished answered values (lines_of bs)) (sym left.2)

pub values_left : (e : End) (answered : Bool) (values : List Lbool) (words : List (List ℕ))
    (lines : List (List (List ℕ))) (rest : List ℕ) → IsLeft e words lines rest
    → values_from answered values words lines ≡ reached_from (reached_by e) answered values rest
unfolding take_words
values_left Blank answered values words lines rest left =
    ap (λ ws. values_from answered values ws lines) left.0
    ∙ ap (λ ls. values_from answered values (words_from [] rest) ls) left.1
values_left Line answered values words lines rest left =
    ap (λ ws. values_from answered values ws lines) left.0
    ∙ ap (λ ls. values_from answered values [] ls) left.1
values_left Stream answered values words lines rest left =
    ap (λ ws. values_from answered values ws lines) left.0
    ∙ ap (λ ls. values_from answered values [] ls) left.1

reached_more : (e : End) (before after : Feed) → IsNoMore e before after
    → IsNoMoreValues (reached_by e) before after
reached_more Blank before after h = h
reached_more Line before after h = h
reached_more Stream before after h = tt

-- ---- the calls

read_by : {A : Type 0} (t u v : Bool) (x : A) (e : SolutionError) → cond t (Err errors.Literal)
    (cond u (Err errors.Variable) (cond v (Err errors.Clash) (Ok x))) ≡ Err e → IsRead e
read_by true u v x e is = read_is errors.Literal e tt is
read_by false true v x e is = read_is errors.Variable e tt is
read_by false false true x e is = read_is errors.Clash e tt is
read_by false false false x e is = absurd cc

module _ (first : ℕ) (before after : Feed) (old new : List Lbool) where
  pub literal_error : (e : SolutionError) → GivesWord first before after (Err e)
      → TakesValues (words_said (first ∷ [])) before after old (Err e) new
  literal_error e h = error-weaker before after e _ (λ bytes. (answered : Bool)
      → words_said (first ∷ []) answered old bytes ≡ Err e)
      (λ bytes x answered. ap (λ words. values_from answered old words (lines_after bytes)) x.2
      ∙ literal_wrong answered old x.0 x.1 (lines_after bytes) e x.3) h

  module _ (word : Word) (h : GivesWord first before after (Ok word)) where
    abbrev number : Bool × ℕ
    number = (word.positive, word.number)

    pub literal_zero : is_end number ≡ true → TakesValues (words_said (first ∷ [])) before after old
        (Ok reached.Zero) old
    literal_zero end = (
      tt,
      λ bytes known.
          let r = h.1 bytes known in
          let w = r.2 in (
            r.0,
            r.1,
            λ answered.
                ap (λ words. values_from answered old words (lines_after bytes)) w.2
                ∙ literal_end answered old w.0 w.1 (lines_after bytes) number w.3 end
                ∙ finished_left word.end answered old w.1 (lines_after bytes) r.0 w.4,
          ),
    )

    pub literal_refused : (e : SolutionError) → is_end number ≡ false
        → with_literal old number ≡ Err e → TakesValues (words_said (first ∷ [])) before after old
        (Err e) new
    literal_refused e end said = error_tells before after e (λ bytes. (answered : Bool)
        → words_said (first ∷ []) answered old bytes ≡ Err e)
        (read_by (number.1 == 0) (nat_le (length old) (number.1 - 1))
        (is_inverse (value_at old (number.1 - 1)) number.0) (slice_set old (number.1 - 1)
        (known_of number.0)) e said)
        (λ bytes known answered.
        let r = h.1 bytes known in
        let w = r.2 in
        ap (λ words. values_from answered old words (lines_after bytes)) w.2
        ∙ literal_clash answered old w.0 w.1 (lines_after bytes) number w.3 e end said)

    pub literal_given : is_end number ≡ false → with_literal old number ≡ Ok new
        → TakesValues (words_said (first ∷ [])) before after old (Ok (reached_by word.end)) new
    literal_given end said = (
      reached_more word.end before after h.0,
      λ bytes known.
          let r = h.1 bytes known in
          let w = r.2 in (
            r.0,
            r.1,
            λ answered.
                ap (λ words. values_from answered old words (lines_after bytes)) w.2
                ∙ literal_taken answered old w.0 w.1 (lines_after bytes) number w.3 new end said
                ∙ values_left word.end answered new w.1 (lines_after bytes) r.0 w.4,
          ),
    )
