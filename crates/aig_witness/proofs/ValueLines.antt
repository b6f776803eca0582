-- How lines of values are read.
use Rattle.std.proofs.Common.{◌≡◌, ◌≢◌, ℕ, ◌≤◌, Bool, true, false, List, [], ◌∷◌, Option, Some, None, Result, Ok, Err, refl, sym, ap, subst, ◌∙◌, arith}
use Rattle.aig_base.specs.declared.logic.three.Lbool.{Lbool}
use Rattle.aig_lexer.specs.Takes.{Feed, Steps}
use Rattle.aig_lexer.proofs.Feeds.{steps_byte}
use Rattle.aig_witness.specs.declared.solutions.error.SolutionError.{SolutionError}
use Rattle.aig_witness.specs.declared.solutions.error.SolutionError.TheVariants as errors
use Rattle.aig_witness.specs.declared.solutions.values.Reached.{Reached}
use Rattle.aig_witness.specs.declared.solutions.values.Reached.TheVariants as reached
use Rattle.aig_witness.specs.declared.solutions.words.End.{End}
use Rattle.aig_witness.specs.declared.solutions.words.End.TheVariants.{Blank, Line, Stream}
use Rattle.aig_witness.specs.Lines.{IsNoMoreValues, Leaves, TakesValueLine, TakesValues, end_of, reached_by, reached_from, said_from, values_from, words_said}
use Rattle.aig_witness.specs.SolverAnswers.{lines_after, lines_of, solution_from, words_from, wrong_end}
use Rattle.aig_witness.proofs.Leaving.{leaves_byte, leaves_call, leaves_end, leaves_same, leaves_start, says_now}
use Rattle.aig_witness.proofs.Literals.{values_left}
use Rattle.aig_witness.proofs.SignedWords.{IsRead, error-weaker, error_call, error_tells}
use Rattle.aig_witness.proofs.Texts.{lines_none, lines_on, words_end, words_grow, words_none, words_on}

abbrev From : Type 0
From = Bool → List Lbool → List ℕ → Result (List Lbool) SolutionError

-- the same said by other words of the bytes
pub values-turned : (from other : From) (before after : Feed) (old new : List Lbool)
    (r : Result Reached SolutionError)
    → ((bytes : List ℕ) (answered : Bool) → from answered old bytes ≡ other answered old bytes)
    → TakesValues other before after old r new → TakesValues from before after old r new
values-turned from other before after old new (Ok x) same h = (
  h.0,
  λ bytes known. let r = h.1 bytes known in (
    r.0,
    r.1,
    λ answered. same bytes answered
        ∙ r.2 answered,
  ),
)
values-turned from other before after old new (Err e) same h =
    error-weaker before after e (λ bytes. (answered : Bool) → other answered old bytes ≡ Err e)
    (λ bytes. (answered : Bool) → from answered old bytes ≡ Err e)
    (λ bytes is answered. same bytes answered ∙ is answered) h

-- ---- from one byte

abbrev pub from_byte : ℕ → From
from_byte b answered values bytes = words_said [] answered values (b ∷ bytes)

still : (e : End) (f : Feed) → IsNoMoreValues (reached_by e) f f
still Blank f = omega arith
still Line f = omega arith
still Stream f = tt

-- what follows a byte that ends a word
end_said : (b : ℕ) (e : End) → end_of b ≡ Some e → (answered : Bool) (values : List Lbool)
    (bytes : List ℕ) → words_said [] answered values (b ∷ bytes) ≡ reached_from
    (reached_by e) answered values bytes
end_said b e is answered values bytes =
    let end = words_end b bytes e is in
    ap (λ words. values_from answered values words (lines_after (b ∷ bytes))) (end.1 [])
    ∙ values_left e answered values end.0 (lines_after (b ∷ bytes)) bytes end.2

pub from_end : (f : Feed) (values : List Lbool) (b : ℕ) (e : End) → end_of b ≡ Some e
    → TakesValues (from_byte b) f f values (Ok (reached_by e)) values
from_end f values b e is = (
  still e f,
  leaves_start f (λ bytes rest. (answered : Bool)
      → from_byte b answered values bytes ≡ reached_from (reached_by e) answered values rest)
      (λ bytes answered. end_said b e is answered values bytes),
)

pub from_word : (before after : Feed) (old new : List Lbool) (b : ℕ)
    (r : Result Reached SolutionError) → end_of b ≡ None → TakesValues (words_said (b ∷ [])) before
    after old r new → TakesValues (from_byte b) before after old r new
from_word before after old new b r is h = values-turned (from_byte b) (words_said (b ∷ [])) before
    after old new r
    (λ bytes answered. ap (λ words. values_from answered old words (lines_after (b ∷ bytes)))
    (words_on b bytes [] is) ∙ ap (λ lines. values_from answered old (words_from (b ∷ []) bytes)
    lines) (lines_on b bytes is)) h

-- ---- from byte to byte

abbrev pub ValuesTaken : Feed → Feed → List Lbool → List Lbool → Type 0
ValuesTaken start now old values = (now.most ≤ start.most)
    × Leaves start now (λ bytes rest. (answered : Bool) → words_said [] answered old bytes ≡
    words_said [] answered values rest)

pub values_begin : (start : Feed) (values : List Lbool) → ValuesTaken start start values values
values_begin start values = (
  omega arith,
  leaves_start start (λ bytes rest. (answered : Bool)
      → words_said [] answered values bytes ≡ words_said [] answered values rest)
      (λ bytes answered. refl),
)

module _ (start now : Feed) (old values : List Lbool) (so_far : ValuesTaken start now old values)
  where
    abbrev So : List ℕ → List ℕ → Type 0
    So bytes rest = (answered : Bool) → words_said [] answered old bytes ≡ words_said [] answered
        values rest

    pub values_end : (after : Feed) (o : Option ℕ) → Steps now after o → o ≡ None
        → TakesValues (words_said []) start after old (Ok reached.Stream) values
    values_end after o step is = (
      tt,
      leaves_end start now after So so_far.1 (λ bytes rest. (answered : Bool)
          → words_said [] answered old bytes ≡ reached_from reached.Stream answered values rest) o step
          is (λ bytes h answered. h answered ∙ none answered),
    )
      where
        none : (answered : Bool)
            → words_said [] answered values [] ≡ solution_from answered values []
        none answered = ap (λ words. values_from answered values words (lines_after []))
            (words_none []) ∙ ap (λ lines. values_from answered values [] lines) lines_none
            ∙ values_left Stream answered values [] [] [] (refl, refl, refl)

    module _ (mid after : Feed) (o : Option ℕ) (b : ℕ) (step : Steps now mid o) (is : o ≡ Some b)
        (new : List Lbool) where
      begun : Leaves start mid (λ bytes rest. (answered : Bool) → words_said [] answered old bytes ≡
          from_byte b answered values rest)
      begun = leaves_byte start now mid So so_far.1 (λ bytes rest. (answered : Bool)
          → words_said [] answered old bytes ≡ from_byte b answered values rest) o b step is
          (λ bytes rest h. h)

      joined : (x : Reached) → TakesValues (from_byte b) mid after values (Ok x) new
          → Leaves start after (λ bytes rest. (answered : Bool) → words_said [] answered old bytes ≡
          reached_from x answered new rest)
      joined x h = leaves_call start mid after (λ bytes rest. (answered : Bool)
          → words_said [] answered old bytes ≡ from_byte b answered values rest) begun
          (λ bytes rest. (answered : Bool) → from_byte b answered values bytes ≡ reached_from x
          answered new rest) (λ bytes rest. (answered : Bool) → words_said [] answered old bytes ≡
          reached_from x answered new rest)
          h.1 (λ bytes mid rest first last answered. first answered ∙ last answered)

      pub values_on : TakesValues (from_byte b) mid after values (Ok reached.Word) new
          → ValuesTaken start after old new
      values_on h = (
        (let came = steps_byte now mid o step b is in omega (arith, so_far.0, came.fewer, h.0)),
        joined reached.Word h,
      )

      fewer : (x : Reached) → IsNoMoreValues x mid after → IsNoMoreValues x start after
      fewer reached.Zero h = tt
      fewer reached.Stream h = tt
      fewer reached.Word h = let came = steps_byte now mid o step b is in
          omega (arith, so_far.0, came.fewer)
      fewer reached.Line h = let came = steps_byte now mid o step b is in
          omega (arith, so_far.0, came.fewer)

      pub values_error : (e : SolutionError)
          → TakesValues (from_byte b) mid after values (Err e) new
          → TakesValues (words_said []) start after old (Err e) new
      values_error e h = error_call start mid after (λ bytes rest. (answered : Bool)
          → words_said [] answered old bytes ≡ from_byte b answered values rest) e
          (λ bytes. (answered : Bool) → from_byte b answered values bytes ≡ Err e)
          (λ bytes. (answered : Bool) → words_said [] answered old bytes ≡ Err e) begun
          (λ bytes mid first last answered. first answered ∙ last answered) h

-- ---- a line from its `v` on

pub no_word : (e : End) → e ≢ Blank → reached_by e ≢ reached.Word
no_word Blank ne is = ne refl
no_word Line ne is = cc
no_word Stream ne is = cc

v_line : (answered : Bool) (values : List Lbool) (words : List (List ℕ))
    (lines : List (List (List ℕ))) → solution_from answered values (((118 ∷ []) ∷ words) ∷ lines) ≡
    values_from answered values words lines
unfolding solution_from
v_line answered values words lines = refl

v_long : (answered : Bool) (values : List Lbool) (c : ℕ) (word : List ℕ) (words : List (List ℕ))
    (lines : List (List (List ℕ))) → solution_from answered values
    (((118 ∷ c ∷ word) ∷ words) ∷ lines) ≡ Err errors.Line
unfolding solution_from
v_long answered values c word words lines = refl

module _ (before : Feed) (values : List Lbool) where
  pub line_none : (after : Feed) (o : Option ℕ) → Steps before after o → o ≡ None
      → TakesValues (said_from (118 ∷ [])) before after values (Ok reached.Stream) values
  line_none after o step is = (
    tt,
    leaves_end before before after (λ bytes rest. bytes ≡ rest)
        (leaves_start before (λ bytes rest. bytes ≡ rest) (λ bytes. refl))
        (λ bytes rest. (answered : Bool) → said_from (118 ∷ []) answered values bytes ≡ solution_from
        answered values []) o step is
        (λ bytes none answered. ap (said_from (118 ∷ []) answered values) none
        ∙ ap (λ words. solution_from answered values (words ∷ lines_after []))
        (words_none (118 ∷ [])) ∙ ap (λ lines. solution_from answered values
        (((118 ∷ []) ∷ []) ∷ lines)) lines_none ∙ v_line answered values [] []
        ∙ values_left Stream answered values [] [] [] (refl, refl, refl)),
  )

  module _ (mid : Feed) (o : Option ℕ) (b : ℕ) (step : Steps before mid o) (is : o ≡ Some b) where
    line_begun : Leaves before mid (λ bytes rest. bytes ≡ b ∷ rest)
    line_begun = leaves_byte before before mid (λ bytes rest. bytes ≡ rest)
        (leaves_start before (λ bytes rest. bytes ≡ rest) (λ bytes. refl))
        (λ bytes rest. bytes ≡ b ∷ rest) o b step is (λ bytes rest h. h)

    line_end : (e : End) → end_of b ≡ Some e → (bytes rest : List ℕ) → bytes ≡ b ∷ rest
        → (answered : Bool) → said_from (118 ∷ []) answered values bytes ≡ reached_from
        (reached_by e) answered values rest
    line_end e ends bytes rest same answered =
        let end = words_end b rest e ends in
        ap (said_from (118 ∷ []) answered values) same ∙ ap (λ words. solution_from answered values
        (words ∷ lines_after (b ∷ rest))) (end.1 (118 ∷ [])) ∙ v_line answered values end.0
        (lines_after (b ∷ rest))
        ∙ values_left e answered values end.0 (lines_after (b ∷ rest)) rest end.2

    ended : (e : End) → end_of b ≡ Some e → IsNoMoreValues (reached_by e) before mid
    ended Blank ends = let came = steps_byte before mid o step b is in omega (arith, came.fewer)
    ended Line ends = let came = steps_byte before mid o step b is in omega (arith, came.fewer)
    ended Stream ends = tt

    pub line_ends : (e : End) → end_of b ≡ Some e → TakesValues (said_from (118 ∷ [])) before mid
        values (Ok (reached_by e)) values
    line_ends e ends = (
      ended e ends,
      leaves_same before mid (λ bytes rest. bytes ≡ b ∷ rest)
          line_begun (λ bytes rest. (answered : Bool) → said_from (118 ∷ []) answered values bytes ≡
          reached_from (reached_by e) answered values rest) (line_end e ends),
    )

    pub line_goes : end_of b ≡ Some Blank → (after : Feed) (new : List Lbool)
        (r : Result Reached SolutionError) → TakesValues (words_said []) mid after values r new
        → TakesValues (said_from (118 ∷ [])) before after values r new
    line_goes ends after new (Ok x) h = (
      more x h.0,
      leaves_call before mid after (λ bytes rest. bytes ≡ b ∷ rest) line_begun
          (λ bytes rest. (answered : Bool) → words_said [] answered values bytes ≡ reached_from x
          answered new rest) (λ bytes rest. (answered : Bool) → said_from (118 ∷ []) answered values
          bytes ≡ reached_from x answered new rest)
          h.1 (λ bytes mid rest same last answered. line_end Blank ends bytes mid same answered
          ∙ last answered),
    )
      where
        more : (x : Reached) → IsNoMoreValues x mid after → IsNoMoreValues x before after
        more reached.Zero h = tt
        more reached.Stream h = tt
        more reached.Word h = let came = steps_byte before mid o step b is in
            omega (arith, came.fewer)
        more reached.Line h = let came = steps_byte before mid o step b is in
            omega (arith, came.fewer)
    line_goes ends after new (Err e) h = error_call before mid after
        (λ bytes rest. bytes ≡ b ∷ rest) e (λ bytes. (answered : Bool)
        → words_said [] answered values bytes ≡ Err e) (λ bytes. (answered : Bool)
        → said_from (118 ∷ []) answered values bytes ≡ Err e) line_begun
        (λ bytes mid same last answered. line_end Blank ends bytes mid same answered
        ∙ last answered) h

    pub line_wrong : end_of b ≡ None → TakesValues (said_from (118 ∷ [])) before mid values
        (Err errors.Line) values
    line_wrong goes = says_now before mid (λ bytes rest. bytes ≡ b ∷ rest) line_begun
        (λ bytes. (answered : Bool) → said_from (118 ∷ []) answered values bytes ≡ Err errors.Line)
        (λ bytes rest same answered.
        let g = words_grow 118 (b ∷ []) rest in
        ap (said_from (118 ∷ []) answered values) same ∙ ap (λ words. solution_from answered values
        (words ∷ lines_after (b ∷ rest))) (words_on b rest (118 ∷ []) goes ∙ g.2)
        ∙ v_long answered values b g.0 g.1 (lines_after (b ∷ rest)))

-- ---- what follows a line of values

pub end_read : (answered : Bool) → IsRead (wrong_end answered)
end_read true = tt
end_read false = tt

pub solution_none : (answered : Bool) (values : List Lbool) → solution_from answered values [] ≡ Err
    (wrong_end answered)
unfolding solution_from
solution_none answered values = refl

module _ (answered : Bool) (before mid : Feed) (old new : List Lbool) where
  pub line_stream : (e : SolutionError) → e ≡ wrong_end answered
      → TakesValues (said_from (118 ∷ [])) before mid old (Ok reached.Stream) new
      → TakesValueLine answered before mid old (Err e) new
  line_stream e is h = error_tells before mid e (λ bytes. said_from (118 ∷ []) answered old bytes ≡
      Err e) (subst IsRead (sym is) (end_read answered))
      (λ bytes known. let r = h.1 bytes known in r.2 answered ∙ solution_none answered new
      ∙ ap (λ e. Err e) (sym is))

  pub line_more : (x : Reached) → x ≢ reached.Word → x ≢ reached.Zero → x ≢ reached.Stream
      → TakesValues (said_from (118 ∷ [])) before mid old (Ok x) new
      → TakesValueLine answered before mid old (Ok false) new
  line_more reached.Word a b c h = absurd (a refl)
  line_more reached.Zero a b c h = absurd (b refl)
  line_more reached.Stream a b c h = absurd (c refl)
  line_more reached.Line a b c h = (
    h.0,
    leaves_same before mid (λ bytes rest. (answered : Bool)
        → said_from (118 ∷ []) answered old bytes ≡ solution_from answered new (lines_of rest)) h.1
        (λ bytes rest. said_from (118 ∷ []) answered old bytes ≡ solution_from answered new
        (lines_of rest)) (λ bytes rest said. said answered),
  )
