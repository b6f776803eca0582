-- How lines are found, and what is said of them.
use Rattle.aig_base.proofs.Words.{◌≡◌, ◌≢◌, ℕ, ◌≤◌, ◌<◌, Bool, true, false, not, cond, List, [], ◌∷◌, Option, Some, None, Result, Ok, Err, refl, sym, ap, subst, ◌∙◌, arith, ◌==◌, ne_eqb}
use Rattle.aig_base.specs.declared.logic.three.Lbool.{Lbool}
use Rattle.aig_lexer.specs.Takes.{Feed, Steps}
use Rattle.aig_lexer.proofs.Feeds.{steps_byte}
use Rattle.aig_witness.specs.declared.solutions.error.SolutionError.{SolutionError}
use Rattle.aig_witness.specs.declared.solutions.error.SolutionError.TheVariants as errors
use Rattle.aig_witness.specs.declared.solutions.words.End.{End}
use Rattle.aig_witness.specs.Lines.{SaysAnswer, AnswersLast, FindsLine, GoesOnAnswered, Leaves, Says, TakesAnswer, TakesValueLine, end_of, lines_past, said_from}
use Rattle.aig_witness.specs.SolverAnswers.{◌>>=◌, begins, is_passed_over, last_answer, lines_after, lines_of, solution_from, take_answer, words_from, wrong_end}
use Rattle.aig_witness.proofs.Leaving.{leaves_byte, leaves_call, leaves_same, leaves_start, says_call, says_end, says_now}
use Rattle.aig_witness.proofs.SignedWords.{IsRead, error-weaker, error_call, error_tells}
use Rattle.aig_witness.proofs.Texts.{comment_begins, line_begins, line_goes, past_ends, past_from, past_none, words_grow}
use Rattle.aig_witness.proofs.ValueLines.{end_read, solution_none}

-- ---- the first byte of a line

abbrev pub LinesPassed : Feed → Feed → Bool → Type 0
LinesPassed start now is_comment = (now.most ≤ start.most)
    × Leaves start now (λ bytes rest. lines_past (lines_of bytes) ≡ past_from is_comment rest)

pub lines_begin : (start : Feed) → LinesPassed start start false
lines_begin start = (
  omega arith,
  leaves_start start (λ bytes rest. lines_past (lines_of bytes) ≡ past_from false
      rest) (λ bytes. refl),
)

comment_step : (b : ℕ) (bs : List ℕ) → past_from true (b ∷ bs) ≡ past_from (not (b == 10)) bs
unfolding lines_after
comment_step b bs = by (b == 10)
  where
    by : (t : Bool) → lines_past (cond t (lines_of bs) (lines_after bs)) ≡ past_from (not t) bs
    by true = refl
    by false = refl

module _ (start now after : Feed) (is_comment : Bool) (so_far : LinesPassed start now is_comment)
    (o : Option ℕ) (step : Steps now after o) where
  abbrev Past : Bool → List ℕ → List ℕ → Type 0
  Past t bytes rest = lines_past (lines_of bytes) ≡ past_from t rest

  so_is : (t : Bool) → is_comment ≡ t → Leaves start now (Past t)
  so_is t is = subst (λ u. Leaves start now (Past u)) is so_far.1

  pub lines_end : o ≡ None → FindsLine {E = Unit {0}} start after (Ok None)
  lines_end is = says_end start now after (Past is_comment) so_far.1
      (λ bytes. lines_past (lines_of bytes) ≡ []) o step is (λ bytes h. h ∙ none is_comment)
    where
      none : (t : Bool) → past_from t [] ≡ []
      none true = past_ends
      none false = past_none

  module _ (b : ℕ) (is : o ≡ Some b) where
    fewer : after.most < start.most
    fewer = let came = steps_byte now after o step b is in omega (arith, so_far.0, came.fewer)

    pub lines_comment : is_comment ≡ true → LinesPassed start after (not (b == 10))
    lines_comment inside = (
      let low = fewer in omega arith,
      leaves_byte start now after (Past true)
          (so_is true inside) (Past (not (b == 10))) o b step is (λ bytes rest h. h
          ∙ comment_step b rest),
    )

    pub lines_begin_comment : is_comment ≡ false → b ≡ 99 → LinesPassed start after true
    lines_begin_comment outside c = (
      let low = fewer in omega arith,
      leaves_byte start now after
          (Past false) (so_is false outside) (Past true) o b step is (λ bytes rest h. h
          ∙ comment_begins b rest c),
    )

    pub lines_blank : is_comment ≡ false → (e : End) → end_of b ≡ Some e
        → LinesPassed start after is_comment
    lines_blank outside e ends = subst (λ t. LinesPassed start after t) (sym outside) (
      let low = fewer in omega arith,
      leaves_byte start now after (Past false)
          (so_is false outside) (Past false) o b step is (λ bytes rest h. h
          ∙ line_goes b rest e ends),
    )

    pub lines_found : is_comment ≡ false → b ≢ 99 → end_of b ≡ None
        → FindsLine {E = Unit {0}} start after (Ok (Some b))
    lines_found outside ne goes = (
      fewer,
      ne,
      leaves_byte start now after (Past false)
          (so_is false outside) (λ bytes rest. lines_past (lines_of bytes) ≡ words_from
          (b ∷ []) rest ∷ lines_after rest) o b step is (λ bytes rest h. h
          ∙ line_begins b rest ne goes),
    )

-- ---- what lines say, from the first that isn't passed over

pub last_past : (lines : List (List (List ℕ))) → last_answer lines ≡ last_answer (lines_past lines)
unfolding last_answer lines_past
last_past [] = refl
last_past (line ∷ lines) = by (last_past lines) (is_passed_over line) refl
  where
    by : last_answer lines ≡ last_answer (lines_past lines) → (t : Bool) → is_passed_over line ≡ t
        → cond t (last_answer lines) (take_answer line) ≡ last_answer (cond t (lines_past lines)
        (line ∷ lines))
    by others true is = others
    by others false is = ap (λ t. cond t (last_answer lines) (take_answer line)) (sym is)

pub solution_past : (answered : Bool) (values : List Lbool) (lines : List (List (List ℕ)))
    → solution_from answered values lines ≡ solution_from answered values (lines_past lines)
unfolding solution_from lines_past
solution_past answered values [] = refl
solution_past answered values ([] ∷ lines) = solution_past answered values lines
solution_past answered values ((word ∷ words) ∷ lines) = by (solution_past answered values lines)
    (begins 99 word) refl
  where
    by : solution_from answered values lines ≡ solution_from answered values (lines_past lines)
        → (t : Bool) → begins 99 word ≡ t
        → solution_from answered values ((word ∷ words) ∷ lines) ≡ solution_from answered values
        (cond t (lines_past lines) ((word ∷ words) ∷ lines))
    by others true is = rw is others
    by others false is = refl

-- a line that begins with this byte
module _ (b : ℕ) (more : List ℕ) (words : List (List ℕ)) (lines : List (List (List ℕ))) where
  pub not_answer : b ≢ 115 → take_answer ((b ∷ more) ∷ words) ≡ Err errors.Answer
  not_answer ne = by more words
    where
      by : (more : List ℕ) (words : List (List ℕ)) → take_answer ((b ∷ more) ∷ words) ≡ Err
          errors.Answer
      by [] [] = refl
      by [] (name ∷ []) = rw (ne_eqb b 115 ne) refl
      by [] (name ∷ word ∷ words) = refl
      by (c ∷ more) words = refl

  pub last_line : b ≢ 99 → last_answer (((b ∷ more) ∷ words) ∷ lines) ≡ take_answer
      ((b ∷ more) ∷ words)
  unfolding last_answer
  last_line ne = rw (ne_eqb b 99 ne) refl

  module _ (answered : Bool) (values : List Lbool) (comment : b ≢ 99) (line : b ≢ 118) where
    other_line : solution_from answered values (((b ∷ more) ∷ words) ∷ lines) ≡ cond answered
        (Err errors.Line) (take_answer ((b ∷ more) ∷ words) >>= λ said. solution_from true values
        lines)
    unfolding solution_from
    other_line = rw (ne_eqb b 99 comment) (rw (ne_eqb b 118 line) refl)

    pub other_answered : answered ≡ true → solution_from answered values
        (((b ∷ more) ∷ words) ∷ lines) ≡ Err errors.Line
    other_answered is = other_line
        ∙ ap (λ t. cond t (Err errors.Line) (take_answer ((b ∷ more) ∷ words) >>= λ said.
        solution_from true values lines)) is

    pub other_answer : answered ≡ false → solution_from answered values
        (((b ∷ more) ∷ words) ∷ lines) ≡ (take_answer ((b ∷ more) ∷ words) >>= λ said. solution_from
        true values lines)
    other_answer is = other_line
        ∙ ap (λ t. cond t (Err errors.Line) (take_answer ((b ∷ more) ∷ words) >>= λ said.
        solution_from true values lines)) is

-- the same of bytes
module _ (b : ℕ) (bs : List ℕ) where
  pub not_answer_from : b ≢ 115 → take_answer (words_from (b ∷ []) bs) ≡ Err errors.Answer
  not_answer_from ne = let g = words_grow b [] bs in ap take_answer g.2 ∙ not_answer b g.0 g.1 [] ne

  pub last_from : b ≢ 99 → last_answer (words_from (b ∷ []) bs ∷ lines_after bs) ≡ take_answer
      (words_from (b ∷ []) bs)
  last_from ne = let g = words_grow b [] bs in ap (λ words. last_answer (words ∷ lines_after bs))
      g.2 ∙ last_line b g.0 g.1 (lines_after bs) ne ∙ ap take_answer (sym g.2)

  pub answered_from : (values : List Lbool) → b ≢ 99 → b ≢ 118 → said_from (b ∷ []) true values bs ≡
      Err errors.Line
  answered_from values comment line = let g = words_grow b [] bs in
      ap (λ words. solution_from true values (words ∷ lines_after bs)) g.2
      ∙ other_answered b g.0 g.1 (lines_after bs) true values comment line refl

  pub answer_from : (values : List Lbool) → b ≢ 99 → b ≢ 118 → said_from (b ∷ []) false values bs ≡
      (take_answer (words_from (b ∷ []) bs) >>= λ said. solution_from true values (lines_after bs))
  answer_from values comment line =
      let g = words_grow b [] bs in
      ap (λ words. solution_from false values (words ∷ lines_after bs)) g.2 ∙ other_answer b g.0 g.1
      (lines_after bs) false values comment line refl
      ∙ ap (λ words. take_answer words >>= λ said. solution_from true values (lines_after bs))
      (sym g.2)

-- ---- the answer after all values

last_nothing : last_answer [] ≡ Err errors.Answer
unfolding last_answer
last_nothing = refl

module _ (before mid : Feed) where
  pub last_none : FindsLine {E = Unit {0}} before mid (Ok None) → AnswersLast before mid
      (Err errors.Answer)
  last_none h bytes known = last_past (lines_of bytes) ∙ ap last_answer (h bytes known)
      ∙ last_nothing

  module _ (b : ℕ) (h : FindsLine {E = Unit {0}} before mid (Ok (Some b))) where
    abbrev LastIs : List ℕ → List ℕ → Type 0
    LastIs bytes rest = last_answer (lines_of bytes) ≡ take_answer (words_from (b ∷ []) rest)

    last_is : Leaves before mid LastIs
    last_is = leaves_same before mid (λ bytes rest. lines_past (lines_of bytes) ≡ words_from
        (b ∷ []) rest ∷ lines_after rest) h.2 LastIs (λ bytes rest found. last_past (lines_of bytes)
        ∙ ap last_answer found ∙ last_from b rest h.1)

    pub last_other : b ≢ 115 → AnswersLast before mid (Err errors.Answer)
    last_other ne = says_now before mid LastIs last_is (λ bytes. last_answer (lines_of bytes) ≡ Err
        errors.Answer) (λ bytes rest is. is ∙ not_answer_from b rest ne)

    module _ (s : b ≡ 115) (after : Feed) where
      last_s : Leaves before mid (λ bytes rest. last_answer (lines_of bytes) ≡ take_answer
          (words_from (115 ∷ []) rest))
      last_s = subst (λ k. Leaves before mid (λ bytes rest. last_answer (lines_of bytes) ≡
          take_answer (words_from (k ∷ []) rest))) s last_is

      answer_ok : (t : Bool) → TakesAnswer mid after (Ok t)
          → Says mid (λ bytes. take_answer (words_from (115 ∷ []) bytes) ≡ Ok tt)
      answer_ok true k bytes known = let r = k.1 bytes known in r.2.0
      answer_ok false k bytes known = (k bytes known).0

      pub last_taken : (t : Bool) → TakesAnswer mid after (Ok t) → AnswersLast before after (Ok tt)
      last_taken t k = says_call before mid after (λ bytes rest. last_answer (lines_of bytes) ≡
          take_answer (words_from (115 ∷ []) rest)) last_s
          (λ bytes. take_answer (words_from (115 ∷ []) bytes) ≡ Ok tt)
          (λ bytes. last_answer (lines_of bytes) ≡ Ok tt) (answer_ok t k) (λ bytes mid is said. is
          ∙ said)

      pub last_refused : (e : SolutionError) → TakesAnswer mid after (Err e)
          → AnswersLast before after (Err e)
      last_refused e k = error_call before mid after (λ bytes rest. last_answer (lines_of bytes) ≡
          take_answer (words_from (115 ∷ []) rest)) e
          (λ bytes. take_answer (words_from (115 ∷ []) bytes) ≡ Err e)
          (λ bytes. last_answer (lines_of bytes) ≡ Err e) last_s (λ bytes mid is said. is ∙ said) k

-- ---- the answer before others

said_s : (values : List Lbool) (bytes : List ℕ) → said_from (115 ∷ []) false values bytes ≡
    (take_answer (words_from (115 ∷ []) bytes) >>= λ said. solution_from true values
    (lines_after bytes))
said_s values bytes = answer_from 115 bytes values (λ is. omega (arith, is))
    (λ is. omega (arith, is))

module _ (before after : Feed) where
  pub goes_answered : TakesAnswer before after (Ok true) → GoesOnAnswered before after (Ok tt)
  goes_answered h = (
    h.0,
    leaves_same before after
        (λ bytes rest. (take_answer (words_from (115 ∷ []) bytes) ≡ Ok tt)
        × (lines_after bytes ≡ lines_of rest)) h.1 (λ bytes rest. (values : List Lbool)
        → said_from (115 ∷ []) false values bytes ≡ solution_from true values (lines_of rest))
        (λ bytes rest is values. said_s values bytes
        ∙ ap (λ r. r >>= λ said. solution_from true values (lines_after bytes)) is.0
        ∙ ap (solution_from true values) is.1),
  )

  pub ends_answered : TakesAnswer before after (Ok false) → GoesOnAnswered before after
      (Err errors.Unfinished)
  ends_answered h bytes known values = let is = h bytes known in said_s values bytes
      ∙ ap (λ r. r >>= λ said. solution_from true values (lines_after bytes)) is.0
      ∙ ap (solution_from true values) is.1 ∙ solution_none true values

  pub wrong_answered : (e : SolutionError) → TakesAnswer before after (Err e)
      → GoesOnAnswered before after (Err e)
  wrong_answered e h = error-weaker before after e
      (λ bytes. take_answer (words_from (115 ∷ []) bytes) ≡ Err e) (λ bytes. (values : List Lbool)
      → said_from (115 ∷ []) false values bytes ≡ Err e)
      (λ bytes is values. said_s values bytes ∙ ap (λ r. r >>= λ said. solution_from true values
      (lines_after bytes)) is) h

-- ---- all lines

abbrev pub LinesTaken : Feed → Feed → List Lbool → Bool → List Lbool → Type 0
LinesTaken start now old answered values = Leaves start now (λ bytes rest. solution_from false old
    (lines_of bytes) ≡ solution_from answered values (lines_of rest))

pub taken_begin : (start : Feed) (values : List Lbool) → LinesTaken start start values false values
taken_begin start values = leaves_start start (λ bytes rest. solution_from false values
    (lines_of bytes) ≡ solution_from false values (lines_of rest)) (λ bytes. refl)

module _ (start now : Feed) (old : List Lbool) (answered : Bool) (values : List Lbool)
    (so_far : LinesTaken start now old answered values) (mid : Feed) where
  abbrev Taken : List ℕ → List ℕ → Type 0
  Taken bytes rest = solution_from false old (lines_of bytes) ≡ solution_from answered values
      (lines_of rest)

  abbrev Whole : List ℕ → Result (List Lbool) SolutionError
  Whole bytes = solution_from false old (lines_of bytes)

  pub taken_end : (e : SolutionError) → e ≡ wrong_end answered → FindsLine {E = Unit {0}} now mid
      (Ok None) → SaysAnswer Whole start mid (Err e) values
  taken_end e is h = error_tells start mid e (λ bytes. Whole bytes ≡ Err e)
      (subst IsRead (sym is) (end_read answered))
      (says_call start now mid Taken so_far (λ bytes. lines_past (lines_of bytes) ≡ [])
      (λ bytes. Whole bytes ≡ Err e) h
      (λ bytes rest taken none. taken ∙ solution_past answered values (lines_of rest)
      ∙ ap (solution_from answered values) none ∙ solution_none answered values
      ∙ ap (λ e. Err e) (sym is)))

  module _ (b : ℕ) (h : FindsLine {E = Unit {0}} now mid (Ok (Some b))) where
    found : Leaves start mid (λ bytes rest. Whole bytes ≡ said_from (b ∷ []) answered values rest)
    found = leaves_call start now mid Taken so_far (λ bytes rest. lines_past (lines_of bytes) ≡
        words_from (b ∷ []) rest ∷ lines_after rest) (λ bytes rest. Whole bytes ≡ said_from
        (b ∷ []) answered values rest) h.2
        (λ bytes mid rest taken line. taken ∙ solution_past answered values (lines_of mid)
        ∙ ap (solution_from answered values) line)

    pub taken_answered : b ≢ 118 → answered ≡ true → SaysAnswer Whole start mid (Err errors.Line)
        values
    taken_answered ne is = says_now start mid (λ bytes rest. Whole bytes ≡ said_from
        (b ∷ []) answered values rest) found (λ bytes. Whole bytes ≡ Err errors.Line)
        (λ bytes rest said. said ∙ ap (λ a. said_from (b ∷ []) a values rest) is
        ∙ answered_from b rest values h.1 ne)

    pub taken_other : b ≢ 118 → answered ≡ false → b ≢ 115 → SaysAnswer Whole start mid
        (Err errors.Answer) values
    taken_other ne is other = says_now start mid (λ bytes rest. Whole bytes ≡ said_from
        (b ∷ []) answered values rest) found (λ bytes. Whole bytes ≡ Err errors.Answer)
        (λ bytes rest said. said ∙ ap (λ a. said_from (b ∷ []) a values rest) is
        ∙ answer_from b rest values h.1 ne ∙ ap (λ r. r >>= λ said. solution_from true values
        (lines_after rest)) (not_answer_from b rest other))

    module _ (s : b ≡ 115) (is : answered ≡ false) (after : Feed) where
      abbrev AnswerFound : List ℕ → List ℕ → Type 0
      AnswerFound bytes rest = Whole bytes ≡ said_from (115 ∷ []) false values rest

      answer_found : Leaves start mid AnswerFound
      answer_found = leaves_same start mid (λ bytes rest. Whole bytes ≡ said_from (b ∷ []) answered
          values rest) found AnswerFound (λ bytes rest said. said
          ∙ ap (λ a. said_from (b ∷ []) a values rest) is
          ∙ ap (λ k. said_from (k ∷ []) false values rest) s)

      pub taken_answer : GoesOnAnswered mid after (Ok tt) → LinesTaken start after old true values
      taken_answer k = leaves_call start mid after AnswerFound answer_found
          (λ bytes rest. (values : List Lbool) → said_from (115 ∷ []) false values bytes ≡
          solution_from true values (lines_of rest)) (λ bytes rest. Whole bytes ≡ solution_from true
          values (lines_of rest)) k.1
          (λ bytes mid rest said next. said ∙ next values)

      pub wrong_answer : (e : SolutionError) → GoesOnAnswered mid after (Err e)
          → SaysAnswer Whole start after (Err e) values
      wrong_answer e k = error_call start mid after AnswerFound e (λ bytes. (values : List Lbool)
          → said_from (115 ∷ []) false values bytes ≡ Err e) (λ bytes. Whole bytes ≡ Err e)
          answer_found (λ bytes mid said wrong. said ∙ wrong values) k

    module _ (v : b ≡ 118) (after : Feed) (new : List Lbool) where
      abbrev ValuesFound : List ℕ → List ℕ → Type 0
      ValuesFound bytes rest = Whole bytes ≡ said_from (118 ∷ []) answered values rest

      values_found : Leaves start mid ValuesFound
      values_found = leaves_same start mid (λ bytes rest. Whole bytes ≡ said_from (b ∷ []) answered
          values rest) found ValuesFound (λ bytes rest said. said
          ∙ ap (λ k. said_from (k ∷ []) answered values rest) v)

      pub taken_all : TakesValueLine answered mid after values (Ok true) new
          → SaysAnswer Whole start after (Ok tt) new
      taken_all k = says_call start mid after ValuesFound values_found
          (λ bytes. said_from (118 ∷ []) answered values bytes ≡ Ok new)
          (λ bytes. Whole bytes ≡ Ok new) k (λ bytes mid said all. said ∙ all)

      pub taken_values : TakesValueLine answered mid after values (Ok false) new
          → LinesTaken start after old answered new
      taken_values k = leaves_call start mid after ValuesFound values_found (λ bytes rest. said_from
          (118 ∷ []) answered values bytes ≡ solution_from answered new (lines_of rest))
          (λ bytes rest. Whole bytes ≡ solution_from answered new (lines_of rest)) k.1
          (λ bytes mid rest said next. said ∙ next)

      pub wrong_values : (e : SolutionError) → TakesValueLine answered mid after values (Err e) new
          → SaysAnswer Whole start after (Err e) new
      wrong_values e k = error_call start mid after ValuesFound e
          (λ bytes. said_from (118 ∷ []) answered values bytes ≡ Err e)
          (λ bytes. Whole bytes ≡ Err e) values_found (λ bytes mid said wrong. said ∙ wrong) k
