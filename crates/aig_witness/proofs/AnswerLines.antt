-- How the line of an answer is read.
use Rattle.aig_base.proofs.Words.{◌≡◌, ◌≢◌, ℕ, ◌+◌, ◌≤◌, ◌<◌, Bool, true, false, cond, List, [], ◌∷◌, ◌++◌, length, length-append, take, Option, Some, None, Ok, Err, refl, sym, ap, subst, ◌∙◌, add-one, arith, ◌==◌, codes, bytes_eq, length-set, take_all, same_text}
use Rattle.std.proofs.Math.ListN.{set}
use Rattle.std.proofs.Math.Seq.{take-suc-set}
use Rattle.aig_lexer.specs.Takes.{Feed, Steps}
use Rattle.aig_lexer.proofs.Feeds.{steps_byte}
use Rattle.aig_witness.specs.declared.solutions.error.SolutionError.{SolutionError}
use Rattle.aig_witness.specs.declared.solutions.error.SolutionError.TheVariants as errors
use Rattle.aig_witness.specs.declared.solutions.words.End.{End}
use Rattle.aig_witness.specs.declared.solutions.words.End.TheVariants.{Blank, Line, Stream}
use Rattle.aig_witness.specs.Lines.{EndsAnswer, FindsName, GivesName, IsLeft, IsNoMore, Leaves, TakesAnswer, end_of}
use Rattle.aig_witness.specs.SolverAnswers.{is_blank, lines_after, lines_of, take_answer, take_name, words_from}
use Rattle.aig_witness.proofs.Leaving.{leaves_byte, leaves_call, leaves_end, leaves_same, leaves_start, says_byte, says_end, says_now}
use Rattle.aig_witness.proofs.SignedWords.{error_call}
use Rattle.aig_witness.proofs.Texts.{end_of-byte, lines_none, lines_on, words_end, words_grow, words_none, words_on}

-- the line that the bytes of an answer begin, after its first byte
abbrev pub answer_words : List ℕ → List (List ℕ)
answer_words bytes = words_from (115 ∷ []) bytes

-- ---- past blanks

not_blank : (b : ℕ) → is_blank b ≡ false → end_of b ≡ Some Blank → ⊥
not_blank b other is = by (b == 10) (is_blank b) other is
  where
    by : (line blank : Bool) → blank ≡ false → cond line (Some Line) (cond blank (Some Blank) None)
        ≡ Some Blank → ⊥
    by true blank other is = cc
    by false true other is = cc
    by false false other is = cc

abbrev pub GapTaken : Feed → Feed → Type 0
GapTaken start now = (now.most ≤ start.most)
    × Leaves start now (λ bytes rest. (answer_words bytes ≡ (115 ∷ []) ∷ words_from [] rest)
    × (lines_after bytes ≡ lines_after rest))

module _ (start now : Feed) (o : Option ℕ) (step : Steps start now o) where
  same : Leaves start start (λ bytes rest. bytes ≡ rest)
  same = leaves_start start (λ bytes rest. bytes ≡ rest) (λ bytes. refl)

  pub gap_none : o ≡ None → FindsName start now (Err errors.Answer)
  gap_none is = says_end start start now (λ bytes rest. bytes ≡ rest) same
      (λ bytes. take_answer (answer_words bytes) ≡ Err errors.Answer) o step is
      (λ bytes none. ap (λ bs. take_answer (answer_words bs)) none
      ∙ ap take_answer (words_none (115 ∷ [])))

  module _ (b : ℕ) (is : o ≡ Some b) where
    gap_byte : Leaves start now (λ bytes rest. bytes ≡ b ∷ rest)
    gap_byte = leaves_byte start start now (λ bytes rest. bytes ≡ rest) same
        (λ bytes rest. bytes ≡ b ∷ rest) o b step is (λ bytes rest h. h)

    pub gap_begins : end_of b ≡ Some Blank → GapTaken start now
    gap_begins blank = (
      (let came = steps_byte start now o step b is in omega (arith, came.fewer)),
      leaves_same start now (λ bytes rest. bytes ≡ b ∷ rest) gap_byte
          (λ bytes rest. (answer_words bytes ≡ (115 ∷ []) ∷ words_from [] rest)
          × (lines_after bytes ≡ lines_after rest))
          (λ bytes rest h. let end = words_end b rest Blank blank in (
            ap answer_words h ∙ end.1 (115 ∷ []) ∙ ap (λ words. (115 ∷ []) ∷ words) end.2.0,
            ap
                lines_after h ∙ end.2.1,
          )),
    )

    pub gap_wrong : is_blank b ≡ false → FindsName start now (Err errors.Answer)
    gap_wrong other = says_now start now (λ bytes rest. bytes ≡ b ∷ rest) gap_byte
        (λ bytes. take_answer (answer_words bytes) ≡ Err errors.Answer)
        (λ bytes rest h. ap (λ bs. take_answer (answer_words bs)) h ∙ by rest (end_of b) refl)
      where
        by : (rest : List ℕ) (e : Option End) → end_of b ≡ e
            → take_answer (answer_words (b ∷ rest)) ≡ Err errors.Answer
        by rest None goes = let g = words_grow 115 (b ∷ []) rest in ap take_answer
            (words_on b rest (115 ∷ []) goes ∙ g.2)
        by rest (Some Blank) blank = absurd (not_blank b other blank)
        by rest (Some Line) line = let end = words_end b rest Line line in ap take_answer
            (end.1 (115 ∷ []) ∙ ap (λ words. (115 ∷ []) ∷ words) end.2.0)
        by rest (Some Stream) stream = absurd (end_of-byte b stream)

module _ (start now after : Feed) (so_far : GapTaken start now) (o : Option ℕ)
    (step : Steps now after o) where
  abbrev Gap : List ℕ → List ℕ → Type 0
  Gap bytes rest = (answer_words bytes ≡ (115 ∷ []) ∷ words_from [] rest)
      × (lines_after bytes ≡ lines_after rest)

  pub gap_end : o ≡ None → FindsName start after (Err errors.Answer)
  gap_end is = says_end start now after Gap so_far.1 (λ bytes. take_answer (answer_words bytes) ≡
      Err errors.Answer) o step is
      (λ bytes h. ap take_answer (h.0 ∙ ap (λ words. (115 ∷ []) ∷ words) (words_none [])))

  module _ (b : ℕ) (is : o ≡ Some b) where
    pub gap_on : end_of b ≡ Some Blank → GapTaken start after
    gap_on blank = (
      (let came = steps_byte now after o step b is in omega (arith, so_far.0, came.fewer)),
      leaves_byte start now after Gap so_far.1 Gap o b step is (λ bytes rest h. let end =
          words_end b rest Blank blank in
          (h.0 ∙ ap (λ words. (115 ∷ []) ∷ words) (end.1 [] ∙ end.2.0), h.1 ∙ end.2.1)),
    )

    pub gap_ends : end_of b ≡ Some Line → FindsName start after (Err errors.Answer)
    gap_ends line = says_byte start now after Gap so_far.1
        (λ bytes. take_answer (answer_words bytes) ≡ Err errors.Answer) o b step is
        (λ bytes rest h. let end = words_end b rest Line line in ap take_answer (h.0
        ∙ ap (λ words. (115 ∷ []) ∷ words) (end.1 [] ∙ end.2.0)))

    pub gap_found : end_of b ≡ None → FindsName start after (Ok b)
    gap_found goes = (
      (let came = steps_byte now after o step b is in omega (arith, so_far.0, came.fewer)),
      leaves_byte start now after Gap so_far.1
          (λ bytes rest. (answer_words bytes ≡ (115 ∷ []) ∷ words_from (b ∷ []) rest)
          × (lines_after bytes ≡ lines_after rest)) o b step is
          (λ bytes rest h. (
            h.0 ∙ ap (λ words. (115 ∷ []) ∷ words) (words_on b rest [] goes),
            h.1
                ∙ lines_on b rest goes,
          )),
    )

-- ---- the name

-- the bytes of a name so far
abbrev pub NameTaken : ℕ → Feed → Feed → List ℕ → ℕ → Type 0
NameTaken first start now names count = (now.most ≤ start.most) × (count ≤ length names)
    × (word : List ℕ) × (take count names ≡ first ∷ word)
    × Leaves start now (λ bytes rest. (words_from (first ∷ []) bytes ≡ words_from
    (first ∷ word) rest) × (lines_after bytes ≡ lines_after rest))

pub name_begins : (first : ℕ) (start : Feed) (names : List ℕ) → 0 < length names
    → NameTaken first start start (set names 0 first) 1
name_begins first start [] h = absurd (omega arith)
name_begins first start (n ∷ names) h = (
  omega arith,
  omega arith,
  [],
  refl,
  leaves_start start (λ bytes rest. (words_from (first ∷ []) bytes ≡ words_from (first ∷ []) rest)
      × (lines_after bytes ≡ lines_after rest)) (λ bytes. (refl, refl)),
)

module _ (first : ℕ) (start now after : Feed) (names : List ℕ) (count : ℕ)
    (so_far : NameTaken first start now names count) (o : Option ℕ) (step : Steps now after o) where
  abbrev Name : List ℕ → List ℕ → Type 0
  Name bytes rest = (words_from (first ∷ []) bytes ≡ words_from (first ∷ so_far.2) rest)
      × (lines_after bytes ≡ lines_after rest)

  abbrev Ended : End → List ℕ → List ℕ → Type 0
  Ended e bytes rest = (words : List (List ℕ))
      × (words_from (first ∷ []) bytes ≡ take count names ∷ words)
      × IsLeft e words (lines_after bytes) rest

  pub name_end : o ≡ None → GivesName first start after (Ok (count, Stream)) names
  name_end is = (
    so_far.1,
    tt,
    leaves_end start now after Name so_far.4 (Ended Stream) o step is
        (λ bytes h. (
          [],
          h.0 ∙ words_none (first ∷ so_far.2) ∙ ap (λ w. w ∷ []) (sym so_far.3),
          (refl, h.1 ∙ lines_none, refl),
        )),
  )

  module _ (b : ℕ) (is : o ≡ Some b) where
    fewer : after.most < start.most
    fewer = let came = steps_byte now after o step b is in omega (arith, so_far.0, came.fewer)

    not_more : (e : End) → IsNoMore e start after
    not_more Blank = let low = fewer in omega arith
    not_more Line = let low = fewer in omega arith
    not_more Stream = tt

    pub name_stop : (e : End) → end_of b ≡ Some e → GivesName first start after
        (Ok (count, e)) names
    name_stop e ends = (
      so_far.1,
      not_more e,
      leaves_byte start now after Name so_far.4
          (Ended e) o b step is
          (λ bytes rest h. let end = words_end b rest e ends in (
            end.0,
            h.0 ∙ end.1 (first ∷ so_far.2) ∙ ap (λ w. w ∷ end.0) (sym so_far.3),
            subst
                (λ lines. IsLeft e end.0 lines rest) (sym h.1) end.2,
          )),
    )

    pub name_on : end_of b ≡ None → count < length names → NameTaken first start after
        (set names count b) (count + 1)
    name_on goes room = (
      (let low = fewer in omega arith),
      rw length-set (omega arith),
      so_far.2 ++ b ∷ [],
      ap (λ n. take n (set names count b)) (add-one count) ∙ take-suc-set names count b room
          ∙ ap (λ w. w ++ b ∷ []) so_far.3,
      leaves_byte start now after Name so_far.4
          (λ bytes rest. (words_from (first ∷ []) bytes ≡ words_from (first ∷ so_far.2 ++ b ∷ [])
          rest) × (lines_after bytes ≡ lines_after rest)) o b step is
          (λ bytes rest h. (
            h.0 ∙ words_on b rest (first ∷ so_far.2) goes,
            h.1
                ∙ lines_on b rest goes,
          )),
    )

    pub name_long : end_of b ≡ None → length names ≤ count → GivesName first start after
        (Err errors.Answer) names
    name_long goes full = says_byte start now after Name so_far.4
        (λ bytes. (errors.Answer ≡ errors.Answer) × (name : List ℕ) × (words : List (List ℕ))
        × (words_from (first ∷ []) bytes ≡ name ∷ words) × (length names < length name)) o b step is
        (λ bytes rest h.
        let g = words_grow first (so_far.2 ++ b ∷ []) rest in (
          refl,
          first ∷ (so_far.2 ++ b ∷ []) ++ g.0,
          g.1,
          h.0 ∙ words_on b rest (first ∷ so_far.2)
              goes ∙ g.2,
          longer so_far.2 g.0 (sym (take_all count names full) ∙ so_far.3),
        ))
      where
        longer : (word more : List ℕ) → names ≡ first ∷ word → length names < length
            (first ∷ (word ++ b ∷ []) ++ more)
        longer word more is = rw (length-append (word ++ b ∷ []) more, length-append word (b ∷ []))
            (omega (arith, ap length is))

-- ---- the end of the line

abbrev pub BlanksTaken : Feed → Feed → Type 0
BlanksTaken start now = (now.most ≤ start.most)
    × Leaves start now (λ bytes rest. (words_from [] bytes ≡ words_from [] rest)
    × (lines_after bytes ≡ lines_after rest))

pub blanks_begin : (start : Feed) → BlanksTaken start start
blanks_begin start = (
  omega arith,
  leaves_start start (λ bytes rest. (words_from [] bytes ≡ words_from [] rest)
      × (lines_after bytes ≡ lines_after rest)) (λ bytes. (refl, refl)),
)

module _ (start now after : Feed) (so_far : BlanksTaken start now) (o : Option ℕ)
    (step : Steps now after o) where
  abbrev Blanks : List ℕ → List ℕ → Type 0
  Blanks bytes rest = (words_from [] bytes ≡ words_from [] rest)
      × (lines_after bytes ≡ lines_after rest)

  pub blanks_end : o ≡ None → EndsAnswer Blank start after (Ok false)
  blanks_end is = says_end start now after Blanks so_far.1 (λ bytes. (words : List (List ℕ))
      (lines : List (List (List ℕ))) → IsLeft Blank words lines bytes → (words ≡ []) × (lines ≡ []))
      o step is
      (λ bytes h words lines left. (left.0 ∙ h.0 ∙ words_none [], left.1 ∙ h.1 ∙ lines_none))

  module _ (b : ℕ) (is : o ≡ Some b) where
    pub blanks_on : end_of b ≡ Some Blank → BlanksTaken start after
    blanks_on blank = (
      (let came = steps_byte now after o step b is in omega (arith, so_far.0, came.fewer)),
      leaves_byte start now after Blanks so_far.1 Blanks o b step is (λ bytes rest h. let end =
          words_end b rest Blank blank in (h.0 ∙ end.1 [] ∙ end.2.0, h.1 ∙ end.2.1)),
    )

    pub blanks_line : end_of b ≡ Some Line → EndsAnswer Blank start after (Ok true)
    blanks_line line = (
      (λ is. cc),
      (let came = steps_byte now after o step b is in omega (arith, so_far.0, came.fewer)),
      leaves_byte start now after Blanks so_far.1 (λ bytes rest. (words : List (List ℕ))
          (lines : List (List (List ℕ))) → IsLeft Blank words lines bytes → (words ≡ [])
          × (lines ≡ lines_of rest)) o b step is
          (λ bytes rest h words lines left. let end = words_end b rest Line line in
          (left.0 ∙ h.0 ∙ end.1 [] ∙ end.2.0, left.1 ∙ h.1 ∙ end.2.1)),
    )

    pub blanks_wrong : end_of b ≡ None → EndsAnswer Blank start after (Err errors.Answer)
    blanks_wrong goes = says_byte start now after Blanks so_far.1
        (λ bytes. (errors.Answer ≡ errors.Answer)
        × ((words : List (List ℕ)) (lines : List (List (List ℕ))) → IsLeft Blank words lines bytes
        → words ≢ [])) o b step is
        (λ bytes rest h. (
          refl,
          λ words lines left none.
              let g = words_grow b [] rest in
              some (b ∷ g.0) g.1 (sym (words_on b rest [] goes ∙ g.2) ∙ sym h.0 ∙ sym left.0 ∙ none),
        ))
      where
        some : (w : List ℕ) (ws : List (List ℕ)) → w ∷ ws ≡ [] → ⊥
        some w ws none = cc

-- after a name that a line feed or the stream ended
pub line_ended : (f : Feed) → EndsAnswer Line f f (Ok true)
line_ended f = (
  (λ is. cc),
  omega arith,
  leaves_start f (λ bytes rest. (words : List (List ℕ))
      (lines : List (List (List ℕ))) → IsLeft Line words lines bytes → (words ≡ [])
      × (lines ≡ lines_of rest)) (λ bytes words lines left. left),
)

pub stream_ended : (f : Feed) → EndsAnswer Stream f f (Ok false)
stream_ended f bytes known words lines left = (left.0, left.1)

-- ---- the whole line

other_text : (name text : List ℕ) → length text ≤ 16 → 16 < length name → bytes_eq name text ≡ false
other_text name text short long = by (bytes_eq name text) refl
  where
    by : (t : Bool) → bytes_eq name text ≡ t → bytes_eq name text ≡ false
    by true is = let same : length name ≡ length text = ap length (same_text name text (sym is)) in
        absurd (omega arith)
    by false is = is

-- a name that is longer than all
pub long_name : (name : List ℕ) → 16 < length name → take_name name ≡ Err errors.Answer
long_name name long = rw (
  other_text name (codes "SATISFIABLE") (omega arith) long,
  other_text name
      (codes "UNSATISFIABLE") (omega arith) long,
  other_text name (codes "UNKNOWN")
      (omega arith) long,
) refl

pub long_answer : (name : List ℕ) (words : List (List ℕ)) → 16 < length name
    → take_answer ((115 ∷ []) ∷ name ∷ words) ≡ Err errors.Answer
long_answer name [] long = long_name name long
long_answer name (word ∷ words) long = refl

pub more_answer : (name : List ℕ) (words : List (List ℕ)) → words ≢ []
    → take_answer ((115 ∷ []) ∷ name ∷ words) ≡ Err errors.Answer
more_answer name [] some = absurd (some refl)
more_answer name (word ∷ words) some = refl

module _ (before gap : Feed) (b : ℕ) (found : FindsName before gap (Ok b)) (mid : Feed)
    (names : List ℕ) where
  abbrev Found : List ℕ → List ℕ → Type 0
  Found bytes rest = (answer_words bytes ≡ (115 ∷ []) ∷ words_from (b ∷ []) rest)
      × (lines_after bytes ≡ lines_after rest)

  pub name_wrong : (e : SolutionError) → length names ≡ 16 → GivesName b gap mid (Err e) names
      → TakesAnswer before mid (Err e)
  name_wrong e full h = error_call before gap mid Found e (λ bytes. (e ≡ errors.Answer)
      × (name : List ℕ) × (words : List (List ℕ)) × (words_from (b ∷ []) bytes ≡ name ∷ words)
      × (length names < length name)) (λ bytes. take_answer (answer_words bytes) ≡ Err e) found.1
      (λ bytes rest is x. ap take_answer (is.0 ∙ ap (λ words. (115 ∷ []) ∷ words) x.3)
      ∙ long_answer x.1 x.2 (let long = x.4 in omega arith) ∙ ap (λ e. Err e) (sym x.0)) h

  module _ (count : ℕ) (e : End) (given : GivesName b gap mid (Ok (count, e)) names) where
    abbrev name : List ℕ
    name = take count names

    abbrev Named : List ℕ → List ℕ → Type 0
    Named bytes rest = (words : List (List ℕ)) × (answer_words bytes ≡ (115 ∷ []) ∷ name ∷ words)
        × IsLeft e words (lines_after bytes) rest

    named : Leaves before mid Named
    named = leaves_call before gap mid Found found.1 (λ bytes rest. (words : List (List ℕ))
        × (words_from (b ∷ []) bytes ≡ name ∷ words) × IsLeft e words (lines_after bytes) rest)
        Named given.2
        (λ bytes mid rest is x. (
          x.0,
          is.0 ∙ ap (λ words. (115 ∷ []) ∷ words) x.1,
          subst
              (λ lines. IsLeft e x.0 lines rest) (sym is.1) x.2,
        ))

    module _ (after : Feed) where
      pub rest_wrong : (error : SolutionError) → EndsAnswer e mid after (Err error)
          → TakesAnswer before after (Err error)
      rest_wrong error h = error_call before mid after Named error (λ bytes. (error ≡ errors.Answer)
          × ((words : List (List ℕ)) (lines : List (List (List ℕ))) → IsLeft e words lines bytes
          → words ≢ [])) (λ bytes. take_answer (answer_words bytes) ≡ Err error) named
          (λ bytes rest x wrong. ap take_answer x.1 ∙ more_answer name x.0
          (wrong.1 x.0 (lines_after bytes) x.2) ∙ ap (λ e. Err e) (sym wrong.0)) h
