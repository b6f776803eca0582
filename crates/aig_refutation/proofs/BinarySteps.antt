-- Steps of a binary proof, word by word.
use Rattle.aig_base.proofs.Words.{◌≡◌, inr, ℕ, Bool, true, false, cond, List, [], ◌∷◌, ◌++◌, Option, Some, None, Result, Ok, Err, refl, sym, ap, subst, ◌∙◌, eqb, nat_lt, ne_eqb}
use Rattle.aig_base.specs.declared.logic.literal.Lit.{Lit}
use Rattle.aig_format.specs.Parse.{parse_delta}
use Rattle.aig_lexer.specs.Takes.{Feed, Steps}
use Rattle.aig_refutation.specs.declared.error.RefutationError.{RefutationError}
use Rattle.aig_refutation.specs.declared.error.RefutationError.TheVariants as errors
use Rattle.aig_refutation.specs.declared.step.Step as held
use Rattle.aig_refutation.specs.Ahead.{IsAhead, TakesPlain}
use Rattle.aig_refutation.specs.Binary.{after_letter, after_literal, binary_script, binary_steps_in, code_of, groups_in, literal_by, literal_said, no_step, step_before, widened_after, with_byte, with_literal}
use Rattle.aig_refutation.specs.Checking.{IsRefusal}
use Rattle.aig_refutation.specs.Concluding.{ConcludesPlain}
use Rattle.aig_refutation.specs.Proofs.{Plain, Script, widened}
use Rattle.aig_refutation.specs.Reading.{plain_by}
use Rattle.aig_refutation.specs.ReadingBinary.{GivesCode, GivesItems, GivesLetter, GivesNext, IsNoCode, IsNoLetter, IsSaid, Passes, items_after, items_from, items_left, letter_of}
use Rattle.aig_refutation.specs.Steps.{Drops, Learns, PlainStep}
use Rattle.aig_refutation.specs.Tables.{Table}
use Rattle.aig_refutation.specs.Text.{◌>>=◌}
use Rattle.aig_refutation.specs.Tokens.{Leaves, Says, TellsOfText, front}
use Rattle.aig_refutation.proofs.Known.{leaves_on, leaves_same, leaves_start, says_now, says_on, step_leaves, tells, tells_on}
use Rattle.aig_refutation.proofs.Plainly.{PassesOn, line_passes, line_refused, passed_on, refused_on}

-- ---- what bytes say

module _ {X : Type 0} (say : List ℕ → X) where
  pub passes_start : (f : Feed) → Passes say say f f
  passes_start f = leaves_start f (λ bytes rest. say bytes ≡ say rest) (λ bytes. refl)

  module _ (said : List ℕ → X) (before mid : Feed) (so_far : Passes say said before mid) where
    pub passes_on : (other : List ℕ → X) (after : Feed) → Passes said other mid after
        → Passes say other before after
    passes_on other after h =
        leaves_on before mid (λ bytes rest. say bytes ≡ said rest) so_far after
        (λ bytes rest. said bytes ≡ other rest) (λ bytes rest. say bytes ≡ other rest) h
        (λ bytes middle rest is then. is ∙ then)

    pub passes_as : (other : List ℕ → X) → ((bytes : List ℕ) → said bytes ≡ other bytes)
        → Passes say other before mid
    passes_as other same =
        leaves_same before mid (λ bytes rest. say bytes ≡ said rest) so_far
        (λ bytes rest. say bytes ≡ other rest) (λ bytes rest is. is ∙ same rest)

    pub said_on : (e : RefutationError) (x : X) → TellsOfText e (IsSaid said x mid)
        → TellsOfText e (IsSaid say x before)
    said_on e x h =
        tells_on e (IsSaid said x mid) (IsSaid say x before)
        (λ says. says_on before mid (λ bytes rest. say bytes ≡ said rest) so_far
        (λ bytes. said bytes ≡ x) (λ bytes. say bytes ≡ x) says
        (λ bytes middle is then. is ∙ then)) h

    pub said_now : (x : X) → ((bytes : List ℕ) → said bytes ≡ x) → IsSaid say x before
    said_now x same =
        says_now before mid (λ bytes rest. say bytes ≡ said rest) so_far (λ bytes. say bytes ≡ x)
        (λ bytes rest is. is ∙ same rest)

-- ---- letters

module _ (before after : Feed) (o : Option ℕ) (steps : Steps before after o) where
  abbrev Came : List ℕ → List ℕ → Type 0
  Came bytes rest = (bytes ≡ front o rest) × (o ≡ None → rest ≡ [])

  -- a letter
  pub letter_came : (b : ℕ) (deletes : Bool) → o ≡ Some b → b ≡ letter_of deletes
      → GivesLetter deletes before after (Ok true)
  letter_came b deletes is letter =
      leaves_same before after Came (step_leaves before after o steps)
      (λ bytes rest. bytes ≡ letter_of deletes ∷ rest)
      (λ bytes rest h. h.0 ∙ ap (λ (x : Option ℕ). front x rest) is
      ∙ ap (λ (c : ℕ). c ∷ rest) letter)

  -- a byte that is none
  pub letter_refused : (b : ℕ) (deletes : Bool) → o ≡ Some b → eqb b 97 ≡ false
      → eqb b 100 ≡ false → GivesLetter deletes before after (Err errors.Binary)
  letter_refused b deletes is a d =
      says_now before after Came (step_leaves before after o steps)
      (λ bytes. (errors.Binary ≡ errors.Binary) × IsNoLetter bytes)
      (λ bytes rest h.
      let byte : bytes ≡ b ∷ rest = h.0 ∙ ap (λ (x : Option ℕ). front x rest) is in
      (refl, subst IsNoLetter (sym byte) (a, d)))

  -- no byte
  pub letter_missing : (deletes : Bool) → o ≡ None → GivesLetter deletes before after (Ok false)
  letter_missing deletes is =
      says_now before after Came (step_leaves before after o steps) (λ bytes. bytes ≡ [])
      (λ bytes rest h. h.0 ∙ ap (λ (x : Option ℕ). front x rest) is)

-- the first word of bytes begins with the first one
pub first_word : (b : ℕ) (bs : List ℕ)
    → (more : List ℕ) × (words : List (List ℕ)) × (groups_in (b ∷ bs) ≡ (b ∷ more) ∷ words)
unfolding groups_in
first_word b bs = by (nat_lt b 128)
  where
    before : (words : List (List ℕ)) → (more : List ℕ) × (others : List (List ℕ))
        × (with_byte b words ≡ (b ∷ more) ∷ others)
    before [] = ([], [], refl)
    before (word ∷ words) = (word, words, refl)

    by : (c : Bool) → (more : List ℕ) × (words : List (List ℕ))
        × (cond c ((b ∷ []) ∷ groups_in bs) (with_byte b (groups_in bs)) ≡ (b ∷ more) ∷ words)
    by true = ([], groups_in bs, refl)
    by false = before (groups_in bs)

-- ---- lists

module _ {A : Type 0} (one : ℕ → Result A RefutationError) where
  -- what a number says in a list
  abbrev code_said : ℕ → Result (Option A) RefutationError
  code_said code = cond (eqb code 0) (Ok None) (one code >>= λ x. Ok (Some x))

  -- what is read after it
  abbrev said_on_words : List A → List (List ℕ) → Result (Option A) RefutationError
      → Result (List A × List (List ℕ)) RefutationError
  said_on_words items words r = r >>= items_after items words (λ more. items_from one more words)

  word_said : (items : List A) (bytes rest word : List ℕ) (code : ℕ)
      → groups_in bytes ≡ word ∷ groups_in rest → code_of (parse_delta word) ≡ Ok code
      → items_left one items bytes ≡ said_on_words items (groups_in rest) (code_said code)
  unfolding items_from
  word_said items bytes rest word code is value =
      ap (items_from one items) is
      ∙ ap (λ (r : Result ℕ RefutationError). said_on_words items (groups_in rest)
      (r >>= code_said)) value

  word_missing : (items : List A) (words : List (List ℕ)) → IsNoCode words
      → items_from one items words ≡ Err errors.Binary
  unfolding items_from
  word_missing items [] none = refl
  word_missing items (word ∷ words) none =
      ap (λ (r : Result ℕ RefutationError). said_on_words items words (r >>= code_said)) none

  said_item : (code : ℕ) (r : Result A RefutationError) → (code ≡ 0 → ⊥) → one code ≡ r
      → code_said code ≡ (r >>= λ x. Ok (Some x))
  said_item code r some is =
      ap (λ (b : Bool). cond b (Ok None) (one code >>= λ x. Ok (Some x))) (ne_eqb code 0 some)
      ∙ ap (λ (y : Result A RefutationError). y >>= λ x. Ok (Some x)) is

  abbrev pub ReadsOn : List A → Feed → List A → Feed → Type 0
  ReadsOn first before now mid = Passes (items_left one first) (items_left one now) before mid

  module _ (first now : List A) (before mid : Feed) (so_far : ReadsOn first before now mid)
      (after : Feed) where
    abbrev Goes : List ℕ → List ℕ → Type 0
    Goes bytes rest = items_left one first bytes ≡ items_left one now rest

    abbrev Word : ℕ → List ℕ → List ℕ → Type 0
    Word code bytes rest = (word : List ℕ) × (groups_in bytes ≡ word ∷ groups_in rest)
        × (code_of (parse_delta word) ≡ Ok code)

    -- the 0
    pub items_end : (code : ℕ) → GivesCode mid after (Ok code) → code ≡ 0
        → GivesItems one first now before after (Ok tt)
    items_end code given none =
        leaves_on before mid Goes so_far after (Word code)
        (λ bytes rest. items_left one first bytes ≡ Ok (now, groups_in rest)) given
        (λ bytes middle rest goes word. goes
        ∙ word_said now middle rest word.0 code word.1 word.2
        ∙ ap (λ (c : ℕ). said_on_words now (groups_in rest) (code_said c)) none)

    -- no number
    pub items_unread : (new : List A) (e : RefutationError) → GivesCode mid after (Err e)
        → GivesItems one first new before after (Err e)
    items_unread new e given =
        let Q : List ℕ → Type 0 = λ bytes. items_left one first bytes ≡ Err e in
        let P : List ℕ → Type 0 = λ bytes. (e ≡ errors.Binary) × IsNoCode (groups_in bytes) in
        tells_on e (Says mid P) (Says before Q)
        (λ says. says_on before mid Goes so_far P Q says (λ bytes middle goes none. goes
        ∙ word_missing now (groups_in middle) none.1
        ∙ ap (λ (x : RefutationError). Err x) (sym none.0))) given

    module _ (code : ℕ) (given : GivesCode mid after (Ok code)) (some : code ≡ 0 → ⊥) where
      said : (r : Result A RefutationError) → one code ≡ r
          → (bytes middle rest : List ℕ) → Goes bytes middle → Word code middle rest
          → items_left one first bytes
          ≡ said_on_words now (groups_in rest) (r >>= λ x. Ok (Some x))
      said r is bytes middle rest goes word =
          goes ∙ word_said now middle rest word.0 code word.1 word.2
          ∙ ap (said_on_words now (groups_in rest)) (said_item code r some is)

      -- a number that is no item
      pub items_wrong : (new : List A) (e : RefutationError) → one code ≡ Err e
          → GivesItems one first new before after (Err e)
      items_wrong new e is =
          let Q : List ℕ → Type 0 = λ bytes. items_left one first bytes ≡ Err e in
          tells e (Says before Q)
          (says_now before after (λ bytes rest. Q bytes)
          (leaves_on before mid Goes so_far after (Word code) (λ bytes rest. Q bytes) given
          (λ bytes middle rest goes word. said (Err e) is bytes middle rest goes word)) Q
          (λ bytes rest q. q))

      -- an item
      pub items_more : (x : A) (new : List A) → one code ≡ Ok x → new ≡ now ++ x ∷ []
          → ReadsOn first before new after
      items_more x new is same =
          leaves_on before mid Goes so_far after (Word code)
          (λ bytes rest. items_left one first bytes ≡ items_left one new rest) given
          (λ bytes middle rest goes word. said (Ok x) is bytes middle rest goes word
          ∙ ap (λ (items : List A). items_left one items rest) (sym same))

-- ---- whole steps

-- a step of a clause
abbrev pub plain_of_clause : Bool → List Lit → PlainStep
plain_of_clause deletes clause = cond deletes (Drops clause) (Learns clause)

module _ (variables : ℕ) where
  -- what is said after the list of a step
  abbrev after_items : Bool → Result (List Lit × List (List ℕ)) RefutationError → Script PlainStep
  after_items deletes (Ok x) =
      step_before (plain_of_clause deletes x.0) (binary_script (widened variables) None x.1)
  after_items deletes (Err e) = no_step e

  items_of_step : (deletes : Bool) (words : List (List ℕ)) (clause : List Lit)
      → binary_script variables (Some (plain_of_clause deletes clause)) words
      ≡ after_items deletes (items_from (literal_by variables) clause words)
  unfolding binary_script items_from
  items_of_step deletes [] clause = refl
  items_of_step deletes (word ∷ words) clause =
      by (literal_said variables word)
      (λ lit. items_of_step deletes words (clause ++ lit ∷ []))
    where
      grown : (d : Bool) (lit : Lit) → with_literal (plain_of_clause d clause) lit
          ≡ plain_of_clause d (clause ++ lit ∷ [])
      grown true lit = refl
      grown false lit = refl

      by : (r : Result (Option Lit) RefutationError)
          → ((lit : Lit) → binary_script variables
          (Some (plain_of_clause deletes (clause ++ lit ∷ []))) words ≡ after_items deletes
          (items_from (literal_by variables) (clause ++ lit ∷ []) words))
          → after_literal (plain_of_clause deletes clause) r
          (λ next. binary_script (widened_after variables next) next words)
          ≡ after_items deletes (r >>= items_after clause words
          (λ more. items_from (literal_by variables) more words))
      by (Ok (Some lit)) later =
          ap (λ (step : PlainStep). binary_script variables (Some step) words) (grown deletes lit)
          ∙ later lit
      by (Ok None) later = refl
      by (Err e) later = refl

  letter_begins : (deletes : Bool) (bytes : List ℕ)
      → binary_steps_in variables (letter_of deletes ∷ bytes)
      ≡ after_items deletes (items_left (literal_by variables) [] bytes)
  unfolding groups_in binary_script
  letter_begins true bytes = items_of_step true (groups_in bytes) []
  letter_begins false bytes = items_of_step false (groups_in bytes) []

  no_letter : (bytes : List ℕ) → IsNoLetter bytes
      → binary_steps_in variables bytes ≡ no_step errors.Binary
  unfolding binary_script
  no_letter [] none = absurd none
  no_letter (b ∷ bytes) none =
      let w = first_word b bytes in
      ap (binary_script variables None) w.2 ∙ by (eqb b 97) (eqb b 100) none.0 none.1 w.0 w.1
    where
      by : (x y : Bool) → x ≡ false → y ≡ false → (more : List ℕ) (words : List (List ℕ))
          → after_letter (cond x (Ok (Learns [])) (cond y (Ok (Drops [])) (Err errors.Binary)))
          (λ next. binary_script variables next words) ≡ no_step errors.Binary
      by true y a d more words = absurd cc
      by false true a d more words = absurd cc
      by false false a d more words = refl

  none_left : binary_steps_in variables [] ≡ no_step errors.Unfinished
  unfolding groups_in binary_script
  none_left = refl

  module _ (deletes : Bool) (before mid : Feed) where
    -- there is none
    pub step_none : (step : PlainStep) → GivesLetter deletes before mid (Ok false)
        → GivesNext binary_steps_in variables step before mid (Ok false)
    step_none step h bytes known = ap (binary_steps_in variables) (h bytes known) ∙ none_left

    pub step_unbegun : (step : PlainStep) (e : RefutationError)
        → GivesLetter deletes before mid (Err e)
        → GivesNext binary_steps_in variables step before mid (Err e)
    step_unbegun step e h =
        tells_on e (Says before (λ bytes. (e ≡ errors.Binary) × IsNoLetter bytes))
        (IsSaid (binary_steps_in variables) (no_step e) before)
        (λ says bytes known.
        let wrong = says bytes known in
        no_letter bytes wrong.1 ∙ ap (λ (x : RefutationError). no_step x) (sym wrong.0)) h

    module _ (letter : GivesLetter deletes before mid (Ok true)) (clause : List Lit) (after : Feed)
      where
        begins : Passes (binary_steps_in variables)
            (λ rest. after_items deletes (items_left (literal_by variables) [] rest)) before mid
        begins =
            leaves_same before mid (λ bytes rest. bytes ≡ letter_of deletes ∷ rest) letter
            (λ bytes rest. binary_steps_in variables bytes
            ≡ after_items deletes (items_left (literal_by variables) [] rest))
            (λ bytes rest is. ap (binary_steps_in variables) is ∙ letter_begins deletes rest)

        pub step_unread : (step : PlainStep) (e : RefutationError)
            → GivesItems (literal_by variables) [] clause mid after (Err e)
            → GivesNext binary_steps_in variables step before after (Err e)
        step_unread step e h =
            let say : List ℕ → Script PlainStep = λ rest. after_items deletes
            (items_left (literal_by variables) [] rest) in
            said_on (binary_steps_in variables) say before mid begins e (no_step e)
            (tells_on e (IsSaid (items_left (literal_by variables) []) (Err e) mid)
            (IsSaid say (no_step e) mid) (λ says bytes known. ap (after_items deletes)
            (says bytes known)) h)

        pub step_read : GivesItems (literal_by variables) [] clause mid after (Ok tt)
            → GivesNext binary_steps_in variables (plain_of_clause deletes clause) before after
            (Ok true)
        step_read h =
            let say : List ℕ → Script PlainStep = λ rest. after_items deletes
            (items_left (literal_by variables) [] rest) in
            let then : List ℕ → Script PlainStep = λ rest. step_before
            (plain_of_clause deletes clause) (binary_steps_in (widened variables) rest) in
            passes_on (binary_steps_in variables) say before mid begins then after
            (leaves_same mid after (λ bytes rest. items_left (literal_by variables) [] bytes
            ≡ Ok (clause, groups_in rest)) h (λ bytes rest. say bytes ≡ then rest)
            (λ bytes rest is. ap (after_items deletes) is))

-- ---- a loop over steps

abbrev pub GoesBinary : ℕ → List (List Lit) → Feed → ℕ → List (List Lit) → Feed → Type 0
GoesBinary variables clauses before bound now mid = Leaves before mid (λ bytes rest.
    PassesOn clauses now (binary_steps_in variables bytes) (binary_steps_in bound rest))

module _ (variables : ℕ) (clauses : List (List Lit)) (before : Feed) (bound : ℕ)
    (now : List (List Lit)) (mid : Feed)
    (so_far : GoesBinary variables clauses before bound now mid) where
  abbrev Left : List ℕ → Script PlainStep
  Left bytes = binary_steps_in variables bytes

  abbrev Now : List ℕ → Script PlainStep
  Now bytes = binary_steps_in bound bytes

  abbrev Next : List ℕ → Script PlainStep
  Next bytes = binary_steps_in (widened bound) bytes

  abbrev Onward : List ℕ → List ℕ → Type 0
  Onward bytes rest = PassesOn clauses now (Left bytes) (Now rest)

  fault_on : (e : RefutationError) (bytes middle : List ℕ) → Onward bytes middle
      → Now middle ≡ no_step e → IsRefusal clauses (Left bytes) e
  fault_on e bytes middle passes is =
      refused_on clauses now (Left bytes) (Now middle) e passes
      (subst (λ (script : Script PlainStep). IsRefusal now script e) (sym is) (inr (refl, refl)))

  pub binary_unread : (step : PlainStep) (after : Feed) (e : RefutationError)
      → GivesNext binary_steps_in bound step mid after (Err e)
      → ConcludesPlain before clauses (binary_steps_in variables) (Err e)
  binary_unread step after e given =
      let P : List ℕ → Type 0 = λ bytes. Now bytes ≡ no_step e in
      let Q : List ℕ → Type 0 = λ bytes. IsRefusal clauses (Left bytes) e in
      tells_on e (Says mid P) (Says before Q)
      (λ says. says_on before mid Onward so_far P Q says (λ bytes middle passes is.
      fault_on e bytes middle passes is)) given

  pub binary_none : (step : PlainStep) (after : Feed)
      → GivesNext binary_steps_in bound step mid after (Ok false)
      → ConcludesPlain before clauses (binary_steps_in variables) (Err errors.Unfinished)
  binary_none step after given =
      says_on before mid Onward so_far (λ bytes. Now bytes ≡ no_step errors.Unfinished)
      (λ bytes. IsRefusal clauses (Left bytes) errors.Unfinished) given
      (λ bytes middle passes is. fault_on errors.Unfinished bytes middle passes is)

  module _ (s : held.Step) (after : Feed)
      (given : GivesNext binary_steps_in bound (plain_by s) mid after (Ok true)) (t : Table) where
    abbrev IsStepNow : List ℕ → List ℕ → Type 0
    IsStepNow bytes rest = Now bytes ≡ step_before (plain_by s) (Next rest)

    pub binary_wrong : (e : RefutationError)
        → TakesPlain now (plain_by s) t (Err e)
        → ConcludesPlain before clauses (binary_steps_in variables) (Err e)
    binary_wrong e h =
        let Q : List ℕ → Type 0 = λ bytes. IsRefusal clauses (Left bytes) e in
        tells_on e ((rest : Script PlainStep) → IsRefusal now (step_before (plain_by s) rest) e)
        (Says before Q)
        (λ wrong. says_now before after (λ bytes rest. Q bytes)
        (leaves_on before mid Onward so_far after IsStepNow (λ bytes rest. Q bytes) given
        (λ bytes middle rest passes is. refused_on clauses now (Left bytes) (Now middle) e passes
        (subst (λ (script : Script PlainStep). IsRefusal now script e) (sym is)
        (wrong (Next rest))))) Q (λ bytes rest q. q))
        (line_refused now t (Plain (plain_by s)) e h)

    pub binary_more : TakesPlain now (plain_by s) t (Ok false)
        → (next : List (List Lit)) × IsAhead next t × GoesBinary variables clauses before (widened bound) next after
    binary_more h =
        let more = line_passes now t (Plain (plain_by s)) h in (
          more.0,
          more.1,
          leaves_on before mid Onward so_far after IsStepNow
              (λ bytes rest. PassesOn clauses more.0 (Left bytes) (Next rest)) given
              (λ bytes middle rest passes is. passed_on clauses now more.0 (Left bytes)
              (Now middle) (Next rest) passes (subst (λ (script : Script PlainStep).
              PassesOn now more.0 script (Next rest)) (sym is) (more.2 (Next rest)))),
        )

-- memory ran out
pub binary_stays : (before : Feed) (variables : ℕ) (clauses : List (List Lit)) (e : RefutationError)
    → TellsOfText e ⊥ → ConcludesPlain before clauses (binary_steps_in variables) (Err e)
binary_stays before variables clauses e h =
    tells_on e ⊥ (Says before (λ bytes. IsRefusal clauses (binary_steps_in variables bytes) e))
    (λ none. absurd none) h
