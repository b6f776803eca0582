-- Steps of a binary proof that have numbers, word by word.
use Rattle.aig_base.proofs.Words.{◌≡◌, ℕ, Bool, true, false, cond, List, [], ◌∷◌, ◌++◌, Option, Some, None, Result, Ok, Err, refl, sym, ap, ◌∙◌, eqb, ne_eqb}
use Rattle.aig_base.specs.declared.logic.literal.Lit.{Lit}
use Rattle.aig_format.specs.Parse.{parse_delta}
use Rattle.aig_lexer.specs.Takes.{Feed}
use Rattle.aig_refutation.specs.declared.error.RefutationError.{RefutationError}
use Rattle.aig_refutation.specs.declared.error.RefutationError.TheVariants as errors
use Rattle.aig_refutation.specs.Binary.{after_letter, code_of, groups_in, item_said, literal_by, no_step, step_before}
use Rattle.aig_refutation.specs.BinaryNumbered.{Adding, Begun, Deleting, Ends, Goes, Hinting, Listing, Said, after_said, deleted_by, deleting, hint_by, hinted, listed, number_by, numbered_script, numbered_steps_in, said_in}
use Rattle.aig_refutation.specs.Checking.{Live, is_last_step, taken}
use Rattle.aig_refutation.specs.Concluding.{Concludes, MovesStep, shown_of}
use Rattle.aig_refutation.specs.Proofs.{Script, adds, widened}
use Rattle.aig_refutation.specs.ReadingBinary.{EndsStep, GivesCode, GivesHints, GivesItems, GivesLetter, GivesNext, GivesNumber, IsNoCode, IsNoLetter, IsSaid, Passes, begun_by, items_after, items_from, items_left, letter_of, numbered_left}
use Rattle.aig_refutation.specs.Steps.{Step, Adds, Deletes}
use Rattle.aig_refutation.specs.Tables.{Holds, Table}
use Rattle.aig_refutation.specs.Taken.{CanHold, KeepsLive}
use Rattle.aig_refutation.specs.Text.{◌>>=◌}
use Rattle.aig_refutation.specs.Tokens.{Says, TellsOfText}
use Rattle.aig_refutation.proofs.BinarySteps.{first_word, passes_as, passes_on, said_now, said_on}
use Rattle.aig_refutation.proofs.Known.{leaves_same, says_now, tells_on}
use Rattle.aig_refutation.proofs.Outcomes.{outcome_last, outcome_more, outcome_none, outcome_wrong}
use Rattle.aig_refutation.proofs.Taken.{last_fails, taken_keeps}

-- ---- the number of a clause

module _ (variables : ℕ) where
  abbrev say_on : List (List ℕ) → ℕ → Option Begun → Script Step
  say_on words bound next = numbered_script bound next words

  abbrev after_number : List (List ℕ) → Result ℕ RefutationError → Script Step
  after_number words r =
      after_said variables (r >>= number_by >>= λ n. Ok (Goes (Listing n []))) (say_on words)

  pub number_word : (bytes rest word : List ℕ) (code : ℕ) → groups_in bytes ≡ word ∷ groups_in rest
      → code_of (parse_delta word) ≡ Ok code
      → numbered_left variables Adding bytes ≡ after_number (groups_in rest) (Ok code)
  unfolding numbered_script
  number_word bytes rest word code is value =
      ap (numbered_script variables (Some Adding)) is ∙ ap (after_number (groups_in rest)) value

  number_missing : (words : List (List ℕ)) → IsNoCode words
      → numbered_script variables (Some Adding) words ≡ no_step errors.Binary
  unfolding numbered_script
  number_missing [] none = refl
  number_missing (word ∷ words) none = ap (after_number words) none

  module _ (before after : Feed) where
    pub number_unread : (e : RefutationError) → GivesCode before after (Err e)
        → GivesNumber variables before after (Err e)
    number_unread e h =
        tells_on e (Says before (λ bytes. (e ≡ errors.Binary) × IsNoCode (groups_in bytes)))
        (IsSaid (numbered_left variables Adding) (no_step e) before)
        (λ says bytes known.
        let none = says bytes known in
        number_missing (groups_in bytes) none.1
        ∙ ap (λ (x : RefutationError). no_step x) (sym none.0)) h

    module _ (code : ℕ) (given : GivesCode before after (Ok code)) where
      abbrev Word : List ℕ → List ℕ → Type 0
      Word bytes rest = (word : List ℕ) × (groups_in bytes ≡ word ∷ groups_in rest)
          × (code_of (parse_delta word) ≡ Ok code)

      pub number_zero : code ≡ 0 → GivesNumber variables before after (Err errors.Binary)
      number_zero none =
          says_now before after Word given
          (λ bytes. numbered_left variables Adding bytes ≡ no_step errors.Binary)
          (λ bytes rest word. number_word bytes rest word.0 code word.1 word.2
          ∙ ap (λ (c : ℕ). after_number (groups_in rest) (Ok c)) none)

      pub number_read : (code ≡ 0 → ⊥) → GivesNumber variables before after (Ok code)
      number_read some =
          leaves_same before after Word given
          (λ bytes rest. numbered_left variables Adding bytes
          ≡ numbered_left variables (Listing code []) rest)
          (λ bytes rest word. number_word bytes rest word.0 code word.1 word.2
          ∙ ap (λ (b : Bool). after_said variables (cond b (Err errors.Binary) (Ok code)
          >>= λ n. Ok (Goes (Listing n []))) (say_on (groups_in rest))) (ne_eqb code 0 some))

-- ---- lists

-- what is said after a list
abbrev pub after_list : {A : Type 0} → (List A → List (List ℕ) → Script Step)
    → Result (List A × List (List ℕ)) RefutationError → Script Step
after_list then (Ok x) = then x.0 x.1
after_list then (Err e) = no_step e

module _ {A : Type 0} (variables : ℕ) (one : ℕ → Result A RefutationError)
    (begun : List A → Begun) (ends : List A → Said) where
  abbrev turned : List A → Option A → Said
  turned items None = ends items
  turned items (Some x) = Goes (begun (items ++ x ∷ []))

  abbrev pub then_said : List A → List (List ℕ) → Script Step
  then_said items words =
      after_said variables (Ok (ends items)) (λ bound next. numbered_script bound next words)

  module _ (same : (items : List A) (word : List ℕ) → said_in variables (begun items) word
      ≡ (item_said one word >>= λ o. Ok (turned items o))) where
    list_said : (words : List (List ℕ)) (items : List A)
        → numbered_script variables (Some (begun items)) words
        ≡ after_list then_said (items_from one items words)
    unfolding numbered_script items_from
    list_said [] items = refl
    list_said (word ∷ words) items =
        ap (λ (r : Result Said RefutationError). after_said variables r
        (λ bound next. numbered_script bound next words)) (same items word)
        ∙ by (item_said one word) (λ x. list_said words (items ++ x ∷ []))
      where
        by : (r : Result (Option A) RefutationError)
            → ((x : A) → numbered_script variables (Some (begun (items ++ x ∷ []))) words
            ≡ after_list then_said (items_from one (items ++ x ∷ []) words))
            → after_said variables (r >>= λ o. Ok (turned items o))
            (λ bound next. numbered_script bound next words)
            ≡ after_list then_said (r >>= items_after items words
            (λ more. items_from one more words))
        by (Ok (Some x)) later = later x
        by (Ok None) later = refl
        by (Err e) later = refl

module _ (variables : ℕ) where
  pub literals_said : (number : ℕ) (clause : List Lit) (bytes : List ℕ)
      → numbered_left variables (Listing number clause) bytes
      ≡ after_list (λ lits words. numbered_script variables (Some (Hinting number lits [])) words)
      (items_left (literal_by variables) clause bytes)
  literals_said number clause bytes =
      list_said variables (literal_by variables) (λ lits. Listing number lits)
      (λ lits. Goes (Hinting number lits []))
      (λ items word. by items (item_said (literal_by variables) word)) (groups_in bytes) clause
    where
      by : (items : List Lit) (r : Result (Option Lit) RefutationError)
          → (r >>= λ o. Ok (listed number items o)) ≡ (r >>= λ o. Ok (turned variables
          (literal_by variables) (λ lits. Listing number lits)
          (λ lits. Goes (Hinting number lits [])) items o))
      by items (Ok (Some x)) = refl
      by items (Ok None) = refl
      by items (Err e) = refl

  pub hints_said : (number : ℕ) (clause : List Lit) (numbers : List (Bool × ℕ)) (bytes : List ℕ)
      → numbered_left variables (Hinting number clause numbers) bytes
      ≡ after_list (λ all words. step_before (adds number clause all)
      (numbered_script (widened variables) None words)) (items_left hint_by numbers bytes)
  hints_said number clause numbers bytes =
      list_said variables hint_by (λ all. Hinting number clause all)
      (λ all. Ends (adds number clause all))
      (λ items word. by items (item_said hint_by word)) (groups_in bytes) numbers
    where
      by : (items : List (Bool × ℕ)) (r : Result (Option (Bool × ℕ)) RefutationError)
          → (r >>= λ o. Ok (hinted number clause items o)) ≡ (r >>= λ o. Ok (turned variables
          hint_by (λ all. Hinting number clause all) (λ all. Ends (adds number clause all)) items
          o))
      by items (Ok (Some x)) = refl
      by items (Ok None) = refl
      by items (Err e) = refl

  pub deleted_said : (numbers : List ℕ) (bytes : List ℕ)
      → numbered_left variables (Deleting numbers) bytes
      ≡ after_list (λ all words. step_before (Deletes all)
      (numbered_script (widened variables) None words)) (items_left deleted_by numbers bytes)
  deleted_said numbers bytes =
      list_said variables deleted_by (λ all. Deleting all) (λ all. Ends (Deletes all))
      (λ items word. by items (item_said deleted_by word)) (groups_in bytes) numbers
    where
      by : (items : List ℕ) (r : Result (Option ℕ) RefutationError)
          → (r >>= λ o. Ok (deleting items o)) ≡ (r >>= λ o. Ok (turned variables deleted_by
          (λ all. Deleting all) (λ all. Ends (Deletes all)) items o))
      by items (Ok (Some x)) = refl
      by items (Ok None) = refl
      by items (Err e) = refl

-- a list is read in a step
module _ {A : Type 0} (one : ℕ → Result A RefutationError) (old new : List A)
    (then : List A → List (List ℕ) → Script Step) (say : List ℕ → Script Step)
    (says : (bytes : List ℕ) → say bytes ≡ after_list then (items_left one old bytes))
    (before after : Feed) where
  pub list_read : GivesItems one old new before after (Ok tt)
      → Passes say (λ rest. then new (groups_in rest)) before after
  list_read h =
      leaves_same before after (λ bytes rest. items_left one old bytes ≡ Ok (new, groups_in rest)) h
      (λ bytes rest. say bytes ≡ then new (groups_in rest))
      (λ bytes rest is. says bytes ∙ ap (after_list then) is)

  pub list_wrong : (e : RefutationError) → GivesItems one old new before after (Err e)
      → TellsOfText e (IsSaid say (no_step e) before)
  list_wrong e h =
      tells_on e (IsSaid (items_left one old) (Err e) before) (IsSaid say (no_step e) before)
      (λ is bytes known. says bytes ∙ ap (after_list then) (is bytes known)) h

-- ---- steps after their letter

module _ (variables : ℕ) where
  pub deletion_ends : (numbers : List ℕ) (before after : Feed)
      (r : Result (Unit {0}) RefutationError) → GivesItems deleted_by [] numbers before after r
      → EndsStep variables (Deleting []) (Deletes numbers) before after r
  deletion_ends numbers before after (Ok done) h =
      list_read deleted_by [] numbers (λ all words. step_before (Deletes all)
      (numbered_script (widened variables) None words)) (numbered_left variables (Deleting []))
      (deleted_said variables []) before after h
  deletion_ends numbers before after (Err e) h =
      list_wrong deleted_by [] numbers (λ all words. step_before (Deletes all)
      (numbered_script (widened variables) None words)) (numbered_left variables (Deleting []))
      (deleted_said variables []) before after e h

  module _ (number : ℕ) (before mid : Feed) (read : GivesNumber variables before mid (Ok number))
    where
      abbrev Begins : List ℕ → Script Step
      Begins = numbered_left variables Adding

      abbrev Lists : List ℕ → Script Step
      Lists = numbered_left variables (Listing number [])

      abbrev listed_then : List Lit → List (List ℕ) → Script Step
      listed_then lits words = numbered_script variables (Some (Hinting number lits [])) words

      pub literals_fail : (clause : List Lit) (step : Step) (after : Feed) (e : RefutationError)
          → GivesItems (literal_by variables) [] clause mid after (Err e)
          → EndsStep variables Adding step before after (Err e)
      literals_fail clause step after e h =
          said_on Begins Lists before mid read e (no_step e)
          (list_wrong (literal_by variables) [] clause listed_then Lists
          (literals_said variables number []) mid after e h)

      module _ (clause : List Lit) (now : Feed)
          (literals : GivesItems (literal_by variables) [] clause mid now (Ok tt)) where
        abbrev Hints : List ℕ → Script Step
        Hints = numbered_left variables (Hinting number clause [])

        abbrev hinted_then : List (Bool × ℕ) → List (List ℕ) → Script Step
        hinted_then all words =
            step_before (adds number clause all) (numbered_script (widened variables) None words)

        so_far : Passes Begins Hints before now
        so_far =
            passes_on Begins Lists before mid read Hints now
            (list_read (literal_by variables) [] clause listed_then Lists
            (literals_said variables number []) mid now literals)

        pub hints_end : (hints : List ℕ) (groups : List (Bool × ℕ)) (after : Feed)
            (r : Result (Unit {0}) RefutationError) → GivesHints hints groups now after r
            → EndsStep variables Adding (Adds number clause hints groups) before after r
        hints_end hints groups after (Ok done) h =
            let ends : Passes Begins (λ rest. step_before (adds number clause h.0)
            (numbered_steps_in (widened variables) rest)) before after =
            passes_on Begins Hints before now so_far (λ rest. step_before (adds number clause h.0)
            (numbered_steps_in (widened variables) rest)) after
            (list_read hint_by [] h.0 hinted_then Hints (hints_said variables number clause []) now
            after h.3) in
            rw (← h.1, ← h.2) ends
        hints_end hints groups after (Err e) h =
            said_on Begins Hints before now so_far e (no_step e)
            (list_wrong hint_by [] [] hinted_then Hints (hints_said variables number clause []) now
            after e h)

-- ---- letters

module _ (variables : ℕ) where
  letter_begins : (deletes : Bool) (bytes : List ℕ)
      → numbered_steps_in variables (letter_of deletes ∷ bytes)
      ≡ numbered_left variables (begun_by deletes) bytes
  unfolding groups_in numbered_script
  letter_begins true bytes = refl
  letter_begins false bytes = refl

  no_letter : (bytes : List ℕ) → IsNoLetter bytes
      → numbered_steps_in variables bytes ≡ no_step errors.Binary
  unfolding numbered_script
  no_letter [] none = absurd none
  no_letter (b ∷ bytes) none =
      let w = first_word b bytes in
      ap (numbered_script variables None) w.2 ∙ by (eqb b 97) (eqb b 100) none.0 none.1 w.0 w.1
    where
      by : (x y : Bool) → x ≡ false → y ≡ false → (more : List ℕ) (words : List (List ℕ))
          → after_letter (cond x (Ok Adding) (cond y (Ok (Deleting [])) (Err errors.Binary)))
          (λ next. numbered_script variables next words) ≡ no_step errors.Binary
      by true y a d more words = absurd cc
      by false true a d more words = absurd cc
      by false false a d more words = refl

  none_left : numbered_steps_in variables [] ≡ no_step errors.Unfinished
  unfolding groups_in numbered_script
  none_left = refl

  module _ (deletes : Bool) (before mid : Feed) (step : Step) where
    -- there is no step
    pub numbered_none : GivesLetter deletes before mid (Ok false)
        → GivesNext numbered_steps_in variables step before mid (Ok false)
    numbered_none h bytes known = ap (numbered_steps_in variables) (h bytes known) ∙ none_left

    pub numbered_unbegun : (e : RefutationError) → GivesLetter deletes before mid (Err e)
        → GivesNext numbered_steps_in variables step before mid (Err e)
    numbered_unbegun e h =
        tells_on e (Says before (λ bytes. (e ≡ errors.Binary) × IsNoLetter bytes))
        (IsSaid (numbered_steps_in variables) (no_step e) before)
        (λ says bytes known.
        let wrong = says bytes known in
        no_letter bytes wrong.1 ∙ ap (λ (x : RefutationError). no_step x) (sym wrong.0)) h

    module _ (letter : GivesLetter deletes before mid (Ok true)) (after : Feed) where
      abbrev Begun_so : List ℕ → Script Step
      Begun_so = numbered_left variables (begun_by deletes)

      begins : Passes (numbered_steps_in variables) Begun_so before mid
      begins =
          leaves_same before mid (λ bytes rest. bytes ≡ letter_of deletes ∷ rest) letter
          (λ bytes rest. numbered_steps_in variables bytes ≡ Begun_so rest)
          (λ bytes rest is. ap (numbered_steps_in variables) is ∙ letter_begins deletes rest)

      pub numbered_unread : (e : RefutationError)
          → EndsStep variables (begun_by deletes) step mid after (Err e)
          → GivesNext numbered_steps_in variables step before after (Err e)
      numbered_unread e h =
          said_on (numbered_steps_in variables) Begun_so before mid begins e (no_step e) h

      pub numbered_read : EndsStep variables (begun_by deletes) step mid after (Ok tt)
          → GivesNext numbered_steps_in variables step before after (Ok true)
      numbered_read h =
          passes_on (numbered_steps_in variables) Begun_so before mid begins
          (λ rest. step_before step (numbered_steps_in (widened variables) rest)) after h

-- ---- a loop over steps

-- what the bytes show of the clauses that are there
abbrev pub numbered_shown : ℕ → Live → List ℕ → Result (Unit {0}) RefutationError
numbered_shown variables live bytes = shown_of live (numbered_steps_in variables bytes)

module _ (variables : ℕ) (live : Live) (before : Feed) (bound : ℕ) (now : Live) (mid : Feed)
    (so_far : Passes (numbered_shown variables live) (numbered_shown bound now) before mid) where
  abbrev Shown : List ℕ → Result (Unit {0}) RefutationError
  Shown = numbered_shown variables live

  abbrev Now : List ℕ → Result (Unit {0}) RefutationError
  Now = numbered_shown bound now

  none_shown : (e : RefutationError) (bytes : List ℕ) → numbered_steps_in bound bytes ≡ no_step e
      → Now bytes ≡ Err e
  none_shown e bytes is = ap (shown_of now) is ∙ outcome_none now e

  -- no step is read
  pub shown_unread : (step : Step) (after : Feed) (e : RefutationError)
      → GivesNext numbered_steps_in bound step mid after (Err e) → Concludes before Shown (Err e)
  shown_unread step after e given =
      said_on Shown Now before mid so_far e (Err e)
      (tells_on e (IsSaid (numbered_steps_in bound) (no_step e) mid) (IsSaid Now (Err e) mid)
      (λ says bytes known. none_shown e bytes (says bytes known)) given)

  pub shown_none : (step : Step) (after : Feed)
      → GivesNext numbered_steps_in bound step mid after (Ok false)
      → Concludes before Shown (Err errors.Unfinished)
  shown_none step after given =
      said_on Shown Now before mid so_far errors.Unfinished (Err errors.Unfinished)
      (λ bytes known. none_shown errors.Unfinished bytes (given bytes known))

  module _ (step : Step) (after : Feed)
      (given : GivesNext numbered_steps_in bound step mid after (Ok true)) (t : Table) where
    abbrev Next : List ℕ → Script Step
    Next rest = numbered_steps_in (widened bound) rest

    abbrev Stepped : List ℕ → Result (Unit {0}) RefutationError
    Stepped rest = shown_of now (step_before step (Next rest))

    stepped : Passes Shown Stepped before after
    stepped =
        passes_on Shown Now before mid so_far Stepped after
        (leaves_same mid after (λ bytes rest. numbered_steps_in bound bytes
        ≡ step_before step (Next rest)) given (λ bytes rest. Now bytes ≡ Stepped rest)
        (λ bytes rest is. ap (shown_of now) is))

    -- it isn't taken
    pub shown_wrong : (e : RefutationError)
        → MovesStep t (Err e) (taken now step) (is_last_step step) → Concludes before Shown (Err e)
    shown_wrong e h =
        tells_on e (taken now step ≡ Err e) (IsSaid Shown (Err e) before)
        (λ wrong. said_now Shown Stepped before after stepped (Err e)
        (λ rest. outcome_wrong now step (Next rest).steps (Next rest).fault e wrong)) h

    -- it is the last
    pub shown_last : MovesStep t (Ok true) (taken now step) (is_last_step step)
        → Concludes before Shown (Ok tt)
    shown_last h =
        said_now Shown Stepped before after stepped (Ok tt)
        (λ rest. outcome_last now step (Next rest).steps (Next rest).fault h.0 h.1 (sym h.3))

    -- others follow it
    pub shown_more : MovesStep t (Ok false) (taken now step) (is_last_step step)
        → (next : Live) × Holds t next × KeepsLive now next
        × Passes Shown (numbered_shown (widened bound) next) before after
    shown_more h = (
      h.0,
      h.2,
      taken_keeps now h.0 step h.1,
      passes_as Shown Stepped before after stepped (numbered_shown (widened bound) h.0)
          (λ rest. outcome_more now step (Next rest).steps (Next rest).fault h.0 h.1 (sym h.3)),
    )

    -- the clauses can't all be true before the last step
    pub shown_fails : MovesStep t (Ok true) (taken now step) (is_last_step step) → ¬ CanHold now
    shown_fails h = last_fails now h.0 step h.1 (sym h.3)
