-- What steps and lines that are left show.
use Rattle.aig_base.proofs.Words.{◌≡◌, ℕ, Bool, true, false, cond, Option, Some, None, Result, Ok, Err, List, [], ◌∷◌, length, refl, sym, ap, subst, ◌∙◌, arith, ne_eqb, ◌==◌, IfSome, option_map, same_Some}
use Rattle.aig_refutation.specs.declared.error.RefutationError.{RefutationError}
use Rattle.aig_refutation.specs.declared.error.RefutationError.TheVariants as errors
use Rattle.aig_refutation.specs.Checking.{Live, added, deleted, is_last_step, outcome, taken}
use Rattle.aig_refutation.specs.Concluding.{Concludes, ShowsText, TakesStep, left_outcome, shown_of, text_outcome}
use Rattle.aig_refutation.specs.Proofs.{Line, Numbered, Plain, Script, if_numbered, is_comment, is_none, line_in, script_if, script_of, then_lines, widened}
use Rattle.aig_refutation.specs.Reading.{GivesStep, next_said, plain_by, said_by, said_line, step_by}
use Rattle.aig_refutation.specs.Steps.{Step, Adds, Deletes, PlainStep, is_empty}
use Rattle.aig_refutation.specs.declared.step.Step as held
use Rattle.aig_base.specs.declared.logic.literal.Lit.{Lit}
use Rattle.aig_refutation.specs.Tables.{Holds, Table}
use Rattle.aig_refutation.specs.Text.{lines_of}
use Rattle.aig_refutation.specs.Tokens.{Leaves, Place, Says, TellsOfText, lines_at, lines_past, said_numbers}
use Rattle.aig_refutation.specs.Taken.{CanHold, KeepsLive}
use Rattle.aig_refutation.proofs.Known.{leaves_on, says_now, says_on, tells, tells_on}
use Rattle.aig_refutation.proofs.Taken.{last_fails, taken_keeps}

-- ---- lines by the first of them that isn't passed over

abbrev pub Said : Type 0
Said = Result Line RefutationError × List (List (List ℕ))

abbrev script_said : ℕ → Option Said → Script Step
script_said variables None = record { steps = []; fault = errors.Unfinished }
script_said variables (Some x) = then_lines x.0 (script_of (widened variables) x.1)

abbrev pub script_if_said : ℕ → Option Said → Option (Script Step)
script_if_said variables None = None
script_if_said variables (Some x) = if_numbered x.0 (script_of (widened variables) x.1)

script_past : (variables : ℕ) (lines : List (List (List ℕ))) → script_of variables lines ≡
    script_said variables (said_line true variables (lines_past lines))
unfolding script_of lines_past
script_past variables [] = refl
script_past variables ([] ∷ lines) = script_past variables lines
script_past variables ((word ∷ words) ∷ lines) = by (is_comment word) (script_past variables lines)
  where
    by : (b : Bool) → script_of variables lines ≡ script_said variables (said_line true variables
        (lines_past lines)) → cond b (script_of variables lines) (then_lines (line_in true
        variables (is_none lines) word words) (script_of (widened variables) lines))
        ≡ script_said variables (said_line true variables
        (cond b (lines_past lines) ((word ∷ words) ∷ lines)))
    by true later = later
    by false later = refl

pub script_if_past : (variables : ℕ) (lines : List (List (List ℕ))) → script_if variables lines ≡
    script_if_said variables (said_line false variables (lines_past lines))
unfolding script_if lines_past
script_if_past variables [] = refl
script_if_past variables ([] ∷ lines) = script_if_past variables lines
script_if_past variables ((word ∷ words) ∷ lines) = by (is_comment word) (script_if_past variables
    lines)
  where
    by : (b : Bool) → script_if variables lines ≡ script_if_said variables (said_line false
        variables (lines_past lines)) → cond b (script_if variables lines) (if_numbered (line_in
        false variables (is_none lines) word words) (script_of (widened variables) lines))
        ≡ script_if_said variables (said_line false variables (cond b (lines_past lines) ((word ∷
        words) ∷ lines)))
    by true later = later
    by false later = refl

-- ---- one step

module _ (live : Live) where
  pub outcome_none : (fault : RefutationError) → outcome live [] fault ≡ Err fault
  unfolding outcome
  outcome_none fault = refl

  module _ (step : Step) (steps : List Step) (fault : RefutationError) where
    pub outcome_more : (next : Live) → taken live step ≡ Ok next → is_last_step step ≡ false
        → outcome live (step ∷ steps) fault ≡ outcome next steps fault
    unfolding outcome
    outcome_more next is more = rw (is, more) refl

    pub outcome_last : (next : Live) → taken live step ≡ Ok next → is_last_step step ≡ true →
        outcome live (step ∷ steps) fault ≡ Ok tt
    unfolding outcome
    outcome_last next is last = rw (is, last) refl

    pub outcome_wrong : (e : RefutationError) → taken live step ≡ Err e
        → outcome live (step ∷ steps) fault ≡ Err e
    unfolding outcome
    outcome_wrong e is = rw is refl

-- ---- a loop over steps

module _ (variables : ℕ) (t : Table) (live : Live) where
  -- a step was taken that isn't the last
  step_on : (step : Line) → TakesStep live t (Ok false) step → (next : Live) ×
      Holds t next × KeepsLive live next × ((place : Place) (bytes : List ℕ)
      → left_outcome variables live step place bytes
      ≡ shown_of next (script_of (widened variables) (lines_at place.end bytes)))
  step_on (Plain step) h = absurd h
  step_on (Numbered step) h = (
    h.0,
    h.2,
    taken_keeps live h.0 step h.1,
    λ place bytes.
        let rest = script_of (widened variables) (lines_at place.end bytes) in
        outcome_more live step rest.steps rest.fault h.0 h.1 (sym h.3),
  )

  step_last : (step : Line) → TakesStep live t (Ok true) step → (place : Place)
      (bytes : List ℕ) → left_outcome variables live step place bytes ≡ Ok tt
  step_last (Plain step) h place bytes = absurd h
  step_last (Numbered step) h place bytes =
      let rest = script_of (widened variables) (lines_at place.end bytes) in
      outcome_last live step rest.steps rest.fault h.0 h.1 (sym h.3)

  step_wrong : (step : Line) (e : RefutationError) → TakesStep live t (Err e) step
      → TellsOfText e ((place : Place) (bytes : List ℕ)
      → left_outcome variables live step place bytes ≡
      Err e)
  step_wrong (Plain step) e h = tells_on e (e ≡ errors.Line) ((place : Place) (bytes : List ℕ) →
      left_outcome variables live (Plain step) place bytes ≡ Err e) (λ is place bytes. outcome_none
      live errors.Line ∙ ap (λ (f : RefutationError). Err f) (sym is)) h
  step_wrong (Numbered step) e h =
      tells_on e (taken live step ≡ Err e)
      ((place : Place) (bytes : List ℕ) → left_outcome variables live (Numbered step) place bytes
      ≡ Err e)
      (λ is place bytes.
      let rest = script_of (widened variables) (lines_at place.end bytes) in
      outcome_wrong live step rest.steps rest.fault e is) h

-- the clauses can't all be true before the last step
pub step_fails : (t : Table) (live : Live) (step : Line) → TakesStep live t (Ok true) step
    → ¬ CanHold live
step_fails t live (Plain step) h = absurd h
step_fails t live (Numbered step) h = last_fails live h.0 step h.1 (sym h.3)

-- what is left shows the same
abbrev pub GoesOn : ℕ → Live → Line → Place → ℕ → Live → Line → Place → Type 0
GoesOn variables live step before bound now other mid = Leaves before.feed mid.feed (λ bytes rest.
    left_outcome variables live step before bytes ≡ left_outcome bound now other mid rest)

pub goes_start : (variables : ℕ) (live : Live) (step : Line) (before : Place) → GoesOn
    variables live step before variables live step before
goes_start variables live step before bytes known = (bytes, known, refl)

module _ (variables : ℕ) (live : Live) (first : Line) (before : Place) (bound : ℕ) (now : Live)
    (step : Line) (mid : Place) (so_far : GoesOn variables live first before bound now step mid)
    (t : Table) where
  abbrev Same : List ℕ → List ℕ → Type 0
  Same bytes rest = left_outcome variables live first before bytes ≡ left_outcome bound now step
      mid rest

  pub loop_last : TakesStep now t (Ok true) step → Concludes before.feed (left_outcome
      variables live first before) (Ok tt)
  loop_last h = says_now before.feed mid.feed Same so_far (λ bytes. left_outcome variables live
      first before bytes ≡ Ok tt) (λ bytes rest same. same ∙ step_last bound t now step h mid
      rest)

  pub loop_wrong : (e : RefutationError) → TakesStep now t (Err e) step → Concludes
      before.feed (left_outcome variables live first before) (Err e)
  loop_wrong e h = tells_on e ((place : Place) (bytes : List ℕ) → left_outcome bound now step
      place bytes ≡ Err e) (Says before.feed (λ bytes. left_outcome variables live first before
      bytes ≡ Err e)) (λ is. says_now before.feed mid.feed Same so_far (λ bytes. left_outcome
      variables live first before bytes ≡ Err e) (λ bytes rest same. same ∙ is mid rest))
      (step_wrong bound t now step e h)

  module _ (taken_on : TakesStep now t (Ok false) step) (wider : ℕ)
      (is_wider : wider ≡ widened bound) where
    next_live : Live
    next_live = (step_on bound t now step taken_on).0

    next_same : (bytes : List ℕ) → left_outcome bound now step mid bytes
        ≡ shown_of next_live (script_said wider (next_said true wider mid bytes))
    unfolding next_live step_on
    next_same bytes =
        subst (λ (n : ℕ). left_outcome bound now step mid bytes
        ≡ shown_of next_live (script_said n (next_said true n mid bytes))) (sym is_wider)
        ((step_on bound t now step taken_on).3 mid bytes
        ∙ ap (shown_of next_live) (script_past (widened bound) (lines_at mid.end bytes)))

    next_by : (bytes : List ℕ) (said : Option Said) → next_said true wider mid bytes ≡ said
        → left_outcome bound now step mid bytes ≡ shown_of next_live (script_said wider said)
    next_by bytes said is =
        next_same bytes ∙ ap (λ (o : Option Said). shown_of next_live (script_said wider o)) is

    pub loop_more : (other : Line) (after : Place) → GivesStep true wider other mid
        after (Ok true) → (next : Live) × Holds t next × KeepsLive now next × GoesOn variables
        live first before wider next other after
    unfolding next_live step_on
    loop_more other after given = (
      next_live,
      (step_on bound t now step taken_on).1,
      (step_on bound t now step taken_on).2,
      leaves_on before.feed mid.feed Same so_far after.feed (λ bytes rest. next_said true wider
          mid bytes ≡ Some (Ok other, lines_at after.end rest)) (λ bytes rest. left_outcome
          variables live first before bytes ≡ left_outcome wider next_live other after rest)
          given (λ bytes middle rest same is. same ∙ next_by middle (Some (
            Ok other,
            lines_at after.end rest,
          )) is),
    )

    pub loop_none : (other : Line) (after : Place) → GivesStep true wider other mid after
        (Ok false) → Concludes before.feed (left_outcome variables live first before) (Err
        errors.Unfinished)
    loop_none other after given = says_on before.feed mid.feed Same so_far (λ bytes. next_said true
        wider mid bytes ≡ None) (λ bytes. left_outcome variables live first before bytes ≡ Err
        errors.Unfinished) given (λ bytes middle same is. same ∙ next_by middle None is ∙
        outcome_none next_live errors.Unfinished)

    pub loop_unread : (other : Line) (after : Place) (e : RefutationError) → GivesStep true
        wider other mid after (Err e) → Concludes before.feed (left_outcome variables live
        first before) (Err e)
    loop_unread other after e given =
        let P : List ℕ → Type 0 = λ bytes. (lines : List (List (List ℕ))) × (next_said true
        wider mid bytes ≡ Some (Err e, lines)) in
        let Q : List ℕ → Type 0 = λ bytes. left_outcome variables live first before bytes ≡ Err e
        in
        tells_on e (Says mid.feed P) (Says before.feed Q) (λ call. says_on before.feed mid.feed Same
        so_far P Q call (λ bytes middle same is. same ∙ next_by middle (Some (Err e, is.0)) is.1 ∙
        outcome_none next_live e)) given

-- ---- a whole text

module _ (variables : ℕ) (live : Live) (before : Place) (open_line : before.end ≡ None) (step :
    Line) (after : Place) where
  text_by : (bytes : List ℕ) (said : Option Said) → next_said false variables before bytes ≡ said →
      text_outcome variables live bytes ≡ option_map (shown_of live) (script_if_said
      variables said)
  text_by bytes said is =
      let same : lines_at before.end bytes ≡ lines_of bytes = rw open_line refl in
      let there : said_line false variables (lines_past (lines_of bytes)) ≡ said = ap (λ (ls : List
      (List (List ℕ))). said_line false variables (lines_past ls)) (sym same) ∙ is in
      ap (option_map (shown_of live)) (script_if_past variables (lines_of bytes) ∙ ap
      (script_if_said variables) there)

  if_none : (P : Result (Unit {0}) RefutationError → Type 0) (o : Option (Result (Unit {0})
      RefutationError)) → o ≡ None → IfSome o P
  if_none P None is = tt
  if_none P (Some x) is = absurd cc

  if_some : (P : Result (Unit {0}) RefutationError → Type 0) (o : Option (Result (Unit {0})
      RefutationError)) (x : Result (Unit {0}) RefutationError) → o ≡ Some x → P x → IfSome o P
  if_some P None x is p = absurd cc
  if_some P (Some y) x is p = subst P (sym (same_Some y x is)) p

  untold : Says before.feed (λ bytes. text_outcome variables live bytes ≡ None) → (r : Result (Unit
      {0}) RefutationError) → ShowsText before.feed (text_outcome variables live) r
  untold none (Ok done) = λ bytes known. if_none (λ x. x ≡ Ok tt) (text_outcome variables live
      bytes) (none bytes known)
  untold none (Err e) = tells e _ (λ bytes known. if_none (λ x. x ≡ Err e) (text_outcome variables
      live bytes) (none bytes known))

  -- no step is there
  pub text_none : GivesStep false variables step before after (Ok false) → (r : Result (Unit {0})
      RefutationError) → ShowsText before.feed (text_outcome variables live) r
  text_none given = untold (λ bytes known. text_by bytes None (given bytes known))

  -- the first one has no number
  pub text_other : (plain : PlainStep) → step ≡ Plain plain
      → GivesStep false variables step before after (Ok true)
      → (r : Result (Unit {0}) RefutationError) → ShowsText before.feed (text_outcome variables live) r
  text_other plain is given = untold (λ bytes known.
      let h = given bytes known in
      text_by bytes (Some (Ok step, lines_at after.end h.0)) h.2 ∙ rw is refl)

  -- the first one is refused
  pub text_wrong : (e : RefutationError) → GivesStep false variables step before after (Err e) →
      ShowsText before.feed (text_outcome variables live) (Err e)
  text_wrong e given = tells_on e (Says before.feed (λ bytes. (lines : List (List (List ℕ))) ×
      (next_said false variables before bytes ≡ Some (Err e, lines)))) (Says before.feed (λ bytes.
      IfSome (text_outcome variables live bytes) (λ x. x ≡ Err e))) (λ h bytes known.
      let is = h bytes known in
      if_some (λ x. x ≡ Err e) (text_outcome variables live bytes) (Err e) (text_by bytes (Some (
        Err e,
        is.0,
      )) is.1 ∙ ap (λ (x : Result (Unit {0}) RefutationError). Some x) (outcome_none live
      e)) refl) given

  -- the first one has a number, and what is left was taken
  module _ (s : Step) (is : step ≡ Numbered s)
      (given : GivesStep false variables step before after (Ok true)) where
    told : (R : Result (Unit {0}) RefutationError) → Says after.feed (λ bytes. left_outcome
        variables live step after bytes ≡ R) → Says before.feed (λ bytes. IfSome (text_outcome
        variables live bytes) (λ x. x ≡ R))
    told R says bytes known =
        let h = given bytes known in
        let shown : text_outcome variables live bytes ≡ Some (left_outcome variables live step after
        h.0) = text_by bytes (Some (Ok step, lines_at after.end h.0)) h.2 ∙ rw is refl in
        if_some (λ x. x ≡ R) (text_outcome variables live bytes) (left_outcome variables live step
        after h.0) shown (says h.0 h.1)

    pub text_shown : (r : Result (Unit {0}) RefutationError) → Concludes after.feed (left_outcome
        variables live step after) r → ShowsText before.feed (text_outcome variables live) r
    text_shown (Ok done) says = told (Ok tt) says
    text_shown (Err e) says = tells_on e (Says after.feed (λ bytes. left_outcome variables live step
        after bytes ≡ Err e)) (Says before.feed (λ bytes. IfSome (text_outcome variables live
        bytes) (λ x. x ≡ Err e))) (told (Err e)) says

-- a truth value is the one or the other
pub by_truth : (P : Type 0) (b : Bool) → (b ≡ true → P) → (b ≡ false → P) → P
by_truth P true on off = on refl
by_truth P false on off = off refl

module _ (variables : ℕ) (live : Live) (before : Place) (open_line : before.end ≡ None) (s :
    held.Step) (after : Place) where
  -- the first step has no number, or there is none
  pub text_unnumbered : s.is_numbered ≡ false → (there : Bool) → GivesStep false variables (said_by
      s) before after (Ok there) → (r : Result (Unit {0}) RefutationError) → ShowsText before.feed
      (text_outcome variables live) r
  text_unnumbered is true given r = text_other variables live before open_line (said_by s) after
      (plain_by s) (ap (λ (b : Bool). cond b (Numbered (step_by s)) (Plain (plain_by s))) is)
      given r
  text_unnumbered is false given r = text_none variables live before open_line (said_by s) after
      given r

  -- it has one
  pub text_numbered : s.is_numbered ≡ true → GivesStep false variables (said_by s) before after (Ok
      true) → (r : Result (Unit {0}) RefutationError) → Concludes after.feed (left_outcome variables
      live (said_by s) after) r → ShowsText before.feed (text_outcome variables live) r
  text_numbered is given r says =
      let step : Step = step_by s in
      text_shown variables live before open_line (said_by s) after step (ap (λ (b : Bool). cond b
      (Numbered step) (Plain (plain_by s))) is) given r says

-- ---- steps as they are held

module _ (live : Live) where
  taken_deletes : (numbers : List ℕ) → taken live (Deletes numbers) ≡ deleted live numbers
  unfolding taken
  taken_deletes numbers = refl

  taken_adds : (number : ℕ) (clause : List Lit) (hints : List ℕ) (groups : List (Bool × ℕ))
      → taken live (Adds number clause hints groups)
      ≡ added live number clause hints groups
  unfolding taken
  taken_adds number clause hints groups = refl

  held_by : (b : Bool) (plain : PlainStep) (step said : Step)
      → cond b (Numbered step) (Plain plain) ≡ Numbered said → step ≡ said
  held_by true plain step said is = cc
  held_by false plain step said is = absurd cc

  module _ (s : held.Step) (said : Step) (is : said_by s ≡ Numbered said) where
    abbrev held_adds : Step
    held_adds = Adds s.number s.clause.items s.numbers.items (said_numbers s.groups.items)

    pub said_deletes : s.deletes ≡ true → Deletes s.numbers.items ≡ said
    said_deletes d = ap (λ (b : Bool). cond b (Deletes s.numbers.items) held_adds) (sym d)
        ∙ held_by s.is_numbered (plain_by s) _ said is

    pub said_adds : s.deletes ≡ false → held_adds ≡ said
    said_adds d = ap (λ (b : Bool). cond b (Deletes s.numbers.items) held_adds) (sym d)
        ∙ held_by s.is_numbered (plain_by s) _ said is

    pub deletes_taken : s.deletes ≡ true → taken live said ≡ deleted live s.numbers.items
    deletes_taken d = ap (taken live) (sym (said_deletes d)) ∙ taken_deletes
        s.numbers.items

    pub deletes_more : s.deletes ≡ true → is_last_step said ≡ false
    deletes_more d = ap is_last_step (sym (said_deletes d))

    pub adds_taken : s.deletes ≡ false → taken live said ≡ added live s.number
        s.clause.items s.numbers.items (said_numbers s.groups.items)
    adds_taken d = ap (taken live) (sym (said_adds d)) ∙ taken_adds s.number
        s.clause.items s.numbers.items (said_numbers s.groups.items)

    pub adds_last : s.deletes ≡ false → is_last_step said ≡ is_empty s.clause.items
    adds_last d = ap is_last_step (sym (said_adds d))

-- no literal is left
pub empty_length : (clause : List Lit) → (length clause == 0) ≡ is_empty clause
empty_length [] = refl
empty_length (lit ∷ clause) = ne_eqb (length (lit ∷ clause)) 0 (λ e. absurd (omega (arith, e)))
