-- Steps without numbers, line by line.
use Rattle.aig_base.proofs.Words.{◌≡◌, ◌⊎◌, inl, inr, ℕ, ◌<◌, Bool, true, false, cond, ◌||◌, Option, Some, None, Result, Ok, Err, List, [], ◌∷◌, ◌++◌, refl, sym, ap, subst, ◌∙◌, arith, nat_lt, list_any, and_from, and_parts, false≢true, or_cases, list_all-append}
use Rattle.aig_base.specs.declared.logic.literal.Lit.{Lit}
use Rattle.aig_base.specs.Clauses.{are_true, is_true_clause, variable_of}
use Rattle.aig_base.specs.Formula.{IsSatisfiable}
use Rattle.aig_lexer.specs.Takes.{Feed}
use Rattle.aig_refutation.specs.declared.error.RefutationError.{RefutationError}
use Rattle.aig_refutation.specs.declared.error.RefutationError.TheVariants as errors
use Rattle.aig_refutation.specs.declared.step.Step as held
use Rattle.aig_refutation.specs.Ahead.{IsAhead}
use Rattle.aig_refutation.specs.Checking.{IsRefusal, are_in}
use Rattle.aig_refutation.specs.Concluding.{ConcludesPlain, ShowsPlain, TakesLine, plain_left}
use Rattle.aig_refutation.specs.Proofs.{Line, Numbered, Plain, Script, is_comment, is_none, line_in, plain_of, script_if, then_plain, widened}
use Rattle.aig_refutation.specs.Reading.{GivesStep, next_said, plain_by, said_by, said_line, step_by}
use Rattle.aig_refutation.specs.Steps.{Drops, Follows, Learns, PlainStep, Refute, Stand, Step, adds_empty, are_same, dropped, is_empty, is_unit, without_one}
use Rattle.aig_refutation.specs.Tables.{Table}
use Rattle.aig_refutation.specs.Text.{lines_of}
use Rattle.aig_refutation.specs.Tokens.{Leaves, Place, Says, TellsOfText, lines_at, lines_past}
use Rattle.aig_refutation.proofs.Following.{rup_implied}
use Rattle.aig_refutation.proofs.Known.{leaves_on, says_now, says_on, tells, tells_on}
use Rattle.aig_refutation.proofs.Outcomes.{Said, script_if_past, script_if_said}
use Rattle.aig_refutation.proofs.Refuting.{empty_false}
use Rattle.aig_refutation.proofs.Tautologies.{tautology_is_true}

-- ---- lines by the first of them that isn't passed over

abbrev plain_said : ℕ → Option Said → Script PlainStep
plain_said variables None = record { steps = []; fault = errors.Unfinished }
plain_said variables (Some x) = then_plain x.0 (plain_of (widened variables) x.1)

plain_past : (variables : ℕ) (lines : List (List (List ℕ)))
    → plain_of variables lines ≡ plain_said variables (said_line false variables (lines_past lines))
unfolding plain_of lines_past
plain_past variables [] = refl
plain_past variables ([] ∷ lines) = plain_past variables lines
plain_past variables ((word ∷ words) ∷ lines) = by (is_comment word) (plain_past variables lines)
  where
    by : (b : Bool)
        → plain_of variables lines ≡ plain_said variables (said_line false variables
        (lines_past lines))
        → cond b (plain_of variables lines) (then_plain (line_in false variables (is_none lines)
        word words) (plain_of (widened variables) lines))
        ≡ plain_said variables (said_line false variables (cond b (lines_past lines)
        ((word ∷ words) ∷ lines)))
    by true later = later
    by false later = refl

-- ---- one step

-- what is left stands and ends as all does
pub record PassesOn (clauses now : List (List Lit)) (before after : Script PlainStep) : Type 0 where
  pub stand : Stand clauses before.steps → Stand now after.steps
  pub fault : before.fault ≡ after.fault
  pub empty : list_any adds_empty before.steps ≡ list_any adds_empty after.steps

pub passed_on : (clauses now next : List (List Lit)) (s t u : Script PlainStep)
    → PassesOn clauses now s t → PassesOn now next t u → PassesOn clauses next s u
passed_on clauses now next s t u p q = record {
  stand = λ all. q.stand (p.stand all);
  fault = p.fault ∙ q.fault;
  empty = p.empty ∙ q.empty;
}

pub refused_on : (clauses now : List (List Lit)) (s t : Script PlainStep) (e : RefutationError)
    → PassesOn clauses now s t → IsRefusal now t e → IsRefusal clauses s e
refused_on clauses now s t e p (inl wrong) = inl (wrong.0, λ all. wrong.1 (p.stand all))
refused_on clauses now s t e p (inr none) = inr (none.0 ∙ sym p.fault, p.empty ∙ none.1)

abbrev pub GoesBy : List (List Lit) → Line → List (List Lit) → Type 0
GoesBy now line next = (rest : Script PlainStep)
    → PassesOn now next (then_plain (Ok line) rest) rest

pub line_passes : (now : List (List Lit)) (t : Table) (line : Line)
    → TakesLine now line t (Ok false)
    → (next : List (List Lit)) × IsAhead next t × GoesBy now line next
line_passes now t (Numbered step) h = absurd h
line_passes now t (Plain (Drops clause)) h =
    (dropped clause now, h, λ rest. record { stand = λ s. s; fault = refl; empty = refl })
line_passes now t (Plain (Learns clause)) h = (
  clause ∷ now,
  h.0,
  λ rest. record {
    stand = λ s. elim s.1 [ inl is ↦ absurd (false≢true (sym h.1 ∙ is)) | inr later ↦ later ];
    fault = refl;
    empty = ap (λ (b : Bool). b || list_any adds_empty rest.steps) h.1;
  },
)

pub line_refused : (now : List (List Lit)) (t : Table) (line : Line)
    (e : RefutationError) → TakesLine now line t (Err e)
    → TellsOfText e ((rest : Script PlainStep) → IsRefusal now (then_plain (Ok line) rest) e)
line_refused now t (Numbered step) e h =
    tells_on e (e ≡ errors.Line)
    ((rest : Script PlainStep) → IsRefusal now (then_plain (Ok (Numbered step)) rest) e)
    (λ is rest. inr (is, refl)) h
line_refused now t (Plain (Drops clause)) e h =
    tells_on e ⊥
    ((rest : Script PlainStep) → IsRefusal now (then_plain (Ok (Plain (Drops clause))) rest) e)
    (λ none. absurd none) h
line_refused now t (Plain (Learns clause)) e h =
    tells_on e ((e ≡ errors.Step) × (Follows now clause → ⊥))
    ((rest : Script PlainStep) → IsRefusal now (then_plain (Ok (Plain (Learns clause))) rest) e)
    (λ wrong rest. inl (wrong.0, λ stand. wrong.1 stand.0)) h

pub inside_more : (variables : ℕ) (clause : List Lit) (lit : Lit) (now : List Lit)
    → are_in variables clause ≡ true → variable_of lit < variables → now ≡ clause ++ lit ∷ []
    → are_in variables now ≡ true
inside_more variables clause lit now before here is =
    let test = λ (l : Lit). nat_lt (variable_of l) variables in
    ap (are_in variables) is ∙ list_all-append test clause (lit ∷ [])
    ∙ and_from (are_in variables clause) (are_in variables (lit ∷ [])) before
    (and_from (test lit) true (below here) refl)
  where
    below : {m n : ℕ} → m < n → nat_lt m n ≡ true
    below {m} {n} h = grind (arith, h)

-- ---- a loop over steps

abbrev pub GoesPlain : ℕ → List (List Lit) → Line → Place → ℕ → List (List Lit) → Line → Place
    → Type 0
GoesPlain variables clauses first before bound now line mid =
    Leaves before.feed mid.feed (λ bytes rest. PassesOn clauses now
    (plain_left variables first before bytes) (plain_left bound line mid rest))

pub plain_start : (variables : ℕ) (clauses : List (List Lit)) (line : Line) (before : Place)
    → GoesPlain variables clauses line before variables clauses line before
plain_start variables clauses line before bytes known =
    (bytes, known, record { stand = λ s. s; fault = refl; empty = refl })

module _ (variables : ℕ) (clauses : List (List Lit)) (first : Line) (before : Place)
    (bound : ℕ) (now : List (List Lit)) (s : held.Step) (mid : Place)
    (so_far : GoesPlain variables clauses first before bound now (said_by s) mid) (t : Table) where
  abbrev Passes : List ℕ → List ℕ → Type 0
  Passes bytes rest = PassesOn clauses now (plain_left variables first before bytes)
      (plain_left bound (said_by s) mid rest)

  pub plain_wrong : (e : RefutationError)
      → TakesLine now (said_by s) t (Err e)
      → ConcludesPlain before.feed clauses (plain_left variables first before) (Err e)
  plain_wrong e h =
      let Q : List ℕ → Type 0 = λ bytes. IsRefusal clauses (plain_left variables first before bytes) e
      in
      tells_on e ((rest : Script PlainStep) → IsRefusal now (then_plain (Ok (said_by s)) rest) e)
      (Says before.feed Q)
      (λ wrong. says_now before.feed mid.feed Passes so_far Q (λ bytes rest passes.
      refused_on clauses now (plain_left variables first before bytes)
      (plain_left bound (said_by s) mid rest) e passes
      (wrong (plain_of (widened bound) (lines_at mid.end rest)))))
      (line_refused now t (said_by s) e h)

  module _ (taken_on : TakesLine now (said_by s) t (Ok false)) (wider : ℕ)
      (is_wider : wider ≡ widened bound) where
    next : List (List Lit)
    next = (line_passes now t (said_by s) taken_on).0

    -- what is read then
    passes_own : (bytes middle : List ℕ) (said : Option Said) → Passes bytes middle
        → next_said false (widened bound) mid middle ≡ said
        → PassesOn clauses next (plain_left variables first before bytes) (plain_said (widened bound) said)
    unfolding next
    passes_own bytes middle said passes is =
        let lines = lines_at mid.end middle in
        let own = plain_of (widened bound) lines in
        passed_on clauses now next (plain_left variables first before bytes)
        (plain_left bound (said_by s) mid middle) (plain_said (widened bound) said) passes
        (subst (λ (script : Script PlainStep).
        PassesOn now next (then_plain (Ok (said_by s)) own) script)
        (plain_past (widened bound) lines ∙ ap (plain_said (widened bound)) is)
        ((line_passes now t (said_by s) taken_on).2 own))

    passes_by : (bytes middle : List ℕ) (said : Option Said) → Passes bytes middle
        → next_said false wider mid middle ≡ said
        → PassesOn clauses next (plain_left variables first before bytes) (plain_said wider said)
    passes_by bytes middle said passes =
        subst (λ (n : ℕ). next_said false n mid middle ≡ said
        → PassesOn clauses next (plain_left variables first before bytes) (plain_said n said))
        (sym is_wider) (passes_own bytes middle said passes)

    pub plain_more : (other : Line) (after : Place) → GivesStep false wider other mid after
        (Ok true) → (next : List (List Lit)) × IsAhead next t
        × GoesPlain variables clauses first before wider next other after
    unfolding next
    plain_more other after given = (
      next,
      (line_passes now t (said_by s) taken_on).1,
      leaves_on before.feed mid.feed Passes so_far after.feed
          (λ bytes rest. next_said false wider mid bytes
          ≡ Some (Ok other, lines_at after.end rest))
          (λ bytes rest. PassesOn clauses next (plain_left variables first before bytes)
          (plain_left wider other after rest)) given
          (λ bytes middle rest passes is. passes_by bytes middle
          (Some (Ok other, lines_at after.end rest)) passes is),
    )

    pub plain_none : (other : Line) (after : Place) → GivesStep false wider other mid after
        (Ok false) → ConcludesPlain before.feed clauses (plain_left variables first before)
        (Err errors.Unfinished)
    plain_none other after given =
        says_on before.feed mid.feed Passes so_far
        (λ bytes. next_said false wider mid bytes ≡ None)
        (λ bytes. IsRefusal clauses (plain_left variables first before bytes) errors.Unfinished)
        given (λ bytes middle passes is. refused_on clauses next
        (plain_left variables first before bytes) (plain_said wider None) errors.Unfinished
        (passes_by bytes middle None passes is) (inr (refl, refl)))

    pub plain_unread : (other : Line) (after : Place) (e : RefutationError)
        → GivesStep false wider other mid after (Err e)
        → ConcludesPlain before.feed clauses (plain_left variables first before) (Err e)
    plain_unread other after e given =
        let P : List ℕ → Type 0 = λ bytes. (lines : List (List (List ℕ)))
        × (next_said false wider mid bytes ≡ Some (Err e, lines)) in
        let Q : List ℕ → Type 0 = λ bytes. IsRefusal clauses (plain_left variables first before bytes)
        e in
        tells_on e (Says mid.feed P) (Says before.feed Q)
        (λ call. says_on before.feed mid.feed Passes so_far P Q call (λ bytes middle passes is.
        refused_on clauses next (plain_left variables first before bytes)
        (plain_said wider (Some (Err e, is.0))) e
        (passes_by bytes middle (Some (Err e, is.0)) passes is.1) (inr (refl, refl)))) given

-- a step that was taken has no number
pub is_plain : (now : List (List Lit)) (s : held.Step) (t : Table) (done : Bool)
    → TakesLine now (said_by s) t (Ok done) → s.is_numbered ≡ false
is_plain now s t done h = by s.is_numbered refl h
  where
    by : (b : Bool) → s.is_numbered ≡ b → TakesLine now (cond b (Numbered (step_by s))
        (Plain (plain_by s))) t (Ok done) → s.is_numbered ≡ false
    by true e k = absurd k
    by false e k = e

-- steps as they are held
pub numbered_said : (s : held.Step) → s.is_numbered ≡ true → said_by s ≡ Numbered (step_by s)
numbered_said s is = ap (λ (b : Bool). cond b (Numbered (step_by s)) (Plain (plain_by s))) is

plain_is : (s : held.Step) → s.is_numbered ≡ false → said_by s ≡ Plain (plain_by s)
plain_is s is = ap (λ (b : Bool). cond b (Numbered (step_by s)) (Plain (plain_by s))) is

pub plain_same : (now before : held.Step) → now.is_numbered ≡ before.is_numbered
    → now.deletes ≡ before.deletes → now.clause.items ≡ before.clause.items
    → before.is_numbered ≡ false → said_by now ≡ said_by before
plain_same now before numbers deletes clause is =
    plain_is now (numbers ∙ is)
    ∙ ap (λ (b : Bool). Plain (cond b (Drops now.clause.items) (Learns now.clause.items))) deletes
    ∙ ap (λ (c : List Lit). Plain (cond before.deletes (Drops c) (Learns c))) clause
    ∙ sym (plain_is before is)

-- ---- a whole text

-- memory ran out
pub shows_stays : (before : Feed) (variables : ℕ) (clauses : List (List Lit)) (e : RefutationError)
    → TellsOfText e ⊥ → ShowsPlain before variables clauses (Err e)
shows_stays before variables clauses e h = tells_on e ⊥ _ (λ none. absurd none) h

module _ (variables : ℕ) (clauses : List (List Lit)) (before : Place)
    (open_line : before.end ≡ None) (line : Line) (after : Place) where
  -- what the text says, by its first line
  first_by : (bytes : List ℕ) (said : Option Said) → next_said false variables before bytes ≡ said
      → (script_if variables (lines_of bytes) ≡ script_if_said variables said)
      × (plain_of variables (lines_of bytes) ≡ plain_said variables said)
  first_by bytes said is =
      let same : lines_at before.end bytes ≡ lines_of bytes = rw open_line refl in
      let there : said_line false variables (lines_past (lines_of bytes)) ≡ said =
      ap (λ (ls : List (List (List ℕ))). said_line false variables (lines_past ls)) (sym same) ∙ is
      in (
        script_if_past variables (lines_of bytes) ∙ ap (script_if_said variables) there,
        plain_past variables (lines_of bytes) ∙ ap (plain_said variables) there,
      )

  -- the first line is refused
  pub first_wrong : (e : RefutationError) → GivesStep false variables line before after (Err e)
      → ShowsPlain before.feed variables clauses (Err e)
  first_wrong e given =
      tells_on e (Says before.feed (λ bytes. (lines : List (List (List ℕ)))
      × (next_said false variables before bytes ≡ Some (Err e, lines)))) _
      (λ h bytes known none.
      let is = h bytes known in
      let same = sym (first_by bytes (Some (Err e, is.0)) is.1).0 ∙ none in
      absurd cc) given

  -- there is none
  pub first_none : GivesStep false variables line before after (Ok false)
      → ShowsPlain before.feed variables clauses (Err errors.Unfinished)
  first_none given bytes known none =
      subst (λ (script : Script PlainStep). IsRefusal clauses script errors.Unfinished)
      (sym (first_by bytes None (given bytes known)).1) (inr (refl, refl))

  module _ (given : GivesStep false variables line before after (Ok true)) where
    -- it has a number
    pub first_numbered : (step : Step) → line ≡ Numbered step
        → (r : Result (Unit {0}) RefutationError) → ShowsPlain before.feed variables clauses r
    first_numbered step is (Ok done) = tt
    first_numbered step is (Err e) =
        by e (λ bytes known none.
        let h = given bytes known in
        let said = (first_by bytes (Some (Ok line, lines_at after.end h.0)) h.2).0 in
        let there = rw is at said in
        let same = sym there ∙ none in
        absurd cc)
      where
        by : (e : RefutationError) → Says before.feed (λ bytes. script_if variables (lines_of bytes)
            ≡ None → IsRefusal clauses (plain_of variables (lines_of bytes)) e)
            → ShowsPlain before.feed variables clauses (Err e)
        by e h = tells e _ h

    -- it has none
    pub first_plain : (r : Result (Unit {0}) RefutationError)
        → ConcludesPlain after.feed clauses (plain_left variables line after) r
        → ShowsPlain before.feed variables clauses r
    first_plain (Ok done) h = tt
    first_plain (Err e) h =
        tells_on e (Says after.feed (λ bytes. IsRefusal clauses (plain_left variables line after
        bytes) e)) _
        (λ says bytes known none.
        let is = given bytes known in
        subst (λ (script : Script PlainStep). IsRefusal clauses script e)
        (sym (first_by bytes (Some (Ok line, lines_at after.end is.0)) is.2).1)
        (says is.0 is.1)) h

-- ---- refutations

-- steps that refute the clauses aren't refused
pub refutation_taken : (clauses : List (List Lit)) (steps : List PlainStep)
    (fault e : RefutationError) → IsRefusal clauses (record { steps = steps; fault = fault }) e
    → Refute clauses steps → ⊥
refutation_taken clauses steps fault e (inl wrong) refutes = wrong.1 refutes.0
refutation_taken clauses steps fault e (inr none) refutes =
    false≢true (sym none.1 ∙ refutes.1)

-- and clauses that they refute can't be satisfied
module _ (v : ℕ → Bool) where
  dropped_true : (out : List Lit) (clauses : List (List Lit)) → are_true v clauses ≡ true
      → are_true v (without_one out clauses) ≡ true
  dropped_true out [] are = refl
  dropped_true out (clause ∷ clauses) are =
      let parts = and_parts (is_true_clause v clause) (are_true v clauses) are in
      by (are_same out clause) parts.0 parts.1 (dropped_true out clauses parts.1)
    where
      by : (b : Bool) → is_true_clause v clause ≡ true → are_true v clauses ≡ true
          → are_true v (without_one out clauses) ≡ true
          → are_true v (cond b clauses (clause ∷ without_one out clauses)) ≡ true
      by true here rest later = rest
      by false here rest later = and_from (is_true_clause v clause) _ here later

  left_true : (clause : List Lit) (clauses : List (List Lit)) → are_true v clauses ≡ true
      → are_true v (dropped clause clauses) ≡ true
  left_true clause clauses are = by (is_unit clause)
    where
      by : (b : Bool) → are_true v (cond b clauses (without_one clause clauses)) ≡ true
      by true = are
      by false = dropped_true clause clauses are

  follows_true : (clauses : List (List Lit)) (clause : List Lit) → are_true v clauses ≡ true
      → Follows clauses clause → is_true_clause v clause ≡ true
  follows_true clauses clause are (inl always) = tautology_is_true v clause always
  follows_true clauses clause are (inr rup) = rup_implied clauses clause rup.0 rup.1 v are

  none_true : (steps : List PlainStep) (clauses : List (List Lit)) → are_true v clauses ≡ true
      → Stand clauses steps → list_any adds_empty steps ≡ true → ⊥
  none_true [] clauses are stand has = false≢true has
  none_true (Drops clause ∷ steps) clauses are stand has =
      none_true steps (dropped clause clauses) (left_true clause clauses are) stand has
  none_true (Learns clause ∷ steps) clauses are stand has =
      let here = follows_true clauses clause are stand.0 in
      by stand.1 (or_cases (is_empty clause) (list_any adds_empty steps) has) here
      (λ later has_later. none_true steps (clause ∷ clauses)
      (and_from (is_true_clause v clause) (are_true v clauses) here are) later has_later)
    where
      by : (is_empty clause ≡ true) ⊎ Stand (clause ∷ clauses) steps
          → (is_empty clause ≡ true) ⊎ (list_any adds_empty steps ≡ true)
          → is_true_clause v clause ≡ true
          → (Stand (clause ∷ clauses) steps → list_any adds_empty steps ≡ true → ⊥) → ⊥
      by (inl empty) either here later = empty_false v clause empty here
      by (inr rest) (inl empty) here later = empty_false v clause empty here
      by (inr rest) (inr has) here later = later rest has

pub refuted_unsatisfiable : (clauses : List (List Lit)) (steps : List PlainStep)
    → Refute clauses steps → ¬ IsSatisfiable clauses
refuted_unsatisfiable clauses steps refutes s =
    none_true s.0 steps clauses s.1 refutes.0 refutes.1
