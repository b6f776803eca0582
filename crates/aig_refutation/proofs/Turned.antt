-- Steps whose first literals come last say the same.
use Rattle.aig_base.proofs.Words.{◌≡◌, ◌⊎◌, inl, inr, ℕ, zero, suc, Bool, true, false, ◌||◌, cond, List, [], ◌∷◌, ◌++◌, map, Some, None, Err, refl, sym, ap, subst, ◌∙◌, fold, list_any, fun_ext, slice_get, false≢true}
use Rattle.aig_base.specs.declared.logic.literal.Lit.{Lit}
use Rattle.aig_base.specs.Clauses.{inverse_lit}
use Rattle.aig_refutation.specs.declared.error.RefutationError.{RefutationError}
use Rattle.aig_refutation.specs.declared.error.RefutationError.TheVariants as errors
use Rattle.aig_refutation.specs.declared.propagation.Reading.{Reading}
use Rattle.aig_refutation.specs.declared.propagation.Reading.TheVariants.{Conflict, Implied, Open}
use Rattle.aig_refutation.specs.Checking.{IsInConflict, IsOutcome, IsRefusal, Shows, are_all_in, shown_by}
use Rattle.aig_refutation.specs.Forms.{plain_steps_in, steps_in}
use Rattle.aig_refutation.specs.Proofs.{Script}
use Rattle.aig_refutation.specs.Propagation.{also, is_lit, is_tautology, propagates, reading_if, reading_of, when_false, with_literal, with_open}
use Rattle.aig_refutation.specs.Steps.{Follows, PlainStep, Drops, Learns, Refute, Stand, adds_empty, are_same, dropped, is_empty, is_unit, without_one}
use Rattle.aig_refutation.specs.Tables.{SaysSame}
use Rattle.aig_refutation.specs.Written.{as_read}
use Rattle.aig_refutation.proofs.HintedRup.{conflicts_same, same_reading}
use Rattle.aig_refutation.proofs.Once.{is_lit-equiv}
use Rattle.aig_refutation.proofs.Plainly.{refutation_taken}
use Rattle.aig_refutation.proofs.Rup.{same_lit}
use Rattle.aig_refutation.proofs.Sameness.{said_are_same}

-- ---- one clause

module _ (lit : Lit) where
  any_turned : (p : Lit → Bool) (lits : List Lit) → list_any p (lits ++ lit ∷ []) ≡ list_any p (lit ∷ lits)
  any_turned p [] = refl
  any_turned p (first ∷ rest) = ap (λ (b : Bool). p first || b) (any_turned p rest) ∙ swapped (p first) (p lit) (list_any p rest)
    where
      swapped : (a b c : Bool) → (a || (b || c)) ≡ (b || (a || c))
      swapped true true c = refl
      swapped true false c = refl
      swapped false b c = refl

  false_turned : (lits : List Lit) → when_false (lits ++ lit ∷ []) ≡ when_false (lit ∷ lits)
  false_turned lits = fun_ext (λ other. any_turned (λ l. is_lit (inverse_lit l) other) lits)

  tautology_turned : (lits : List Lit) → is_tautology (lits ++ lit ∷ []) ≡ is_tautology (lit ∷ lits)
  tautology_turned lits = ap (λ p. list_any p (lits ++ lit ∷ [])) (false_turned lits) ∙ any_turned (when_false (lit ∷ lits)) lits

-- two literals that are open
opened : (r : Reading) (a b : Lit) → with_open (with_open r a) b ≡ with_open (with_open r b) a
opened Conflict a b = by (is_lit a b) refl
  where
    by : (c : Bool) → is_lit a b ≡ c → cond (is_lit a b) (Implied a) Open ≡ cond (is_lit b a) (Implied b) Open
    by true e = let same = same_lit a b e in subst (λ (l : Lit). cond (is_lit a l) (Implied a) Open ≡ cond (is_lit l a) (Implied l) Open) same refl
    by false e = rw (e, is_lit-equiv.symm b a ∙ e) refl
opened (Implied other) a b = by (is_lit other a) (is_lit other b) refl refl
  where
    by : (c d : Bool) → is_lit other a ≡ c → is_lit other b ≡ d → with_open (cond (is_lit other a) (Implied other) Open) b ≡ with_open (cond (is_lit other b) (Implied other) Open) a
    by true true e f = rw (e, f, e) refl
    by true false e f = rw (e, f) refl
    by false true e f = rw (e, f, e) refl
    by false false e f = rw (e, f) refl
opened Open a b = refl

module _ (holds : Lit → Bool) where
  literals_swapped : (r : Reading) (a b : Lit) → with_literal holds (with_literal holds r a) b ≡ with_literal holds (with_literal holds r b) a
  literals_swapped r a b = by (holds (inverse_lit a)) (holds (inverse_lit b))
    where
      by : (c d : Bool) → cond d (cond c r (with_open r a)) (with_open (cond c r (with_open r a)) b) ≡ cond c (cond d r (with_open r b)) (with_open (cond d r (with_open r b)) a)
      by true true = refl
      by true false = refl
      by false true = refl
      by false false = opened r a b

  fold_turned : (lits : List Lit) (lit : Lit) (r : Reading) → fold (with_literal holds) r (lits ++ lit ∷ []) ≡ fold (with_literal holds) (with_literal holds r lit) lits
  fold_turned [] lit r = refl
  fold_turned (first ∷ rest) lit r =
      fold_turned rest lit (with_literal holds r first) ∙ ap (λ (s : Reading). fold (with_literal holds) s rest) (literals_swapped r first lit)

-- a clause as it is read
abbrev turned : List Lit → List Lit
turned [] = []
turned (lit ∷ lits) = lits ++ lit ∷ []

reading_turned : (holds : Lit → Bool) (clause : List Lit) → reading_of holds clause ≡ reading_of holds (turned clause)
reading_turned holds [] = refl
reading_turned holds (lit ∷ lits) = sym (fold_turned holds lits lit Conflict)

-- ---- clauses one by one

abbrev AreAlike : List (List Lit) → List (List Lit) → Type 0
AreAlike [] [] = Unit {0}
AreAlike [] (b ∷ bs) = ⊥
AreAlike (a ∷ as') [] = ⊥
AreAlike (a ∷ as') (b ∷ bs) = ((holds : Lit → Bool) → reading_of holds a ≡ reading_of holds b) × AreAlike as' bs

alike_self : (clauses : List (List Lit)) → AreAlike clauses clauses
alike_self [] = tt
alike_self (clause ∷ clauses) = (λ holds. refl, alike_self clauses)

alike_at : (old new : List (List Lit)) → AreAlike old new → (n : ℕ) → SaysSame (slice_get old n) (slice_get new n)
alike_at [] [] h n = tt
alike_at [] (b ∷ bs) h n = absurd h
alike_at (a ∷ old) [] h n = absurd h
alike_at (a ∷ old) (b ∷ new) h zero = h.0
alike_at (a ∷ old) (b ∷ new) h (suc n) = alike_at old new h.1 n

alike_propagates : (old new : List (List Lit)) → AreAlike old new → (hints : List ℕ) (holds : Lit → Bool) → propagates (slice_get old) holds hints ≡ propagates (slice_get new) holds hints
alike_propagates old new h [] holds = refl
alike_propagates old new h (hint ∷ hints) holds =
    conflicts_same (reading_if holds (slice_get old hint)) (reading_if holds (slice_get new hint)) (λ lit. propagates (slice_get old) (also lit holds) hints) (λ lit. propagates (slice_get new) (also lit holds) hints)
    (same_reading holds (slice_get old hint) (slice_get new hint) (alike_at old new h hint))
    (λ lit. alike_propagates old new h hints (also lit holds))

alike_dropped : (clause : List Lit) (old new : List (List Lit)) → AreAlike old new → AreAlike (without_one clause old) (without_one clause new)
alike_dropped clause [] [] h = tt
alike_dropped clause [] (b ∷ bs) h = absurd h
alike_dropped clause (a ∷ old) [] h = absurd h
alike_dropped clause (a ∷ old) (b ∷ new) h = by (alike_dropped clause old new h.1) (are_same clause a) (are_same clause b) refl refl
  where
    by : AreAlike (without_one clause old) (without_one clause new) → (c d : Bool) → are_same clause a ≡ c → are_same clause b ≡ d → AreAlike (cond c old (a ∷ without_one clause old)) (cond d new (b ∷ without_one clause new))
    by later true true e f = h.1
    by later false false e f = (h.0, later)
    by later true false e f = absurd (false≢true (sym f ∙ said_are_same clause a b h.0 e))
    by later false true e f = absurd (false≢true (sym e ∙ said_are_same clause b a (λ holds. sym (h.0 holds)) f))

alike_left : (clause : List Lit) (old new : List (List Lit)) → AreAlike old new → AreAlike (dropped clause old) (dropped clause new)
alike_left clause old new h = by (is_unit clause)
  where
    by : (b : Bool) → AreAlike (cond b old (without_one clause old)) (cond b new (without_one clause new))
    by true = h
    by false = alike_dropped clause old new h

-- ---- steps

follows_turned : (old new : List (List Lit)) → AreAlike old new → (clause : List Lit) → Follows old clause → Follows new (turned clause)
follows_turned old new h [] (inl always) = inl always
follows_turned old new h [] (inr rup) = inr (rup.0, sym (alike_propagates old new h rup.0 (when_false [])) ∙ rup.1)
follows_turned old new h (lit ∷ lits) (inl always) = inl (tautology_turned lit lits ∙ always)
follows_turned old new h (lit ∷ lits) (inr rup) =
    inr (rup.0, ap (λ p. propagates (slice_get new) p rup.0) (false_turned lit lits) ∙ sym (alike_propagates old new h rup.0 (when_false (lit ∷ lits))) ∙ rup.1)

empty_turned : (clause : List Lit) → is_empty (turned clause) ≡ is_empty clause
empty_turned [] = refl
empty_turned (lit ∷ []) = refl
empty_turned (lit ∷ first ∷ rest) = refl

read_turned : (clause : List Lit) → as_read (Learns clause) ≡ Learns (turned clause)
read_turned [] = refl
read_turned (lit ∷ lits) = refl

stand_turned : (steps : List PlainStep) (old new : List (List Lit)) → AreAlike old new → Stand old steps → Stand new (map as_read steps)
stand_turned [] old new h stand = tt
stand_turned (Drops clause ∷ steps) old new h stand = stand_turned steps (dropped clause old) (dropped clause new) (alike_left clause old new h) stand
stand_turned (Learns clause ∷ steps) old new h stand =
    subst (λ (s : PlainStep). Stand new (s ∷ map as_read steps)) (sym (read_turned clause)) (
      follows_turned old new h clause stand.0,
      elim stand.1 as (λ _. (is_empty (turned clause) ≡ true) ⊎ Stand (turned clause ∷ new) (map as_read steps)) [
        | inl empty ↦ inl (empty_turned clause ∙ empty)
        | inr later ↦ inr (stand_turned steps (clause ∷ old) (turned clause ∷ new) (λ holds. reading_turned holds clause, h) later)
      ],
    )

adds_turned : (step : PlainStep) → adds_empty (as_read step) ≡ adds_empty step
adds_turned (Learns clause) = ap adds_empty (read_turned clause) ∙ empty_turned clause
adds_turned (Drops clause) = refl

some_turned : (steps : List PlainStep) → list_any adds_empty (map as_read steps) ≡ list_any adds_empty steps
some_turned [] = refl
some_turned (step ∷ steps) = rw (adds_turned step, some_turned steps) refl

pub refute_turned : (clauses : List (List Lit)) (steps : List PlainStep) → Refute clauses steps → Refute clauses (map as_read steps)
refute_turned clauses steps refutes = (stand_turned steps clauses clauses (alike_self clauses) refutes.0, some_turned steps ∙ refutes.1)

-- ---- bytes that say such steps aren't refused

module _ (variables : ℕ) (clauses : List (List Lit)) (bytes : List ℕ) (script : Script PlainStep) (fits : are_all_in variables clauses ≡ true)
    (none : steps_in variables bytes ≡ None) (says : plain_steps_in variables bytes ≡ script) (refutes : Refute clauses script.steps) where
  no_error : (e : RefutationError) → IsOutcome variables clauses (Some bytes) (Err e) → ⊥
  no_error e o =
      let apart : IsInConflict clauses → ⊥ = λ conflict. let wrong = o.in_conflict fits conflict in cc in
      let no_numbers : shown_by variables clauses bytes ≡ None = rw none refl in
      let refusal = o.by_propagation fits apart no_numbers in
      refutation_taken clauses script.steps script.fault e (subst (λ (s : Script PlainStep). IsRefusal clauses s e) says refusal) refutes

  pub plain_not_refused : (e : RefutationError) → Shows variables clauses (Some bytes) (Err e) → (e ≡ errors.Memory) ⊎ (e ≡ errors.Stream)
  plain_not_refused errors.Memory shows = inl refl
  plain_not_refused errors.Stream shows = inr refl
  plain_not_refused e shows = absurd (no_error e shows)
