-- A clause whose inverses unit propagation doesn't refute: no hints show it.
use Rattle.std.proofs.Common.{◌≡◌, ◌⊎◌, inl, inr, ℕ, suc, ◌+◌, ◌<◌, ◌^◌, Bool, true, false, ◌||◌, cond, Option, Some, None, List, [], ◌∷◌, length, slice_get, refl, sym, ap, subst, ◌∙◌, arith}
use Rattle.aig_base.proofs.Words.{fold, cond-true, false≢true, or_cases, or_right}
use Rattle.aig_base.specs.declared.logic.literal.Lit.{Lit}
use Rattle.aig_base.specs.Clauses.{inverse_lit}
use Rattle.aig_refutation.specs.declared.propagation.Reading.{Reading}
use Rattle.aig_refutation.specs.declared.propagation.Reading.TheVariants.{Conflict, Implied, Open}
use Rattle.aig_refutation.specs.Ahead.{IsAhead, is_same_if, names}
use Rattle.aig_refutation.specs.Checking.{clause_at}
use Rattle.aig_refutation.specs.Closure.{AreAmong, IsClosed, IsSettled}
use Rattle.aig_refutation.specs.Propagation.{also, conflicts, has, is_lit, is_tautology, propagates, reading_if, reading_of, when_false, with_literal, with_open}
use Rattle.aig_refutation.specs.Steps.{Follows}
use Rattle.aig_refutation.specs.Tables.{Table, clause_in}
use Rattle.aig_refutation.proofs.Amounts.{amount_some, copies_some}
use Rattle.aig_refutation.proofs.HintedRup.{same_reading}
use Rattle.aig_refutation.proofs.Once.{is_lit-equiv}
use Rattle.aig_refutation.proofs.Rup.{same_lit}
use Rattle.aig_refutation.proofs.Sameness.{same_from}

-- ---- what a clause says, by its literals

-- all literals of a clause are false, but for one
abbrev AreFalse : (Lit → Bool) → (Lit → Type 0) → List Lit → Type 0
AreFalse holds But clause =
    (lit : Lit) → has clause lit ≡ true → (holds (inverse_lit lit) ≡ true) ⊎ But lit

-- a reading says a conflict, or that one
abbrev pub SaysBut : (Lit → Type 0) → Reading → Type 0
SaysBut But Conflict = Unit {0}
SaysBut But (Implied lit) = But lit
SaysBut But Open = ⊥

module _ (But : Lit → Type 0) where
  opened : (r : Reading) (first : Lit) → SaysBut But (with_open r first)
      → SaysBut But r × But first
  opened Conflict first says = (tt, says)
  opened (Implied other) first says = by (is_lit other first) refl says
    where
      by : (b : Bool) → is_lit other first ≡ b → SaysBut But (cond b (Implied other) Open)
          → But other × But first
      by true e h = (h, subst But (same_lit other first e) h)
      by false e h = absurd h
  opened Open first says = absurd says

  opens : ((a b : Lit) → But a → But b → a ≡ b) → (r : Reading) (first : Lit) → SaysBut But r
      → But first → SaysBut But (with_open r first)
  opens one Conflict first says is = is
  opens one (Implied other) first says is =
      subst (SaysBut But) (sym (cond-true (is_lit other first) (Implied other) Open
      (ap (is_lit other) (one first other is says) ∙ is_lit-equiv.refl other))) says
  opens one Open first says is = absurd says

  module _ (holds : Lit → Bool) where
    -- a reading tells which literals are false
    reading_false : (r : Reading) (clause : List Lit)
        → SaysBut But (fold (with_literal holds) r clause)
        → SaysBut But r × AreFalse holds But clause
    reading_false r [] says = (says, λ lit h. absurd (false≢true h))
    reading_false r (first ∷ rest) says =
        let later = reading_false (with_literal holds r first) rest says in
        by (holds (inverse_lit first)) refl later.0 later.1
      where
        each : (holds (inverse_lit first) ≡ true) ⊎ But first → AreFalse holds But rest
            → AreFalse holds But (first ∷ rest)
        each here later lit h = elim (or_cases (is_lit lit first) (has rest lit) h) [
          | inl same ↦ subst (λ (l : Lit). (holds (inverse_lit l) ≡ true) ⊎ But l)
              (sym (same_lit lit first same)) here
          | inr is ↦ later lit is
        ]

        by : (b : Bool) → holds (inverse_lit first) ≡ b
            → SaysBut But (cond b r (with_open r first)) → AreFalse holds But rest
            → SaysBut But r × AreFalse holds But (first ∷ rest)
        by true e says later = (says, each (inl e) later)
        by false e says later =
            let both = opened r first says in (both.0, each (inr both.1) later)

    -- and they tell the reading
    false_reading : ((a b : Lit) → But a → But b → a ≡ b) → (r : Reading) (clause : List Lit)
        → SaysBut But r → AreFalse holds But clause
        → SaysBut But (fold (with_literal holds) r clause)
    false_reading one r [] says each = says
    false_reading one r (first ∷ rest) says each =
        false_reading one (with_literal holds r first) rest
        (by (holds (inverse_lit first)) refl
        (each first (ap (λ (b : Bool). b || has rest first) (is_lit-equiv.refl first))))
        (λ lit h. each lit (or_right (is_lit lit first) (has rest lit) h))
      where
        by : (b : Bool) → holds (inverse_lit first) ≡ b
            → (holds (inverse_lit first) ≡ true) ⊎ But first
            → SaysBut But (cond b r (with_open r first))
        by true e here = says
        by false e (inl is) = absurd (false≢true (sym e ∙ is))
        by false e (inr is) = opens one r first says is

-- ---- fewer literals are true

module _ (some holds : Lit → Bool) (among : AreAmong some holds) (own other : List Lit)
    (within : (lit : Lit) → has own lit ≡ true → has other lit ≡ true) where
  pub fewer : (But : Lit → Type 0) → ((a b : Lit) → But a → But b → a ≡ b)
      → SaysBut But (reading_of some other) → SaysBut But (reading_of holds own)
  fewer But one says =
      let each = (reading_false But some Conflict other says).1 in
      false_reading But holds one Conflict own tt (λ lit h. elim (each lit (within lit h)) [
        | inl is ↦ inl (among (inverse_lit lit) is)
        | inr is ↦ inr is
      ])

  settled_too : IsSettled holds (reading_of holds own) → IsSettled holds (reading_of some other)
  settled_too settled = by (reading_of some other) refl
    where
      conflict : (r : Reading) → SaysBut (λ lit. ⊥) r → IsSettled holds r → ⊥
      conflict Conflict says is = is
      conflict (Implied lit) says is = says
      conflict Open says is = says

      implied : (lit : Lit) (r : Reading) → SaysBut (λ l. l ≡ lit) r → IsSettled holds r
          → holds lit ≡ true
      implied lit Conflict says is = absurd is
      implied lit (Implied l) says is = ap holds (sym says) ∙ is
      implied lit Open says is = absurd says

      by : (r : Reading) → reading_of some other ≡ r → IsSettled holds r
      by Conflict e =
          conflict (reading_of holds own) (fewer (λ lit. ⊥) (λ a b h. absurd h)
          (subst (SaysBut (λ lit. ⊥)) (sym e) tt)) settled
      by (Implied lit) e =
          implied lit (reading_of holds own) (fewer (λ l. l ≡ lit) (λ a b h k. h ∙ sym k)
          (subst (SaysBut (λ l. l ≡ lit)) (sym e) refl)) settled
      by Open e = tt

-- ---- along whatever hints

module _ (holds : Lit → Bool) (clauses : List (List Lit))
    (each : (n : ℕ) (clause : List Lit) → slice_get clauses n ≡ Some clause
    → (own : List Lit) × ((lit : Lit) → has own lit ≡ true → has clause lit ≡ true)
    × IsSettled holds (reading_of holds own)) where
  settled_if : (some : Lit → Bool) → AreAmong some holds → (n : ℕ) (o : Option (List Lit))
      → slice_get clauses n ≡ o → IsSettled holds (reading_if some o)
  settled_if some among n None e = tt
  settled_if some among n (Some clause) e =
      let own = each n clause e in settled_too some holds among own.0 clause own.1 own.2

  among_also : (some : Lit → Bool) → AreAmong some holds → (lit : Lit) → holds lit ≡ true
      → AreAmong (also lit some) holds
  among_also some among lit is other h = elim (or_cases (is_lit lit other) (some other) h) [
    | inl same ↦ ap holds (sym (same_lit lit other same)) ∙ is
    | inr before ↦ among other before
  ]

  never : (hints : List ℕ) (some : Lit → Bool) → AreAmong some holds
      → propagates (slice_get clauses) some hints ≡ true → ⊥
  never [] some among is = false≢true is
  never (hint ∷ hints) some among is =
      by (reading_if some (slice_get clauses hint))
      (settled_if some among hint (slice_get clauses hint) refl)
      (λ lit holding. never hints (also lit some) (among_also some among lit holding)) is
    where
      by : (r : Reading) → IsSettled holds r
          → ((lit : Lit) → holds lit ≡ true
          → propagates (slice_get clauses) (also lit some) hints ≡ true → ⊥)
          → conflicts r (λ lit. propagates (slice_get clauses) (also lit some) hints) ≡ true → ⊥
      by Conflict settled later e = settled
      by (Implied lit) settled later e = later lit settled e
      by Open settled later e = false≢true e

-- ---- clauses that are ahead

module _ (t : Table) (clauses : List (List Lit)) (ahead : IsAhead clauses t) (end : ℕ)
    (next : end ≡ t.added + 1) (fits : end < 2 ^ 32) (clause : List Lit)
    (closed : IsClosed t end clause) where
  named : (other : List Lit) (n : ℕ) (o : Option (List Lit)) → clause_at ahead.live n ≡ o
      → is_same_if other o ≡ true → n < end
      → (own : List Lit) × ((lit : Lit) → has own lit ≡ true → has other lit ≡ true)
      × IsSettled closed.holds (reading_of closed.holds own)
  named other n None e is h = absurd (false≢true is)
  named other n (Some own) e is h = (
    own,
    (same_from other own is).1,
    subst (IsSettled closed.holds) (same_reading closed.holds (clause_in t n)
        (clause_at ahead.live n) (ahead.holds.there n) ∙ ap (reading_if closed.holds) e)
        (closed.settled n h),
  )

  there : (n : ℕ) (other : List Lit) → slice_get clauses n ≡ Some other
      → (own : List Lit) × ((lit : Lit) → has own lit ≡ true → has other lit ≡ true)
      × IsSettled closed.holds (reading_of closed.holds own)
  there n other is =
      let some = copies_some clauses n other is in
      let enough = ahead.enough other in
      let found = amount_some (names ahead.live other) (suc (length ahead.live.used))
      (omega (arith, some, enough)) in
      named other found.0 (clause_at ahead.live found.0) refl found.2
      (omega (arith, found.1, ahead.holds.added, next, fits))

  pub unfollowed : is_tautology clause ≡ false → Follows clauses clause → ⊥
  unfollowed open_clause (inl always) = false≢true (sym open_clause ∙ always)
  unfollowed open_clause (inr rup) =
      never closed.holds clauses there rup.0 (when_false clause) closed.start rup.1
