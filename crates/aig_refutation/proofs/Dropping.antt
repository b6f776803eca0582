-- Steps that stand where clauses of a literal alone are dropped stand where these stay.
use Rattle.std.proofs.Common.{◌≡◌, ◌⊎◌, inl, inr, ℕ, suc, ◌≤◌, Bool, true, false, cond, Option, Some, None, List, [], ◌∷◌, slice_get, refl, sym, ap, subst, ◌∙◌, arith}
use Rattle.aig_base.proofs.Words.{false≢true}
use Rattle.aig_base.specs.declared.logic.literal.Lit.{Lit}
use Rattle.aig_refutation.specs.declared.propagation.Reading.{Reading}
use Rattle.aig_refutation.specs.declared.propagation.Reading.TheVariants.{Conflict, Implied, Open}
use Rattle.aig_refutation.specs.Ahead.{copies}
use Rattle.aig_refutation.specs.Propagation.{also, conflicts, propagates, reading_if, reading_of, when_false}
use Rattle.aig_refutation.specs.Steps.{Drops, Follows, Learns, PlainStep, Stand, StandWithout, are_same, is_empty, is_unit, without_one}
use Rattle.aig_refutation.proofs.Amounts.{copies_left, copies_some, copies_without, one}
use Rattle.aig_refutation.proofs.Sameness.{IsIn, same_from}
use Rattle.aig_refutation.proofs.Unfollowed.{SaysBut, fewer}

-- ---- what unit propagation finds along clauses it finds along more

-- a reading by which a conflict follows, where at most one literal isn't false
conflicts_but : (lit : Lit) (r : Reading) (next : Lit → Bool) → SaysBut (λ l. l ≡ lit) r
    → next lit ≡ true → conflicts r next ≡ true
conflicts_but lit Conflict next says h = refl
conflicts_but lit (Implied l) next says h = ap next says ∙ h
conflicts_but lit Open next says h = absurd says

-- and where none is
conflicts_at_once : (r : Reading) (next : Lit → Bool) → SaysBut (λ l. ⊥) r → conflicts r next ≡ true
conflicts_at_once Conflict next says = refl
conflicts_at_once (Implied l) next says = absurd says
conflicts_at_once Open next says = absurd says

-- a clause of the same literals
find_copy : (clauses : List (List Lit)) (clause : List Lit) → 1 ≤ copies clause clauses
    → (n : ℕ) × (other : List Lit) × (slice_get clauses n ≡ Some other)
    × (are_same clause other ≡ true)
find_copy [] clause h = absurd (omega (arith, h))
find_copy (first ∷ clauses) clause h = by (are_same clause first) refl (find_copy clauses clause)
  where
    by : (b : Bool) → are_same clause first ≡ b
        → (1 ≤ copies clause clauses → (n : ℕ) × (other : List Lit)
        × (slice_get clauses n ≡ Some other) × (are_same clause other ≡ true))
        → (n : ℕ) × (other : List Lit) × (slice_get (first ∷ clauses) n ≡ Some other)
        × (are_same clause other ≡ true)
    by true e later = (0, first, refl, e)
    by false e later =
        let none = ap one e in
        let is = later (omega (arith, h, none)) in
        (suc is.0, is.1, is.2, is.3)

module _ (some all : List (List Lit))
    (enough : (clause : List Lit) → copies clause some ≤ copies clause all) where
  abbrev Finds : (Lit → Bool) → Type 0
  Finds holds = (hints : List ℕ) × (propagates (slice_get all) holds hints ≡ true)

  -- along a clause of the same literals, and what follows then
  along : (holds : Lit → Bool) (clause other : List Lit) (n : ℕ) → slice_get all n ≡ Some other
      → IsIn other clause → (next : Lit → Bool) → ((lit : Lit) → next lit ≡ true
      → Finds (also lit holds)) → (r : Reading) → reading_of holds clause ≡ r
      → conflicts r next ≡ true → Finds holds
  along holds clause other n there within next later Conflict e h =
      let says : SaysBut (λ l. ⊥) (reading_of holds other) =
      fewer holds holds (λ l k. k) other clause within (λ l. ⊥) (λ a b k. absurd k)
      (subst (SaysBut (λ l. ⊥)) (sym e) tt) in (
        n ∷ [],
        ap (λ (o : Option (List Lit)). conflicts (reading_if holds o)
            (λ lit. propagates (slice_get all) (also lit holds) [])) there
            ∙ conflicts_at_once (reading_of holds other)
            (λ lit. propagates (slice_get all) (also lit holds) []) says,
      )
  along holds clause other n there within next later (Implied lit) e h =
      let is = later lit h in
      let says : SaysBut (λ l. l ≡ lit) (reading_of holds other) =
      fewer holds holds (λ l k. k) other clause within (λ l. l ≡ lit) (λ a b k m. k ∙ sym m)
      (subst (SaysBut (λ l. l ≡ lit)) (sym e) refl) in (
        n ∷ is.0,
        ap (λ (o : Option (List Lit)). conflicts (reading_if holds o)
            (λ lit. propagates (slice_get all) (also lit holds) is.0)) there
            ∙ conflicts_but lit (reading_of holds other)
            (λ lit. propagates (slice_get all) (also lit holds) is.0) says is.1,
      )
  along holds clause other n there within next later Open e h = absurd (false≢true h)

  carried : (hints : List ℕ) (holds : Lit → Bool)
      → propagates (slice_get some) holds hints ≡ true → Finds holds
  carried [] holds is = absurd (false≢true is)
  carried (hint ∷ hints) holds is =
      by (slice_get some hint) refl (λ lit. carried hints (also lit holds)) is
    where
      by : (o : Option (List Lit)) → slice_get some hint ≡ o
          → ((lit : Lit) → propagates (slice_get some) (also lit holds) hints ≡ true
          → Finds (also lit holds))
          → conflicts (reading_if holds o)
          (λ lit. propagates (slice_get some) (also lit holds) hints) ≡ true → Finds holds
      by None e later h = absurd (false≢true h)
      by (Some clause) e later h =
          let one_there = copies_some some hint clause e in
          let more = enough clause in
          let own = find_copy all clause (omega (arith, one_there, more)) in
          along holds clause own.1 own.0 own.2 (same_from clause own.1 own.3).1
          (λ lit. propagates (slice_get some) (also lit holds) hints) later
          (reading_of holds clause) refl h

  follows_too : (clause : List Lit) → Follows some clause → Follows all clause
  follows_too clause (inl always) = inl always
  follows_too clause (inr rup) = inr (carried rup.0 (when_false clause) rup.1)

-- ---- steps

stand_along : (steps : List PlainStep) (some all : List (List Lit))
    → ((clause : List Lit) → copies clause some ≤ copies clause all) → StandWithout some steps
    → Stand all steps
stand_along [] some all enough stand = tt
stand_along (Drops clause ∷ steps) some all enough stand =
    by (is_unit clause)
    (stand_along steps (without_one clause some) all (λ c.
    let fewer = copies_without c clause some in
    let before = enough c in
    omega (arith, fewer, before)) stand)
    (stand_along steps (without_one clause some) (without_one clause all) (λ c.
    let fewer = copies_without c clause some in
    let left = copies_left c clause all in
    let before = enough c in
    omega (arith, fewer, left, before)) stand)
  where
    by : (b : Bool) → Stand all steps → Stand (without_one clause all) steps
        → Stand (cond b all (without_one clause all)) steps
    by true stays goes = stays
    by false stays goes = goes
stand_along (Learns clause ∷ steps) some all enough stand = (
  follows_too some all enough clause stand.0,
  elim stand.1 as (λ _. (is_empty clause ≡ true) ⊎ Stand (clause ∷ all) steps) [
    | inl empty ↦ inl empty
    | inr later ↦ inr (stand_along steps (clause ∷ some) (clause ∷ all) (λ c.
        let before = enough c in omega (arith, before)) later)
  ],
)

pub stand_too : (clauses : List (List Lit)) (steps : List PlainStep) → StandWithout clauses steps
    → Stand clauses steps
stand_too clauses steps stand = stand_along steps clauses clauses (λ c. omega arith) stand
