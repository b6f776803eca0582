-- What follows by reverse unit propagation is implied.
use Rattle.aig_base.proofs.Words.{◌≡◌, ◌⊎◌, ℕ, Bool, true, false, cond, Option, Some, None, List, [], ◌∷◌, inl, inr, refl, sym, ap, ◌∙◌, fold}
use Rattle.std.proofs.lemmas.Bool.{false≢true, or_cases, or_parts, eqb-true, not_from_true, not_from_false, true_from_ne_false}
use Rattle.aig_base.specs.declared.logic.literal.Lit.{Lit}
use Rattle.aig_base.specs.Clauses.{inverse_lit, literal_value, is_true_clause}
use Rattle.aig_base.proofs.Literals.{literal_value-inverse_lit}
use Rattle.aig_refutation.specs.declared.propagation.Reading.{Reading}
use Rattle.aig_refutation.specs.declared.propagation.Reading.TheVariants.{Conflict, Implied, Open}
use Rattle.aig_refutation.specs.Propagation.{also, conflicts, is_lit, is_rup, propagates, reading_if, when_false, with_literal, with_open}

-- literals of one number are one
pub same_lit : (a b : Lit) → is_lit a b ≡ true → a ≡ b
same_lit a b e = let lit_of : ℕ → Lit = λ n. record { code = n } in ap lit_of (eqb-true a.code b.code e)

module _ (v : ℕ → Bool) where
  -- what a reading says of the assignment
  abbrev pub IsTrueReading : Reading → Type 0
  IsTrueReading Conflict = ⊥
  IsTrueReading (Implied lit) = literal_value v lit ≡ true
  IsTrueReading Open = Unit {0}

  -- every literal that is taken to be true is
  abbrev pub AreTrue : (Lit → Bool) → Type 0
  AreTrue holds = (lit : Lit) → holds lit ≡ true → literal_value v lit ≡ true

  -- one literal more that is true
  says_true : (r : Reading) (lit : Lit) → literal_value v lit ≡ true
      → IsTrueReading (with_open r lit)
  says_true Conflict lit is = is
  says_true (Implied other) lit is = by (is_lit other lit) (same_lit other lit)
    where
      by : (b : Bool) → (b ≡ true → other ≡ lit) → IsTrueReading (cond b (Implied other) Open)
      by true same = ap (literal_value v) (same refl) ∙ is
      by false same = tt
  says_true Open lit is = tt

  -- one literal more, whatever it is
  says_still : (r : Reading) (lit : Lit) → IsTrueReading r → IsTrueReading (with_open r lit)
  says_still Conflict lit s = absurd s
  says_still (Implied other) lit s = by (is_lit other lit)
    where
      by : (b : Bool) → IsTrueReading (cond b (Implied other) Open)
      by true = s
      by false = tt
  says_still Open lit s = tt

  module _ (holds : Lit → Bool) (are : AreTrue holds) where
    -- a literal whose inverse is true is false
    falsified : (lit : Lit) → holds (inverse_lit lit) ≡ true → literal_value v lit ≡ true → ⊥
    falsified lit h is = false≢true (sym (not_from_true (literal_value v lit) is) ∙ sym (literal_value-inverse_lit v lit) ∙ are (inverse_lit lit) h)

    -- a clause with a true literal says what is so
    pub says_clause : (r : Reading) (clause : List Lit) → IsTrueReading r
        ⊎ (is_true_clause v clause ≡ true) → IsTrueReading (fold (with_literal holds) r clause)
    says_clause r [] (inl s) = s
    says_clause r [] (inr t) = absurd (false≢true t)
    says_clause r (lit ∷ lits) h = by (holds (inverse_lit lit)) (λ e. says_clause r lits (skipped e h)) (says_clause (with_open r lit) lits (taken h))
      where
        skipped : holds (inverse_lit lit) ≡ true → IsTrueReading r
            ⊎ (is_true_clause v (lit ∷ lits) ≡ true) → IsTrueReading r ⊎ (is_true_clause v lits ≡ true)
        skipped e (inl s) = inl s
        skipped e (inr t) = elim (or_cases (literal_value v lit) (is_true_clause v lits) t) [ inl now ↦ absurd (falsified lit e now) | inr later ↦ inr later ]

        taken : IsTrueReading r ⊎ (is_true_clause v (lit ∷ lits) ≡ true)
            → IsTrueReading (with_open r lit) ⊎ (is_true_clause v lits ≡ true)
        taken (inl s) = inl (says_still r lit s)
        taken (inr t) = elim (or_cases (literal_value v lit) (is_true_clause v lits) t) [ inl now ↦ inl (says_true r lit now) | inr later ↦ inr later ]

        by : (b : Bool) → (b ≡ true → IsTrueReading (fold (with_literal holds) r lits))
            → IsTrueReading (fold (with_literal holds) (with_open r lit) lits) → IsTrueReading (fold (with_literal holds) (cond b r (with_open r lit)) lits)
        by true skip take = skip refl
        by false skip take = take

  -- one literal more that is taken to be true
  pub also_true : (holds : Lit → Bool) → AreTrue holds → (lit : Lit) → literal_value v lit ≡ true → AreTrue (also lit holds)
  also_true holds are lit is other h = elim (or_cases (is_lit lit other) (holds other) h) [ inl same ↦ ap (literal_value v) (sym (same_lit lit other same)) ∙ is | inr held ↦ are other held ]

  -- the inverses of the literals of a clause that is false are true
  pub inverses_true : (clause : List Lit) → is_true_clause v clause ≡ false → AreTrue (when_false clause)
  inverses_true [] f lit h = absurd (false≢true h)
  inverses_true (first ∷ rest) f lit h =
      let parts = or_parts (literal_value v first) (is_true_clause v rest) f in
      elim (or_cases (is_lit (inverse_lit first) lit) (when_false rest lit) h) [
        | inl same ↦ ap (literal_value v) (sym (same_lit (inverse_lit first) lit same)) ∙ literal_value-inverse_lit v first ∙ not_from_false (literal_value v first) parts.0
        | inr later ↦ inverses_true rest parts.1 lit later
      ]

  module _ (clause_of : ℕ → Option (List Lit)) (holding : (n : ℕ) (clause : List Lit) → clause_of n ≡ Some clause → is_true_clause v clause ≡ true) where
    says_hint : (holds : Lit → Bool) → AreTrue holds → (o : Option (List Lit))
        → ((clause : List Lit) → o ≡ Some clause → is_true_clause v clause ≡ true) → IsTrueReading (reading_if holds o)
    says_hint holds are None h = tt
    says_hint holds are (Some clause) h = says_clause holds are Conflict clause (inr (h clause refl))

    -- where all clauses are true, propagation from true literals ends in no conflict
    no_conflict : (hints : List ℕ) (holds : Lit → Bool) → AreTrue holds → propagates clause_of holds hints ≡ true → ⊥
    no_conflict [] holds are p = false≢true p
    no_conflict (hint ∷ hints) holds are p = by (reading_if holds (clause_of hint)) (says_hint holds are (clause_of hint) (holding hint)) (λ lit s. no_conflict hints (also lit holds) (also_true holds are lit s)) p
      where
        by : (r : Reading) → IsTrueReading r →
            ((lit : Lit) → literal_value v lit ≡ true → propagates clause_of (also lit holds) hints ≡ true → ⊥) → conflicts r (λ lit. propagates clause_of (also lit holds) hints) ≡ true → ⊥
        by Conflict s next e = s
        by (Implied lit) s next e = next lit s e
        by Open s next e = false≢true e

    pub rup_is_true : (clause : List Lit) (hints : List ℕ) → is_rup clause_of clause hints ≡ true → is_true_clause v clause ≡ true
    rup_is_true clause hints rup = true_from_ne_false (is_true_clause v clause) (λ f. no_conflict hints (when_false clause) (inverses_true clause f) rup)
