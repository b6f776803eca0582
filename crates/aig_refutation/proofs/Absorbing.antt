-- A literal that comes again in a clause changes nothing.
use Rattle.aig_base.proofs.Words.{◌≡◌, ℕ, ◌+◌, ◌<◌, Bool, true, false, cond, List, [], ◌∷◌, ◌++◌, length, take, get_or, inl, inr, refl, sym, ap, subst, ◌∙◌, fold, list_any, false≢true, or_cases, nat_eq_equiv}
use Rattle.aig_base.specs.declared.logic.literal.Lit.{Lit}
use Rattle.aig_base.specs.Clauses.{inverse_lit}
use Rattle.aig_refutation.specs.declared.propagation.Reading.{Reading}
use Rattle.aig_refutation.specs.declared.propagation.Reading.TheVariants.{Conflict, Implied, Open}
use Rattle.aig_refutation.specs.Propagation.{is_lit, reading_of, with_literal, with_open}
use Rattle.aig_refutation.proofs.Literals.{reading_more}
use Rattle.aig_refutation.proofs.Rup.{same_lit}

same_is : (lit : Lit) → is_lit lit lit ≡ true
same_is lit = nat_eq_equiv.refl lit.code

module _ (holds : Lit → Bool) where
  twice_open : (r : Reading) (lit : Lit) → with_open (with_open r lit) lit ≡ with_open r lit
  twice_open Conflict lit = ap (λ (b : Bool). cond b (Implied lit) Open) (same_is lit)
  twice_open (Implied other) lit = by (is_lit other lit) refl
    where
      by : (b : Bool) → is_lit other lit ≡ b → with_open (cond b (Implied other) Open) lit ≡ cond b
          (Implied other) Open
      by true e = ap (λ (c : Bool). cond c (Implied other) Open) e
      by false e = refl
  twice_open Open lit = refl

  -- a literal that was read is read again
  twice : (r : Reading) (lit : Lit) → with_literal holds (with_literal holds r lit) lit ≡
      with_literal holds r lit
  twice r lit = by (holds (inverse_lit lit))
    where
      by : (b : Bool) → cond b (cond b r (with_open r lit)) (with_open (cond b r (with_open r lit))
          lit) ≡ cond b r (with_open r lit)
      by true = refl
      by false = twice_open r lit

  later_open : (r : Reading) (lit other : Lit) → with_open r lit ≡ r → with_open (with_open r
      other) lit ≡ with_open r other
  later_open Conflict lit other is = absurd cc
  later_open (Implied one) lit other is = by (is_lit one other)
    where
      by : (b : Bool) → with_open (cond b (Implied one) Open) lit ≡ cond b (Implied one) Open
      by true = is
      by false = refl
  later_open Open lit other is = refl

  -- another one in between doesn't matter
  later : (r : Reading) (lit other : Lit) → with_literal holds r lit ≡ r → with_literal holds
      (with_literal holds r other) lit ≡ with_literal holds r other
  later r lit other is = by (holds (inverse_lit lit)) (holds (inverse_lit other)) is
    where
      by : (b c : Bool) → cond b r (with_open r lit) ≡ r → cond b (cond c r (with_open r other))
          (with_open (cond c r (with_open r other)) lit) ≡ cond c r (with_open r other)
      by true c h = refl
      by false true h = h
      by false false h = later_open r lit other h

  kept : (r : Reading) (clause : List Lit) (lit : Lit) → with_literal holds r lit ≡ r →
      with_literal holds (fold (with_literal holds) r clause) lit ≡ fold (with_literal holds) r
      clause
  kept r [] lit is = is
  kept r (other ∷ clause) lit is = kept (with_literal holds r other) clause lit (later r lit other
      is)

  absorbed_from : (r : Reading) (clause : List Lit) (lit : Lit) → list_any (is_lit lit) clause ≡
      true → with_literal holds (fold (with_literal holds) r clause) lit ≡ fold (with_literal
      holds) r clause
  absorbed_from r [] lit is = absurd (false≢true is)
  absorbed_from r (other ∷ clause) lit is = elim (or_cases (is_lit lit other) (list_any (is_lit
      lit) clause) is) [
        | inl here ↦
            let same : lit ≡ other = same_lit lit other here in
            kept (with_literal holds r other) clause lit (subst (λ (l : Lit). with_literal holds
            (with_literal holds r other) l ≡ with_literal holds r other) (sym same) (twice r other))
        | inr later ↦ absorbed_from (with_literal holds r other) clause lit later
      ]

  pub absorbed : (clause : List Lit) (lit : Lit) → list_any (is_lit lit) clause ≡ true →
      with_literal holds (reading_of holds clause) lit ≡ reading_of holds clause
  absorbed clause lit is = absorbed_from Conflict clause lit is

  fold_last : (r : Reading) (clause : List Lit) (lit : Lit) → fold (with_literal holds) r (clause
      ++ lit ∷ []) ≡ with_literal holds (fold (with_literal holds) r clause) lit
  fold_last r [] lit = refl
  fold_last r (other ∷ clause) lit = fold_last (with_literal holds r other) clause lit

  module _ (clause : List Lit) (i : ℕ) (lit d : Lit) (there : i < length clause) (is : lit ≡ get_or
      clause i d) (own : List Lit) (so_far : reading_of holds own ≡ reading_of holds (take i
      clause)) where
    -- a literal is kept
    pub reading_kept : reading_of holds (own ++ lit ∷ []) ≡ reading_of holds (take (i + 1) clause)
    reading_kept = fold_last Conflict own lit ∙ ap (λ r. with_literal holds r lit) so_far ∙ sym
        (reading_more holds clause i lit d there is)

    -- and one that is there already isn't
    pub reading_same : list_any (is_lit lit) own ≡ true → reading_of holds own ≡ reading_of holds
        (take (i + 1) clause)
    reading_same has = sym (absorbed own lit has) ∙ ap (λ r. with_literal holds r lit) so_far ∙ sym
        (reading_more holds clause i lit d there is)
