-- Clauses of the same literals.
use Rattle.aig_base.proofs.Words.{◌≡◌, inl, inr, Bool, true, false, cond, ◌||◌, List, [], ◌∷◌, refl, sym, ap, subst, ◌∙◌, fold, list_all, and_from, and_parts, cond-true, false≢true, or_cases, or_right}
use Rattle.std.specs.Prelude.{not}
use Rattle.std.specs.Cmp.{IsEquivalence}
use Rattle.aig_base.specs.declared.logic.literal.Lit.{Lit}
use Rattle.aig_base.specs.Clauses.{inverse_lit}
use Rattle.aig_refutation.specs.declared.propagation.Reading.{Reading}
use Rattle.aig_refutation.specs.declared.propagation.Reading.TheVariants.{Conflict, Implied, Open}
use Rattle.aig_refutation.specs.Propagation.{has, is_lit, reading_of, with_literal, with_open}
use Rattle.aig_refutation.specs.Steps.{are_same}
use Rattle.aig_refutation.proofs.Conflicts.{inverse_twice}
use Rattle.aig_refutation.proofs.Once.{is_lit-equiv}
use Rattle.aig_refutation.proofs.Rup.{same_lit}

-- each literal of the first clause is one of the other's
abbrev pub IsIn : List Lit → List Lit → Type 0
IsIn clause other = (lit : Lit) → has clause lit ≡ true → has other lit ≡ true

in_from : (clause other : List Lit) → list_all (has other) clause ≡ true → IsIn clause other
in_from [] other all lit h = absurd (false≢true h)
in_from (first ∷ rest) other all lit h =
    let parts = and_parts (has other first) (list_all (has other) rest) all in
    elim (or_cases (is_lit lit first) (has rest lit) h) [
      | inl same ↦ subst (λ (l : Lit). has other l ≡ true) (sym (same_lit lit first same)) parts.0
      | inr later ↦ in_from rest other parts.1 lit later
    ]

in_test : (clause other : List Lit) → IsIn clause other → list_all (has other) clause ≡ true
in_test [] other each = refl
in_test (first ∷ rest) other each =
    and_from (has other first) (list_all (has other) rest)
    (each first (ap (λ (b : Bool). b || has rest first) (is_lit-equiv.refl first)))
    (in_test rest other (λ lit h. each lit (or_right (is_lit lit first) (has rest lit) h)))

pub same_from : (a b : List Lit) → are_same a b ≡ true → IsIn a b × IsIn b a
same_from a b is =
    let parts = and_parts (list_all (has b) a) (list_all (has a) b) is in
    (in_from a b parts.0, in_from b a parts.1)

same_test : (a b : List Lit) → IsIn a b → IsIn b a → are_same a b ≡ true
same_test a b there back =
    and_from (list_all (has b) a) (list_all (has a) b) (in_test a b there) (in_test b a back)

-- two tests that are true together
pub alike : (p q : Bool) → (p ≡ true → q ≡ true) → (q ≡ true → p ≡ true) → p ≡ q
alike true q there back = sym (there refl)
alike false true there back = back refl
alike false false there back = refl

turned : (a b : List Lit) → are_same a b ≡ true → are_same b a ≡ true
turned a b is = let h = same_from a b is in same_test b a h.1 h.0

along : (a b c : List Lit) → are_same a b ≡ true → are_same a c ≡ true → are_same b c ≡ true
along a b c is e =
    let h = same_from a b is in
    let k = same_from a c e in
    same_test b c (λ lit t. k.0 lit (h.1 lit t)) (λ lit t. h.0 lit (k.1 lit t))

pub are_same-equiv : IsEquivalence are_same
are_same-equiv = record {
  refl = λ a. same_test a a (λ lit h. h) (λ lit h. h);
  symm = λ a b. alike (are_same a b) (are_same b a) (turned a b) (turned b a);
  congr = λ a b c is. alike (are_same a c) (are_same b c) (along a b c is)
      (along b a c (turned a b is));
}

-- ---- clauses that say the same

inverse_test : (a b : Lit) → is_lit (inverse_lit a) (inverse_lit b) ≡ is_lit b a
inverse_test a b =
    alike (is_lit (inverse_lit a) (inverse_lit b)) (is_lit b a)
    (λ e. let same : a ≡ b =
    sym (inverse_twice a) ∙ ap inverse_lit (same_lit (inverse_lit a) (inverse_lit b) e)
    ∙ inverse_twice b in
    ap (is_lit b) same ∙ is_lit-equiv.refl b)
    (λ e. ap (λ (l : Lit). is_lit (inverse_lit a) (inverse_lit l)) (same_lit b a e)
    ∙ is_lit-equiv.refl (inverse_lit a))

module _ (lit : Lit) where
  -- all literals but this one are false
  abbrev but : Lit → Bool
  but other = not (is_lit other (inverse_lit lit))

  abbrev only : Bool → Reading
  only b = cond b (Implied lit) Conflict

  with_one : (b : Bool) (first : Lit)
      → with_literal but (only b) first ≡ only (b || is_lit lit first)
  with_one b first =
      ap (λ (c : Bool). cond (not c) (only b) (with_open (only b) first)) (inverse_test first lit)
      ∙ by (is_lit lit first) refl b
    where
      by : (c : Bool) → is_lit lit first ≡ c → (b : Bool)
          → cond (not c) (only b) (with_open (only b) first) ≡ only (b || c)
      by true e true =
          cond-true (is_lit lit first) (Implied lit) Open e
      by true e false = ap (λ (l : Lit). Implied l) (sym (same_lit lit first e))
      by false e true = refl
      by false e false = refl

  none_more : (b : Bool) → only b ≡ only (b || false)
  none_more true = refl
  none_more false = refl

  grouped : (b c d : Bool) → only ((b || c) || d) ≡ only (b || (c || d))
  grouped true c d = refl
  grouped false c d = refl

  reading_but : (b : Bool) (clause : List Lit)
      → fold (with_literal but) (only b) clause ≡ only (b || has clause lit)
  reading_but b [] = none_more b
  reading_but b (first ∷ rest) =
      ap (λ (r : Reading). fold (with_literal but) r rest) (with_one b first)
      ∙ reading_but (b || is_lit lit first) rest ∙ grouped b (is_lit lit first) (has rest lit)

  only_same : (b c : Bool) → only b ≡ only c → b ≡ c
  only_same true true e = refl
  only_same false false e = refl
  only_same true false e = cc
  only_same false true e = cc

  pub said_same : (a b : List Lit) → ((holds : Lit → Bool) → reading_of holds a ≡ reading_of holds b)
      → has a lit ≡ has b lit
  said_same a b same =
      only_same (has a lit) (has b lit)
      (sym (reading_but false a) ∙ same but ∙ reading_but false b)

-- so a clause that has the same literals as the one has the same as the other
pub said_are_same : (dropped a b : List Lit)
    → ((holds : Lit → Bool) → reading_of holds a ≡ reading_of holds b)
    → are_same dropped a ≡ true → are_same dropped b ≡ true
said_are_same dropped a b same is =
    are_same-equiv.symm dropped b
    ∙ sym (are_same-equiv.congr a b dropped (same_test a b
    (λ lit h. sym (said_same lit a b same) ∙ h) (λ lit h. said_same lit a b same ∙ h)))
    ∙ are_same-equiv.symm a dropped ∙ is
