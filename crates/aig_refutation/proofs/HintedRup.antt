-- Hints that name clauses by numbers, and their places.
use Rattle.std.proofs.Common.{◌≡◌, ℕ, ◌-◌, Bool, true, false, cond, List, [], ◌∷◌, map, slice_get, Option, Some, None, refl, ap, ◌∙◌}
use Rattle.aig_base.proofs.Words.{◌==◌, nat_lt, is_some, list_all, false≢true, and_parts}
use Rattle.aig_base.specs.declared.logic.literal.Lit.{Lit}
use Rattle.aig_refutation.specs.declared.propagation.Reading.{Reading}
use Rattle.aig_refutation.specs.declared.propagation.Reading.TheVariants.{Conflict, Implied, Open}
use Rattle.aig_refutation.specs.Checking.{Live, clause_at, is_named}
use Rattle.aig_refutation.specs.Propagation.{also, conflicts, is_rup, propagates, reading_if, when_false}
use Rattle.aig_refutation.specs.Tables.{Holds, SaysSame, Table, clause_by, clause_in, entry_at, place_by, place_in}
use Rattle.aig_refutation.proofs.Numbering.{named_by_place}

pub conflicts_same : (r s : Reading) (f g : Lit → Bool) → r ≡ s → ((lit : Lit) → f lit ≡ g lit) →
    conflicts r f ≡ conflicts s g
conflicts_same r s f g e h = rw (← e) (by r)
  where
    by : (r : Reading) → conflicts r f ≡ conflicts r g
    by Conflict = refl
    by (Implied lit) = h lit
    by Open = refl

pub same_reading : (holds : Lit → Bool) (a b : Option (List Lit)) → SaysSame a b → reading_if holds a ≡
    reading_if holds b
same_reading holds None None same = refl
same_reading holds None (Some b) same = absurd same
same_reading holds (Some a) None same = absurd same
same_reading holds (Some a) (Some b) same = same holds

-- the clause at a number's place
at_place : (clauses : List (List Lit)) (count entry : ℕ) → is_some (place_by count entry) ≡ true →
    slice_get clauses (entry - 1) ≡ clause_by clauses entry
at_place clauses count entry is = by (entry == 0) is
  where
    by : (b : Bool) → is_some (cond b None (cond (nat_lt (entry - 1) count) (Some (entry - 1))
        None)) ≡ true → slice_get clauses (entry - 1) ≡ cond b None (slice_get clauses (entry - 1))
    by true h = absurd (false≢true h)
    by false h = refl

module _ (t : Table) (live : Live) (is : Holds t live) where
  abbrev place_of : ℕ → ℕ
  place_of h = entry_at t.places h - 1

  abbrev has_place : ℕ → Bool
  has_place h = is_some (place_in t h)

  propagates_same : (hints : List ℕ) (holds : Lit → Bool) → list_all has_place hints ≡ true →
      propagates (slice_get t.clauses) holds (map place_of hints) ≡ propagates (clause_at live)
      holds hints
  propagates_same [] holds all = refl
  propagates_same (hint ∷ hints) holds all =
      let parts = and_parts (has_place hint) (list_all has_place hints) all in
      conflicts_same (reading_if holds (slice_get t.clauses (place_of hint))) (reading_if holds
      (clause_at live hint))
      (λ lit. propagates (slice_get t.clauses) (also lit holds) (map place_of hints)) (λ lit.
      propagates (clause_at live) (also lit holds) hints)
      (ap (reading_if holds) (at_place t.clauses _ (entry_at t.places hint) parts.0) ∙ same_reading
      holds (clause_in t hint) (clause_at live hint) (is.there hint))
      (λ lit. propagates_same hints (also lit holds) parts.1)

  pub rup_same : (clause : List Lit) (hints : List ℕ) → list_all has_place hints ≡ true → is_rup
      (slice_get t.clauses) clause (map place_of hints) ≡ is_rup (clause_at live) clause hints
  rup_same clause hints all = propagates_same hints (when_false clause) all

  pub all_named : (hints : List ℕ) → list_all (is_named live) hints ≡ list_all has_place hints
  all_named [] = refl
  all_named (hint ∷ hints) = rw (named_by_place t live hint is, all_named hints) refl
