-- What is found along clauses, one after another.
use Rattle.std.proofs.Common.{◌≡◌, inr, ℕ, zero, suc, ◌+◌, ◌-◌, ◌*◌, ◌<◌, Bool, true, false, cond, Option, Some, None, List, [], ◌∷◌, length, slice_get, refl, sym, ap, subst, ◌∙◌, arith}
use Rattle.aig_base.proofs.Words.{◌==◌, All, is_some, nat_lt, slice_index_or, slice_set, false≢true, true_from_ne_false, same_Some}
use Rattle.aig_base.specs.declared.logic.literal.Lit.{Lit}
use Rattle.aig_base.specs.Clauses.{is_true_clause, number_of_lit, variable_of}
use Rattle.aig_refutation.specs.declared.propagation.Reading.TheVariants.{Conflict, Implied}
use Rattle.aig_refutation.specs.declared.closure.Found.{Found}
use Rattle.aig_refutation.specs.declared.closure.Found.TheVariants as found
use Rattle.aig_refutation.specs.Closure.{AreTrue, Entails, Finds, IsImplied, unmarked}
use Rattle.aig_refutation.specs.Propagation.{FitsMarks, also, marked, reading_of, when_false}
use Rattle.aig_refutation.specs.Tables.{Table, clause_in, entry_at, place_in}
use Rattle.aig_refutation.proofs.Literals.{clause_there, implied_within, number-fits}
use Rattle.aig_refutation.proofs.Numbering.{some_item}
use Rattle.aig_refutation.proofs.Rup.{IsTrueReading, also_true, inverses_true, says_clause}

-- ---- clauses by their numbers

module _ (t : Table) (n : ℕ) where
  abbrev before : ℕ
  before = entry_at t.places n - 1

  pub in_place : (place : ℕ) → place_in t n ≡ Some place → clause_in t n ≡ slice_get t.clauses place
  in_place place is = by (entry_at t.places n == 0) (nat_lt before (length t.clauses)) is
    where
      by : (b c : Bool) → cond b None (cond c (Some before) None) ≡ Some place
          → cond b None (slice_get t.clauses before) ≡ slice_get t.clauses place
      by true c e = absurd cc
      by false true e = ap (slice_get t.clauses) (same_Some before place e)
      by false false e = absurd cc

  pub in_none : place_in t n ≡ None → clause_in t n ≡ None
  in_none is =
      by (entry_at t.places n == 0) (nat_lt before (length t.clauses)) (some_item t.clauses before)
      is
    where
      none : (o : Option (List Lit)) → is_some o ≡ false → o ≡ None
      none None e = refl
      none (Some clause) e = absurd (false≢true (sym e))

      by : (b c : Bool) → is_some (slice_get t.clauses before) ≡ c
          → cond b None (cond c (Some before) None) ≡ None
          → cond b None (slice_get t.clauses before) ≡ None
      by true c f e = refl
      by false true f e = absurd cc
      by false false f e = none (slice_get t.clauses before) f

-- ---- what is so of an assignment

pub entails_start : (t : Table) (clause : List Lit) → Entails t clause (when_false clause)
entails_start t clause v are fails = inverses_true v clause fails

module _ (t : Table) (clause : List Lit) (holds : Lit → Bool) (so_far : Entails t clause holds)
    (n : ℕ) (other : List Lit) (there : clause_in t n ≡ Some other) where
  says_there : (v : ℕ → Bool) → AreTrue v t → is_true_clause v clause ≡ false
      → IsTrueReading v (reading_of holds other)
  says_there v are fails =
      says_clause v holds (so_far v are fails) Conflict other (inr (are n other there))

  -- all literals of a clause are false
  pub found_conflict : Conflict ≡ reading_of holds other → IsImplied t clause
  found_conflict is v are =
      true_from_ne_false (is_true_clause v clause)
      (λ fails. subst (IsTrueReading v) (sym is) (says_there v are fails))

  -- a literal follows
  pub found_more : (lit : Lit) → Implied lit ≡ reading_of holds other
      → Entails t clause (also lit holds)
  found_more lit is v are fails =
      also_true v holds (so_far v are fails) lit
      (subst (IsTrueReading v) (sym is) (says_there v are fails))

-- ---- marks

pub unmarked_set : (marks : List Bool) (i : ℕ) → i < length marks
    → slice_index_or marks i false ≡ false → unmarked (slice_set marks i true) < unmarked marks
unmarked_set [] i h is = absurd (omega (arith, h))
unmarked_set (true ∷ marks) zero h is = absurd (false≢true (sym is))
unmarked_set (false ∷ marks) zero h is = omega arith
unmarked_set (true ∷ marks) (suc i) h is = unmarked_set marks i (omega (arith, h)) is
unmarked_set (false ∷ marks) (suc i) h is =
    let later = unmarked_set marks i (omega (arith, h)) is in omega (arith, later)

-- no conflict was found
pub found_none : (t : Table) (clause : List Lit) (holds : Lit → Bool) (f : Found)
    → (f ≡ found.Conflict → ⊥) → Finds t clause holds f → Entails t clause holds
found_none t clause holds found.Conflict none finds = absurd (none refl)
found_none t clause holds found.More none finds = finds
found_none t clause holds found.Nothing none finds = finds

-- ---- a clause that a number names

-- the literal that a clause implies has a mark
pub implied_fits : (marks : List Bool) (clauses given : List (List Lit)) (place : ℕ)
    (clause : List Lit) (lit : Lit) → given ≡ clauses → slice_get given place ≡ Some clause
    → Implied lit ≡ reading_of (marked marks) clause → All (FitsMarks marks) clauses
    → number_of_lit lit < length marks
implied_fits marks clauses given place clause lit same there is each =
    let here : slice_get clauses place ≡ Some clause =
    ap (λ (list : List (List Lit)). slice_get list place) (sym same) ∙ there in
    let fits = clause_there (FitsMarks marks) clauses place clause here each in
    let within = implied_within (marked marks) (λ l. 2 * variable_of l + 1 < length marks) clause
    lit is fits in
    omega (arith, number-fits lit, within)
