-- A step that is taken keeps clauses satisfiable.
use Rattle.aig_base.proofs.Words.{◌≡◌, ℕ, Bool, true, false, cond, not, inl, inr, Result, Ok, Err, List, [], ◌∷◌, refl, sym, subst, list_any, or_cases, ◌==◌, false≢true}
use Rattle.aig_base.specs.declared.logic.literal.Lit.{Lit}
use Rattle.aig_base.specs.Clauses.{is_true_clause}
use Rattle.aig_refutation.specs.declared.error.RefutationError.{RefutationError}
use Rattle.aig_refutation.specs.declared.error.RefutationError.TheVariants as errors
use Rattle.aig_refutation.specs.Checking.{Live, added, are_named, clause_at, deleted, follows, is_last_step, is_named, is_too_large, is_used, stands, taken, why_not, with_clause, without_clause}
use Rattle.aig_refutation.specs.Propagation.{is_rup, is_tautology}
use Rattle.aig_refutation.specs.Rat.{is_rat}
use Rattle.aig_refutation.specs.Steps.{Step, Adds, Deletes}
use Rattle.aig_refutation.specs.Taken.{CanHold, KeepsLive}
use Rattle.aig_refutation.proofs.RatSteps.{rat_goes_on}
use Rattle.aig_refutation.proofs.Refuting.{AllTrue, empty_false, found_true, kept_true}
use Rattle.aig_refutation.proofs.Rup.{rup_is_true}
use Rattle.aig_refutation.proofs.Tautologies.{tautology_is_true}

-- a choice that gives a value
pub chosen : {A : Type 0} (b : Bool) (e : RefutationError) (r : Result A RefutationError) (a : A) →
    cond b (Err e) r ≡ Ok a → (b ≡ false) × (r ≡ Ok a)
chosen true e r a is = absurd cc
chosen false e r a is = (refl, is)

not_false : (b : Bool) → not b ≡ false → b ≡ true
not_false true e = refl
not_false false e = sym e

-- a clause that follows is true
pub follows_true : (v : ℕ → Bool) (live : Live) (clause : List Lit) (hints : List ℕ)
    → AllTrue v live.clauses → follows live clause hints ≡ true → is_true_clause v clause ≡ true
follows_true v live clause hints are is =
    elim (or_cases (is_rup (clause_at live) clause hints) (is_tautology clause) is) [
      | inl rup ↦ rup_is_true v (clause_at live) (found_true v live.clauses are) clause hints rup
      | inr always ↦ tautology_is_true v clause always
    ]

-- where the clauses can hold, they can so with one that may be added
stands_on : (live : Live) (clause : List Lit) (hints : List ℕ) (groups : List (Bool × ℕ))
    → CanHold live → stands live clause hints groups ≡ true
    → (w : ℕ → Bool) × AllTrue w live.clauses × (is_true_clause w clause ≡ true)
stands_on live clause hints groups can is =
    elim (or_cases (follows live clause hints) (is_rat live.clauses clause hints groups) is) [
      | inl follows ↦ (can.0, can.1, follows_true can.0 live clause hints can.1 follows)
      | inr rat ↦ rat_goes_on live.clauses can.0 can.1 clause hints groups rat
    ]

module _ (live next : Live) where
  added_is : (number : ℕ) (clause : List Lit) (hints : List ℕ) (groups : List (Bool × ℕ))
      → added live number clause hints groups ≡ Ok next
      → (stands live clause hints groups ≡ true) × (with_clause live number clause ≡ next)
  unfolding added
  added_is number clause hints groups is =
      let b = chosen (not (are_named live hints groups)) errors.Unnamed _ next is in
      let c = chosen (not (stands live clause hints groups)) (why_not groups) _ next b.1 in
      let d = chosen (is_used live number) errors.Twice _ next c.1 in
      let e = chosen (is_too_large live number) errors.Large _ next d.1 in
      let same : with_clause live number clause ≡ next = let f = e.1 in cc in
      (not_false (stands live clause hints groups) c.0, same)

  added_keeps : (number : ℕ) (clause : List Lit) (hints : List ℕ) (groups : List (Bool × ℕ))
      → added live number clause hints groups ≡ Ok next → KeepsLive live next
  added_keeps number clause hints groups is can =
      let on = added_is number clause hints groups is in
      let w = stands_on live clause hints groups can on.0 in
      subst CanHold on.1 (w.0, (w.2, w.1))

pub deleted_keeps : (numbers : List ℕ) (live next : Live) → deleted live numbers ≡ Ok next
    → KeepsLive live next
unfolding deleted
deleted_keeps [] live next is can = let same : live ≡ next = cc in subst CanHold same can
deleted_keeps (n ∷ numbers) live next is can =
    by (is_named live n) (deleted_keeps numbers (without_clause live n) next)
    (kept_true can.0 (λ entry. not (list_any (λ m. m == entry.0) (n ∷ []))) live.clauses can.1)
    is
  where
    by : (b : Bool) → (deleted (without_clause live n) numbers ≡ Ok next
        → KeepsLive (without_clause live n) next)
        → AllTrue can.0 (without_clause live n).clauses
        → cond b (deleted (without_clause live n) numbers) (Err errors.Unnamed) ≡ Ok next
        → CanHold next
    by true later are e = later e (can.0, are)
    by false later are e = absurd cc

pub taken_keeps : (live next : Live) (step : Step) → taken live step ≡ Ok next
    → KeepsLive live next
unfolding taken
taken_keeps live next (Adds number clause hints groups) is =
    added_keeps live next number clause hints groups is
taken_keeps live next (Deletes numbers) is = deleted_keeps numbers live next is

-- the last step leaves clauses that can't all be true
pub last_fails : (live next : Live) (step : Step) → taken live step ≡ Ok next → is_last_step step ≡ true → CanHold live → ⊥
unfolding taken
last_fails live next (Adds number clause hints groups) is last can =
    let on = added_is live next number clause hints groups is in
    let after : CanHold (with_clause live number clause) =
    subst CanHold (sym on.1) (added_keeps live next number clause hints groups is can) in
    empty_false after.0 clause last after.1.0
last_fails live next (Deletes numbers) is last can = false≢true last
