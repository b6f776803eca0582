-- Steps that are taken, case by case.
use Rattle.std.proofs.Common.{◌≡◌, ℕ, Bool, true, false, cond, List, [], ◌∷◌, Result, Ok, Err, OnOk, refl, ap}
use Rattle.aig_base.specs.declared.logic.literal.Lit.{Lit}
use Rattle.aig_refutation.specs.declared.error.RefutationError.{RefutationError}
use Rattle.aig_refutation.specs.declared.error.RefutationError.TheVariants as errors
use Rattle.aig_refutation.specs.Checking.{Live, added, are_named, deleted, is_named, numbered_clause, stands, why_not, without_clause}
use Rattle.aig_refutation.specs.Tables.{Holds, HoldsNext, OnlyMemory, Table}
use Rattle.aig_refutation.proofs.Known.{tells_on}

module _ (live : Live) (number : ℕ) (clause : List Lit) (hints : List ℕ)
    (groups : List (Bool × ℕ)) where
  pub added_unnamed : are_named live hints groups ≡ false
      → added live number clause hints groups ≡ Err errors.Unnamed
  unfolding added
  added_unnamed is = rw is refl

  module _ (named : are_named live hints groups ≡ true) where
    pub added_not : stands live clause hints groups ≡ false
        → added live number clause hints groups ≡ Err (why_not groups)
    unfolding added
    added_not is = rw (named, is) refl

    pub added_on : stands live clause hints groups ≡ true
        → added live number clause hints groups ≡ numbered_clause live number clause
    unfolding added
    added_on is = rw (named, is) refl

module _ (live : Live) (n : ℕ) where
  pub deleted_none : deleted live [] ≡ Ok live
  unfolding deleted
  deleted_none = refl

  pub deleted_unnamed : is_named live n ≡ false → deleted live (n ∷ []) ≡ Err errors.Unnamed
  unfolding deleted
  deleted_unnamed is = rw is refl

  pub deleted_one : is_named live n ≡ true → deleted live (n ∷ []) ≡ Ok (without_clause live n)
  unfolding deleted
  deleted_one is = rw is refl

  pub deleted_first : (next : Live) (numbers : List ℕ) → deleted live (n ∷ []) ≡ Ok next → deleted
      live (n ∷ numbers) ≡ deleted next numbers
  unfolding deleted
  deleted_first next numbers is = by (is_named live n) is
    where
      by : (b : Bool) → cond b (Ok (without_clause live n)) (Err errors.Unnamed) ≡ Ok next → cond b
          (deleted (without_clause live n) numbers) (Err errors.Unnamed) ≡ deleted next numbers
      by true h = let same : without_clause live n ≡ next = cc in ap (λ l. deleted l numbers) same
      by false h = absurd cc

  pub deleted_wrong : (e : RefutationError) (numbers : List ℕ) → deleted live (n ∷ []) ≡ Err e →
      deleted live (n ∷ numbers) ≡ Err e
  unfolding deleted
  deleted_wrong e numbers is = by (is_named live n) is
    where
      by : (b : Bool) → cond b (Ok (without_clause live n)) (Err errors.Unnamed) ≡ Err e → cond b
          (deleted (without_clause live n) numbers) (Err errors.Unnamed) ≡ Err e
      by true h = absurd cc
      by false h = h

-- memory is freed, or ran out
pub moves_freed : {X : Type 0} (new : Table) (r : Result X RefutationError) (said : Result Live
    RefutationError) (next : Live) → said ≡ Ok next → OnlyMemory r → OnOk r (Holds new next) →
    HoldsNext new r said
moves_freed new (Ok x) said next is memory holds = (next, is, holds)
moves_freed new (Err e) said next is memory holds = tells_on e ⊥ (said ≡ Err e) (λ none. absurd
    none) memory
