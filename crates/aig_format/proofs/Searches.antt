-- What a search in a list finds.
use Rattle.aig_base.proofs.Words.{◌≡◌, Bool, true, false, List, [], ◌∷◌, cond, Some, None, refl, ap, subst, ◌∙◌, inl, inr, find, AllByRecursion, same_Some}
use Rattle.aig_format.proofs.Entries.{chosen}

module _ {X : Type 0} (P : X → Type 0) where
  -- what a search finds passes the test, and has what all entries have
  pub find_some : (test : X → Bool) (xs : List X) (x : X) → AllByRecursion P xs → find test xs ≡ Some x → (test x ≡ true) × P x
  find_some test [] x all h = cc
  find_some test (y ∷ ys) x all h = elim (chosen (test y) (Some y) (find test ys) (Some x) h) [
    | inl p ↦ (let e = same_Some y x p.1 in (subst (λ z. test z ≡ true) e p.0, subst P e all.0))
    | inr p ↦ find_some test ys x all.1 p.1
  ]

pub find_none : {X : Type 0} (test : X → Bool) (xs : List X) → AllByRecursion (λ x. test x ≡ false) xs → find test xs ≡ None
find_none test [] all = refl
find_none test (x ∷ xs) all = ap (λ b. cond b (Some x) (find test xs)) all.0 ∙ find_none test xs all.1
