-- Lines that are found by the variables that they define.
use Rattle.aig_base.proofs.Words.{◌≡◌, ℕ, ◌/◌, ◌%◌, false, List, [], ◌∷◌, map, cond, Some, refl, ap, ◌∙◌, nat_eq, find, ◌==◌, eq-eqb}
use Rattle.std.specs.List.{AllByRecursion, IsDistinct}
use Rattle.aig_format.proofs.Entries.{rec_weaker, rec_both, rec_unmap}
use Rattle.aig_format.proofs.Numbers.{half_differs}

distinct_parts : (x : ℕ) (xs : List ℕ) → IsDistinct nat_eq (x ∷ xs) → AllByRecursion (λ y. nat_eq x y ≡ false) xs × IsDistinct nat_eq xs
unfolding IsDistinct
distinct_parts x xs d = d

module _ {X : Type 0} (literal : X → ℕ) where
  abbrev IsFoundIn : List X → X → Type 0
  IsFoundIn xs x = find (λ (y : X). literal y / 2 == literal x / 2) xs ≡ Some x

  -- each line is the one that is found at its variable
  pub found_all : (xs : List X) → AllByRecursion (λ x. literal x % 2 ≡ 0) xs → IsDistinct nat_eq (map literal xs) → AllByRecursion (IsFoundIn xs) xs
  found_all [] even d = tt
  found_all (x ∷ xs) even d =
      let p = distinct_parts (literal x) (map literal xs) d in
      let Even = λ (y : X). literal y % 2 ≡ 0 in
      let Differs = λ (y : X). nat_eq (literal x) (literal y) ≡ false in
      let others = rec_both Even (λ y. Differs y × IsFoundIn xs y) xs even.1 (rec_both Differs (IsFoundIn xs) xs (rec_unmap (λ y. nat_eq (literal x) y ≡ false) literal xs p.0) (found_all xs even.1 p.1)) in (
        ap (λ b. cond b (Some x) (find (λ (y : X). literal y / 2 == literal x / 2) xs)) (eq-eqb (literal x / 2) (literal x / 2) refl),
        rec_weaker (λ y. Even y × (Differs y × IsFoundIn xs y)) (IsFoundIn (x ∷ xs))
            (λ y q. ap (λ b. cond b (Some x) (find (λ (z : X). literal z / 2 == literal y / 2) xs)) (half_differs (literal x) (literal y) even.0 q.0 q.1.0) ∙ q.1.1) xs others,
      )
