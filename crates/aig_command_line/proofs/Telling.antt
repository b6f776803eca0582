-- Lines that are told one after another.
use Rattle.std.proofs.Common.{List, [], ◌∷◌, ◌++◌, sym, subst}
use Rattle.std.specs.List.{FoldsTo}

pub folds_on : {P A : Type 0} (R : P → A → P → Type 0) (p q r : P) (xs ys : List A) → FoldsTo R p xs q
    → FoldsTo R q ys r
    → FoldsTo R p (xs ++ ys) r
folds_on R p q r [] ys first second = subst (λ x. FoldsTo R x ys r) (sym first) second
folds_on R p q r (x ∷ xs) ys first second =
    (first.0, first.1, folds_on R first.0 q r xs ys first.2 second)
