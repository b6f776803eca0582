-- Part of what is promised.
-- The words that give what constraints say where two machines are compared.
use Rattle.std.specs.Prelude.{◌≡◌, ℕ, List, ◌∷◌, Option, Some, None, codes}
use Rattle.aig_join.specs.declared.comparison.Constraints.{Constraints}
use Rattle.aig_join.specs.declared.comparison.Constraints.TheVariants.{Compared, OfBoth, OfFirst}

-- the word of what constraints say, where it isn't as usual
abbrev pub constraints_word : Constraints → Option (List ℕ)
constraints_word OfBoth = None
constraints_word OfFirst = Some (codes "first")
constraints_word Compared = Some (codes "compared")

-- the first words give what constraints say, and leave the others
abbrev pub AreConstraints : Constraints → List (List ℕ) → List (List ℕ) → Type 0
AreConstraints OfBoth words rest =
    ((more : List (List ℕ)) → ¬ (words ≡ codes "--constraints" ∷ more)) × (words ≡ rest)
AreConstraints OfFirst words rest = words ≡ codes "--constraints" ∷ codes "first" ∷ rest
AreConstraints Compared words rest = words ≡ codes "--constraints" ∷ codes "compared" ∷ rest
