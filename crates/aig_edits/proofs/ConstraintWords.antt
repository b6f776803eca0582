-- The words that give what constraints say where two machines are compared.
use Rattle.aig_base.proofs.Words.{◌≡◌, ◌≢◌, ℕ, List, ◌∷◌, Some, codes, refl, sym, ◌∙◌}
use Rattle.aig_join.specs.declared.comparison.Constraints.{Constraints}
use Rattle.aig_join.specs.declared.comparison.Constraints.TheVariants.{Compared, OfBoth, OfFirst}
use Rattle.aig_edits.specs.Words.{AreConstraints, constraints_word}

-- a word after `--constraints` that says nothing of them
pub no_constraints : (words rest : List (List ℕ)) (word : List ℕ) → words ≡ word ∷ rest
    → ((constraints : Constraints) → constraints_word constraints ≢ Some word)
    → (constraints : Constraints) (more : List (List ℕ))
    → ¬ AreConstraints constraints (codes "--constraints" ∷ words) more
no_constraints words rest word are none OfBoth more given = given.0 words refl
no_constraints words rest word are none OfFirst more given =
    let same : codes "first" ≡ word = cc in none OfFirst cc
no_constraints words rest word are none Compared more given =
    let same : codes "compared" ≡ word = cc in none Compared cc

-- the first words say one thing, and leave one list
pub one_constraints : (words : List (List ℕ)) (a b : Constraints) (r s : List (List ℕ))
    → AreConstraints a words r → AreConstraints b words s → (a ≡ b) × (r ≡ s)
one_constraints words OfBoth OfBoth r s g h = (refl, sym g.1 ∙ h.1)
one_constraints words OfBoth OfFirst r s g h = absurd (g.0 _ h)
one_constraints words OfBoth Compared r s g h = absurd (g.0 _ h)
one_constraints words OfFirst OfBoth r s g h = absurd (h.0 _ g)
one_constraints words Compared OfBoth r s g h = absurd (h.0 _ g)
one_constraints words OfFirst OfFirst r s g h = (refl, cc)
one_constraints words Compared Compared r s g h = (refl, cc)
one_constraints words OfFirst Compared r s g h =
    let same : codes "first" ≡ codes "compared" = cc in cc
one_constraints words Compared OfFirst r s g h =
    let same : codes "compared" ≡ codes "first" = cc in cc
