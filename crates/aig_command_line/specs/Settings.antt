-- Serves private clauses alone.
-- The last words of a command line.
use Rattle.std.specs.Prelude.{◌≡◌, ℕ, Bool, not, IsTrue, List, codes}
use Rattle.aig_command_line.specs.declared.arguments.ArgumentForm.{ArgumentForm}
use Rattle.aig_command_line.specs.Arguments.{setting_words, word_if}

-- the word `raw`, where it is allowed, or nothing
abbrev pub IsRawSetting : Bool → Bool → List (List ℕ) → Type 0
IsRawSetting allowed optimize words =
    (words ≡ word_if (not optimize) (codes "raw")) × (IsTrue (not optimize) → IsTrue allowed)

-- the settings, each where it is allowed
abbrev pub AreSettings : ArgumentForm → Bool → Bool → List (List ℕ) → Type 0
AreSettings form distinct optimize words =
    (words ≡ setting_words distinct optimize) × (IsTrue distinct → IsTrue form.distinct)
    × (IsTrue (not optimize) → IsTrue form.raw)
