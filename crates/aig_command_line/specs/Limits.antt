-- Part of what is promised.
-- Which words of a command line give the limit on the nodes of a circuit.
use Rattle.std.specs.Prelude.{◌≡◌, ℕ, ◌≤◌, ◌^◌, ◌⊎◌, List, ◌∷◌, codes}
use Rattle.aig_format.specs.Text.{IsNumber}

-- the number may be a limit
abbrev pub IsLimit : ℕ → Type 0
IsLimit n = (1 ≤ n) × (n ≤ 2 ^ 31)

-- the first two words are `--limit` and the limit, and the others come after these
pub record IsGivenLimit (words : List (List ℕ)) (limit : ℕ) (rest : List (List ℕ)) : Type 0 where
  pub word : List ℕ
  pub spelled : words ≡ codes "--limit" ∷ word ∷ rest
  pub number : IsNumber limit word
  pub within : IsLimit limit

-- the first word is not `--limit`, and the limit is 2^24
pub record IsUsualLimit (words : List (List ℕ)) (limit : ℕ) (rest : List (List ℕ)) : Type 0 where
  pub other : (more : List (List ℕ)) → ¬ (words ≡ codes "--limit" ∷ more)
  pub all : rest ≡ words
  pub usual : limit ≡ 2 ^ 24

-- the words give the limit, and then the others
abbrev pub IsLimited : List (List ℕ) → ℕ → List (List ℕ) → Type 0
IsLimited words limit rest = IsGivenLimit words limit rest ⊎ IsUsualLimit words limit rest
