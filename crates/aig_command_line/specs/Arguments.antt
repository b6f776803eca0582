-- Part of what is promised.
-- Which words of a command line give a command's arguments.
use Rattle.std.specs.Prelude.{◌≡◌, ℕ, ◌+◌, Bool, true, false, not, IsTrue, List, [], ◌∷◌, ◌++◌, length, codes, map, string_bytes}
use Rattle.aig_format.specs.Text.{IsNumber}
use Rattle.aig_command_line.specs.declared.arguments.ArgumentForm.{ArgumentForm}
use Rattle.aig_command_line.specs.declared.arguments.Given.{Given}
use Rattle.aig_command_line.specs.declared.arguments.Step.{Step}
use Rattle.aig_command_line.specs.declared.arguments.Step.TheVariants.{Absent, At, UpTo, By, Each}

-- what the words after a command's name give
pub record Arguments : Type 0 where
  pub paths : List (List ℕ)
  pub step : ℕ
  pub further : List (List ℕ)
  pub distinct : Bool
  pub optimize : Bool

-- the form of a command that takes so many paths alone
abbrev pub of_paths : ℕ → ArgumentForm
of_paths n = record { paths = n; step = Absent; further = 0; distinct = false; raw = false }

-- the word, where it is there
abbrev pub word_if : Bool → List ℕ → List (List ℕ)
word_if true word = word ∷ []
word_if false word = []

-- the words of step K: none, K, or the word `to` or `each` and K, which has one or more digits and
-- a value of at most 2^32 - 1; or the word `by`, and no step
abbrev pub AreStep : Step → ℕ → List (List ℕ) → Type 0
AreStep Absent k words = (k ≡ 0) × (words ≡ [])
AreStep At k words = (word : List ℕ) × (words ≡ word ∷ []) × IsNumber k word
AreStep UpTo k words = (word : List ℕ) × (words ≡ codes "to" ∷ word ∷ []) × IsNumber k word
AreStep By k words = (k ≡ 0) × (words ≡ codes "by" ∷ [])
AreStep Each k words = (word : List ℕ) × (words ≡ codes "each" ∷ word ∷ []) × IsNumber k word

-- how many paths come after step K: so many, and behind the word `each` first one for each of the
-- steps 0 to K
abbrev pub further_by : Step → ℕ → ℕ → ℕ
further_by Each k further = further + (k + 1)
further_by step k further = further

abbrev pub further_of : ArgumentForm → ℕ → ℕ
further_of form k = further_by form.step k form.further

-- the words of the settings
abbrev pub setting_words : Bool → Bool → List (List ℕ)
setting_words distinct optimize =
    word_if distinct (codes "distinct") ++ word_if (not optimize) (codes "raw")

-- the words are a command's name, its paths, those of its step, further paths, and settings that it
-- may have
pub record GivesArguments (name : List ℕ) (form : ArgumentForm) (words : List (List ℕ))
    (a : Arguments)
    : Type 0 where
  pub steps : List (List ℕ)
  pub spelled : words
      ≡ name ∷ (a.paths ++ (steps ++ (a.further ++ setting_words a.distinct a.optimize)))
  pub paths : length a.paths ≡ form.paths
  pub step : AreStep form.step a.step steps
  pub further : length a.further ≡ further_of form a.step
  pub distinct : IsTrue a.distinct → IsTrue form.distinct
  pub raw : IsTrue (not a.optimize) → IsTrue form.raw

-- what is given, as bytes
abbrev pub seen : Given → Arguments
seen g = record {
  paths = map string_bytes g.paths.now;
  step = g.step;
  further = map string_bytes g.further.now;
  distinct = g.distinct;
  optimize = g.optimize;
}
