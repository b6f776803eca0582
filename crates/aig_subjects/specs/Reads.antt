-- Part of what is promised.
-- What a call that reads files in order says of their bytes.
use Rattle.std.specs.Prelude.{◌≡◌, ℕ, Bool, List, [], ◌∷◌, Option, Result, IfErr}
use Rattle.std.specs.List.{AllByRecursion}
use Rattle.aig_format.specs.File.{File}
use Rattle.aig_format.specs.Fits.{Accepts}
use Rattle.aig_reader.specs.Reading.{IsReadAs}
use Rattle.aig_reader.specs.Verdicts.{Accepted, Judges, Verdict}

-- Each verdict is said of the bytes of a file, in order. Where all of them are taken the value is
-- what is meant for these files, and no file behind them is read. Where one is refused the value is
-- what is meant for those before it, and no file behind it is read.
abbrev pub AreReadAs : {S T : Type 0} → (S → Option (List ℕ)) → (S → Bool) → ℕ
    → (List File → T → Type 0) → List Verdict → List S → List S → T → Type 0
AreReadAs left failed limit Means [] before after value = Means [] value × (after ≡ before)
AreReadAs left failed limit Means (Accepted ∷ said) (r ∷ before) (rest ∷ after) value =
    Judges (λ _. Accepted) limit (left r) (left rest) (failed rest) Accepted
    × IsReadAs (λ bytes. Accepts bytes limit)
    (λ f. AreReadAs left failed limit (λ files. Means (f ∷ files)) said before after) (left r)
    (left rest) value
AreReadAs left failed limit Means (v ∷ said) (r ∷ before) (rest ∷ after) value =
    Judges (λ _. Accepted) limit (left r) (left rest) (failed rest) v × Means [] value
    × (after ≡ before)
AreReadAs left failed limit Means said before after value = ⊥

-- What a call that reads files in order tells: `said` of the bytes of each that it reads, and what
-- its result means for the files that they are.
pub record ReadsFiles {S T E : Type 0} (left : S → Option (List ℕ)) (failed : S → Bool)
    (limit : ℕ) (said : Result T E → List Verdict) (Means : List File → Result T E → Type 0)
    (Own : E → Type 0) (before : List S) (result : Result T E) (after : List S) : Type 0 where
  pub reads : AreReadAs left failed limit Means (said result) before after result
  -- which errors it has
  pub own : IfErr result Own

-- each file is accepted, as some bytes
abbrev pub AreAccepted : ℕ → List File → Type 0
AreAccepted limit files = AllByRecursion (λ f. (bytes : List ℕ) × Accepts bytes limit f) files
