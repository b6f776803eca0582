-- Part of what is promised.
-- What a call that reads two files says of their bytes.
use Rattle.std.specs.Prelude.{◌≡◌, ◌≢◌, ℕ, ◌^◌, ◌≤◌, Bool, List, Option, Result, IfErr}
use Rattle.aig_circuit.specs.declared.view.CircuitLists.{CircuitLists}
use Rattle.aig_format.specs.File.{File}
use Rattle.aig_format.specs.Fits.{Accepts}
use Rattle.aig_reader.specs.Reading.{AreListsOf, IsReadAs}
use Rattle.aig_reader.specs.Verdicts.{Accepted, Judges, Verdict, verdict_by}

-- it holds of each two files within a bound whose circuits these are
abbrev pub OfTwoFiles : CircuitLists → CircuitLists → (File → File → Type 0) → Type 0
OfTwoFiles own other Means =
    (f g : File) (bound : ℕ) (bytes others : List ℕ) → bound ≤ 2 ^ 31 → Accepts bytes bound f
    → Accepts others bound g → AreListsOf f own → AreListsOf g other → Means f g

-- the bytes that were taken of both are two files, and the value is what is meant for these
abbrev pub AreReadAs : {T : Type 0} → ℕ → (File → File → T → Type 0) → Option (List ℕ)
    → Option (List ℕ) → Option (List ℕ) → Option (List ℕ) → T → Type 0
AreReadAs limit Means old new other_old other_new value =
    IsReadAs (λ bytes. Accepts bytes limit)
    (λ f. IsReadAs (λ bytes. Accepts bytes limit) (Means f) other_old other_new) old new value

-- What a call that reads two files tells: r and s are the readers before it, and rest and other
-- after it. An error says `first` of the first file's bytes, and `second` of the second one's.
pub record ReadsPair {R S T E : Type 0} (left : R → Option (List ℕ)) (failed : R → Bool)
    (left_of : S → Option (List ℕ)) (failed_of : S → Bool) (limit : ℕ)
    (Means : File → File → Result T E → Type 0) (first second : E → Verdict) (Own : E → Type 0)
    (r : R) (s : S) (result : Result T E) (rest : R) (other : S) : Type 0 where
  -- what is said of the first file's bytes
  pub verdict : Judges (λ _. Accepted) limit (left r) (left rest) (failed rest)
      (verdict_by first result)
  -- and where that file is taken, of the second one's
  pub other_verdict : verdict_by first result ≡ Accepted
      → Judges (λ _. Accepted) limit (left_of s) (left_of other) (failed_of other)
      (verdict_by second result)
  -- else that isn't read
  pub unread : verdict_by first result ≢ Accepted → other ≡ s
  -- where both are taken, the result is what is meant for them
  pub answer : verdict_by first result ≡ Accepted → verdict_by second result ≡ Accepted
      → AreReadAs limit Means (left r) (left rest) (left_of s) (left_of other) result
  -- which errors it has
  pub own : IfErr result Own
