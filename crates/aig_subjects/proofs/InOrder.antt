-- What is told of files that are read in order, from what is told of each.
use Rattle.aig_base.proofs.Words.{◌≡◌, ◌≢◌, ℕ, Bool, List, [], ◌∷◌, Option, refl, replicate, suc, zero}
use Rattle.aig_format.proofs.Words.{Accepts, File}
use Rattle.aig_reader.specs.Reading.{IsReadAs}
use Rattle.aig_reader.specs.Verdicts.{Accepted, Judges, Verdict}
use Rattle.aig_subjects.specs.Reads.{AreAccepted, AreReadAs}

module _ {S T : Type 0} (left : S → Option (List ℕ)) (failed : S → Bool) (limit : ℕ) where
  -- a verdict is said of the first file, and where it is taken, the others are read
  pub first_said : (Means : List File → T → Type 0) (v : Verdict) (said : List Verdict) (r rest : S)
      (before after : List S) (value : T)
      → Judges (λ _. Accepted) limit (left r) (left rest) (failed rest) v
      → (v ≡ Accepted → IsReadAs (λ bytes. Accepts bytes limit)
      (λ f. AreReadAs left failed limit (λ files. Means (f ∷ files)) said before after) (left r)
      (left rest) value)
      → (v ≢ Accepted → Means [] value) → (v ≢ Accepted → after ≡ before)
      → AreReadAs left failed limit Means (v ∷ said) (r ∷ before) (rest ∷ after) value
  first_said Means Accepted said r rest before after value told read refused unread =
      (told, read refl)
  first_said Means v said r rest before after value told read refused unread =
      (told, refused (λ is. absurd cc), unread (λ is. absurd cc))

  -- where all are taken, they are files, for which it is meant
  pub all_read : (n : ℕ) (Means : List File → T → Type 0) (before after : List S) (value : T)
      → AreReadAs left failed limit Means (replicate n Accepted) before after value
      → (files : List File) × AreAccepted limit files × Means files value
  all_read zero Means before after value told = ([], tt, told.0)
  all_read (suc n) Means (r ∷ before) (rest ∷ after) value told =
      let read = told.1 in
      let more = all_read n (λ files. Means (read.file ∷ files)) before after value read.means in
      (read.file ∷ more.0, ((read.bytes, read.holds), more.1), more.2)
  all_read (suc n) Means [] after value told = absurd told
  all_read (suc n) Means (r ∷ before) [] value told = absurd told

module _ {S T X : Type 0} (left : S → Option (List ℕ)) (failed : S → Bool) (limit : ℕ) where
  -- a call goes on from what another told of the same files
  pub files_on : (said : List Verdict) (Means : List File → T → Type 0)
      (Also : List File → X → Type 0) (before after : List S) (value : T) (made : X)
      → AreReadAs left failed limit Means said before after value
      → ((files : List File) → AreAccepted limit files → Means files value → Also files made)
      → AreReadAs left failed limit Also said before after made
  files_on [] Means Also before after value made told so = (so [] tt told.0, told.1)
  files_on (Accepted ∷ said) Means Also (r ∷ before) (rest ∷ after) value made told so =
      let read = told.1 in (
        told.0,
        record {
          file = read.file;
          bytes = read.bytes;
          holds = read.holds;
          means = files_on said (λ files. Means (read.file ∷ files))
              (λ files. Also (read.file ∷ files)) before after value made read.means
              (λ files are. so (read.file ∷ files) ((read.bytes, read.holds), are));
          taken = read.taken;
        },
      )
  files_on (v ∷ said) Means Also (r ∷ before) (rest ∷ after) value made told so =
      (told.0, so [] tt told.1, told.2)
  files_on said Means Also before after value made told so = absurd told
