-- Part of what is promised.
-- What a call that reads a file, of which a circuit is asked about, and a witness circuit says of
-- their bytes. (Certificates of the hardware model checking competition: resets of a witness
-- circuit may be functions.)
use Rattle.std.specs.Prelude.{◌≡◌, ℕ, Bool, false, List, Option, None, Some, Result, Ok, Err, IfErr, IfSome}
use Rattle.std.specs.Io.KnownBytes.{IsAtEnd}
use Rattle.aig_circuit.specs.Circuit.{Circuit}
use Rattle.aig_edits.specs.Edits.{edit_verdict}
use Rattle.aig_edits.specs.declared.edit_error.EditError.{EditError}
use Rattle.aig_format.specs.File.{File}
use Rattle.aig_format.specs.Fits.{Accepts}
use Rattle.aig_reader.specs.Reading.{IsReadAs}
use Rattle.aig_reader.specs.Resets.{AcceptsWithResets, SaysWhy}
use Rattle.aig_reader.specs.Verdicts.{Accepted, Judges, Verdict}
use Rattle.aig_reader.specs.declared.error.ReadError.{ReadError}
use Rattle.aig_subjects.specs.FileSubjects.{IsFileSubject, IsUnmadeFile}
use Rattle.aig_subjects.specs.declared.subject.FileSubject.{FileSubject}

-- the part of a result's error that is of one of the files, if it is
abbrev pub part_of : {A T E : Type 0} → (E → Option A) → Result T E → Option A
part_of part (Ok x) = None
part_of part (Err e) = part e

-- what is said of the file's bytes
abbrev pub file_verdict : Option EditError → Verdict
file_verdict None = Accepted
file_verdict (Some e) = edit_verdict e

-- the bytes that were taken are a file, and a witness circuit whose resets may be functions, and
-- the value is what is meant for these
abbrev pub AreTakenAs : {T : Type 0} → ℕ → (File → File → T → Type 0) → Option (List ℕ)
    → Option (List ℕ) → Option (List ℕ) → Option (List ℕ) → T → Type 0
AreTakenAs limit Means old new other_old other_new value =
    IsReadAs (λ bytes. Accepts bytes limit)
    (λ f. IsReadAs (AcceptsWithResets limit) (Means f) other_old other_new) old new value

-- What a call that reads a file and a witness circuit tells: r and s are the readers before it, and
-- rest and other after it. An error says by `of_file` why the file is refused or its circuit isn't
-- made, if so, and by `refusal` why the witness circuit is refused, if it is.
pub record ReadsWitness {R S T E : Type 0} (left : R → Option (List ℕ)) (failed : R → Bool)
    (left_of : S → Option (List ℕ)) (failed_of : S → Bool) (limit : ℕ) (own : FileSubject)
    (Means : File → File → Result T E → Type 0) (of_file : E → Option EditError)
    (refusal : E → Option ReadError) (Own : E → Type 0) (r : R) (s : S) (result : Result T E)
    (rest : R) (other : S) : Type 0 where
  -- what is said of the file's bytes
  pub verdict : Judges (λ _. Accepted) limit (left r) (left rest) (failed rest)
      (file_verdict (part_of of_file result))
  -- where nothing is made of a file that is taken, it is said why
  pub unmade : IfSome (part_of of_file result)
      (λ e. edit_verdict e ≡ Accepted
      → IsReadAs (λ bytes. Accepts bytes limit) (IsUnmadeFile own) (left r) (left rest) e)
  -- the witness circuit isn't read then
  pub unread : IfSome (part_of of_file result) (λ _. other ≡ s)
  -- else the circuit is made of the file that is taken
  pub made : part_of of_file result ≡ None
      → IsReadAs (λ bytes. Accepts bytes limit) (λ f _. (m : Circuit) × IsFileSubject own f m)
      (left r) (left rest) (tt {0})
  -- then the witness circuit is refused only for its bytes, for memory or for a failed read
  pub refused : part_of of_file result ≡ None
      → IfSome (part_of refusal result)
      (SaysWhy (AcceptsWithResets limit) limit (left_of s) (failed_of other))
  -- where both are taken, the witness circuit was read to its end, with no failed read
  pub whole : part_of of_file result ≡ None → part_of refusal result ≡ None
      → (failed_of other ≡ false) × IsAtEnd (left_of other)
  -- and the result is what is meant for them
  pub answer : part_of of_file result ≡ None → part_of refusal result ≡ None
      → AreTakenAs limit Means (left r) (left rest) (left_of s) (left_of other) result
  -- which errors it has
  pub errors : IfErr result Own
