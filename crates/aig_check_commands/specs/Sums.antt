-- Part of what is promised.
-- Sums of the bytes that came of a source. (SHA-256: FIPS 180-4.)
use Rattle.std.specs.Prelude.{◌≡◌, ℕ, Bool, false, List, Option, Some, IfSome}
use Rattle.std.specs.Io.KnownBytes.{Consumes}
use Rattle.aig_circuit.specs.Circuit.{Circuit}
use Rattle.aig_format.specs.Circuit.{text_of}
use Rattle.aig_subjects.specs.declared.subject.FileSubject.{FileSubject}
use Rattle.aig_subjects.specs.declared.subject.FileSubject.TheVariants.{Own}
use Rattle.sha2.specs.Hashers.{Holds256}
use Rattle.sha2.specs.Sha256.{sha256}
use Rattle.sha2.specs.declared.Sha256.{Sha256}

-- The hasher holds the bytes that came. Where it is known which there were at the start, these are
-- the first of them, and the others are left, where no read failed.
pub record Sums (start left : Option (List ℕ)) (failed : Bool) (hasher : Sha256) : Type 0 where
  pub came : List ℕ
  pub holds : Holds256 hasher came
  pub now : failed ≡ false → Consumes start left came

-- where the bytes are known, it is their sum
abbrev pub IsSum : Option (List ℕ) → List ℕ → Type 0
IsSum known sum = IfSome known (λ bytes. sum ≡ sha256 bytes)

-- the text that is summed for the title: FILE's, of these bytes, or that of the made circuit
abbrev pub summed_text : FileSubject → Option (List ℕ) → Circuit → Option (List ℕ)
summed_text Own bytes m = bytes
summed_text own bytes m = Some (text_of m)
