-- Part of what is promised.
-- What a call says of the bytes that it reads.
use Rattle.std.specs.Prelude.{◌≡◌, ℕ, ◌↔◌, Bool, false, IsTrue, List, Option, IfSome, Result, Ok, Err}
use Rattle.std.specs.Io.KnownBytes.{IsAtEnd}
use Rattle.aig_format.specs.File.{File}
use Rattle.aig_format.specs.Fits as fits
use Rattle.aig_format.specs.Fits.{Accepts}
use Rattle.aig_reader.specs.declared.error.ReadError.{ReadError}
use Rattle.aig_reader.specs.declared.error.ReadError.TheVariants as errors
use Rattle.aig_reader.specs.Reading.{IsReadAs}

-- what a call says of the bytes that it reads
pub data Verdict : Type 0 where
  -- they are a file that is taken
  Accepted : Verdict
  -- the header line is good and passes the limit
  TooMany : Verdict
  -- a file whose further steps may pass the limit
  TooLarge : Verdict
  -- a file of which nothing is asked
  NoBads : Verdict
  -- a file whose window has more variables than the limit
  Crowded : Verdict
  -- no file that fits, for another reason
  Refused : Verdict
  -- memory ran out after a file was read that would be taken
  Short : Verdict
  -- nothing: memory ran out while they were read
  Memory : Verdict
  -- nothing: a read failed
  Stream : Verdict

-- it is said of a file
abbrev pub IsOfFile : Verdict → Type 0
IsOfFile Accepted = Unit {0}
IsOfFile TooLarge = Unit {0}
IsOfFile NoBads = Unit {0}
IsOfFile Crowded = Unit {0}
IsOfFile Short = Unit {0}
IsOfFile v = ⊥

-- neither memory nor the stream hides the verdict
abbrev pub IsSettled : Verdict → Type 0
IsSettled Short = ⊥
IsSettled Memory = ⊥
IsSettled Stream = ⊥
IsSettled v = Unit {0}

-- ---- files and bytes

-- it is the file's verdict, or Short where the file would be taken
abbrev pub IsSaidOf : (File → Verdict) → File → Verdict → Type 0
IsSaidOf of f Short = of f ≡ Accepted
IsSaidOf of f v = v ≡ of f

-- it is the verdict on these bytes: that of the file which they are, TooMany exactly where the
-- header line passes the limit, and else Refused
pub record IsVerdictOn (of : File → Verdict) (limit : ℕ) (bytes : List ℕ) (v : Verdict) : Type 0
  where
    pub each : (f : File) → Accepts bytes limit f → v ≡ of f
    pub only : IsOfFile v → (f : File) × Accepts bytes limit f
    pub too_many : (v ≡ TooMany) ↔ fits.TooMany bytes limit

-- What a verdict tells of the bytes that the reader has left before and after, and of whether it
-- has failed.
pub record Judges (of : File → Verdict) (limit : ℕ) (old new : Option (List ℕ)) (failed : Bool)
    (v : Verdict) : Type 0 where
  -- of known bytes, memory and the stream aside, it is the verdict on them
  pub exact : IsSettled v → IfSome old (λ bytes. IsVerdictOn of limit bytes v)
  -- what is said of a file comes only after a file was read of which it is said
  pub file : IsOfFile v → IsReadAs (λ bytes. Accepts bytes limit) (IsSaidOf of) old new v
  -- and then no read failed, and the stream was read to its end
  pub whole : IsOfFile v → (failed ≡ false) × IsAtEnd new
  -- Stream only where a read failed in this call
  pub stream : v ≡ Stream → IsTrue failed

-- ---- errors and results

-- what an error of a reading call says
abbrev pub verdict_of : ReadError → Verdict
verdict_of errors.Memory = Memory
verdict_of errors.Stream = Stream
verdict_of errors.TooMany = TooMany
verdict_of e = Refused

-- what a result says, by what its error does
abbrev pub verdict_by : {T E : Type 0} → (E → Verdict) → Result T E → Verdict
verdict_by said (Ok x) = Accepted
verdict_by said (Err e) = said e
