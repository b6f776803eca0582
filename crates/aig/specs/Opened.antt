-- Serves private clauses alone.
-- What is done with a file that is opened or made.
use Rattle.std.specs.Prelude.{◌≡◌, ℕ, Bool, IfOk, List, MatchResult, Option, Result, Ok, Err}
use Rattle.aig_circuit.specs.Circuit.{Circuit}
use Rattle.aig_format.specs.Fits.{Accepts}
use Rattle.aig_output.specs.Sinks.{WritesOrStops}
use Rattle.aig_reader.specs.declared.error.ReadError.{ReadError}
use Rattle.aig_reader.specs.Reading.{IsReadAs}
use Rattle.aig_reader.specs.Verdicts.{Accepted, Judges, verdict_by, verdict_of}
use Rattle.aig.specs.Reading.{IsFileCircuit}
use Rattle.aig.specs.declared.aiger.WriteError.{WriteError}
use Rattle.aig.specs.declared.aiger.WriteError.TheVariants as errors

-- of the bytes that a file has, the result is their circuit, or tells why there is none
pub record ReadsOpened {F : Type 0} (left : F → Option (List ℕ)) (failed : F → Bool) (limit : ℕ)
    (file : F) (result : Result Circuit ReadError) : Type 0 where
  pub after : F
  pub circuit : IfOk result
      (IsReadAs (λ bytes. Accepts bytes limit) IsFileCircuit (left file) (left after))
  pub verdict : Judges (λ _. Accepted) limit (left file) (left after) (failed after)
      (verdict_by verdict_of result)

-- a file is opened, and the result is that of its bytes; or none can be, and the result says so
abbrev pub ReadsFile : {F : Type 0} → (F → Option (List ℕ)) → (F → Bool)
    → (Result F ReadError → Type 0) → ℕ → Result Circuit ReadError → Type 0
ReadsFile {F = F} left failed opens limit result = (opened : Result F ReadError) × opens opened
    × MatchResult opened (λ file. ReadsOpened left failed limit file result) (λ e. result ≡ Err e)

-- a file was made, the text was written to it, or a beginning until it failed, and it was left so
pub record WritesMade {M F : Type 0} (held : F → Option (List ℕ)) (failed : F → Bool)
    (makes : M → Result F WriteError → M → Type 0) (closes : M → F → M → Type 0)
    (old : M) (result : Result Unit WriteError) (text : List ℕ) (new : M) : Type 0 where
  pub made : F
  pub between : M
  pub is_made : makes old (Ok made) between
  pub written : F
  pub writes : WritesOrStops held failed made result text written
  pub is_left : closes between written new

-- after Ok a file has the whole text, and after Stream a beginning; none can be made: Open; any
-- other refusal comes before one is made
abbrev pub WritesFile : {M F : Type 0} → (F → Option (List ℕ)) → (F → Bool)
    → (M → Result F WriteError → M → Type 0) → (M → F → M → Type 0)
    → M → Result Unit WriteError → List ℕ → M → Type 0
WritesFile held failed makes closes old (Ok x) text new =
    WritesMade held failed makes closes old (Ok x) text new
WritesFile held failed makes closes old (Err errors.Stream) text new =
    WritesMade held failed makes closes old (Err errors.Stream) text new
WritesFile held failed makes closes old (Err errors.Open) text new =
    makes old (Err errors.Open) new
WritesFile held failed makes closes old (Err e) text new = new ≡ old
