-- Part of what is promised.
-- Circuits that are read and written, and the statuses of those that aren't.
use Rattle.std.specs.Prelude.{◌≡◌, ◌≤◌, ◌^◌, ◌⊎◌, ℕ, List, Ok, Err}
use Rattle.aig.specs.Writing.{IsVerdictOf}
use Rattle.aig.specs.declared.aiger.WriteError.{WriteError}
use Rattle.aig.specs.declared.aiger.WriteError.TheVariants as writing
use Rattle.aig_circuit.specs.Circuit.{Circuit}
use Rattle.aig_format.specs.Circuit.{circuit_of}
use Rattle.aig_format.specs.File.{File}
use Rattle.aig_format.specs.Fits.{Accepts}
use Rattle.aig_reader.specs.Verdicts.{Accepted, IsSettled, IsVerdictOn, verdict_of}
use Rattle.aig_reader.specs.declared.error.ReadError.{ReadError}
use Rattle.aig_giving.specs.Given.{GivesOr}
use Rattle.aig_giving.specs.Statuses.{read_status}
use Rattle.aig_handles.specs.Handles.{Unmet}
use Rattle.aig_giving.specs.declared.status.TheConstants.{MEMORY, UNWRITABLE}
use Rattle.aig_handles.specs.declared.status.TheConstants.{FREE_LEAF, INITIAL_EDGE, LINE_FEED, RANGE}

-- a circuit isn't written; no file is made, and a write to memory stops only for want of memory
abbrev pub write_status : WriteError → ℕ
write_status writing.Memory = MEMORY
write_status writing.Stream = MEMORY
write_status writing.Open = MEMORY
write_status writing.FreeLeaf = FREE_LEAF
write_status writing.InitialEdge = INITIAL_EDGE
write_status writing.Name = LINE_FEED
write_status writing.TooLarge = UNWRITABLE

-- there is such a limit
abbrev pub IsLimit : ℕ → Type 0
IsLimit limit = (1 ≤ limit) × (limit ≤ 2 ^ 31)

-- there is such a limit, and the circuit is that of the file which the bytes are
abbrev pub IsReadFrom : List ℕ → ℕ → Circuit → Type 0
IsReadFrom bytes limit c =
    IsLimit limit × ((f : File) × Accepts bytes limit f × (c ≡ circuit_of f))

-- the status is that of an error which says why the bytes are no file that is taken
pub record IsUnread (bytes : List ℕ) (limit status : ℕ) : Type 0 where
  pub error : ReadError
  pub told : status ≡ read_status error
  pub why : IsSettled (verdict_of error)
      → IsVerdictOn (λ _. Accepted) limit bytes (verdict_of error)

-- there is no such limit; or there is, and the bytes are no file that is taken; or memory was
-- refused
abbrev pub RefusesFile : List ℕ → ℕ → ℕ → Type 0
RefusesFile bytes limit status =
    Unmet RANGE status (IsLimit limit) ⊎ (IsLimit limit × IsUnread bytes limit status)
    ⊎ (status ≡ MEMORY)

-- the status is that of the first refusal that the circuit has, or memory was refused
pub record IsUnwritten (c : Circuit) (status : ℕ) : Type 0 where
  pub error : WriteError
  pub told : status ≡ write_status error
  pub verdict : IsVerdictOf c (Err error)

-- its form is given, where it has one
abbrev pub GivesForm : (Circuit → List ℕ) → ℕ → List ℕ → List ℕ → ℕ → ℕ → Circuit → Type 0
GivesForm form status old new before needed c =
    GivesOr (λ bytes. (bytes ≡ form c) × IsVerdictOf c (Ok tt)) status old new before needed
    (IsUnwritten c status)
