-- Serves private clauses alone.
-- What a fault tells.
use Rattle.std.specs.Prelude.{Result, Ok, Err}
use Rattle.aig_format.specs.declared.FileKind.{FileKind}
use Rattle.aig_format.specs.declared.FileKind.TheVariants.{Text, Binary}
use Rattle.aig_reader.specs.declared.error.Section.{Section}
use Rattle.aig_reader.specs.declared.error.Section.TheVariants as sections
use Rattle.aig_lexer.specs.declared.error.LineError.{LineError}
use Rattle.aig_lexer.specs.declared.error.LineError.TheVariants as line
use Rattle.aig_lexer.specs.Faults.{Cause, Memory, Never, Other, Stream}
use Rattle.aig_reader.specs.declared.error.ReadError.{ReadError}
use Rattle.aig_reader.specs.declared.error.ReadError.TheVariants as errors

-- why a file isn't read
abbrev pub read_cause : ReadError → Cause
read_cause errors.Memory = Memory
read_cause errors.Stream = Stream
read_cause e = Other

-- why the sections after its header line aren't
abbrev pub section_cause : ReadError → Cause
section_cause errors.Memory = Memory
section_cause errors.Stream = Stream
section_cause (errors.Syntax section) = Other
section_cause (errors.Literal section) = Other
section_cause errors.Delta = Other
section_cause e = Never

-- a fault in a name
abbrev pub name_error_of : LineError → ReadError
name_error_of line.Memory = errors.Memory
name_error_of line.Stream = errors.Stream
name_error_of e = errors.Name

-- a fault in a line of this section
abbrev pub error_in : Section → LineError → ReadError
error_in section line.Memory = errors.Memory
error_in section line.Stream = errors.Stream
error_in section line.Syntax = errors.Syntax section
error_in section line.Literal = errors.Literal section

-- a fault in the gates of a file of this kind
abbrev pub gate_error_in : FileKind → LineError → ReadError
gate_error_in Text e = error_in sections.Gates e
gate_error_in Binary line.Memory = errors.Memory
gate_error_in Binary line.Stream = errors.Stream
gate_error_in Binary line.Syntax = errors.Delta
gate_error_in Binary line.Literal = errors.Delta

-- an answer whose fault is seen otherwise
abbrev pub result_by : {T E : Type 0} → (E → ReadError) → Result T E → Result T ReadError
result_by fault (Ok x) = Ok x
result_by fault (Err e) = Err (fault e)
