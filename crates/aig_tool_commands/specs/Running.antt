-- Part of what is promised.
-- What a command does with the bytes of a file: what it puts into its writer, and why it refuses a
-- file.
use Rattle.std.specs.Prelude.{◌≡◌, ◌≢◌, ℕ, Bool, false, List, [], ◌++◌, length, Option, Some, None, Result, IfErr, IsErrOf, OnOk}
use Rattle.std.specs.Io.KnownBytes.{Appends}
use Rattle.aig_base.specs.declared.logic.literal.Lit.{Lit}
use Rattle.aig_dimacs.specs.Reading.{parse_formula}
use Rattle.aig_base.specs.Formula.{clauses_in}
use Rattle.aig_dimacs.specs.Text.{dimacs_of}
use Rattle.aig_format.specs.Circuit.{binary_of, circuit_of, text_of}
use Rattle.aig_format.specs.File.{File}
use Rattle.aig_format.specs.Fits.{Accepts}
use Rattle.aig_reader.specs.declared.error.ReadError.TheVariants as read
use Rattle.aig_reader.specs.Reading.{IsReadAs}
use Rattle.aig_reader.specs.Verdicts as reading
use Rattle.aig_reader.specs.Verdicts.{Accepted, Judges, Short, Verdict, verdict_by}
use Rattle.aig_runs.specs.Encodes.{Encodes}
use Rattle.aig_strash.specs.Strash.{strashed}
use Rattle.aig_output.specs.Sinks.{Stops}
use Rattle.aig.specs.declared.aiger.WriteError.TheVariants as write
use Rattle.aig_encode.specs.declared.encoding.Encoded.{Encoded}
use Rattle.aig_encode.specs.declared.query_clauses.Query.{Query}
use Rattle.aig_encode.specs.declared.error.EncodeError.TheVariants as encode
use Rattle.aig_encode.specs.Encoding as encoding
use Rattle.aig_encode.specs.Encoding.{IsQuery, encoded_verdict}
use Rattle.aig_tool_commands.specs.declared.command.Command.{Command}
use Rattle.aig_tool_commands.specs.declared.command.Command.TheVariants as commands
use Rattle.aig_tool_commands.specs.declared.tool.ToolError.{ToolError}
use Rattle.aig_tool_commands.specs.declared.tool.ToolError.TheVariants as errors

-- ---- answers

-- the text of the variables' clauses and then further ones, from which a plain reader reads just
-- these again
pub record IsTextOf (lists : List (List (List Lit))) (extra : List (List Lit)) (text : List ℕ)
    : Type 0 where
  pub exact : text ≡ dimacs_of (length lists) (clauses_in lists ++ extra)
  pub again : parse_formula text ≡ Some (length lists, clauses_in lists ++ extra)

-- what the command puts into its writer for the file
abbrev pub Answers : Command → File → List ℕ → Type 0
Answers commands.Text f text = text ≡ text_of (circuit_of f)
Answers commands.Binary f text = text ≡ binary_of (circuit_of f)
Answers commands.Strash f text = text ≡ text_of (strashed (circuit_of f))
Answers (commands.Cnf k optimize) f text =
    (e : Encoded) × Encodes f k optimize e.circuit e.unrolled e.clauses
    × IsTextOf e.clauses [] text
Answers (commands.Query k optimize) f text =
    (q : Query) × IsQuery k optimize f q × IsTextOf q.encoded.clauses q.extra text

-- ---- files

-- how many further steps the command makes, if it makes clauses
abbrev pub steps_of : Command → Option ℕ
steps_of commands.Text = None
steps_of commands.Binary = None
steps_of commands.Strash = None
steps_of (commands.Cnf k optimize) = Some k
steps_of (commands.Query k optimize) = Some k

-- the verdict on a file that fits: it is taken, if its further steps are within the limit, where
-- there are any
abbrev pub file_verdict : Option ℕ → ℕ → File → Verdict
file_verdict None limit f = Accepted
file_verdict (Some k) limit f = encoded_verdict limit k f

-- the bytes are this file, and the command takes it
abbrev pub TakesFile : Command → ℕ → List ℕ → File → Type 0
TakesFile c limit bytes f = Accepts bytes limit f × (file_verdict (steps_of c) limit f ≡ Accepted)

-- the bytes that were taken are a file that the command takes, and this holds of what it puts into
-- its writer for that file
abbrev pub AnswersFile : Command → ℕ → Option (List ℕ) → Option (List ℕ) → (List ℕ → Type 0)
    → Type 0
AnswersFile c limit old new Holds =
    (text : List ℕ) × IsReadAs (TakesFile c limit) (Answers c) old new text × Holds text

-- ---- errors

-- what an error says of the bytes: one of the writer, that they are a file that is taken
abbrev pub verdict_of : ToolError → Verdict
verdict_of (errors.Read e) = reading.verdict_of e
verdict_of (errors.Encode e) = encoding.verdict_of e
verdict_of errors.Memory = Short
verdict_of (errors.Write write.Memory) = Short
verdict_of (errors.Write e) = Accepted

-- the command has this error
abbrev pub IsErrorOf : Command → ToolError → Type 0
IsErrorOf c (errors.Read e) = (steps_of c ≡ None) × (e ≢ read.Open)
IsErrorOf c (errors.Encode e) = (steps_of c ≢ None) × (e ≢ encode.Read read.Open)
IsErrorOf c errors.Memory = c ≡ commands.Strash
IsErrorOf c (errors.Write write.Memory) = c ≡ commands.Binary
IsErrorOf c (errors.Write write.Stream) = Unit {0}
IsErrorOf c (errors.Write e) = ⊥

-- ---- runs

-- What a command does: r and w are the reader and the writer before it, rest and made after it.
pub record Runs {R W : Type 0} (left : R → Option (List ℕ)) (read_failed : R → Bool)
    (held : W → Option (List ℕ)) (write_failed : W → Bool) (c : Command) (limit : ℕ) (r : R) (w : W)
    (result : Result Unit ToolError) (rest : R) (made : W) : Type 0 where
  -- what is said of the bytes
  pub verdict : Judges (file_verdict (steps_of c) limit) limit (left r) (left rest)
      (read_failed rest) (verdict_by verdict_of result)
  -- which errors it has
  pub own : IfErr result (IsErrorOf c)
  -- its answer to the file that was read is written, and the writer has not failed
  pub ok : OnOk result (AnswersFile c limit (left r) (left rest)
      (λ text. Appends (held w) (held made) text × (write_failed made ≡ false)))
  -- a beginning of it is, and the writer has failed
  pub stopped : IsErrOf result (errors.Write write.Stream)
      → AnswersFile c limit (left r) (left rest) (Stops (held w) (held made) (write_failed made))
  -- every other refusal leaves the writer as it was
  pub kept : IfErr result (λ e. e ≢ errors.Write write.Stream → made ≡ w)
