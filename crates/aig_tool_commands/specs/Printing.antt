-- Serves private clauses alone.
-- What is printed of a circuit: the bytes, a beginning of them, or nothing.
use Rattle.std.specs.Prelude.{◌≡◌, ◌⊎◌, ℕ, Bool, false, List, Option, Result, Ok, Err, IfErr, IsErrOf}
use Rattle.std.specs.Io.KnownBytes.{Appends}
use Rattle.aig_base.specs.declared.logic.literal.Lit.{Lit}
use Rattle.aig_circuit.specs.Circuit.{Circuit}
use Rattle.aig_cnf.specs.Cnf.{HasClauses}
use Rattle.aig_dimacs.specs.Text.{IsTextWith}
use Rattle.aig_encode.specs.declared.error.EncodeError.TheVariants as encode
use Rattle.aig_format.specs.Circuit.{binary_of, text_of}
use Rattle.aig_output.specs.Sinks.{Stops}
use Rattle.aig_strash.specs.Strash.{strashed}
use Rattle.aig.specs.declared.aiger.WriteError.TheVariants as write
use Rattle.aig_tool_commands.specs.declared.command.Command.{Command}
use Rattle.aig_tool_commands.specs.declared.command.Command.TheVariants as commands
use Rattle.aig_tool_commands.specs.declared.tool.ToolError.{ToolError}
use Rattle.aig_tool_commands.specs.declared.tool.ToolError.TheVariants as errors
use Rattle.aig_reader.specs.Verdicts.{Short}
use Rattle.aig_tool_commands.specs.Running.{IsErrorOf, verdict_of}

-- the bytes that a command that makes no clauses prints of a circuit
abbrev pub bytes_of : Command → Circuit → List ℕ
bytes_of commands.Binary circuit = binary_of circuit
bytes_of commands.Strash circuit = text_of (strashed circuit)
bytes_of c circuit = text_of circuit

-- The bytes are held, or after a failed write a beginning of them. Before anything is written
-- memory may run out, by an error of the command.
abbrev pub PrintsBytes : {W : Type 0} → (W → Option (List ℕ)) → (W → Bool) → Command → List ℕ → W
    → Result Unit ToolError → W → Type 0
PrintsBytes held failed c bytes w (Ok done) made =
    Appends (held w) (held made) bytes × (failed made ≡ false)
PrintsBytes held failed c bytes w (Err e) made =
    ((e ≡ errors.Write write.Stream) × Stops (held w) (held made) (failed made) bytes)
    ⊎ ((verdict_of e ≡ Short) × IsErrorOf c e × (made ≡ w))

-- Memory runs out before anything is written, or the text of the circuit's clauses and further ones
-- is, or a beginning of it.
abbrev pub PrintsClauses : {W : Type 0} → (W → Option (List ℕ)) → (W → Bool) → Circuit → Bool
    → List (List Lit) → W → Result Unit ToolError → W → Type 0
PrintsClauses held failed c optimize extra w result made =
    (IsErrOf result (errors.Encode encode.Memory) × (made ≡ w))
    ⊎ (IfErr result (λ e. e ≡ errors.Write write.Stream)
    × (lists : List (List (List Lit))) × HasClauses c optimize lists
    × IsTextWith held failed w result lists extra made)
