-- Part of what is promised.
-- What the program does with its words. Files are read as a trait says: the bytes at a path where
-- they are known, the bytes that are left, and whether a read failed. Of what is written to it says
-- the bytes held, whether a write failed, and whether all of them are in their place.
use Rattle.std.specs.Prelude.{◌≡◌, ◌≢◌, ◌↔◌, ℕ, Bool, IsTrue, List, ◌∷◌, Option, None, Some, Result, Ok, Err, IfErr, IsOk, OnOk, if◌then◌else◌}
use Rattle.aig_command_line.specs.declared.status.Ending.{Ending}
use Rattle.aig_command_line.specs.declared.status.Ending.TheVariants as endings
use Rattle.aig_command_line.specs.Ending.{ended}
use Rattle.aig_command_line.specs.declared.files.OpenError.{OpenError}
use Rattle.aig_command_line.specs.declared.files.OpenError.TheVariants as opening
use Rattle.aig_reader.specs.declared.error.ReadError.TheVariants as read
use Rattle.aig.specs.declared.aiger.WriteError.{WriteError}
use Rattle.aig.specs.declared.aiger.WriteError.TheVariants as write
use Rattle.aig_tool_commands.specs.declared.command.Command.{Command}
use Rattle.aig_tool_commands.specs.declared.command.Command.TheVariants as commands
use Rattle.aig_tool_commands.specs.declared.tool.TheConstants.{LIMIT}
use Rattle.aig_tool_commands.specs.declared.tool.ToolError.{ToolError}
use Rattle.aig_tool_commands.specs.declared.tool.ToolError.TheVariants as errors
use Rattle.aig_tool_commands.specs.Running.{Runs}
use Rattle.aig_tool_commands.specs.CommandWords.{Give, IsCall}

-- what a file that is not opened is refused for
abbrev pub unopened : OpenError → ToolError
unopened opening.Refused = errors.Read read.Open

-- the command was run on the file that was opened, or there is none, and nothing is written
abbrev pub RunsOpened : {F W : Type 0} → (F → Option (List ℕ)) → (F → Bool)
    → (W → Option (List ℕ)) → (W → Bool) → Command → Result F OpenError → W
    → Result Unit ToolError → W → Type 0
RunsOpened {F} left read_failed held write_failed c (Ok file) w result made =
    (rest : F) × Runs left read_failed held write_failed c LIMIT file w result rest made
RunsOpened left read_failed held write_failed c (Err e) w result made =
    (result ≡ Err (unopened e)) × (made ≡ w)

-- the file at the path was opened, and the command run on it
pub record RunsOn {F W : Type 0} (opens : List ℕ → Result F OpenError → Type 0)
    (left : F → Option (List ℕ)) (read_failed : F → Bool) (held : W → Option (List ℕ))
    (write_failed : W → Bool) (c : Command) (path : List ℕ) (w : W) (result : Result Unit ToolError)
    (made : W) : Type 0 where
  pub file : Result F OpenError
  pub opened : opens path file
  pub runs : RunsOpened left read_failed held write_failed c file w result made

-- and after Ok what was printed is flushed
pub record PrintsOn {F W : Type 0} (opens : List ℕ → Result F OpenError → Type 0)
    (left : F → Option (List ℕ)) (read_failed : F → Bool) (held : W → Option (List ℕ))
    (write_failed flushed : W → Bool) (c : Command) (path : List ℕ) (w : W)
    (result : Result Unit ToolError) (made : W) : Type 0 where
  pub runs : RunsOn opens left read_failed held write_failed c path w result made
  pub done : OnOk result (IsTrue (flushed made))

-- The binary form of the file at the path was written to a sink, which is committed after Ok. Else
-- that was refused, or it could not be committed.
pub record WritesTo {F O : Type 0} (opens : List ℕ → Result F OpenError → Type 0)
    (left : F → Option (List ℕ)) (read_failed : F → Bool) (held : O → Option (List ℕ))
    (write_failed committed refused : O → Bool) (path : List ℕ) (out : O)
    (result : Result Unit ToolError) : Type 0 where
  pub written : Result Unit ToolError
  pub made : O
  pub runs : RunsOn opens left read_failed held write_failed commands.Binary path out written made
  pub ok : OnOk result (IsOk written × IsTrue (committed made))
  pub err : IfErr result (λ e. IfErr written (λ x. e ≡ (if refused made then errors.Write write.Open
      else x)) × (IsOk written → ((x : WriteError) × (e ≡ errors.Write x))))

-- the binary form of the file at the path was put where OUT leads: nowhere, to standard output, or
-- to a sink
abbrev pub ConvertsBy : {F W O : Type 0} → (List ℕ → Result F OpenError → Type 0)
    → (F → Option (List ℕ)) → (F → Bool) → (W → Option (List ℕ)) → (W → Bool) → (W → Bool)
    → (O → Option (List ℕ)) → (O → Bool) → (O → Bool) → (O → Bool) → List ℕ
    → Result (Option O) ToolError → W → Result Unit ToolError → W → Type 0
ConvertsBy opens left read_failed held failed flushed held_out out_failed committed refused path
    (Err e) w result made =
    (result ≡ Err e) × (made ≡ w)
ConvertsBy opens left read_failed held failed flushed held_out out_failed committed refused path
    (Ok None) w result made =
    PrintsOn opens left read_failed held failed flushed commands.Binary path w result made
ConvertsBy opens left read_failed held failed flushed held_out out_failed committed refused path
    (Ok (Some out)) w result made =
    WritesTo opens left read_failed held_out out_failed committed refused path out result
    × (made ≡ w)

-- OUT was found, and the file put where it leads
pub record Converts {F W O : Type 0} (opens : List ℕ → Result F OpenError → Type 0)
    (left : F → Option (List ℕ)) (read_failed : F → Bool) (held : W → Option (List ℕ))
    (failed flushed : W → Bool) (held_out : O → Option (List ℕ))
    (out_failed committed refused : O → Bool)
    (leads : List ℕ → Result (Option O) ToolError → Type 0) (path out : List ℕ) (w : W)
    (result : Result Unit ToolError) (made : W) : Type 0 where
  pub found : Result (Option O) ToolError
  pub leads_there : leads out found
  pub converts : ConvertsBy opens left read_failed held failed flushed held_out out_failed committed
      refused path found w result made

-- a command was run on its paths: FILE, and of `binary` OUT
pub record Acts {F W O : Type 0} (opens : List ℕ → Result F OpenError → Type 0)
    (left : F → Option (List ℕ)) (read_failed : F → Bool) (held : W → Option (List ℕ))
    (failed flushed : W → Bool) (held_out : O → Option (List ℕ))
    (out_failed committed refused : O → Bool)
    (leads : List ℕ → Result (Option O) ToolError → Type 0) (c : Command) (paths : List (List ℕ))
    (w : W) (result : Result Unit ToolError) (made : W) : Type 0 where
  pub prints : (file : List ℕ) (rest : List (List ℕ)) → paths ≡ file ∷ rest → c ≢ commands.Binary
      → PrintsOn opens left read_failed held failed flushed c file w result made
  pub converts : (file out : List ℕ) (rest : List (List ℕ)) → paths ≡ file ∷ out ∷ rest
      → c ≡ commands.Binary
      → Converts opens left read_failed held failed flushed held_out out_failed committed refused
      leads file out w result made

-- what the words ask for was done, and how the program ends by it
pub record Obeys {F W O : Type 0} (opens : List ℕ → Result F OpenError → Type 0)
    (left : F → Option (List ℕ)) (read_failed : F → Bool) (held : W → Option (List ℕ))
    (failed flushed : W → Bool) (held_out : O → Option (List ℕ))
    (out_failed committed refused : O → Bool)
    (leads : List ℕ → Result (Option O) ToolError → Type 0) (words : List (List ℕ)) (w : W)
    (ending : Ending ToolError) (made : W) : Type 0 where
  -- they give no command exactly where it ends so
  pub none : (ending ≡ endings.NoCommand) ↔ ((c : Command) → ¬ Give words c)
  pub kept : ending ≡ endings.NoCommand → made ≡ w
  -- and else the command that they give was run on its paths
  pub acts : (c : Command) (paths : List (List ℕ)) → IsCall words c paths
      → (done : Result Unit ToolError) × (ending ≡ ended done)
      × Acts opens left read_failed held failed flushed held_out out_failed committed refused
      leads c paths w done made
