-- Part of what is promised.
-- Which words give which command.
use Rattle.std.specs.Prelude.{◌≡◌, ℕ, Bool, true, List, codes}
use Rattle.aig_command_line.specs.declared.arguments.ArgumentForm.{ArgumentForm}
use Rattle.aig_command_line.specs.declared.arguments.Step.TheVariants.{At}
use Rattle.aig_command_line.specs.Arguments.{Arguments, GivesArguments, of_paths}
use Rattle.aig_tool_commands.specs.declared.command.Action.{Action}
use Rattle.aig_tool_commands.specs.declared.command.Action.TheVariants as actions
use Rattle.aig_tool_commands.specs.declared.command.Command.{Command}
use Rattle.aig_tool_commands.specs.declared.command.Command.TheVariants as commands

-- the word that names a command
abbrev pub name_of : Action → List ℕ
name_of actions.Text = codes "text"
name_of actions.Binary = codes "binary"
name_of actions.Strash = codes "strash"
name_of actions.Cnf = codes "cnf"
name_of actions.Query = codes "query"

-- what comes after it: FILE; FILE and OUT; FILE, K and `raw` or nothing
abbrev pub form_of : Action → ArgumentForm
form_of actions.Text = of_paths 1
form_of actions.Binary = of_paths 2
form_of actions.Strash = of_paths 1
form_of actions.Cnf = record (of_paths 1) { step = At; raw = true }
form_of actions.Query = record (of_paths 1) { step = At; raw = true }

-- the command, with K and the setting
abbrev pub command_of : Action → ℕ → Bool → Command
command_of actions.Text k optimize = commands.Text
command_of actions.Binary k optimize = commands.Binary
command_of actions.Strash k optimize = commands.Strash
command_of actions.Cnf k optimize = commands.Cnf k optimize
command_of actions.Query k optimize = commands.Query k optimize

-- the words give the command, with these paths
pub record IsCall (words : List (List ℕ)) (c : Command) (paths : List (List ℕ)) : Type 0 where
  pub action : Action
  pub arguments : Arguments
  pub gives : GivesArguments (name_of action) (form_of action) words arguments
  pub command : c ≡ command_of action arguments.step arguments.optimize
  pub on : paths ≡ arguments.paths

-- the words give the command
abbrev pub Give : List (List ℕ) → Command → Type 0
Give words c = (paths : List (List ℕ)) × IsCall words c paths
