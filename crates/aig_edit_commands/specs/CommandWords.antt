-- Part of what is promised.
-- Which words give which command.
use Rattle.std.specs.Prelude.{◌≡◌, ℕ, List, None, Option, Some, codes}
use Rattle.aig_command_line.specs.declared.arguments.ArgumentForm.{ArgumentForm}
use Rattle.aig_command_line.specs.declared.arguments.Step.TheVariants.{At}
use Rattle.aig_command_line.specs.Arguments.{AreStep, Arguments, GivesArguments, of_paths}
use Rattle.aig_command_line.specs.Limits.{IsLimited}
use Rattle.aig_edit_laws.specs.declared.fairness.Fairness.TheVariants.{Justice}
use Rattle.aig_edits.specs.Words.{AreConstraints}
use Rattle.aig_edits.specs.declared.editing.Edit.{Edit}
use Rattle.aig_edits.specs.declared.editing.Edit.TheVariants as edits
use Rattle.aig_edits.specs.declared.pairing.Pairing.TheVariants as pairings
use Rattle.aig_join.specs.declared.comparison.Constraints.{Constraints}
use Rattle.aig_join.specs.declared.comparison.Constraints.TheVariants.{OfBoth}
use Rattle.aig_join.specs.declared.starts.Matching.TheVariants.{ByName, ByOrder}
use Rattle.aig_join.specs.declared.starts.Starts.{Starts}
use Rattle.aig_join.specs.declared.starts.Starts.TheVariants.{Alike, Apart}
use Rattle.aig_edit_commands.specs.declared.command.Action.{Action}
use Rattle.aig_edit_commands.specs.declared.command.Action.TheVariants as actions
use Rattle.aig_edit_commands.specs.declared.command.Command.{Command}
use Rattle.aig_edit_commands.specs.declared.command.Command.TheVariants as commands
use Rattle.aig_edit_commands.specs.declared.command.FileCommand.TheVariants as files

-- the word that names a miter whose registers with open start begin so
abbrev pub miter_name : Starts → List ℕ
miter_name Apart = codes "miter"
miter_name (Alike ByOrder) = codes "miter-alike-by-order"
miter_name (Alike ByName) = codes "miter-alike-by-name"

-- the word that names a command
abbrev pub name_of : Action → List ℕ
name_of actions.Refine = codes "refine"
name_of actions.Reencode = codes "reencode"
name_of actions.Unroll = codes "unroll"
name_of actions.Move = codes "move"
name_of actions.Compress = codes "compress"
name_of actions.Bads = codes "bads"
name_of actions.Property = codes "property"
name_of actions.Possible = codes "possible"
name_of actions.Reduce = codes "reduce"
name_of actions.Cone = codes "cone"
name_of actions.Question = codes "question"
name_of actions.Live = codes "live"
name_of actions.Rounds = codes "rounds"
name_of actions.Info = codes "info"
name_of (actions.Miter starts) = miter_name starts
name_of actions.Join = codes "join"
name_of actions.Merge = codes "merge"

-- what comes after it: FILE; FILE and a number; FILE and two; two paths
abbrev pub form_of : Action → ArgumentForm
form_of actions.Unroll = record (of_paths 1) { step = At }
form_of actions.Property = record (of_paths 1) { step = At }
form_of actions.Cone = record (of_paths 1) { step = At }
form_of actions.Question = record (of_paths 1) { step = At }
form_of actions.Live = record (of_paths 1) { step = At }
form_of actions.Rounds = record (of_paths 1) { step = At; further = 1 }
form_of (actions.Miter starts) = of_paths 2
form_of actions.Join = of_paths 2
form_of actions.Merge = of_paths 2
form_of a = of_paths 1

-- the command that prints what an edit makes of a file
abbrev pub edit_by : Edit → Command
edit_by edit = commands.File (files.Edit edit)

-- the command, with its number
abbrev pub command_of : Action → ℕ → Command
command_of actions.Refine k = edit_by edits.Refine
command_of actions.Reencode k = edit_by edits.Reencode
command_of actions.Unroll k = edit_by (edits.Unroll k)
command_of actions.Move k = edit_by edits.Move
command_of actions.Compress k = edit_by edits.Compress
command_of actions.Bads k = edit_by edits.Bads
command_of actions.Property k = edit_by (edits.Property k)
command_of actions.Possible k = edit_by edits.Possible
command_of actions.Reduce k = commands.File files.Reduction
command_of actions.Cone k = edit_by (edits.Cone k)
command_of actions.Question k = commands.File (files.Question k)
command_of actions.Live k = commands.File (files.Live (Justice k))
command_of actions.Rounds k = commands.File (files.Rounds (Justice k) 0)
command_of actions.Info k = commands.File files.Info
command_of (actions.Miter starts) k =
    commands.Pair (pairings.Miter (record { starts = starts; constraints = OfBoth }))
command_of actions.Join k = commands.Pair pairings.Certificate
command_of actions.Merge k = commands.Pair pairings.Merge

-- the command, with its numbers: of `rounds` the second is the further word, and no other takes one
abbrev pub IsCommandOf : Action → ℕ → List (List ℕ) → Command → Type 0
IsCommandOf actions.Rounds k further c =
    (count : ℕ) × AreStep At count further
    × (c ≡ commands.File (files.Rounds (Justice k) count))
IsCommandOf action k further c = c ≡ command_of action k

-- the command with constraints that say this, where it compares
abbrev pub under : Constraints → Command → Option Command
under OfBoth c = Some c
under constraints (commands.Pair (pairings.Miter comparison)) =
    Some (commands.Pair (pairings.Miter (record comparison { constraints = constraints })))
under constraints c = None

-- how many files it is run on
abbrev pub paths_of : Command → ℕ
paths_of (commands.File command) = 1
paths_of (commands.Pair pairing) = 2

-- the words give the limit, then what constraints say, and then the command, with these paths
pub record IsCall (words : List (List ℕ)) (limit : ℕ) (c : Command) (paths : List (List ℕ)) : Type 0
  where
    pub rest : List (List ℕ)
    pub limited : IsLimited words limit rest
    pub constraints : Constraints
    pub more : List (List ℕ)
    pub said : AreConstraints constraints rest more
    pub action : Action
    pub arguments : Arguments
    pub gives : GivesArguments (name_of action) (form_of action) more arguments
    -- what the action gives where constraints say what is usual
    pub usual : Command
    pub command : IsCommandOf action arguments.step arguments.further usual
    pub compares : under constraints usual ≡ Some c
    pub on : paths ≡ arguments.paths
