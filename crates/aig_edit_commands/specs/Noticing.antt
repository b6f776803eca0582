-- Part of what is promised.
-- What is told beside an answer.
use Rattle.std.specs.Prelude.{◌≡◌, ◌≢◌, ℕ, Bool, true, false, List, Option, codes}
use Rattle.std.specs.List.{FoldsTo}
use Rattle.aig_command_line.specs.Notices.{lines_of, tells_line}
use Rattle.aig_command_line.specs.declared.notice.Headers.{Headers}
use Rattle.aig_command_line.specs.declared.notice.Regard.{Regard}
use Rattle.aig_command_line.specs.declared.placed.Placed.{Placed}
use Rattle.aig_command_line.specs.declared.status.Ending.{Ending}
use Rattle.aig_command_line.specs.declared.status.Ending.TheVariants.{Done}
use Rattle.aig_edits.specs.declared.editing.Edit.TheVariants as edits
use Rattle.aig_edits.specs.declared.pairing.Pairing.TheVariants as pairings
use Rattle.aig_join.specs.declared.comparison.Constraints.{Constraints}
use Rattle.aig_join.specs.declared.comparison.Constraints.TheVariants.{OfBoth}
use Rattle.aig_edit_commands.specs.declared.acting.CommandError.{CommandError}
use Rattle.aig_edit_commands.specs.declared.command.Command.{Command}
use Rattle.aig_edit_commands.specs.declared.command.Command.TheVariants as commands
use Rattle.aig_edit_commands.specs.declared.command.FileCommand.TheVariants as files
use Rattle.aig_edit_commands.specs.CommandWords.{IsCall}

-- what is made of the files has no justice and fairness, though they may
abbrev pub leaves_out : Regard
leaves_out = record { leaves_out = true; compares = false }

-- it is told that only runs are compared that constraints allow: not where the words say what
-- constraints say
abbrev pub is_within : Constraints → Bool
is_within OfBoth = true
is_within constraints = false

-- what a command does with parts of its files that its answer is not about
abbrev pub regard_of : Command → Regard
regard_of (commands.File (files.Edit (edits.Cone n))) = leaves_out
regard_of (commands.File files.Reduction) = leaves_out
regard_of (commands.File (files.Question k)) = leaves_out
regard_of (commands.Pair pairings.Certificate) = leaves_out
regard_of (commands.Pair (pairings.Miter comparison)) = record {
  leaves_out = true;
  compares = is_within comparison.constraints;
}
regard_of c = record { leaves_out = false; compares = false }

-- where the program is done, each file's lines are told, and else nothing
pub record TellsBeside {T : Type 0} (tells : T → Option (List ℕ) → T → Type 0)
    (words : List (List ℕ)) (headers : Headers) (ending : Ending (Placed CommandError))
    (old new : T) : Type 0 where
  pub done : ending ≡ Done → (limit : ℕ) (c : Command) (paths : List (List ℕ))
      → IsCall words limit c paths
      → FoldsTo (tells_line tells) old (lines_of (codes "aigedit") paths (regard_of c) headers) new
  pub otherwise : ending ≢ Done → new ≡ old
  pub nothing : ((limit : ℕ) (c : Command) (paths : List (List ℕ)) → ¬ IsCall words limit c paths)
      → new ≡ old
