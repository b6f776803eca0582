-- Part of what is promised.
-- What is told beside an answer.
use Rattle.std.specs.Prelude.{◌≡◌, ◌≢◌, ℕ, Bool, true, false, List, Option, codes, not}
use Rattle.std.specs.List.{FoldsTo}
use Rattle.aig_command_line.specs.Notices.{lines_of, tells_line}
use Rattle.aig_command_line.specs.declared.notice.Headers.{Headers}
use Rattle.aig_command_line.specs.declared.notice.Regard.{Regard}
use Rattle.aig_command_line.specs.declared.status.Ending.{Ending}
use Rattle.aig_command_line.specs.declared.status.Ending.TheVariants.{Done}
use Rattle.aig_join.specs.declared.comparison.Constraints.{Constraints}
use Rattle.aig_join.specs.declared.comparison.Constraints.TheVariants.{OfBoth}
use Rattle.aig_subjects.specs.declared.subject.FileSubject.{FileSubject}
use Rattle.aig_subjects.specs.declared.subject.Subject.TheVariants as subjects
use Rattle.aig_check_commands.specs.declared.command.Asked.{Asked}
use Rattle.aig_check_commands.specs.declared.command.Command.{Command}
use Rattle.aig_check_commands.specs.declared.command.Command.TheVariants as commands
use Rattle.aig_check_commands.specs.declared.command.FileCommand.TheVariants as on_file
use Rattle.aig_check_commands.specs.declared.error.CheckError.{CheckError}
use Rattle.aig_check_commands.specs.CommandWords.{IsCall}
use Rattle.aig_check_commands.specs.FileSubjects.{is_fair}

-- justice and fairness are left out, but where fair runs are asked about, and by `run`: it names
-- the property that the witness shows, and in a fair lasso it looks at both
abbrev pub leaves_out : FileSubject → Command → Bool
leaves_out own (commands.File on_file.Run) = false
leaves_out own c = not (is_fair own)

-- it is told that only runs are compared that constraints allow: not where the words say what
-- constraints say
abbrev pub is_within : Constraints → Bool
is_within OfBoth = true
is_within constraints = false

-- `equal` compares files on runs that constraints allow
abbrev pub compares : Command → Bool
compares (commands.Check (subjects.Miter comparison) goal base step) =
    is_within comparison.constraints
compares (commands.Check (subjects.MiterCertified comparison) goal base step) =
    is_within comparison.constraints
compares c = false

-- what is done with parts of its files that its answer is not about
abbrev pub regard_of : Asked → Regard
regard_of c = record { leaves_out = leaves_out c.subject c.command; compares = compares c.command }

-- where the program is done, each file's lines are told, and else nothing
pub record TellsBeside {T : Type 0} (tells : T → Option (List ℕ) → T → Type 0)
    (words : List (List ℕ)) (headers : Headers) (ending : Ending CheckError) (old new : T) : Type 0
  where
    pub done : ending ≡ Done → (limit : ℕ) (c : Asked) (paths further : List (List ℕ))
        → IsCall words limit c paths further
        → FoldsTo (tells_line tells) old (lines_of (codes "aigcheck") paths (regard_of c) headers) new
    pub otherwise : ending ≢ Done → new ≡ old
    pub nothing : ((limit : ℕ) (c : Asked) (paths further : List (List ℕ))
        → ¬ IsCall words limit c paths further) → new ≡ old
