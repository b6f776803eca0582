-- Part of what is promised.
-- What is told of an error: the path of the file that it is about, and the place where reading that
-- file stopped.
use Rattle.std.specs.Prelude.{◌≡◌, ℕ, List, Option, None, IfSome, slice_get}
use Rattle.aig_command_line.specs.Faults.{IsAlone, error_of, path_of, place_in}
use Rattle.aig_command_line.specs.declared.fault.Fault.{Fault}
use Rattle.aig_command_line.specs.declared.placed.Placed.{Placed}
use Rattle.aig_edit_commands.specs.declared.subjects.Subject.{Subject}
use Rattle.aig_edit_commands.specs.declared.subjects.Subject.TheVariants as subjects
use Rattle.aig_edit_commands.specs.declared.acting.CommandError.{CommandError}
use Rattle.aig_edit_commands.specs.declared.command.Command.{Command}
use Rattle.aig_edit_commands.specs.Subjects.{about_error}
use Rattle.aig_edit_commands.specs.CommandWords.{IsCall}

-- the path of what an error is about, if it is about a file
abbrev pub word_of : Subject → List (List ℕ) → Option (List ℕ)
word_of subjects.Nothing paths = None
word_of subjects.File paths = slice_get paths 0
word_of subjects.Other paths = slice_get paths 1

-- the error is told with the path of what it is about, and its place there
pub record TellsPlaced (paths : List (List ℕ)) (e : Placed CommandError)
    (fault : Fault CommandError)
    : Type 0 where
  pub error : error_of fault ≡ e.error
  pub path : path_of fault ≡ word_of (about_error e.error) paths
  pub place : IfSome (path_of fault) (λ p. place_in fault ≡ e.place)

-- the error is told, of the words' command where there is one
pub record TellsOf (words : List (List ℕ)) (e : Placed CommandError) (fault : Fault CommandError)
    : Type 0 where
  pub error : error_of fault ≡ e.error
  pub told : (limit : ℕ) (c : Command) (paths : List (List ℕ)) → IsCall words limit c paths
      → TellsPlaced paths e fault

-- the error is told of no file
abbrev pub IsToldAlone : Placed CommandError → Fault CommandError → Type 0
IsToldAlone e fault = IsAlone e.error fault
