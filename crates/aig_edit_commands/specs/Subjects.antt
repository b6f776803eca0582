-- Part of what is promised.
-- What an error is about: a file, or none.
use Rattle.aig_edits.specs.declared.edit_error.EditError.{EditError}
use Rattle.aig_edits.specs.declared.edit_error.EditError.TheVariants as edit
use Rattle.aig_edits.specs.declared.pair_error.PairError.{PairError}
use Rattle.aig_edits.specs.declared.pair_error.PairError.TheVariants as pair
use Rattle.aig_reader.specs.declared.error.ReadError.{ReadError}
use Rattle.aig_reader.specs.declared.error.ReadError.TheVariants as read
use Rattle.aig_edit_commands.specs.declared.subjects.Subject.{Subject}
use Rattle.aig_edit_commands.specs.declared.subjects.Subject.TheVariants as subjects
use Rattle.aig_edit_commands.specs.declared.acting.CommandError.{CommandError}
use Rattle.aig_edit_commands.specs.declared.acting.CommandError.TheVariants as refusals

-- a file that is read
abbrev pub about_read : Subject → ReadError → Subject
about_read subject read.Memory = subjects.Nothing
about_read subject e = subject

-- FILE
abbrev pub about_edit : EditError → Subject
about_edit (edit.Read e) = about_read subjects.File e
about_edit edit.Memory = subjects.Nothing
about_edit edit.Write = subjects.Nothing
about_edit e = subjects.File

-- FILE, or the file beside it
abbrev pub about_pair : PairError → Subject
about_pair (pair.Read e) = about_read subjects.File e
about_pair (pair.Other e) = about_read subjects.Other e
about_pair (pair.Misfit m) = subjects.Other
about_pair pair.TooLarge = subjects.File
about_pair pair.Memory = subjects.Nothing
about_pair pair.Write = subjects.Nothing

-- what an error of the program is about
abbrev pub about_error : CommandError → Subject
about_error (refusals.One e) = about_edit e
about_error (refusals.Two e) = about_pair e
about_error refusals.Memory = subjects.Nothing
about_error refusals.Write = subjects.Nothing
