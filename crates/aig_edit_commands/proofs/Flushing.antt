-- What was printed of files is all there once it is flushed.
use Rattle.aig_base.proofs.Words.{◌≡◌, ℕ, Bool, false, List, Option, Ok, Err, Appends, Keeps}
use Rattle.std.specs.Prelude.{IsTrue}
use Rattle.aig_command_line.proofs.Kept.{appends_kept, stops_unflushed}
use Rattle.aig_format.specs.File.{File}
use Rattle.aig_output.specs.Sinks.{Stops}
use Rattle.aig_edits.specs.declared.edit_error.EditError.TheVariants as edit_errors
use Rattle.aig_edits.specs.declared.pairing.Pairing.{Pairing}
use Rattle.aig_edits.specs.Joints.{StopsJoint, WritesJoint}
use Rattle.aig_edit_commands.specs.declared.command.FileCommand.{FileCommand}
use Rattle.aig_edit_commands.specs.declared.command.FileCommand.TheVariants as files
use Rattle.aig_edit_commands.specs.Acting.{PrintsOfFile}

module _ {W : Type 0} (held : W → Option (List ℕ)) (write_failed : W → Bool) (limit : ℕ) (w made flat : W) (keeps : Keeps (held made) (held flat)) where
  -- ---- of two files

  module _ (pairing : Pairing) where
    -- what was printed of these files is all there
    pub written : (f g : File) → write_failed flat ≡ false
        → WritesJoint held write_failed pairing w made f g
        → WritesJoint held write_failed pairing w flat f g
    written f g sound (m, joint, grows, was) =
        (m, joint, appends_kept (held w) (held made) (held flat) _ grows keeps, sound)

    -- or not
    pub stopped : (f g : File) → IsTrue (write_failed flat)
        → WritesJoint held write_failed pairing w made f g
        → StopsJoint held write_failed pairing w flat f g
    stopped f g lost (m, joint, grows, was) = (
      m,
      joint,
      stops_unflushed (held w) (held made) (held flat) (write_failed flat) _ grows keeps lost,
    )

  -- ---- of one file

  -- a text that could not be flushed
  stops : (text : List ℕ) → Appends (held w) (held made) text → IsTrue (write_failed flat)
      → Stops (held w) (held flat) (write_failed flat) text
  stops text grows lost = stops_unflushed (held w) (held made) (held flat) (write_failed flat) text grows keeps lost

  pub print_flushed : (c : FileCommand) (f : File) (u : Unit {0}) → write_failed flat ≡ false
      → PrintsOfFile held write_failed limit c w made f (Ok u)
      → PrintsOfFile held write_failed limit c w flat f (Ok u)
  print_flushed (files.Edit edit) f u sound (m, written, grows, was) =
      (m, written, appends_kept (held w) (held made) (held flat) _ grows keeps, sound)
  print_flushed files.Reduction f u sound (m, is, grows, was) =
      (m, is, appends_kept (held w) (held made) (held flat) _ grows keeps, sound)
  print_flushed (files.Question k) f u sound (m, asks, grows, was) =
      (m, asks, appends_kept (held w) (held made) (held flat) _ grows keeps, sound)
  print_flushed (files.Live fairness) f u sound (m, is, grows, was) =
      (m, is, appends_kept (held w) (held made) (held flat) _ grows keeps, sound)
  print_flushed (files.Rounds fairness count) f u sound (m, is, grows, was) =
      (m, is, appends_kept (held w) (held made) (held flat) _ grows keeps, sound)
  print_flushed files.Info f u sound (text, is, grows, was) =
      (text, is, appends_kept (held w) (held made) (held flat) text grows keeps, sound)

  pub print_unflushed : (c : FileCommand) (f : File) (u : Unit {0}) → IsTrue (write_failed flat)
      → PrintsOfFile held write_failed limit c w made f (Ok u)
      → PrintsOfFile held write_failed limit c w flat f (Err edit_errors.Write)
  print_unflushed (files.Edit edit) f u lost (m, written, grows, was) =
      (m, written.edit_of, stops _ grows lost)
  print_unflushed files.Reduction f u lost (m, is, grows, was) = (m, is, stops _ grows lost)
  print_unflushed (files.Question k) f u lost (m, asks, grows, was) = (m, asks, stops _ grows lost)
  print_unflushed (files.Live fairness) f u lost (m, is, grows, was) = (m, is, stops _ grows lost)
  print_unflushed (files.Rounds fairness count) f u lost (m, is, grows, was) =
      (m, is, stops _ grows lost)
  print_unflushed files.Info f u lost (text, is, grows, was) = (text, is, stops text grows lost)
