-- What is printed of files that are open, with the place of an error.
use Rattle.aig_base.proofs.Words.{◌≡◌, ℕ, Bool, List, Option, Result, Ok, Err, refl, sym, subst}
use Rattle.std.specs.Prelude.{IsTrue, OnOk}
use Rattle.aig_command_line.specs.Places.{in_whole}
use Rattle.aig_reader.specs.Verdicts.{Accepted, IsOfFile, verdict_by}
use Rattle.aig_reader.proofs.Verdicts.{of_no_file}
use Rattle.aig_edits.specs.declared.edit_error.EditError.{EditError}
use Rattle.aig_edits.specs.declared.edit_error.EditError.TheVariants as edit
use Rattle.aig_edits.specs.declared.pair_error.PairError.{PairError}
use Rattle.aig_edits.specs.declared.pair_error.PairError.TheVariants as errors
use Rattle.aig_edits.specs.declared.pairing.Pairing.{Pairing}
use Rattle.aig_edits.specs.Edits.{IsEditOwn, IsEditUnwritten, ReadsFile, edit_verdict}
use Rattle.aig_edits.specs.Joints.{IsOwn, IsUnwritten, PrintsJoint, first_verdict, second_verdict}
use Rattle.aig_edits.specs.Pairs.{ReadsPair}
use Rattle.aig_edit_commands.specs.declared.command.FileCommand.{FileCommand}
use Rattle.aig_edit_commands.specs.Acting.{PrintsOfFile, PrintsOpen, PrintsPair}

-- an error after the reading is of a file as a whole
pub open_whole : {R W : Type 0} (left : R → Option (List ℕ)) (failed : R → Bool)
    (held : W → Option (List ℕ)) (write_failed flushed : W → Bool) (limit : ℕ) (c : FileCommand)
    (r rest : R) (w made : W) (done : Result (Unit {0}) EditError)
    → ReadsFile left failed limit (PrintsOfFile held write_failed limit c w made) edit_verdict
    IsEditOwn r
    done rest
    → verdict_by edit_verdict done ≡ Accepted → (IsEditUnwritten done → made ≡ w)
    → OnOk done (IsTrue (flushed made))
    → PrintsOpen left failed held write_failed flushed limit c r w (in_whole done) rest made
open_whole left failed held write_failed flushed limit c r rest w made (Ok u) reads taken kept flat =
    record { reads = reads; kept = kept; done = flat; place = tt }
open_whole left failed held write_failed flushed limit c r rest w made (Err (edit.Read e)) reads taken kept flat =
    absurd (of_no_file e (subst IsOfFile (sym taken) tt))
open_whole left failed held write_failed flushed limit c r rest w made (Err e) reads taken kept flat =
    record { reads = reads; kept = kept; done = tt; place = refl }

-- and so of two files
pub pair_whole : {R S W : Type 0} (left : R → Option (List ℕ)) (failed : R → Bool)
    (left_of : S → Option (List ℕ)) (failed_of : S → Bool) (held : W → Option (List ℕ))
    (write_failed flushed : W → Bool) (limit : ℕ) (pairing : Pairing) (r rest : R) (s other : S)
    (w made : W) (done : Result (Unit {0}) PairError)
    → ReadsPair left failed left_of failed_of limit (PrintsJoint held write_failed pairing w made)
    first_verdict second_verdict IsOwn r s done rest other
    → verdict_by first_verdict done ≡ Accepted → verdict_by second_verdict done ≡ Accepted
    → (IsUnwritten done → made ≡ w) → OnOk done (IsTrue (flushed made))
    → PrintsPair left failed left_of failed_of held write_failed flushed limit pairing r s w
    (in_whole done) rest other made
pair_whole left failed left_of failed_of held write_failed flushed limit pairing r rest s other w made (Ok u) reads taken also kept flat =
    record { reads = reads; kept = kept; done = flat; place = tt }
pair_whole left failed left_of failed_of held write_failed flushed limit pairing r rest s other w made (Err (errors.Read e)) reads taken also kept flat =
    absurd (of_no_file e (subst IsOfFile (sym taken) tt))
pair_whole left failed left_of failed_of held write_failed flushed limit pairing r rest s other w made (Err (errors.Other e)) reads taken also kept flat =
    absurd (of_no_file e (subst IsOfFile (sym also) tt))
pair_whole left failed left_of failed_of held write_failed flushed limit pairing r rest s other w made (Err e) reads taken also kept flat =
    record { reads = reads; kept = kept; done = tt; place = refl }
