-- Part of what is promised.
-- What is asked about of one file: the circuit that is made of it, or why there is none, and what
-- the safety of that circuit says of the file. (AIGER 1.9, "Properties": bad states, justice and
-- fairness.)
use Rattle.std.specs.Prelude.{◌≡◌, ℕ, Result, Ok, Err}
use Rattle.aig_circuit.specs.Circuit.{Circuit}
use Rattle.aig_circuit.specs.View.{lists_circuit}
use Rattle.aig_circuit.specs.declared.view.CircuitLists.{CircuitLists}
use Rattle.aig_edit_laws.specs.Fair.{HasFairLasso, HasFairRun}
use Rattle.aig_edit_laws.specs.Rounds.{HasMachineRounds}
use Rattle.aig_edit_laws.specs.Shown.{HasBadAt, HasOutput, HasRun}
use Rattle.aig_edits.specs.Edits.{IsEditRefusal, IsWrittenEdit}
use Rattle.aig_edits.specs.Lives.{IsLiveFile, IsLiveRefusal}
use Rattle.aig_edits.specs.Rounds.{IsRoundsFile, IsRoundsRefusal}
use Rattle.aig_edits.specs.declared.edit_error.EditError.{EditError}
use Rattle.aig_edits.specs.declared.editing.Edit.TheVariants as edits
use Rattle.aig_format.specs.Circuit.{circuit_of}
use Rattle.aig_format.specs.File.{File}
use Rattle.aig_runs.specs.Safety.{IsSafeAt}
use Rattle.aig_subjects.specs.declared.subject.FileSubject.{FileSubject}
use Rattle.aig_subjects.specs.declared.subject.FileSubject.TheVariants.{Live, Outputs, Own, Possible, Property, Rounds}

-- ---- the circuit

-- the circuit of FILE; the limit of an edit is on further steps, of which these edits make none
abbrev pub IsFileSubject : FileSubject → File → Circuit → Type 0
IsFileSubject Own f m = m ≡ circuit_of f
IsFileSubject (Live fairness) f m = IsLiveFile fairness f m
IsFileSubject (Rounds fairness rounds) f m = IsRoundsFile fairness rounds f m
IsFileSubject (Property number) f m = IsWrittenEdit (edits.Property number) 0 f m
IsFileSubject Possible f m = IsWrittenEdit edits.Possible 0 f m
IsFileSubject Outputs f m = IsWrittenEdit edits.Bads 0 f m

-- why there is none
abbrev pub IsUnmadeFile : FileSubject → File → EditError → Type 0
IsUnmadeFile Own f e = ⊥
IsUnmadeFile (Live fairness) f e = IsLiveRefusal fairness f e
IsUnmadeFile (Rounds fairness rounds) f e = IsRoundsRefusal fairness rounds f e
IsUnmadeFile (Property number) f e = IsEditRefusal (edits.Property number) 0 f e
IsUnmadeFile Possible f e = IsEditRefusal edits.Possible 0 f e
IsUnmadeFile Outputs f e = IsEditRefusal edits.Bads 0 f e

-- the lists are those of its circuit, or it is said why there are none
abbrev pub GivesFile : FileSubject → File → Result CircuitLists EditError → Type 0
GivesFile own f (Ok lists) = IsFileSubject own f (lists_circuit lists)
GivesFile own f (Err e) = IsUnmadeFile own f e

-- ---- what its safety says

-- at a step: no bad state is reached there, no fair lasso ends there, so many rounds end in no run
-- to there, the bad literal is true there in no run, no run to there meets the constraints, or no
-- output is true there in one
abbrev pub FileShowsAt : FileSubject → File → ℕ → Type 0
FileShowsAt Own f k = IsSafeAt f k
FileShowsAt (Live fairness) f k = ¬ HasFairLasso f fairness k
FileShowsAt (Rounds fairness rounds) f k = ¬ HasMachineRounds f fairness rounds k
FileShowsAt (Property number) f k = ¬ HasBadAt f number k
FileShowsAt Possible f k = ¬ HasRun f k
FileShowsAt Outputs f k = ¬ HasOutput f k

-- at every step: there is no fair run, or the same is so of each step
abbrev pub FileShowsAlways : FileSubject → File → Type 0
FileShowsAlways (Live fairness) f = ¬ HasFairRun f fairness
FileShowsAlways (Rounds fairness rounds) f = ¬ HasFairRun f fairness
FileShowsAlways own f = (k : ℕ) → FileShowsAt own f k
