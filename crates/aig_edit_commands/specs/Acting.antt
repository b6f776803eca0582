-- Part of what is promised.
-- What the program does with its words. Files are read as a trait says: what opening the file at a
-- path may give, the bytes that are left, and whether a read failed. Of what is written to it says
-- the bytes held, whether a write failed, and whether all of them are in their place.
use Rattle.std.specs.Prelude.{◌≡◌, ◌↔◌, ℕ, Bool, IsTrue, List, [], ◌∷◌, ◌++◌, Option, Result, Ok, Err, IfErr, OnOk}
use Rattle.aig_circuit.specs.declared.view.CircuitLists.{CircuitLists}
use Rattle.aig_command_line.specs.declared.help.Help.{Help}
use Rattle.aig_command_line.specs.Help.{word_of}
use Rattle.aig_command_line.specs.declared.files.OpenError.{OpenError}
use Rattle.aig_command_line.specs.declared.files.OpenError.TheVariants as opening
use Rattle.aig_command_line.specs.declared.status.Ending.{Ending}
use Rattle.aig_command_line.specs.declared.status.Ending.TheVariants as endings
use Rattle.aig_command_line.specs.Ending.{WritesLine, ended}
use Rattle.aig_command_line.specs.Places.{IsPlaceOfError, in_whole, unplaced, whole}
use Rattle.aig_command_line.specs.declared.placed.Placed.{Placed}
use Rattle.aig_command_line.specs.declared.tally.Place.{Place}
use Rattle.aig_command_line.specs.declared.tally.Place.TheVariants.{Whole}
use Rattle.aig_edits.specs.declared.edit_error.EditError.{EditError}
use Rattle.aig_edits.specs.declared.edit_error.EditError.TheVariants as edit
use Rattle.aig_edits.specs.declared.pair_error.PairError.{PairError}
use Rattle.aig_edits.specs.declared.pair_error.PairError.TheVariants as errors
use Rattle.aig_edits.specs.declared.pairing.Pairing.{Pairing}
use Rattle.aig_edits.specs.Edits.{IsEditOwn, IsEditUnwritten, PrintsEdit, ReadsFile, edit_verdict}
use Rattle.aig_edits.specs.Info.{PrintsInfo}
use Rattle.aig_edits.specs.Joints.{IsOwn, IsUnwritten, PrintsJoint, first_verdict, second_verdict}
use Rattle.aig_edits.specs.Pairs.{ReadsPair}
use Rattle.aig_edits.specs.JointParts.{AreListsOfBoth}
use Rattle.aig_edits.specs.Lives.{PrintsLive}
use Rattle.aig_edits.specs.Questions.{PrintsQuestion}
use Rattle.aig_edits.specs.Reductions.{PrintsReduction}
use Rattle.aig_edits.specs.Rounds.{PrintsRounds}
use Rattle.aig_format.specs.File.{File}
use Rattle.aig_reader.specs.declared.error.ReadError.{ReadError}
use Rattle.aig_reader.specs.declared.error.ReadError.TheVariants as read
use Rattle.aig_edit_commands.specs.declared.acting.CommandError.{CommandError}
use Rattle.aig_edit_commands.specs.declared.acting.CommandError.TheVariants as refusals
use Rattle.aig_edit_commands.specs.declared.command.Command.{Command}
use Rattle.aig_edit_commands.specs.declared.command.Command.TheVariants as commands
use Rattle.aig_edit_commands.specs.declared.command.FileCommand.{FileCommand}
use Rattle.aig_edit_commands.specs.declared.command.FileCommand.TheVariants as files
use Rattle.aig_edit_commands.specs.CommandWords.{IsCall}

-- ---- two files

-- the place of an error: where reading the first file, or the second one, stopped, or
-- that file as a whole
abbrev pub IsPlaceOfPair : (ReadError → Place → Type 0) → (ReadError → Place → Type 0) → PairError
    → Place → Type 0
IsPlaceOfPair InFirst InSecond (errors.Read e) place = InFirst e place
IsPlaceOfPair InFirst InSecond (errors.Other e) place = InSecond e place
IsPlaceOfPair InFirst InSecond e place = place ≡ Whole

-- What is read of two files that are open.
pub record ReadsBoth {R S : Type 0} (left : R → Option (List ℕ)) (failed : R → Bool)
    (left_of : S → Option (List ℕ)) (failed_of : S → Bool) (limit : ℕ) (r : R) (s : S)
    (result : Result (CircuitLists × CircuitLists) (Placed PairError)) (rest : R) (other : S)
    : Type 0 where
  pub reads : ReadsPair left failed left_of failed_of limit AreListsOfBoth first_verdict
      second_verdict IsOwn r s (unplaced result) rest other
  pub place : IfErr result (λ e. IsPlaceOfPair (IsPlaceOfError (left r) (left rest) (failed rest))
      (IsPlaceOfError (left_of s) (left_of other) (failed_of other)) e.error e.place)

-- What is printed of two files that are open: the text of their joint circuit, as `print_joint`
-- prints it, and after Ok it is flushed.
pub record PrintsPair {R S W : Type 0} (left : R → Option (List ℕ)) (failed : R → Bool)
    (left_of : S → Option (List ℕ)) (failed_of : S → Bool) (held : W → Option (List ℕ))
    (write_failed flushed : W → Bool) (limit : ℕ) (pairing : Pairing) (r : R) (s : S) (w : W)
    (result : Result Unit (Placed PairError)) (rest : R) (other : S) (made : W) : Type 0 where
  pub reads : ReadsPair left failed left_of failed_of limit
      (PrintsJoint held write_failed pairing w made) first_verdict second_verdict IsOwn r s
      (unplaced result) rest other
  pub kept : IsUnwritten (unplaced result) → made ≡ w
  pub done : OnOk result (IsTrue (flushed made))
  pub place : IfErr result (λ e. IsPlaceOfPair (IsPlaceOfError (left r) (left rest) (failed rest))
      (IsPlaceOfError (left_of s) (left_of other) (failed_of other)) e.error e.place)

-- what a file that is not opened is refused for, as the first or the second
abbrev pub unopened : (ReadError → PairError) → OpenError → PairError
unopened refused opening.Refused = refused read.Open

-- both files are open and their joint circuit is printed, or the second one is not, and nothing is
-- written
abbrev pub PrintsBoth : {R F W : Type 0} → (R → Option (List ℕ)) → (R → Bool)
    → (F → Option (List ℕ)) → (F → Bool) → (W → Option (List ℕ)) → (W → Bool) → (W → Bool)
    → ℕ → Pairing → R → Result F OpenError → W → Result Unit (Placed PairError) → R → W → Type 0
PrintsBoth {F = F} left failed left_of failed_of held write_failed flushed limit pairing r (Ok s) w
    result rest made =
    (other : F)
    × PrintsPair left failed left_of failed_of held write_failed flushed limit pairing r s w result
    rest other made
PrintsBoth left failed left_of failed_of held write_failed flushed limit pairing r (Err e) w result
    rest made =
    (result ≡ Err (whole (unopened errors.Other e))) × (made ≡ w)

-- the file at the path is opened beside the first one
pub record PrintsBeside {R F W : Type 0} (opens : List ℕ → Result F OpenError → Type 0)
    (left : R → Option (List ℕ)) (failed : R → Bool) (left_of : F → Option (List ℕ))
    (failed_of : F → Bool) (held : W → Option (List ℕ)) (write_failed flushed : W → Bool)
    (limit : ℕ) (pairing : Pairing) (r : R) (other : List ℕ) (w : W)
    (result : Result Unit (Placed PairError)) (rest : R)
    (made : W) : Type 0 where
  pub second : Result F OpenError
  pub opened : opens other second
  pub prints : PrintsBoth left failed left_of failed_of held write_failed flushed limit pairing r
      second w result rest made

-- the first file is open, or it is not, and nothing is written
abbrev pub PrintsFrom : {F W : Type 0} → (List ℕ → Result F OpenError → Type 0)
    → (F → Option (List ℕ)) → (F → Bool) → (W → Option (List ℕ)) → (W → Bool) → (W → Bool)
    → ℕ → Pairing → Result F OpenError → List ℕ → W → Result Unit (Placed PairError) → W → Type 0
PrintsFrom {F} opens left failed held write_failed flushed limit pairing (Ok r) other w result
    made =
    (rest : F)
    × PrintsBeside opens left failed left failed held write_failed flushed limit pairing r other w
    result rest made
PrintsFrom opens left failed held write_failed flushed limit pairing (Err e) other w result made =
    (result ≡ Err (whole (unopened errors.Read e))) × (made ≡ w)

-- the files at both paths are opened, the first one first, and their joint circuit printed
pub record PrintsFiles {F W : Type 0} (opens : List ℕ → Result F OpenError → Type 0)
    (left : F → Option (List ℕ)) (failed : F → Bool) (held : W → Option (List ℕ))
    (write_failed flushed : W → Bool) (limit : ℕ) (pairing : Pairing) (file other : List ℕ) (w : W)
    (result : Result Unit (Placed PairError)) (made : W) : Type 0 where
  pub first : Result F OpenError
  pub opened : opens file first
  pub prints : PrintsFrom opens left failed held write_failed flushed limit pairing first other w
      result made

-- ---- one file

-- what is printed of the file
abbrev pub PrintsOfFile : {W : Type 0} → (W → Option (List ℕ)) → (W → Bool) → ℕ → FileCommand → W
    → W
    → File
    → Result Unit EditError → Type 0
PrintsOfFile held failed limit (files.Edit edit) w made = PrintsEdit held failed edit limit w made
PrintsOfFile held failed limit files.Reduction w made = PrintsReduction held failed w made
PrintsOfFile held failed limit (files.Question k) w made = PrintsQuestion held failed k limit w made
PrintsOfFile held failed limit (files.Live fairness) w made =
    PrintsLive held failed fairness w made
PrintsOfFile held failed limit (files.Rounds fairness count) w made =
    PrintsRounds held failed fairness count w made
PrintsOfFile held failed limit files.Info w made = PrintsInfo held failed w made

-- the place of an error: where reading the file stopped, or the file as a whole
abbrev pub IsPlaceOfEdit : (ReadError → Place → Type 0) → EditError → Place → Type 0
IsPlaceOfEdit InFile (edit.Read e) place = InFile e place
IsPlaceOfEdit InFile e place = place ≡ Whole

-- What is printed of a file that is open, and after Ok it is flushed.
pub record PrintsOpen {R W : Type 0} (left : R → Option (List ℕ)) (failed : R → Bool)
    (held : W → Option (List ℕ)) (write_failed flushed : W → Bool) (limit : ℕ) (c : FileCommand)
    (r : R) (w : W)
    (result : Result Unit (Placed EditError)) (rest : R) (made : W) : Type 0 where
  pub reads : ReadsFile left failed limit (PrintsOfFile held write_failed limit c w made)
      edit_verdict
      IsEditOwn
      r (unplaced result) rest
  pub kept : IsEditUnwritten (unplaced result) → made ≡ w
  pub done : OnOk result (IsTrue (flushed made))
  pub place : IfErr result (λ e. IsPlaceOfEdit (IsPlaceOfError (left r) (left rest) (failed rest))
      e.error e.place)

-- what a file that is not opened is refused for
abbrev pub edit_unopened : OpenError → EditError
edit_unopened opening.Refused = edit.Read read.Open

-- the file is open, or it is not, and nothing is written
abbrev pub PrintsOpened : {F W : Type 0} → (F → Option (List ℕ)) → (F → Bool)
    → (W → Option (List ℕ)) → (W → Bool) → (W → Bool) → ℕ → FileCommand → Result F OpenError → W
    → Result Unit (Placed EditError) → W → Type 0
PrintsOpened {F} left failed held write_failed flushed limit c (Ok r) w result made =
    (rest : F) × PrintsOpen left failed held write_failed flushed limit c r w result rest made
PrintsOpened left failed held write_failed flushed limit c (Err e) w result made =
    (result ≡ Err (whole (edit_unopened e))) × (made ≡ w)

-- the file at the path is opened, and what the command says printed
pub record PrintsFile {F W : Type 0} (opens : List ℕ → Result F OpenError → Type 0)
    (left : F → Option (List ℕ)) (failed : F → Bool) (held : W → Option (List ℕ))
    (write_failed flushed : W → Bool) (limit : ℕ) (c : FileCommand) (file : List ℕ) (w : W)
    (result : Result Unit (Placed EditError)) (made : W) : Type 0 where
  pub opened : Result F OpenError
  pub opens_so : opens file opened
  pub prints : PrintsOpened left failed held write_failed flushed limit c opened w result made

-- ---- commands

-- the result, with its error among those of the program, at its place
abbrev pub told : {E : Type 0} → (E → CommandError) → Result Unit (Placed E)
    → Result Unit (Placed CommandError)
told among (Ok done) = Ok done
told among (Err e) = Err (record { error = among e.error; place = e.place })

-- the command was run on its files
abbrev pub Acts : {F W : Type 0} → (List ℕ → Result F OpenError → Type 0)
    → (F → Option (List ℕ)) → (F → Bool) → (W → Option (List ℕ)) → (W → Bool) → (W → Bool)
    → ℕ → Command → List (List ℕ) → W → Result Unit (Placed CommandError) → W → Type 0
Acts opens left failed held write_failed flushed limit (commands.File c) paths w result made =
    (file : List ℕ) → paths ≡ file ∷ []
    → (done : Result Unit (Placed EditError)) × (result ≡ told refusals.One done)
    × PrintsFile opens left failed held write_failed flushed limit c file w done made
Acts opens left failed held write_failed flushed limit (commands.Pair pairing) paths w result made =
    (file other : List ℕ) → paths ≡ file ∷ other ∷ []
    → (done : Result Unit (Placed PairError)) × (result ≡ told refusals.Two done)
    × PrintsFiles opens left failed held write_failed flushed limit pairing file other w done made

-- what the words ask for was done, and how the program ends by it
pub record Obeys {F W : Type 0} (opens : List ℕ → Result F OpenError → Type 0)
    (left : F → Option (List ℕ)) (failed : F → Bool) (held : W → Option (List ℕ))
    (write_failed flushed : W → Bool) (answer_of : Help → List ℕ) (words : List (List ℕ))
    (w : W) (ending : Ending (Placed CommandError)) (made : W) : Type 0 where
  -- a question of the program is answered by a line
  pub tells : (q : Help) → words ≡ word_of q ∷ [] → (done : Result Unit CommandError)
      × (ending ≡ ended (in_whole done))
      × WritesLine held write_failed flushed refusals.Write (answer_of q ++ 10 ∷ []) w done made
  -- other words give no command exactly where it ends so
  pub none : (ending ≡ endings.NoCommand)
      ↔ (((limit : ℕ) (c : Command) (paths : List (List ℕ)) → ¬ IsCall words limit c paths)
      × ((q : Help) → ¬ (words ≡ word_of q ∷ [])))
  pub kept : ending ≡ endings.NoCommand → made ≡ w
  -- and else the command that they give was run on its files
  pub acts : (limit : ℕ) (c : Command) (paths : List (List ℕ)) → IsCall words limit c paths
      → (done : Result Unit (Placed CommandError)) × (ending ≡ ended done)
      × Acts opens left failed held write_failed flushed limit c paths w done made
