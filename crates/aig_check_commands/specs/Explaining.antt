-- Part of what is promised.
-- What is told of an error: the path of the file that it is about, and the place where reading that
-- file stopped.
use Rattle.std.specs.Prelude.{◌≡◌, ℕ, ◌+◌, ◌⊎◌, Bool, false, List, ◌++◌, Contains, Option, None, Some, Result, Err, IfSome, length, map, slice_get}
use Rattle.aig_command_line.specs.Came.{IsPlaceIn}
use Rattle.aig_command_line.specs.Faults.{error_of, path_of, place_in}
use Rattle.aig_command_line.specs.Places.{IsPlaced}
use Rattle.aig_command_line.specs.declared.discarded.Discarded.{Discarded}
use Rattle.aig_command_line.specs.declared.fault.Fault.{Fault}
use Rattle.aig_command_line.specs.declared.files.OpenError.{OpenError}
use Rattle.aig_command_line.specs.declared.files.OpenError.TheVariants as opening
use Rattle.aig_command_line.specs.declared.tally.Measure.{Measure}
use Rattle.aig_command_line.specs.declared.tally.Place.{Place}
use Rattle.aig_command_line.specs.declared.tally.Place.TheVariants.{Whole}
use Rattle.aig_check_commands.specs.declared.refusals.subjects.Search.{Search}
use Rattle.aig_check_commands.specs.declared.refusals.subjects.Search.TheVariants as searches
use Rattle.aig_check_commands.specs.declared.refusals.subjects.Subject.{Subject}
use Rattle.aig_check_commands.specs.declared.refusals.subjects.Subject.TheVariants as subjects
use Rattle.aig_check_commands.specs.declared.command.Asked.{Asked}
use Rattle.aig_check_commands.specs.declared.error.CheckError.{CheckError}
use Rattle.aig_check_commands.specs.Subjects.{about_error}
use Rattle.aig_check_commands.specs.Acting.{RanOn}
use Rattle.aig_check_commands.specs.Opening.{AreOpened}
use Rattle.aig_check_commands.specs.CommandWords.{IsCall}

-- ---- paths

-- the number of what an error is about, among what is given beside the files: the first is 0
abbrev pub number_of : Subject → ℕ
number_of subjects.Step = 1
number_of subjects.Third = 2
number_of (subjects.Nth n) = n
number_of subject = 0

-- the word that is the path of what an error is about, if there is one
abbrev pub word_of : Subject → List (List ℕ) → List (List ℕ) → Option (List ℕ)
word_of subjects.Nothing paths further = None
word_of subjects.Unopened paths further = None
word_of subjects.File paths further = slice_get paths 0
word_of subjects.Other paths further = slice_get paths 1
word_of subject paths further = slice_get further (number_of subject)

-- it is that word, or one of those at which no file is opened
abbrev pub IsPathOf : {F : Type 0} → (List ℕ → Result F OpenError → Type 0) → Subject
    → List (List ℕ) → List (List ℕ) → Option (List ℕ) → Type 0
IsPathOf opens subjects.Unopened paths further path =
    IfSome path (λ p. Contains (paths ++ further) p × opens p (Err opening.Refused))
IsPathOf opens subject paths further path = path ≡ word_of subject paths further

-- ---- places

-- the bytes of a file that are left, where they are known, and whether a read of it failed
abbrev pub Stream : Type 0
Stream = Option (List ℕ) × Bool

abbrev pub bytes_of : Stream → Option (List ℕ)
bytes_of s = s.0

abbrev pub has_failed : Stream → Bool
has_failed s = s.1

-- the writer that keeps nothing holds nothing that is known, and never fails
abbrev pub keeps_nothing : Discarded → Option (List ℕ)
keeps_nothing w = None

abbrev pub never_fails : Discarded → Bool
never_fails w = false

-- what is asked is refused so, of files of these bytes, and the one of this number was read up to
-- this place: FILE has the number 0
pub record IsRefusedIn (limit : ℕ) (c : Asked) (known : List (Option (List ℕ))) (number : ℕ)
    (e : CheckError) (measure : Measure) (place : Place) : Type 0 where
  pub told : Option (List ℕ)
  pub which : slice_get known number ≡ Some told
  pub at : IsPlaceIn told measure place
  pub files : List Stream
  pub are : known ≡ map bytes_of files
  pub others : List Stream
  pub before : Discarded
  pub after : Discarded
  pub refused : RanOn bytes_of has_failed keeps_nothing never_fails limit c files before (Err e)
      others after

-- the files at the paths were opened again, and it is refused so of them
pub record IsRunAgain {F : Type 0} (opens : List ℕ → Result F OpenError → Type 0)
    (left : F → Option (List ℕ)) (limit : ℕ) (c : Asked) (paths : List (List ℕ)) (number : ℕ)
    (e : CheckError) (measure : Measure) (place : Place) : Type 0 where
  pub files : List F
  pub opened : AreOpened opens paths files
  pub refused : IsRefusedIn limit c (map left files) number e measure place

-- the file as a whole, or the place where what is asked refused it again
abbrev pub IsRunPlace : {F : Type 0} → (List ℕ → Result F OpenError → Type 0)
    → (F → Option (List ℕ)) → ℕ → Asked → List (List ℕ) → List (List ℕ) → ℕ → CheckError → Measure
    → Place → Type 0
IsRunPlace opens left limit c paths further number e measure place =
    (place ≡ Whole)
    ⊎ IsRunAgain opens left limit c (paths ++ further) (length paths + number) e measure place

-- the place of what an error is about, as it is looked for
abbrev pub IsPlaceOf : {F : Type 0} → (List ℕ → Result F OpenError → Type 0)
    → (F → Option (List ℕ)) → ℕ → Asked → List (List ℕ) → List (List ℕ) → List ℕ → CheckError
    → Subject → Search → Place → Type 0
IsPlaceOf opens left limit c paths further path e subject searches.Nowhere place = place ≡ Whole
IsPlaceOf opens left limit c paths further path e subject (searches.Read error) place =
    IsPlaced opens left limit path error place
IsPlaceOf opens left limit c paths further path e subject (searches.Run measure) place =
    IsRunPlace opens left limit c paths further (number_of subject) e measure place

-- ---- endings

-- the error is told with the path of what it is about, and the place there
pub record TellsPlaced {F : Type 0} (opens : List ℕ → Result F OpenError → Type 0)
    (left : F → Option (List ℕ)) (limit : ℕ) (c : Asked) (paths further : List (List ℕ))
    (e : CheckError)
    (fault : Fault CheckError) : Type 0 where
  pub error : error_of fault ≡ e
  pub path : IsPathOf opens (about_error e).subject paths further (path_of fault)
  pub place : IfSome (path_of fault)
      (λ p. IsPlaceOf opens left limit c paths further p e (about_error e).subject
      (about_error e).search (place_in fault))

-- the error is told, of the words' command where there is one
pub record TellsOf {F : Type 0} (opens : List ℕ → Result F OpenError → Type 0)
    (left : F → Option (List ℕ)) (words : List (List ℕ)) (e : CheckError)
    (fault : Fault CheckError) : Type 0 where
  pub error : error_of fault ≡ e
  pub told : (limit : ℕ) (c : Asked) (paths further : List (List ℕ))
      → IsCall words limit c paths further
      → TellsPlaced opens left limit c paths further e fault
