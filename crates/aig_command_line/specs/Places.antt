-- Part of what is promised.
-- The place where an AIGER file is refused.
use Rattle.std.specs.Prelude.{◌≡◌, ◌≢◌, ℕ, ◌⊎◌, Bool, List, Option, Some, None, MatchOption, Result, Ok, Err, IfErr, IfOk}
use Rattle.aig_circuit.specs.declared.view.CircuitLists.{CircuitLists}
use Rattle.aig_format.specs.Fits.{Accepts}
use Rattle.aig_reader.specs.declared.error.ReadError.{ReadError}
use Rattle.aig_reader.specs.declared.error.ReadError.TheVariants as errors
use Rattle.aig_reader.specs.Reading.{AreListsOf, IsReadAs}
use Rattle.aig_reader.specs.Verdicts.{Accepted, Judges, verdict_by, verdict_of}
use Rattle.aig_command_line.specs.Came.{IsPlaceIn, IsPlaceOf}
use Rattle.aig_command_line.specs.declared.files.OpenError.{OpenError}
use Rattle.aig_command_line.specs.declared.placed.Placed.{Placed}
use Rattle.aig_command_line.specs.declared.tally.Measure.{Measure}
use Rattle.aig_command_line.specs.declared.tally.Measure.TheVariants.{Line, Byte, Aiger}
use Rattle.aig_command_line.specs.declared.tally.Place.{Place}
use Rattle.aig_command_line.specs.declared.tally.Place.TheVariants.{Whole}

-- how the place of an error in a file is told, if it has one
abbrev pub read_measure : ReadError → Option Measure
read_measure errors.Memory = None
read_measure errors.Stream = None
read_measure errors.Header = Some Line
read_measure errors.TooMany = Some Line
read_measure (errors.Syntax section) = Some Line
read_measure (errors.Literal section) = Some Line
read_measure errors.Delta = Some Byte
read_measure errors.Name = Some Aiger
read_measure errors.Open = None

-- the known bytes of a file were read up to this place, and refused for this error
pub record IsRefusedAt (limit : ℕ) (known : Option (List ℕ)) (error : ReadError) (place : Place)
    : Type 0 where
  pub measure : Measure
  pub told : read_measure error ≡ Some measure
  pub at : IsPlaceIn known measure place
  pub rest : Option (List ℕ)
  pub failed : Bool
  pub refused : Judges (λ f. Accepted) limit known rest failed (verdict_of error)

-- the file at the path was opened again, and refused so at this place
pub record IsRefusedAgain {F : Type 0} (opens : List ℕ → Result F OpenError → Type 0)
    (left : F → Option (List ℕ)) (limit : ℕ) (path : List ℕ) (error : ReadError) (place : Place)
    : Type 0 where
  pub source : F
  pub opened : opens path (Ok source)
  pub refused : IsRefusedAt limit (left source) error place

-- the file as a whole, or the place where it was refused again
abbrev pub IsPlaced : {F : Type 0} → (List ℕ → Result F OpenError → Type 0)
    → (F → Option (List ℕ)) → ℕ → List ℕ → ReadError → Place → Type 0
IsPlaced opens left limit path error place =
    (place ≡ Whole) ⊎ IsRefusedAgain opens left limit path error place

-- ---- as a file is read

-- a result whose error is told without its place
abbrev pub unplaced : {T E : Type 0} → Result T (Placed E) → Result T E
unplaced (Ok x) = Ok x
unplaced (Err e) = Err e.error

-- the error, of a file as a whole
abbrev pub whole : {E : Type 0} → E → Placed E
whole e = record { error = e; place = Whole }

-- the result, with an error of a file as a whole
abbrev pub in_whole : {T E : Type 0} → Result T E → Result T (Placed E)
in_whole (Ok x) = Ok x
in_whole (Err e) = Err (whole e)

-- the place where reading these bytes stopped for this error, where this is left of them, or the
-- file as a whole where the error has no place
abbrev pub IsPlaceOfError : Option (List ℕ) → Option (List ℕ) → Bool → ReadError → Place
    → Type 0
IsPlaceOfError known left failed error place =
    MatchOption (read_measure error) (place ≡ Whole)
    (λ measure. IsPlaceOf known left failed measure place)

-- A file is read of a source, of which this is left: the lists of its circuit, or why it is
-- refused, and the place where this reading stopped.
pub record ReadsPlaced {R : Type 0} (left : R → Option (List ℕ)) (failed : R → Bool) (limit : ℕ)
    (r : R) (result : Result CircuitLists (Placed ReadError)) : Type 0 where
  pub rest : R
  pub circuit : IfOk result
      (IsReadAs (λ bytes. Accepts bytes limit) AreListsOf (left r) (left rest))
  pub verdict : Judges (λ f. Accepted) limit (left r) (left rest) (failed rest)
      (verdict_by verdict_of (unplaced result))
  pub own : IfErr result (λ e. e.error ≢ errors.Open)
  pub place : IfErr result
      (λ e. IsPlaceOfError (left r) (left rest) (failed rest) e.error e.place)
