-- Part of what is promised.
-- What is made of one file: the circuit that an edit makes of its circuit, and that circuit's text.
use Rattle.std.specs.Prelude.{◌≡◌, ◌≢◌, ℕ, ◌<◌, ◌≤◌, ◌↔◌, ◌⊎◌, Bool, false, List, [], length, Option, Result, Ok, Err, IfErr}
use Rattle.std.specs.Io.KnownBytes.{Appends}
use Rattle.aig_runs.specs.Safety.{IsSafeAt}
use Rattle.aig_change.specs.Changes.{CompressesBads, FoldsConstraints}
use Rattle.aig_circuit.specs.Circuit.{Circuit}
use Rattle.aig_circuit.specs.Reencode.{reencoded}
use Rattle.aig_circuit.specs.View.{lists_circuit}
use Rattle.aig_circuit.specs.declared.view.CircuitLists.{CircuitLists}
use Rattle.aig_cone.specs.Refine.{AreKept, refined}
use Rattle.aig_edit_laws.specs.Shown.{HasBadAt, HasBadBy, HasOutput, HasOutputAt, HasRun, HasWitness, IsConeOf, IsPropertyOf, always_bad, outputs_as_bads}
use Rattle.aig_format.specs.Circuit.{IsReadAgain, circuit_of, file_of, text_of}
use Rattle.aig_format.specs.declared.FileKind.TheVariants.{Text}
use Rattle.aig_format.specs.File.{File}
use Rattle.aig_format.specs.Fits.{Accepts}
use Rattle.aig_format.specs.Writable.{FitsFormat}
use Rattle.aig_output.specs.Sinks.{Stops}
use Rattle.aig_reader.specs.declared.error.ReadError.TheVariants as read
use Rattle.aig_reader.specs.Reading.{IsReadAs}
use Rattle.aig_reader.specs.Verdicts as reading
use Rattle.aig_reader.specs.Verdicts.{Accepted, Judges, Verdict, verdict_by}
use Rattle.aig_unroll.specs.Places.{unrolled_size}
use Rattle.aig_unroll.specs.Unroll.{UnrollsBySteps, UnrollsTo}
use Rattle.aig_edits.specs.declared.editing.Edit.{Edit}
use Rattle.aig_edits.specs.declared.editing.Edit.TheVariants as edits
use Rattle.aig_edits.specs.declared.edit_error.EditError.{EditError}
use Rattle.aig_edits.specs.declared.edit_error.EditError.TheVariants as errors

-- ---- the circuit

-- Constraints are joined where there are none, or at most one bad literal; outputs become bad
-- literals only where there are none; and a property or a cone is that of a bad literal or an
-- output that is there.
abbrev pub CanEdit : Edit → File → Type 0
CanEdit edits.Move f = (f.properties.constraints ≡ []) ⊎ (length f.properties.bads ≤ 1)
CanEdit edits.Bads f = f.properties.bads ≡ []
CanEdit (edits.Property n) f = n < length f.properties.bads
CanEdit (edits.Cone n) f = n < length f.properties.outputs
CanEdit edit f = Unit {0}

-- the circuit with its further steps, if there are any, may not pass the limit
abbrev pub AreStepsWithin : Edit → ℕ → Circuit → Type 0
AreStepsWithin (edits.Unroll k) limit c = unrolled_size c k ≤ limit
AreStepsWithin edit limit c = Unit {0}

-- the circuit m is what the edit makes of c
abbrev pub IsEdited : Edit → Circuit → Circuit → Type 0
IsEdited edits.Refine c m = (kept : List ℕ) × AreKept c kept × (m ≡ refined kept c)
IsEdited edits.Reencode c m = m ≡ reencoded c
IsEdited (edits.Unroll k) c m = UnrollsTo c k m × UnrollsBySteps c k m
IsEdited edits.Move c m = FoldsConstraints c m
IsEdited edits.Compress c m = CompressesBads c m
IsEdited edits.Bads c m = m ≡ outputs_as_bads c
IsEdited (edits.Property n) c m = IsPropertyOf n c m
IsEdited edits.Possible c m = m ≡ always_bad c
IsEdited (edits.Cone n) c m = IsConeOf n c m

-- at each step one machine is safe exactly where the other is
abbrev pub AreAsSafe : File → File → Type 0
AreAsSafe f h = (k : ℕ) → IsSafeAt h k ↔ IsSafeAt f k

-- What the machine of the written file h shows of that of the file f that was read: the safety of
-- each step; the bad literals of all steps at step 0; the outputs; one bad literal; how long runs
-- are; or one output.
abbrev pub EditShows : Edit → File → File → Type 0
EditShows edits.Refine f h = AreAsSafe f h
EditShows edits.Reencode f h = AreAsSafe f h
EditShows (edits.Unroll k) f h = HasWitness h 0 ↔ HasBadBy f k
EditShows edits.Move f h = AreAsSafe f h
EditShows edits.Compress f h = AreAsSafe f h
EditShows edits.Bads f h = (k : ℕ) → HasWitness h k ↔ HasOutput f k
EditShows (edits.Property n) f h = (k : ℕ) → HasWitness h k ↔ HasBadAt f n k
EditShows edits.Possible f h = (k : ℕ) → HasWitness h k ↔ HasRun f k
EditShows (edits.Cone n) f h = (k : ℕ) → HasOutput h k ↔ HasOutputAt f n k

-- the edit makes the circuit of the file's, and it fits the format
pub record IsEditOf (edit : Edit) (limit : ℕ) (f : File) (m : Circuit) : Type 0 where
  pub can : CanEdit edit f
  pub within : AreStepsWithin edit limit (circuit_of f)
  pub edited : IsEdited edit (circuit_of f) m
  pub small : FitsFormat m

-- and its text is a file, whose machine shows what it should
pub record IsWrittenEdit (edit : Edit) (limit : ℕ) (f : File) (m : Circuit) : Type 0 where
  pub edit_of : IsEditOf edit limit f m
  pub again : IsReadAgain m (file_of Text m)
  pub shows : EditShows edit f (file_of Text m)

-- ---- errors

-- what an error says of the file's bytes
abbrev pub edit_verdict : EditError → Verdict
edit_verdict (errors.Read e) = reading.verdict_of e
edit_verdict e = Accepted

-- no path is opened
abbrev pub IsEditOwn : EditError → Type 0
IsEditOwn (errors.Read e) = e ≢ read.Open
IsEditOwn e = Unit {0}

-- why the edit isn't written
abbrev pub IsEditRefusal : Edit → ℕ → File → EditError → Type 0
IsEditRefusal edit limit f errors.ManyBads = (edit ≡ edits.Move) × (¬ CanEdit edit f)
IsEditRefusal edit limit f errors.HasBads = (edit ≡ edits.Bads) × (¬ CanEdit edit f)
IsEditRefusal edit limit f errors.NoBad =
    (n : ℕ) × (edit ≡ edits.Property n) × (¬ CanEdit edit f)
IsEditRefusal edit limit f errors.NoOutput = (n : ℕ) × (edit ≡ edits.Cone n) × (¬ CanEdit edit f)
IsEditRefusal edit limit f errors.PassesLimit =
    CanEdit edit f × ¬ AreStepsWithin edit limit (circuit_of f)
IsEditRefusal edit limit f errors.TooLarge =
    CanEdit edit f × AreStepsWithin edit limit (circuit_of f)
    × ((m : Circuit) × IsEdited edit (circuit_of f) m × ¬ FitsFormat m)
IsEditRefusal edit limit f errors.Memory =
    CanEdit edit f × AreStepsWithin edit limit (circuit_of f)
IsEditRefusal edit limit f e = ⊥

-- ---- results

-- What a call that reads one file tells: r is the reader before it, and rest after it. An error
-- says `said` of the bytes, and where they are taken the result is what is meant for that file.
pub record ReadsFile {R T E : Type 0} (left : R → Option (List ℕ)) (failed : R → Bool) (limit : ℕ)
    (Means : File → Result T E → Type 0) (said : E → Verdict) (Own : E → Type 0) (r : R)
    (result : Result T E) (rest : R) : Type 0 where
  pub verdict : Judges (λ _. Accepted) limit (left r) (left rest) (failed rest)
      (verdict_by said result)
  pub answer : verdict_by said result ≡ Accepted
      → IsReadAs (λ bytes. Accepts bytes limit) Means (left r) (left rest) result
  -- which errors it has
  pub own : IfErr result Own

-- the lists are those of the edited circuit, or it is said why there are none
abbrev pub GivesEdit : Edit → ℕ → File → Result CircuitLists EditError → Type 0
GivesEdit edit limit f (Ok lists) = IsWrittenEdit edit limit f (lists_circuit lists)
GivesEdit edit limit f (Err e) = IsEditRefusal edit limit f e

-- the text of the edited circuit was written, and the writer has not failed
abbrev pub WritesEdit : {W : Type 0} → (W → Option (List ℕ)) → (W → Bool) → Edit → ℕ → W → W
    → File → Type 0
WritesEdit held failed edit limit w made f =
    (m : Circuit) × IsWrittenEdit edit limit f m × Appends (held w) (held made) (text_of m)
    × (failed made ≡ false)

-- a beginning of it was, and the writer has failed
abbrev pub StopsEdit : {W : Type 0} → (W → Option (List ℕ)) → (W → Bool) → Edit → ℕ → W → W → File
    → Type 0
StopsEdit held failed edit limit w made f =
    (m : Circuit) × IsEditOf edit limit f m
    × Stops (held w) (held made) (failed made) (text_of m)

-- the text was written, or a beginning of it, or it is said why not
abbrev pub PrintsEdit : {W : Type 0} → (W → Option (List ℕ)) → (W → Bool) → Edit → ℕ → W → W
    → File → Result Unit EditError → Type 0
PrintsEdit held failed edit limit w made f (Ok done) = WritesEdit held failed edit limit w made f
PrintsEdit held failed edit limit w made f (Err errors.Write) =
    StopsEdit held failed edit limit w made f
PrintsEdit held failed edit limit w made f (Err e) = IsEditRefusal edit limit f e

-- nothing was written
abbrev pub IsEditUnwritten : Result Unit EditError → Type 0
IsEditUnwritten (Ok done) = ⊥
IsEditUnwritten (Err errors.Write) = ⊥
IsEditUnwritten (Err e) = Unit {0}
