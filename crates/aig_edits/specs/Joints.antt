-- Part of what is promised.
-- What is made of two files: the joint circuit of theirs, and its text.
use Rattle.std.specs.Prelude.{◌≡◌, ◌≢◌, ℕ, ◌<◌, ◌≤◌, ◌↔◌, ◌⊎◌, length, Bool, false, List, Option, Result, Ok, Err}
use Rattle.std.specs.Io.KnownBytes.{Appends}
use Rattle.aig_circuit.specs.Circuit.{Circuit}
use Rattle.aig_circuit.specs.View.{lists_circuit}
use Rattle.aig_circuit.specs.declared.view.CircuitLists.{CircuitLists}
use Rattle.aig_runs.specs.Safety.{IsSafeAt}
use Rattle.aig_change.specs.Merge.{PairsRuns, merged, shifted}
use Rattle.aig_edit_laws.specs.Shown.{HasRun, HasWitness}
use Rattle.aig_format.specs.Circuit.{IsReadAgain, circuit_of, file_of, text_of}
use Rattle.aig_format.specs.declared.FileKind.TheVariants.{Text}
use Rattle.aig_format.specs.File.{File}
use Rattle.aig_format.specs.Writable.{FitsFormat}
use Rattle.aig_join.specs.Certificate.{certified}
use Rattle.aig_join.specs.Constraints.{AreEqualMachinesBy, IsMiterBy}
use Rattle.aig_join.specs.Files.{HasLinesOf, HaveSameFileCounts}
use Rattle.aig_output.specs.Sinks.{Stops}
use Rattle.aig_reader.specs.declared.error.ReadError.TheVariants as read
use Rattle.aig_reader.specs.Verdicts.{Accepted, Verdict, verdict_of}
use Rattle.aig_runs.specs.Queries.{IsSafeTo}
use Rattle.aig_edits.specs.declared.pair_error.PairError.{PairError}
use Rattle.aig_edits.specs.declared.pair_error.PairError.TheVariants as errors
use Rattle.aig_edits.specs.declared.misfit.Misfit.{Misfit}
use Rattle.aig_edits.specs.declared.misfit.Misfit.TheVariants as misfits
use Rattle.aig_edits.specs.declared.pairing.Pairing.{Pairing}
use Rattle.aig_edits.specs.declared.pairing.Pairing.TheVariants.{Certificate, Merge, Miter}

-- ---- counts

-- how many inputs, latches, outputs and bad literals there are
pub record Counted : Type 0 where
  pub inputs : ℕ
  pub latches : ℕ
  pub outputs : ℕ
  pub bads : ℕ

-- those of a file
abbrev pub counted : File → Counted
counted f = record {
  inputs = length f.inputs;
  latches = length f.latches;
  outputs = length f.properties.outputs;
  bads = length f.properties.bads;
}

-- the first counts that don't fit: those before fit, and these are the numbers of both
abbrev pub IsMisfit : Pairing → Counted → Counted → Misfit → Type 0
IsMisfit (Miter comparison) a b (misfits.Inputs m n) = (m ≡ a.inputs) × (n ≡ b.inputs) × (m ≢ n)
IsMisfit (Miter comparison) a b (misfits.Outputs m n) =
    (a.inputs ≡ b.inputs) × (m ≡ a.outputs) × (n ≡ b.outputs) × (m ≢ n)
IsMisfit (Miter comparison) a b (misfits.Bads m n) =
    (a.inputs ≡ b.inputs) × (a.outputs ≡ b.outputs) × (m ≡ a.bads) × (n ≡ b.bads) × (m ≢ n)
IsMisfit Certificate a b (misfits.Inputs m n) = (m ≡ a.inputs) × (n ≡ b.inputs) × (n < m)
IsMisfit Certificate a b (misfits.Latches m n) =
    (a.inputs ≤ b.inputs) × (m ≡ a.latches) × (n ≡ b.latches) × (n < m)
IsMisfit pairing a b m = ⊥

-- ---- the joint circuit

-- the files' counts fit
abbrev pub DoFit : Pairing → File → File → Type 0
DoFit (Miter comparison) f g = HaveSameFileCounts f g
DoFit Certificate f g = HasLinesOf g f
DoFit Merge f g = Unit {0}

-- the circuit is the joint one of these two
abbrev pub IsJoint : Pairing → Circuit → Circuit → Circuit → Type 0
IsJoint (Miter comparison) a b m = IsMiterBy comparison a b m
IsJoint Certificate a b m = m ≡ certified a b
IsJoint Merge a b m = (m ≡ merged a b) × PairsRuns a b m (shifted (length a.nodes))

-- What the safety of the file h shows of the machines of f and g: that of a miter at a step that
-- they are equal there, as they are compared, and that of a file beside its certificate up to a
-- step that the file is safe up to there. Two files merged have a witness where one of them has one
-- and the other an allowed run from an initial state.
abbrev pub ShowsOf : Pairing → File → File → File → Type 0
ShowsOf (Miter comparison) f g h =
    (k : ℕ) → IsSafeAt h k ↔ AreEqualMachinesBy comparison f g k
ShowsOf Certificate f g h = (n : ℕ) → IsSafeTo h n → IsSafeTo f n
ShowsOf Merge f g h =
    (k : ℕ)
    → HasWitness h k ↔ ((HasWitness f k × HasRun g k) ⊎ (HasRun f k × HasWitness g k))

-- the circuit is the joint one of the files', and its text is a file
pub record IsJointOf (pairing : Pairing) (f g : File) (m : Circuit) : Type 0 where
  pub fit : DoFit pairing f g
  pub joint : IsJoint pairing (circuit_of f) (circuit_of g) m
  pub small : FitsFormat m
  pub again : IsReadAgain m (file_of Text m)
  pub shows : ShowsOf pairing f g (file_of Text m)

-- ---- errors

-- what an error says of the first file's bytes
abbrev pub first_verdict : PairError → Verdict
first_verdict (errors.Read e) = verdict_of e
first_verdict e = Accepted

-- and of the second one's
abbrev pub second_verdict : PairError → Verdict
second_verdict (errors.Other e) = verdict_of e
second_verdict e = Accepted

-- no path is opened
abbrev pub IsOwn : PairError → Type 0
IsOwn (errors.Read e) = e ≢ read.Open
IsOwn (errors.Other e) = e ≢ read.Open
IsOwn e = Unit {0}

-- no path is opened, and no first file is read
abbrev pub IsOfBeside : PairError → Type 0
IsOfBeside (errors.Read e) = ⊥
IsOfBeside errors.Write = ⊥
IsOfBeside e = IsOwn e

-- why there is no joint circuit of two files
abbrev pub IsRefusalOf : Pairing → File → File → PairError → Type 0
IsRefusalOf pairing f g (errors.Misfit m) = IsMisfit pairing (counted f) (counted g) m
IsRefusalOf pairing f g errors.TooLarge =
    DoFit pairing f g
    × ((m : Circuit) × IsJoint pairing (circuit_of f) (circuit_of g) m × ¬ FitsFormat m)
IsRefusalOf pairing f g errors.Memory = DoFit pairing f g
IsRefusalOf pairing f g e = ⊥

-- ---- results

-- the lists are those of the joint circuit, or it is said why there are none
abbrev pub IsJoined : Pairing → File → File → Result CircuitLists PairError → Type 0
IsJoined pairing f g (Ok lists) = IsJointOf pairing f g (lists_circuit lists)
IsJoined pairing f g (Err e) = IsRefusalOf pairing f g e

-- the text of the joint circuit was written, and the writer has not failed
abbrev pub WritesJoint : {W : Type 0} → (W → Option (List ℕ)) → (W → Bool) → Pairing → W → W
    → File → File → Type 0
WritesJoint held failed pairing w made f g =
    (m : Circuit) × IsJointOf pairing f g m × Appends (held w) (held made) (text_of m)
    × (failed made ≡ false)

-- a beginning of it was, and the writer has failed
abbrev pub StopsJoint : {W : Type 0} → (W → Option (List ℕ)) → (W → Bool) → Pairing → W → W
    → File → File → Type 0
StopsJoint held failed pairing w made f g =
    (m : Circuit) × IsJointOf pairing f g m × Stops (held w) (held made) (failed made) (text_of m)

-- the text of the joint circuit was written, or a beginning of it, or it is said why there is none
abbrev pub PrintsJoint : {W : Type 0} → (W → Option (List ℕ)) → (W → Bool) → Pairing → W → W
    → File → File → Result Unit PairError → Type 0
PrintsJoint held failed pairing w made f g (Ok done) = WritesJoint held failed pairing w made f g
PrintsJoint held failed pairing w made f g (Err errors.Write) =
    StopsJoint held failed pairing w made f g
PrintsJoint held failed pairing w made f g (Err e) = IsRefusalOf pairing f g e

-- nothing was written
abbrev pub IsUnwritten : Result Unit PairError → Type 0
IsUnwritten (Ok done) = ⊥
IsUnwritten (Err errors.Write) = ⊥
IsUnwritten (Err e) = Unit {0}
