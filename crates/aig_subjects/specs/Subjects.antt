-- Part of what is promised.
-- What is asked about: the circuit that is made of the files that are read, or why there is none.
use Rattle.std.specs.Prelude.{◌≡◌, ℕ, ◌-◌, All, List, [], ◌∷◌, ◌++◌, replicate, Result, Ok, Err}
use Rattle.aig_circuit.specs.Circuit.{Circuit, IsCircuit, IsClosed}
use Rattle.aig_circuit.specs.Edges.{HasConstantInit}
use Rattle.aig_circuit.specs.View.{lists_circuit}
use Rattle.aig_circuit.specs.declared.view.CircuitLists.{CircuitLists}
use Rattle.aig_edits.specs.Circuits.{IsJoinOf}
use Rattle.aig_edits.specs.Edits.{IsEditOwn, edit_verdict}
use Rattle.aig_edits.specs.Joints as joints
use Rattle.aig_edits.specs.Joints.{IsJointOf, IsOfBeside, IsRefusalOf, second_verdict}
use Rattle.aig_edits.specs.declared.pair_error.PairError.{PairError}
use Rattle.aig_edits.specs.declared.pair_error.PairError.TheVariants as pairs
use Rattle.aig_edits.specs.declared.pairing.Pairing.TheVariants as pairings
use Rattle.aig_format.specs.Circuit.{circuit_of}
use Rattle.aig_format.specs.File.{File}
use Rattle.aig_format.specs.Writable.{FitsFormat}
use Rattle.aig_join.specs.Certificate.{HasLeavesOf, certified}
use Rattle.aig_reader.specs.Verdicts.{Accepted, Verdict, verdict_of}
use Rattle.aig_subjects.specs.FileSubjects.{IsFileSubject, IsUnmadeFile}
use Rattle.aig_subjects.specs.declared.error.SubjectError.{SubjectError}
use Rattle.aig_subjects.specs.declared.error.SubjectError.TheVariants as errors
use Rattle.aig_subjects.specs.declared.subject.Subject.{Subject}
use Rattle.aig_subjects.specs.declared.subject.Subject.TheVariants as subjects

-- how many files are read
abbrev pub file_count : Subject → ℕ
file_count (subjects.File own) = 1
file_count (subjects.Miter comparison) = 2
file_count (subjects.Certified own) = 2
file_count (subjects.MiterCertified comparison) = 3

-- ---- of all

-- the circuit is another one beside that of a certificate, which fits it
pub record IsBeside (own : Circuit) (certificate : File) (m : Circuit) : Type 0 where
  pub fit : HasLeavesOf (circuit_of certificate) own
  pub joint : m ≡ certified own (circuit_of certificate)
  pub small : FitsFormat m

-- the circuit that is asked about
abbrev pub IsSubject : Subject → List File → Circuit → Type 0
IsSubject (subjects.File own) (f ∷ []) m = IsFileSubject own f m
IsSubject (subjects.Miter comparison) (f ∷ g ∷ []) m = IsJointOf (pairings.Miter comparison) f g m
IsSubject (subjects.Certified own) (f ∷ g ∷ []) m =
    (made : Circuit) × IsFileSubject own f made × IsBeside made g m
IsSubject (subjects.MiterCertified comparison) (f ∷ g ∷ h ∷ []) m =
    (miter : Circuit) × IsJointOf (pairings.Miter comparison) f g miter × IsBeside miter h m
IsSubject subject files m = ⊥

-- why the circuit doesn't stand beside that of a certificate
abbrev pub IsUnjoined : Circuit → File → PairError → Type 0
IsUnjoined own certificate e = IsJoinOf pairings.Certificate own (circuit_of certificate) (Err e)

-- the error is of the next file, which is refused: that of a certificate only where what it is to
-- stand beside is made of those before it
abbrev pub IsOfNext : Subject → List File → SubjectError → Type 0
IsOfNext (subjects.File own) [] (errors.File e) = Unit {0}
IsOfNext (subjects.Miter comparison) [] (errors.Pair e) = Unit {0}
IsOfNext (subjects.Miter comparison) (f ∷ []) (errors.Pair e) = Unit {0}
IsOfNext (subjects.Certified own) [] (errors.File e) = Unit {0}
IsOfNext (subjects.Certified own) (f ∷ []) (errors.Certificate e) =
    (made : Circuit) × IsFileSubject own f made
IsOfNext (subjects.MiterCertified comparison) [] (errors.Pair e) = Unit {0}
IsOfNext (subjects.MiterCertified comparison) (f ∷ []) (errors.Pair e) = Unit {0}
IsOfNext (subjects.MiterCertified comparison) (f ∷ g ∷ []) (errors.Certificate e) =
    (miter : Circuit) × IsJointOf (pairings.Miter comparison) f g miter
IsOfNext subject files e = ⊥

-- Why there is none, where just these files are taken: nothing is made of them, or the next one is
-- refused.
abbrev pub IsUnmade : Subject → List File → SubjectError → Type 0
IsUnmade (subjects.File own) (f ∷ []) (errors.File e) = IsUnmadeFile own f e
IsUnmade (subjects.Miter comparison) (f ∷ g ∷ []) (errors.Pair e) =
    IsRefusalOf (pairings.Miter comparison) f g e
IsUnmade (subjects.Certified own) (f ∷ []) (errors.File e) = IsUnmadeFile own f e
IsUnmade (subjects.Certified own) (f ∷ g ∷ []) (errors.Certificate e) =
    (made : Circuit) × IsFileSubject own f made × IsUnjoined made g e
IsUnmade (subjects.MiterCertified comparison) (f ∷ g ∷ []) (errors.Pair e) =
    IsRefusalOf (pairings.Miter comparison) f g e
IsUnmade (subjects.MiterCertified comparison) (f ∷ g ∷ h ∷ []) (errors.Certificate e) =
    (miter : Circuit) × IsJointOf (pairings.Miter comparison) f g miter × IsUnjoined miter h e
IsUnmade subject files e = IsOfNext subject files e

-- the lists are those of the circuit, or it is said why there are none
abbrev pub Gives : Subject → List File → Result CircuitLists SubjectError → Type 0
Gives subject files (Ok lists) = IsSubject subject files (lists_circuit lists)
Gives subject files (Err e) = IsUnmade subject files e

-- ---- verdicts

-- what an error of two files says of FILE, and where that is taken of OTHER
abbrev pub pair_verdicts : PairError → List Verdict
pair_verdicts (pairs.Read e) = verdict_of e ∷ []
pair_verdicts e = Accepted ∷ second_verdict e ∷ []

-- what an error says of each file that was read
abbrev pub error_verdicts : Subject → SubjectError → List Verdict
error_verdicts subject (errors.File e) = edit_verdict e ∷ []
error_verdicts subject (errors.Pair e) = pair_verdicts e
error_verdicts subject (errors.Certificate e) =
    replicate (file_count subject - 1) Accepted ++ second_verdict e ∷ []

-- what a result says of them: that each is taken, or what its error says
abbrev pub verdicts : {T : Type 0} → Subject → Result T SubjectError → List Verdict
verdicts subject (Ok x) = replicate (file_count subject) Accepted
verdicts subject (Err e) = error_verdicts subject e

-- no path is opened
abbrev pub IsOwn : SubjectError → Type 0
IsOwn (errors.File e) = IsEditOwn e
IsOwn (errors.Pair e) = joints.IsOwn e
IsOwn (errors.Certificate e) = IsOfBeside e

-- ---- what can be asked of it

-- each question can be asked of the circuit
pub record IsReady (c : Circuit) : Type 0 where
  pub circuit : IsCircuit c
  pub closed : IsClosed c
  pub starts : All HasConstantInit c.latchs

-- it is the circuit of a file, names aside
abbrev pub IsCircuitOfFile : Circuit → File → Type 0
IsCircuitOfFile m f = m ≡ record (circuit_of f) { names = m.names }
