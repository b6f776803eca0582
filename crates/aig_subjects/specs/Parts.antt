-- Serves private clauses alone.
-- What the parts of reading the files of a subject do.
use Rattle.std.specs.Prelude.{◌≡◌, ℕ, Bool, List, ◌∷◌, Option, Result, Ok, Err}
use Rattle.aig_circuit.specs.Circuit.{Circuit}
use Rattle.aig_circuit.specs.View.{lists_circuit}
use Rattle.aig_circuit.specs.declared.view.CircuitLists.{CircuitLists}
use Rattle.aig_edits.specs.Joints as joints
use Rattle.aig_edits.specs.Joints.{IsJoined, IsOfBeside, first_verdict, second_verdict}
use Rattle.aig_edits.specs.Pairs.{ReadsPair}
use Rattle.aig_edits.specs.declared.pair_error.PairError.{PairError}
use Rattle.aig_edits.specs.declared.pairing.Pairing.TheVariants.{Miter}
use Rattle.aig_format.specs.File.{File}
use Rattle.aig_join.specs.declared.comparison.Comparison.{Comparison}
use Rattle.aig_reader.specs.Verdicts.{Accepted, Verdict}
use Rattle.aig_subjects.specs.declared.error.SubjectError.{SubjectError}
use Rattle.aig_subjects.specs.declared.error.SubjectError.TheVariants as errors
use Rattle.aig_subjects.specs.Subjects.{IsBeside, IsUnjoined}

-- the first two files are read as those of a miter, and none behind them is
abbrev pub ReadsMiter : {S : Type 0} → (S → Option (List ℕ)) → (S → Bool) → ℕ → Comparison
    → List S → Result CircuitLists PairError → List S → Type 0
ReadsMiter left failed limit comparison (r ∷ s ∷ more) result (rest ∷ other ∷ others) =
    ReadsPair left failed left failed limit (IsJoined (Miter comparison)) first_verdict
    second_verdict joints.IsOwn r s result rest other
    × (others ≡ more)
ReadsMiter left failed limit comparison before result after = ⊥

-- what an error says of a certificate
abbrev pub certificate_verdict : SubjectError → Verdict
certificate_verdict (errors.Certificate e) = second_verdict e
certificate_verdict e = Accepted

-- it is one of a certificate
abbrev pub IsOfCertificate : SubjectError → Type 0
IsOfCertificate (errors.Certificate e) = IsOfBeside e
IsOfCertificate e = ⊥

-- the lists are those of the circuit beside that of the certificate, or it is said why there are
-- none
abbrev pub GivesBeside : Circuit → File → Result CircuitLists SubjectError → Type 0
GivesBeside own certificate (Ok lists) = IsBeside own certificate (lists_circuit lists)
GivesBeside own certificate (Err (errors.Certificate e)) = IsUnjoined own certificate e
GivesBeside own certificate (Err e) = ⊥
