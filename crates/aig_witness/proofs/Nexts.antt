-- What reading the next witness tells of known bytes.
use Rattle.aig_base.proofs.Words.{◌≡◌, ℕ, Bool, false, List, [], Option, Some, None, subst, IfSome, prepend_known-nil}
use Rattle.aig.specs.Reading.{IsFileCircuit}
use Rattle.aig_circuit.specs.Circuit.{Circuit}
use Rattle.aig_format.specs.Fits.{Accepts}
use Rattle.aig_lexer.specs.Takes.{Feed, feed, Takes}
use Rattle.aig_lexer.proofs.Going.{known_after}
use Rattle.aig_reader.specs.declared.error.ReadError.{ReadError}
use Rattle.aig_reader.specs.Reading.{IsReadAs}
use Rattle.aig_reader.specs.Verdicts.{Accepted, Judges}
use Rattle.aig_reader.proofs.Verdicts.{short_of}
use Rattle.aig_witness.specs.declared.error.WitnessError.{WitnessError}
use Rattle.aig_witness.specs.declared.error.WitnessError.TheVariants as witness
use Rattle.aig_witness.specs.Faults.{HasFault, IsFault}
use Rattle.aig_witness.specs.Reading.{after_comments}
use Rattle.aig_witness.specs.Witness.{Witness}
use Rattle.aig_witness.specs.declared.fault.WitnessFault.{WitnessFault}
use Rattle.aig_witness.specs.declared.fault.WitnessFault.TheVariants as faults
use Rattle.aig_witness.specs.declared.file.ShowError.{ShowError}
use Rattle.aig_witness.specs.declared.file.ShowError.TheVariants as errors
use Rattle.aig_witness.specs.Answers.{IsWrong}
use Rattle.aig_witness.specs.Files.{FailsNext, HasNoNext, IsNext, IsNextWitness, Refuses, verdict_of}

module _ {S : Type 0} (left : S → Option (List ℕ)) (failed : S → Bool) (pulls : S → ℕ) where
  -- nothing is held before the source
  abbrev start : S → Feed
  start = feed left failed pulls []

  alone : (P : List ℕ → Type 0) (s : S) → IfSome (start s).coming P → IfSome (left s) P
  alone P s h = subst (λ (text : Option (List ℕ)). IfSome text P) (prepend_known-nil (left s)) h

  module _ {Y : Type 0} (next : List ℕ → Option (Option Y × List ℕ)) where
    pub takes_next : (s : S) (after : Feed) (y : Y) → Takes next (start s) after (Some y)
        → IsNext next (left s) y
    takes_next s after y h = alone (λ bytes. (rest : List ℕ)
        × (next bytes ≡ Some (Some y, rest))) s
        (known_after (start s).coming after.coming h.taken (λ bytes. (rest : List ℕ)
        × (next bytes ≡ Some (Some y, rest))) h.advances.consumed
        (λ rest. (rest, h.reads rest)))

  -- a fault after no bytes that are held
  pub has_fault : (justice : Bool) (e : WitnessError) (s : S) → HasFault justice e (start s).coming
      → HasFault justice e (left s)
  has_fault justice e s h = alone (λ bytes. IsFault justice e (after_comments false bytes)) s h

-- ---- a witness that isn't read

module _ (text : Option (List ℕ)) (failed : Bool) where
  -- it is no error of the file
  pub not_of_file : (e : ShowError) (of : ReadError) → HasNoNext text failed e → e ≡ errors.File of
      → ⊥
  not_of_file e of h is = subst (HasNoNext text failed) is h

  module _ (limit : ℕ) (old new : Option (List ℕ)) where
    pub refuses_next : (e : ShowError) → HasNoNext text failed e
        → Refuses limit old new text failed e
    refuses_next (errors.File e) h = absurd h
    refuses_next (errors.Check e) h = absurd h
    refuses_next e h = h

    pub judged_next : (failed_file : Bool) (e : ShowError) → Judges (λ f. Accepted) limit old new
        failed_file Accepted → HasNoNext text failed e → Judges (λ f. Accepted) limit old new
        failed_file (verdict_of e)
    judged_next failed_file (errors.File e) told h = absurd h
    judged_next failed_file (errors.Check e) told h = absurd h
    judged_next failed_file (errors.Witness witness.Memory) told h = short_of (λ f. Accepted) limit
        old new failed_file told
    judged_next failed_file e told h = told

-- ---- a witness with a fault

pub judged_fault : (limit : ℕ) (old new : Option (List ℕ)) (failed : Bool) (e : WitnessFault)
    → Judges (λ f. Accepted) limit old new failed Accepted → Judges (λ f. Accepted) limit old new
    failed (verdict_of (errors.Check e))
judged_fault limit old new failed faults.Memory told = short_of (λ f. Accepted) limit old new failed
    told
judged_fault limit old new failed e told = told

-- the fault of a witness, on the file's circuit
pub fails_on : (limit : ℕ) (old new text : Option (List ℕ)) (c : Circuit) (w : Witness)
    (e : WitnessFault) → IsReadAs (λ bytes. Accepts bytes limit) IsFileCircuit old new c
    → IsNextWitness text w → IsWrong c w e
    → IsReadAs (λ bytes. Accepts bytes limit) (FailsNext text) old new e
fails_on limit old new text c w e o next wrong = record {
  file = o.file;
  bytes = o.bytes;
  holds = o.holds;
  means = record {
    witness = w;
    next = next;
    wrong = subst (λ (c : Circuit). IsWrong c w e) o.means
        wrong;
  };
  taken = o.taken;
}
