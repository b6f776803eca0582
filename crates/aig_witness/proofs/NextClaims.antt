-- What reading the next witness of either kind tells of known bytes.
use Rattle.aig_base.proofs.Words.{◌≡◌, ℕ, Bool, true, List, Option, Result, Ok, Err, IfErr, IfOk, subst}
use Rattle.aig.specs.Reading.{IsFileCircuit}
use Rattle.aig_circuit.specs.Circuit.{Circuit}
use Rattle.aig_format.specs.Circuit.{circuit_of}
use Rattle.aig_format.specs.File.{File}
use Rattle.aig_format.specs.Fits.{Accepts, Fits}
use Rattle.aig_reader.specs.declared.error.ReadError.{ReadError}
use Rattle.aig_reader.specs.Reading.{IsReadAs}
use Rattle.aig_reader.specs.Verdicts.{Accepted, Judges}
use Rattle.aig_reader.proofs.Verdicts.{short_of}
use Rattle.aig_witness.specs.declared.error.WitnessError.TheVariants as witness
use Rattle.aig_witness.specs.declared.fault.WitnessFault.TheVariants as faults
use Rattle.aig_witness.specs.declared.file.ShowError.{ShowError}
use Rattle.aig_witness.specs.declared.file.ShowError.TheVariants as shows
use Rattle.aig_witness.specs.Files.{IsNext}
use Rattle.aig_witness.specs.Reading.{parse_next_claim}
use Rattle.aig_witness.specs.Shown.{IsKnownWitness}
use Rattle.aig_witness.specs.Machine.{ShowsBad}
use Rattle.aig_witness.specs.Witness.{Claim, Witness}
use Rattle.aig_witness.specs.declared.fair.fault.LassoFault.TheVariants as lassos
use Rattle.aig_witness.specs.declared.fair.file.ClaimError.{ClaimError}
use Rattle.aig_witness.specs.declared.fair.file.ClaimError.TheVariants as errors
use Rattle.aig_witness.specs.declared.fair.file.ShownProperty.{ShownProperty}
use Rattle.aig_witness.specs.declared.fair.file.ShownProperty.TheVariants as properties
use Rattle.aig_witness.specs.Claims.{ChecksClaim, FailsClaim, HasNoClaim, IsKnownClaim, IsWrongClaim, RefusesClaim, ShowsClaim, ShowsProperty, verdict_of}
use Rattle.aig_witness.specs.Lassos.{IsKnownLasso}
use Rattle.aig_witness.specs.ShownLassos.{ShowsLasso}

-- ---- a witness that isn't read

module _ (text : Option (List ℕ)) (failed : Bool) where
  -- it is no error of the file
  pub not_of_file : (e : ShowError) (of : ReadError) → HasNoClaim text failed e → e ≡ shows.File of
      → ⊥
  not_of_file e of h is = subst (HasNoClaim text failed) is h

  module _ (limit : ℕ) (old new : Option (List ℕ)) where
    pub refuses_next : (e : ShowError) → HasNoClaim text failed e
        → RefusesClaim limit old new text failed (errors.Show e)
    refuses_next (shows.File e) h = absurd h
    refuses_next (shows.Check e) h = absurd h
    refuses_next e h = h

    pub judged_next : (failed_file : Bool) (e : ShowError) → Judges (λ f. Accepted) limit old new
        failed_file Accepted → HasNoClaim text failed e → Judges (λ f. Accepted) limit old new
        failed_file (verdict_of (errors.Show e))
    judged_next failed_file (shows.File e) told h = absurd h
    judged_next failed_file (shows.Check e) told h = absurd h
    judged_next failed_file (shows.Witness witness.Memory) told h = short_of (λ f. Accepted) limit
        old new failed_file told
    judged_next failed_file e told h = told

-- ---- a witness that was read, and what was found of it

module _ (limit : ℕ) (old new text : Option (List ℕ)) (c : Circuit) (claim : Claim)
    (o : IsReadAs (λ bytes. Accepts bytes limit) IsFileCircuit old new c)
    (next : IsNext (parse_next_claim true) text claim) where
  fails_on : (e : ClaimError) → IsWrongClaim c claim e
      → IsReadAs (λ bytes. Accepts bytes limit) (FailsClaim text) old new e
  fails_on e wrong = record {
    file = o.file;
    bytes = o.bytes;
    holds = o.holds;
    means = record {
      claim = claim;
      next = next;
      wrong = subst (λ (c : Circuit). IsWrongClaim c claim e) o.means wrong;
    };
    taken = o.taken;
  }

  pub refuses_wrong : (failed : Bool) (e : ClaimError) → IsWrongClaim c claim e
      → RefusesClaim limit old new text failed e
  refuses_wrong failed (errors.Show (shows.File e)) wrong = tt
  refuses_wrong failed (errors.Show (shows.Check e)) wrong = fails_on (errors.Show (shows.Check e))
      wrong
  refuses_wrong failed (errors.Show (shows.Witness e)) wrong = absurd wrong
  refuses_wrong failed (errors.Show shows.NoWitness) wrong = absurd wrong
  refuses_wrong failed (errors.Lasso e) wrong = fails_on (errors.Lasso e) wrong

  pub judged_wrong : (failed : Bool) (e : ClaimError) → Judges (λ f. Accepted) limit old new failed
      Accepted → IsWrongClaim c claim e → Judges (λ f. Accepted) limit old new failed (verdict_of e)
  judged_wrong failed (errors.Show (shows.File e)) told wrong = absurd wrong
  judged_wrong failed (errors.Show (shows.Witness e)) told wrong = absurd wrong
  judged_wrong failed (errors.Show shows.NoWitness) told wrong = told
  judged_wrong failed (errors.Show (shows.Check faults.Memory)) told wrong = short_of (λ f.
      Accepted)
      limit old new failed told
  judged_wrong failed (errors.Show (shows.Check e)) told wrong = told
  judged_wrong failed (errors.Lasso (lassos.Run faults.Memory)) told wrong = short_of (λ f.
      Accepted)
      limit old new failed told
  judged_wrong failed (errors.Lasso e) told wrong = told

  pub not_of_the_file : (e : ClaimError) (of : ReadError) → IsWrongClaim c claim e
      → e ≡ errors.Show (shows.File of) → ⊥
  not_of_the_file e of wrong is = subst (IsWrongClaim c claim) is wrong

  -- what is known of the circuit is so of the machine
  pub shows_claim : ((f : File) (limit : ℕ) (w : Witness) → Fits f limit
      → IsKnownWitness (circuit_of f) w → ShowsBad f w)
      → ((f : File) (limit l : ℕ) (w : Witness) → Fits f limit
      → IsKnownLasso (circuit_of f) w l → ShowsLasso f w l)
      → (shown : ShownProperty) → IsKnownClaim c claim shown
      → IsReadAs (λ bytes. Accepts bytes limit) (ShowsClaim text) old new shown
  shows_claim bads fair shown known =
      let of_file = subst (λ (c : Circuit). IsKnownClaim c claim shown) o.means known in
      record {
        file = o.file;
        bytes = o.bytes;
        holds = o.holds;
        means = record {
          claim = claim;
          next = next;
          known = of_file;
          shows = by shown of_file;
        };
        taken = o.taken;
      }
    where
      by : (shown : ShownProperty) → IsKnownClaim (circuit_of o.file) claim shown
          → ShowsProperty o.file claim.witness shown
      by (properties.Bad s) known = bads o.file limit claim.witness o.holds.1 known.1
      by (properties.Lasso s) known = fair o.file limit s.start claim.witness o.holds.1 known.1

  -- both together, by what the check gave
  pub answers : ((f : File) (limit : ℕ) (w : Witness) → Fits f limit
      → IsKnownWitness (circuit_of f) w → ShowsBad f w)
      → ((f : File) (limit l : ℕ) (w : Witness) → Fits f limit
      → IsKnownLasso (circuit_of f) w l → ShowsLasso f w l)
      → (r : Result ShownProperty ClaimError) → ChecksClaim c claim r
      → IfOk r (IsReadAs (λ bytes. Accepts bytes limit) (ShowsClaim text) old new)
  answers bads fair (Ok shown) known = shows_claim bads fair shown known
  answers bads fair (Err e) wrong = tt

  pub refuses : (failed : Bool) (r : Result ShownProperty ClaimError) → ChecksClaim c claim r
      → IfErr r (RefusesClaim limit old new text failed)
  refuses failed (Ok shown) known = tt
  refuses failed (Err e) wrong = refuses_wrong failed e wrong
