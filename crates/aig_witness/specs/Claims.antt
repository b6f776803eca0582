-- Part of what is promised.
-- What the answer of a check tells of the bytes of a file and of a witness of a property of either
-- kind. (AIGER format 20071012; AIGER 1.9, "Witness format".)
use Rattle.std.specs.Prelude.{◌≡◌, ℕ, ◌-◌, Bool, true, List, length, Option, Result, Ok, Err}
use Rattle.aig_circuit.specs.Circuit.{Circuit}
use Rattle.aig_format.specs.Circuit.{circuit_of}
use Rattle.aig_format.specs.File.{File}
use Rattle.aig_format.specs.Fits.{Accepts}
use Rattle.aig_lexer.specs.Faults.{Tells}
use Rattle.aig_reader.specs.Reading.{IsReadAs}
use Rattle.aig_reader.specs.Verdicts.{Accepted, Short, Verdict}
use Rattle.aig_witness.specs.declared.fault.WitnessFault.TheVariants as faults
use Rattle.aig_witness.specs.declared.file.ShowError.{ShowError}
use Rattle.aig_witness.specs.declared.file.ShowError.TheVariants as shows
use Rattle.aig_witness.specs.declared.witness.PropertyKind.TheVariants as kinds
use Rattle.aig_witness.specs.Answers.{IsWrong}
use Rattle.aig_witness.specs.Faults.{HasFault, witness_cause}
use Rattle.aig_witness.specs.Files as showing
use Rattle.aig_witness.specs.Files.{HasNone, IsNext}
use Rattle.aig_witness.specs.Machine.{ShowsBad}
use Rattle.aig_witness.specs.Reading.{parse_next_claim}
use Rattle.aig_witness.specs.Shown.{IsKnownWitness}
use Rattle.aig_witness.specs.Witness.{Claim, Witness}
use Rattle.aig_witness.specs.declared.fair.fault.LassoFault.TheVariants as lassos
use Rattle.aig_witness.specs.declared.fair.file.ClaimError.{ClaimError}
use Rattle.aig_witness.specs.declared.fair.file.ClaimError.TheVariants as errors
use Rattle.aig_witness.specs.declared.fair.file.ShownProperty.{ShownProperty}
use Rattle.aig_witness.specs.declared.fair.file.ShownProperty.TheVariants as properties
use Rattle.aig_witness.specs.WrongLassos.{IsWrongLasso}
use Rattle.aig_witness.specs.Lassos.{IsKnownLasso}
use Rattle.aig_witness.specs.ShownLassos.{ShowsLasso}

-- ---- of a circuit

-- the witness shows this of a circuit, by its values that are known
abbrev pub IsKnownClaim : Circuit → Claim → ShownProperty → Type 0
IsKnownClaim c claim (properties.Bad s) =
    (claim.kind ≡ kinds.Bad) × IsKnownWitness c claim.witness × (s.bad ≡ claim.witness.bad)
    × (s.step ≡ length claim.witness.steps - 1)
IsKnownClaim c claim (properties.Lasso s) =
    (claim.kind ≡ kinds.Justice) × IsKnownLasso c claim.witness s.start
    × (s.justice ≡ claim.witness.bad) × (s.last ≡ length claim.witness.steps - 1)

-- what is wrong first of the witness
abbrev pub IsWrongClaim : Circuit → Claim → ClaimError → Type 0
IsWrongClaim c claim (errors.Show (shows.Check e)) =
    (claim.kind ≡ kinds.Bad) × IsWrong c claim.witness e
IsWrongClaim c claim (errors.Show e) = ⊥
IsWrongClaim c claim (errors.Lasso e) =
    (claim.kind ≡ kinds.Justice) × IsWrongLasso c claim.witness e

-- the one or the other
abbrev pub ChecksClaim : Circuit → Claim → Result ShownProperty ClaimError → Type 0
ChecksClaim c claim (Ok shown) = IsKnownClaim c claim shown
ChecksClaim c claim (Err e) = IsWrongClaim c claim e

-- ---- of a file's machine

-- the witness shows a bad state, or a fair lasso whose loop starts at this step
abbrev pub ShowsProperty : File → Witness → ShownProperty → Type 0
ShowsProperty f w (properties.Bad s) = ShowsBad f w
ShowsProperty f w (properties.Lasso s) = ShowsLasso f w s.start

-- the next witness of the text, of either kind, shows this of the file's machine
pub record ShowsClaim (text : Option (List ℕ)) (f : File) (shown : ShownProperty) : Type 0 where
  pub claim : Claim
  pub next : IsNext (parse_next_claim true) text claim
  pub known : IsKnownClaim (circuit_of f) claim shown
  pub shows : ShowsProperty f claim.witness shown

-- the next witness of the text has this fault
pub record FailsClaim (text : Option (List ℕ)) (f : File) (e : ClaimError) : Type 0 where
  pub claim : Claim
  pub next : IsNext (parse_next_claim true) text claim
  pub wrong : IsWrongClaim (circuit_of f) claim e

-- ---- refusals

-- why there is no next witness: a line is malformed, memory ran out or a read failed, or there are
-- comments alone
abbrev pub HasNoClaim : Option (List ℕ) → Bool → ShowError → Type 0
HasNoClaim text failed (shows.Witness e) = Tells (witness_cause e) (HasFault true e text) failed
HasNoClaim text failed shows.NoWitness = HasNone (parse_next_claim true) text
HasNoClaim text failed e = ⊥

-- what a refusal tells of the witness, by the bytes that the file's reader has left before and
-- after: nothing, where the file is refused; why there is none; or its fault on the file that was
-- read
abbrev pub RefusesClaim : ℕ → Option (List ℕ) → Option (List ℕ) → Option (List ℕ) → Bool
    → ClaimError → Type 0
RefusesClaim limit old new text failed (errors.Show (shows.File e)) = Unit {0}
RefusesClaim limit old new text failed (errors.Show (shows.Check e)) =
    IsReadAs (λ bytes. Accepts bytes limit) (FailsClaim text) old new
    (errors.Show (shows.Check e))
RefusesClaim limit old new text failed (errors.Show e) = HasNoClaim text failed e
RefusesClaim limit old new text failed (errors.Lasso e) =
    IsReadAs (λ bytes. Accepts bytes limit) (FailsClaim text) old new (errors.Lasso e)

-- what an error says of the file: it is accepted wherever the witness is refused
abbrev pub verdict_of : ClaimError → Verdict
verdict_of (errors.Show e) = showing.verdict_of e
verdict_of (errors.Lasso (lassos.Run faults.Memory)) = Short
verdict_of (errors.Lasso e) = Accepted
