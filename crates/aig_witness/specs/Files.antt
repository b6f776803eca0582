-- Part of what is promised.
-- What the answer of a check tells of the bytes of a file and of a witness. (AIGER format 20071012;
-- AIGER 1.9, "Witness format".)
use Rattle.std.specs.Prelude.{◌≡◌, ℕ, ◌-◌, Bool, false, List, [], length, Option, Some, None, IfSome}
use Rattle.aig_format.specs.File.{File}
use Rattle.aig_format.specs.Fits.{Accepts}
use Rattle.aig_format.specs.Circuit.{circuit_of}
use Rattle.aig_reader.specs.Reading.{IsReadAs}
use Rattle.aig_reader.specs.Verdicts as reading
use Rattle.aig_reader.specs.Verdicts.{Accepted, Short, Verdict}
use Rattle.aig_witness.specs.declared.error.WitnessError.TheVariants as witness
use Rattle.aig_lexer.specs.Faults.{Tells}
use Rattle.aig_witness.specs.Faults.{HasFault, witness_cause}
use Rattle.aig_witness.specs.Reading.{parse_next}
use Rattle.aig_witness.specs.Witness.{Witness}
use Rattle.aig_witness.specs.declared.fault.WitnessFault.{WitnessFault}
use Rattle.aig_witness.specs.declared.fault.WitnessFault.TheVariants as faults
use Rattle.aig_witness.specs.declared.file.ShowError.{ShowError}
use Rattle.aig_witness.specs.declared.file.ShowError.TheVariants as errors
use Rattle.aig_witness.specs.declared.file.Shown.{Shown}
use Rattle.aig_witness.specs.Answers.{IsWrong}
use Rattle.aig_witness.specs.Machine.{ShowsBad}
use Rattle.aig_witness.specs.Shown.{IsKnownWitness}

-- ---- the next witness

-- where the bytes are known, this reader's next witness in them is this one
abbrev pub IsNext : {Y : Type 0} → (List ℕ → Option (Option Y × List ℕ)) → Option (List ℕ) → Y
    → Type 0
IsNext next text y =
    IfSome text (λ bytes. (rest : List ℕ) × (next bytes ≡ Some (Some y, rest)))

-- the same of a bad state property
abbrev pub IsNextWitness : Option (List ℕ) → Witness → Type 0
IsNextWitness = IsNext parse_next

-- where the bytes are known, by this reader there is no witness in them, but comments alone
abbrev pub HasNone : {Y : Type 0} → (List ℕ → Option (Option Y × List ℕ)) → Option (List ℕ)
    → Type 0
HasNone next text = IfSome text (λ bytes. next bytes ≡ Some (None, []))

-- the next witness of the text shows this bad state of the file's machine
pub record ShowsNext (text : Option (List ℕ)) (f : File) (shown : Shown) : Type 0 where
  pub witness : Witness
  pub next : IsNextWitness text witness
  pub known : IsKnownWitness (circuit_of f) witness
  pub shows : ShowsBad f witness
  pub bad : shown.bad ≡ witness.bad
  pub step : shown.step ≡ length witness.steps - 1

-- the next witness of the text has this fault
pub record FailsNext (text : Option (List ℕ)) (f : File) (e : WitnessFault) : Type 0 where
  pub witness : Witness
  pub next : IsNextWitness text witness
  pub wrong : IsWrong (circuit_of f) witness e

-- ---- refusals

-- why there is no next witness: a line is malformed, memory ran out or a read failed, or there are
-- comments alone
abbrev pub HasNoNext : Option (List ℕ) → Bool → ShowError → Type 0
HasNoNext text failed (errors.Witness e) = Tells (witness_cause e) (HasFault false e text) failed
HasNoNext text failed errors.NoWitness = HasNone parse_next text
HasNoNext text failed e = ⊥

-- what a refusal tells of the witness, by the bytes that the file's reader has left before and
-- after: nothing, where the file is refused; why there is none; or its fault on the file that was
-- read
abbrev pub Refuses : ℕ → Option (List ℕ) → Option (List ℕ) → Option (List ℕ) → Bool → ShowError
    → Type 0
Refuses limit old new text failed (errors.File e) = Unit {0}
Refuses limit old new text failed (errors.Check e) =
    IsReadAs (λ bytes. Accepts bytes limit) (FailsNext text) old new e
Refuses limit old new text failed e = HasNoNext text failed e

-- what an error says of the file: it is accepted wherever the witness is refused
abbrev pub verdict_of : ShowError → Verdict
verdict_of (errors.File e) = reading.verdict_of e
verdict_of (errors.Witness witness.Memory) = Short
verdict_of (errors.Check faults.Memory) = Short
verdict_of e = Accepted
