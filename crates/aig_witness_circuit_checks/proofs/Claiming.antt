-- The model of a file, and what it claims with a witness circuit.
use Rattle.aig_witness_circuit_checks.proofs.Words.{◌≡◌, ◌≢◌, ◌-◌, ℕ, Option, None, Result, Ok, Err, length, refl, subst, IfErr, fun_ext, Circuit, File, node_told, circuit_with_resets, Claim, SimulationError, IsOfClaim, MakesClaim, OfModel, file_error, node_of, part_of, refusal_of}
use Rattle.aig_reader.specs.declared.variable_nodes.VariableNodes.TheVariants as numbers
use Rattle.aig_subjects.specs.FileSubjects.{IsFileSubject}
use Rattle.aig_subjects.specs.declared.subject.FileSubject.{FileSubject}
use Rattle.aig_subjects.specs.declared.subject.FileSubject.TheVariants.{Own}
use Rattle.aig_witness_circuit_checks.specs.declared.error.SimulationError.TheVariants as errors

-- in the text of a made circuit variable n is node n
pub made_nodes : (own : FileSubject) (f : File) (m : Circuit) (greatest v : ℕ) → own ≢ Own
    → greatest ≡ length m.nodes - 1 → node_told (numbers.Own greatest) v ≡ node_of own f m v
made_nodes Own f m greatest v made is = absurd (made refl)
made_nodes own f m greatest v made is =
    subst (λ n. node_told (numbers.Own greatest) v ≡ node_told (numbers.Own n) v) is refl

-- what is so of the circuits that were read is so of those of the files
pub of_model : (Holds : (ℕ → Option ℕ) → Circuit → Circuit → Type 0) (own : FileSubject)
    (f g : File) (node : ℕ → Option ℕ) (m w : Circuit) → IsFileSubject own f m
    → ((v : ℕ) → node v ≡ node_of own f m v) → w ≡ circuit_with_resets g → Holds node m w
    → OfModel own f g Holds
of_model Holds own f g node m w is nodes also holds = (
  m,
  is,
  subst (λ n. Holds n m (circuit_with_resets g)) (fun_ext nodes) (subst (Holds node m) also holds),
)

-- of both files' bytes it is said that they are taken, and the errors are those of a claim
pub claim_said : (node : ℕ → Option ℕ) (m w : Circuit) (made : Result Claim SimulationError)
    → MakesClaim node m w made
    → (part_of file_error made ≡ None) × (part_of refusal_of made ≡ None) × IfErr made IsOfClaim
claim_said node m w (Ok claim) told = (refl, refl, tt)
claim_said node m w (Err errors.NoBads) told = (refl, refl, tt)
claim_said node m w (Err (errors.Sharing e)) told = (refl, refl, tt)
claim_said node m w (Err errors.Circular) told = (refl, refl, tt)
claim_said node m w (Err (errors.File e)) told = absurd told
claim_said node m w (Err (errors.Witness e)) told = absurd told
claim_said node m w (Err (errors.Condition failing e)) told = absurd told
