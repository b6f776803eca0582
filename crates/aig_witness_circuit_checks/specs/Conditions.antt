-- Serves private clauses alone.
-- What is done for each condition, and for all.
use Rattle.std.specs.Prelude.{◌≡◌, ℕ, ◌<◌, ◌≤◌, Bool, IsErrOf, IsTrue, List, OnOk, length, Option, Result, Ok, Err}
use Rattle.aig_circuit.specs.View.{lists_circuit}
use Rattle.aig_edits.specs.declared.edit_error.EditError.{EditError}
use Rattle.aig_format.specs.File.{File}
use Rattle.aig_reader.specs.Reading.{node_told}
use Rattle.aig_reader.specs.declared.variable_nodes.NumberedLists.{NumberedLists}
use Rattle.aig_refutation.specs.declared.error.RefutationError.TheVariants as refutation
use Rattle.aig_runs.specs.Unrolled.{UnrolledCircuit, Unrolls}
use Rattle.aig_witness_circuits.specs.Questions.{AsksIf, Holds}
use Rattle.aig_witness_circuits.specs.declared.condition.Condition.{Condition}
use Rattle.aig_witness_circuits.specs.declared.error.QuestionError.{QuestionError}
use Rattle.aig_witness_circuit_checks.specs.declared.claim.Claim.{Claim}
use Rattle.aig_witness_circuit_checks.specs.declared.error.ConditionError.{ConditionError}
use Rattle.aig_witness_circuit_checks.specs.declared.error.ConditionError.TheVariants as conditions
use Rattle.aig_witness_circuit_checks.specs.declared.error.SimulationError.{SimulationError}
use Rattle.aig_witness_circuit_checks.specs.declared.error.SimulationError.TheVariants as errors
use Rattle.aig_witness_circuit_checks.specs.Simulated.{IsNoQuestion, LeavesProof, Proofs, TellsOfQuestion, node_of, proof_for, question_in, turn_of}
use Rattle.aig_subjects.specs.FileSubjects.{IsFileSubject, IsUnmadeFile}
use Rattle.aig_subjects.specs.declared.subject.FileSubject.{FileSubject}

-- the lists are those of the model, and of each variable the node is told by which a name calls it,
-- or it is said why there is none
abbrev pub GivesModel : FileSubject → File → Result NumberedLists EditError → Type 0
GivesModel own f (Ok read) =
    IsFileSubject own f (lists_circuit read.lists)
    × ((v : ℕ) → node_told read.variables v ≡ node_of own f (lists_circuit read.lists) v)
GivesModel own f (Err e) = IsUnmadeFile own f e

-- the condition holds of the claim
abbrev pub HoldsIn : Claim → Condition → Type 0
HoldsIn claim condition =
    Holds condition claim.shared.items (lists_circuit claim.model) (lists_circuit claim.witness)

-- the question that a claim is asked, with no further step
pub record IsAsked (limit : ℕ) (condition : Condition) (claim : Claim) (asked : UnrolledCircuit)
    : Type 0 where
  pub unrolls : Unrolls (question_in condition claim) 0 asked
  pub asks : AsksIf (HoldsIn claim condition) (question_in condition claim)
  pub few : length (question_in condition claim).nodes ≤ limit

-- it is this one, or it is said why there is none
abbrev pub AsksClaim : ℕ → Condition → Claim → Result UnrolledCircuit QuestionError → Type 0
AsksClaim limit condition claim (Ok asked) = IsAsked limit condition claim asked
AsksClaim limit condition claim (Err e) = IsNoQuestion limit (question_in condition claim) e

-- the proof isn't read
abbrev pub IsUnread : Result Unit ConditionError → Type 0
IsUnread (Ok done) = ⊥
IsUnread (Err (conditions.Question e)) = Unit {0}
IsUnread (Err (conditions.Refutation e)) = ⊥

-- what an answer tells of the question for a condition, which its error names
abbrev pub TellsAt : ℕ → Bool → Option (List ℕ) → Claim → Condition → Result Unit SimulationError
    → Type 0
TellsAt limit optimize text claim condition (Ok done) =
    TellsOfQuestion limit optimize text (question_in condition claim) (Ok tt)
TellsAt limit optimize text claim condition (Err (errors.Condition failing e)) =
    (failing ≡ condition)
    × TellsOfQuestion limit optimize text (question_in condition claim) (Err e)
TellsAt limit optimize text claim condition (Err e) = ⊥

-- What a check of a condition does: p is the proof before it, and rest after it.
pub record ChecksCondition {P : Type 0} (left : P → Option (List ℕ)) (failed : P → Bool)
    (limit : ℕ) (optimize : Bool) (claim : Claim) (condition : Condition) (p : P)
    (result : Result Unit SimulationError) (rest : P) : Type 0 where
  pub holds : OnOk result (HoldsIn claim condition)
  pub tells : TellsAt limit optimize (left p) claim condition result
  pub unread : LeavesProof condition result → rest ≡ p
  pub stream : IsErrOf result (errors.Condition condition (conditions.Refutation refutation.Stream))
      → IsTrue (failed rest)

-- what an answer tells of all conditions up to the one that isn't shown
abbrev pub ChecksClaim : {P : Type 0} → (P → Option (List ℕ)) → ℕ → Bool → Claim
    → Proofs P → Result Unit SimulationError → Type 0
ChecksClaim left limit optimize claim proofs (Ok done) =
    ((condition : Condition) → HoldsIn claim condition)
    × ((condition : Condition)
    → TellsOfQuestion limit optimize (left (proof_for proofs condition))
    (question_in condition claim) (Ok tt))
ChecksClaim left limit optimize claim proofs (Err (errors.Condition failing e)) =
    ((condition : Condition) → turn_of condition < turn_of failing
    → TellsOfQuestion limit optimize (left (proof_for proofs condition))
    (question_in condition claim) (Ok tt))
    × TellsOfQuestion limit optimize (left (proof_for proofs failing)) (question_in failing claim)
    (Err e)
ChecksClaim left limit optimize claim proofs (Err e) = ⊥
