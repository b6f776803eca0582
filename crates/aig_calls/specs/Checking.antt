-- Part of what is promised.
-- What a call checks, by the bytes of files and of proofs: a goal of a subject, or a witness
-- circuit.
use Rattle.std.specs.Prelude.{◌≡◌, ℕ, Bool, false, List, Some, Result}
use Rattle.aig_answers.specs.Goals.{ChecksGoal, last_step}
use Rattle.aig_answers.specs.declared.goals.error.GoalFault.{GoalFault}
use Rattle.aig_answers.specs.declared.goals.goal.Goal.{Goal}
use Rattle.aig_witness_circuit_checks.specs.Simulated.{Certifies, IsOwn, Proofs, file_error, proof_for, refusal_of}
use Rattle.aig_witness_circuit_checks.specs.Witnesses.{ReadsWitness}
use Rattle.aig_witness_circuit_checks.specs.declared.error.SimulationError.{SimulationError}
use Rattle.aig_subjects.specs.declared.subject.Subject.{Subject}
use Rattle.aig_tool_commands.specs.declared.tool.TheConstants.{LIMIT}
use Rattle.aig_calls.specs.Calls.{AtStep}
use Rattle.aig_subjects.specs.declared.subject.FileSubject.TheVariants.{Own}
use Rattle.aig_calls.specs.Statuses.{goal_status, simulation_status, status_by}

-- no read of bytes in memory fails
abbrev pub none_fails : List ℕ → Bool
none_fails bytes = false

-- ---- goals

-- Proofs of a goal are checked: what is said of the bytes of files and of proofs, whose readers
-- have others left after it, and which status says how it ended.
pub record ChecksGiven (subject : Subject) (goal : Goal) (base step : Bool)
    (files proofs : List (List ℕ)) (status : ℕ) : Type 0 where
  pub result : Result Unit GoalFault
  pub rest : List (List ℕ)
  pub others : List (List ℕ)
  pub checks : ChecksGoal Some none_fails Some none_fails LIMIT subject goal base step files proofs
      result rest others
  pub told : status ≡ status_by (goal_status subject goal) result

-- so where the goal's step is below 2^32, and else none is read
abbrev pub ChecksBytes : Subject → Goal → Bool → Bool → List (List ℕ) → List (List ℕ) → ℕ → Type 0
ChecksBytes subject goal base step files proofs status =
    AtStep (last_step goal) status (Unit {0})
    (ChecksGiven subject goal base step files proofs status)

-- ---- witness circuits

-- Proofs are checked that the second file is a witness circuit that simulates the first.
abbrev pub ChecksWitness : Bool → List ℕ → List ℕ → Proofs (List ℕ) → ℕ → Type 0
ChecksWitness optimize file witness proofs status =
    (result : Result Unit SimulationError) × (rest : List ℕ) × (left : List ℕ)
    × ReadsWitness Some none_fails Some none_fails LIMIT Own
    (Certifies LIMIT optimize (λ condition. Some (proof_for proofs condition)) Own)
    file_error refusal_of IsOwn file witness result rest left
    × (status ≡ status_by simulation_status result)
