-- Part of what is promised.
-- What an answer says of a circuit of a file and of a witness circuit that simulates it, and what
-- its errors say. (Certificates of the hardware model checking competition.)
use Rattle.std.specs.Prelude.{◌≡◌, ◌≢◌, ℕ, ◌-◌, ◌<◌, ◌≤◌, nat_le, if◌then◌else◌, Bool, List, [], length, OnOk, Option, Some, None, Result, Ok, Err}
use Rattle.aig_answers.specs.Answers.{AskWith, IsCircuitQuery, TellsOfCircuit, query_with}
use Rattle.aig_circuit.specs.Circuit.{Circuit, IsCircuit}
use Rattle.aig_circuit.specs.View.{lists_circuit}
use Rattle.aig_edits.specs.Edits.{IsEditOwn}
use Rattle.aig_edits.specs.declared.edit_error.EditError.{EditError}
use Rattle.aig_format.specs.File.{File}
use Rattle.aig_reader.specs.Reading.{node_in}
use Rattle.aig_reader.specs.Resets.{circuit_with_resets}
use Rattle.aig_reader.specs.declared.error.ReadError.{ReadError}
use Rattle.aig_reader.specs.declared.error.ReadError.TheVariants as read
use Rattle.aig_witness_circuits.specs.Circular.{IsCircular}
use Rattle.aig_witness_circuits.specs.Named.{IsFault, Shares}
use Rattle.aig_witness_circuits.specs.Exact.{model_leaf, question_of}
use Rattle.aig_witness_circuits.specs.Questions.{CanShareLeaves}
use Rattle.aig_witness_circuits.specs.Simulation.{CanStart, Sharing}
use Rattle.aig_witness_circuits.specs.declared.condition.Condition.{Condition}
use Rattle.aig_witness_circuits.specs.declared.condition.Condition.TheVariants.{Reset, Transition, Property, Base, Step}
use Rattle.aig_witness_circuits.specs.declared.error.QuestionError.{QuestionError}
use Rattle.aig_witness_circuits.specs.declared.error.QuestionError.TheVariants as questions
use Rattle.aig_subjects.specs.FileSubjects.{FileShowsAlways, IsFileSubject}
use Rattle.aig_subjects.specs.declared.subject.FileSubject.{FileSubject}
use Rattle.aig_subjects.specs.declared.subject.FileSubject.TheVariants.{Own}
use Rattle.aig_witness_circuit_checks.specs.declared.claim.Claim.{Claim}
use Rattle.aig_witness_circuit_checks.specs.declared.error.ConditionError.{ConditionError}
use Rattle.aig_witness_circuit_checks.specs.declared.error.ConditionError.TheVariants as conditions
use Rattle.aig_witness_circuit_checks.specs.declared.error.SimulationError.{SimulationError}
use Rattle.aig_witness_circuit_checks.specs.declared.error.SimulationError.TheVariants as errors
use Rattle.aig_witness_circuit_checks.specs.declared.obligation.Obligation.{Obligation}

-- ---- errors

-- why the file is refused, or nothing is made of it, if so
abbrev pub file_error : SimulationError → Option EditError
file_error (errors.File e) = Some e
file_error e = None

-- why the witness circuit's bytes are refused, if they are
abbrev pub refusal_of : SimulationError → Option ReadError
refusal_of (errors.Witness e) = Some e
refusal_of e = None

-- no path is opened
abbrev pub IsOwn : SimulationError → Type 0
IsOwn (errors.File e) = IsEditOwn e
IsOwn (errors.Witness e) = e ≢ read.Open
IsOwn e = Unit {0}

-- and nothing is asked
abbrev pub IsOfClaim : SimulationError → Type 0
IsOfClaim (errors.Condition condition e) = ⊥
IsOfClaim e = IsOwn e

-- there are no clauses
abbrev pub IsOfQuestion : ConditionError → Type 0
IsOfQuestion (conditions.Question e) = Unit {0}
IsOfQuestion (conditions.Refutation e) = ⊥

-- and nothing but this condition is asked, and no proof is read
abbrev pub IsOfObligation : Condition → SimulationError → Type 0
IsOfObligation condition (errors.Condition asked e) = (asked ≡ condition) × IsOfQuestion e
IsOfObligation condition e = IsOwn e

-- ---- proofs

-- one for each condition
pub record Proofs (P : Type 0) : Type 0 where
  pub reset : P
  pub transition : P
  pub property : P
  pub base : P
  pub step : P

abbrev pub proofs_of : {P : Type 0} → P → P → P → P → P → Proofs P
proofs_of reset transition property base step =
    record {
      reset = reset;
      transition = transition;
      property = property;
      base = base;
      step = step;
    }

-- the proof for a condition
abbrev pub proof_for : {P : Type 0} → Proofs P → Condition → P
proof_for proofs Reset = proofs.reset
proof_for proofs Transition = proofs.transition
proof_for proofs Property = proofs.property
proof_for proofs Base = proofs.base
proof_for proofs Step = proofs.step

-- its turn
abbrev pub turn_of : Condition → ℕ
turn_of Reset = 0
turn_of Transition = 1
turn_of Property = 2
turn_of Base = 3
turn_of Step = 4

-- it isn't read: those after one that isn't taken, and that one too where it has no clauses
abbrev pub LeavesProof : Condition → Result Unit SimulationError → Type 0
LeavesProof condition (Ok done) = ⊥
LeavesProof condition (Err (errors.Condition failing (conditions.Question e))) =
    turn_of failing ≤ turn_of condition
LeavesProof condition (Err (errors.Condition failing (conditions.Refutation e))) =
    turn_of failing < turn_of condition
LeavesProof condition (Err e) = Unit {0}

-- ---- questions

-- A claim that was read: its lists are circuits, the witness circuit's names, or their order, say
-- which leaves are shared, and its own latches can start.
pub record IsClaim (claim : Claim) : Type 0 where
  pub model : IsCircuit (lists_circuit claim.model)
  pub witness : IsCircuit (lists_circuit claim.witness)
  pub shared : CanShareLeaves claim.shared.items (lists_circuit claim.model)
      (lists_circuit claim.witness)
  pub can_start : CanStart claim.shared.items (lists_circuit claim.witness)

-- the question for a condition of a claim
abbrev pub question_in : Condition → Claim → Circuit
question_in condition claim =
    question_of condition (model_leaf claim.shared.items) (lists_circuit claim.model)
    (lists_circuit claim.witness)

-- which node of the model m a variable is by which a name calls it: of the file's own circuit that
-- of the file's variable, and else the one of this number, up to the last
abbrev pub node_of : FileSubject → File → Circuit → ℕ → Option ℕ
node_of Own f m = node_in f
node_of own f m = λ v. if nat_le v (length m.nodes - 1) then Some v else None

-- this holds of the model of a file, of the node of each variable, and of the witness circuit
abbrev pub OfModel : FileSubject → File → File
    → ((ℕ → Option ℕ) → Circuit → Circuit → Type 0) → Type 0
OfModel own f g Holds =
    (m : Circuit) × IsFileSubject own f m × Holds (node_of own f m) m (circuit_with_resets g)

-- the question for a condition of a model m and a witness circuit w, of which there is one
-- (`condition_questions_are_one`)
abbrev pub IsQuestionOf : Condition → (ℕ → Option ℕ) → Circuit → Circuit → Circuit → Type 0
IsQuestionOf condition node m w q =
    (shared : Sharing) × Shares node m w shared
    × (q ≡ question_of condition (model_leaf shared) m w)

-- why there are no clauses of the question q
abbrev pub IsNoQuestion : ℕ → Circuit → QuestionError → Type 0
IsNoQuestion limit q questions.Memory = Unit {0}
IsNoQuestion limit q questions.TooLarge = limit < length q.nodes

-- What an answer about a condition tells of its question q: the text of the proof refutes the
-- clauses of its query for step 0, as every call makes them, or it is said why that isn't shown.
abbrev pub TellsOfQuestion : ℕ → Bool → Option (List ℕ) → Circuit → Result Unit ConditionError
    → Type 0
TellsOfQuestion limit optimize text q (Ok done) =
    (length q.nodes ≤ limit) × TellsOfCircuit 0 optimize text q (Ok tt)
TellsOfQuestion limit optimize text q (Err (conditions.Question e)) = IsNoQuestion limit q e
TellsOfQuestion limit optimize text q (Err (conditions.Refutation e)) =
    (length q.nodes ≤ limit) × TellsOfCircuit 0 optimize text q (Err e)

-- ---- answers

-- the model has a bad edge
abbrev pub HasBads : Circuit → Type 0
HasBads m = m.properties.bads ≢ []

-- the resets of the witness circuit's own latches go round in a circle
abbrev pub GoRound : (ℕ → Option ℕ) → Circuit → Circuit → Type 0
GoRound node m w = (shared : Sharing) × Shares node m w shared × IsCircular shared w

-- why a model and a witness circuit claim nothing
abbrev pub ClaimsNothing : (ℕ → Option ℕ) → Circuit → Circuit → SimulationError → Type 0
ClaimsNothing node m w errors.NoBads = m.properties.bads ≡ []
ClaimsNothing node m w (errors.Sharing e) = HasBads m × IsFault node m w e
ClaimsNothing node m w errors.Circular = HasBads m × GoRound node m w
ClaimsNothing node m w e = ⊥

-- the claim is of these circuits, with the leaves that they share, and no resets go round in a
-- circle, or it is said why there is none
abbrev pub MakesClaim : (ℕ → Option ℕ) → Circuit → Circuit → Result Claim SimulationError → Type 0
MakesClaim node m w (Ok claim) =
    HasBads m × (lists_circuit claim.model ≡ m) × (lists_circuit claim.witness ≡ w)
    × Shares node m w claim.shared.items × (¬ IsCircular claim.shared.items w)
MakesClaim node m w (Err e) = ClaimsNothing node m w e

-- so of the file and the witness circuit
abbrev pub Claims : FileSubject → File → File → Result Claim SimulationError → Type 0
Claims own f g result = OfModel own f g (λ node m w. MakesClaim node m w result)

-- what an answer about a condition tells of its question
abbrev pub TellsOfCondition : ℕ → Bool → (Condition → Option (List ℕ)) → (ℕ → Option ℕ) → Circuit
    → Circuit → Condition → Result Unit ConditionError → Type 0
TellsOfCondition limit optimize texts node m w condition answer =
    (q : Circuit) × IsQuestionOf condition node m w q
    × TellsOfQuestion limit optimize (texts condition) q answer

-- proofs of these texts are taken for each condition of a model m and a witness circuit w, or it is
-- said why not
abbrev pub ChecksModel : ℕ → Bool → (Condition → Option (List ℕ)) → (ℕ → Option ℕ) → Circuit
    → Circuit → Result Unit SimulationError → Type 0
ChecksModel limit optimize texts node m w (Ok done) =
    HasBads m
    × ((condition : Condition) → TellsOfCondition limit optimize texts node m w condition (Ok tt))
ChecksModel limit optimize texts node m w (Err (errors.Condition failing e)) =
    HasBads m
    × ((condition : Condition) → turn_of condition < turn_of failing
    → TellsOfCondition limit optimize texts node m w condition (Ok tt))
    × TellsOfCondition limit optimize texts node m w failing (Err e)
ChecksModel limit optimize texts node m w (Err e) = ClaimsNothing node m w e

-- What is asked about the file is so at every step, as the witness circuit shows with proofs of
-- these texts, or it is said why that isn't shown.
abbrev pub Certifies : ℕ → Bool → (Condition → Option (List ℕ)) → FileSubject → File → File
    → Result Unit SimulationError → Type 0
Certifies limit optimize texts own f g result =
    OnOk result (FileShowsAlways own f)
    × OfModel own f g (λ node m w. ChecksModel limit optimize texts node m w result)

-- ---- clauses

-- The parts from which the clauses of a question are written, whichever list is made of them, are
-- those of its query for step 0.
pub record IsObligation (limit : ℕ) (optimize : Bool) (q : Circuit) (o : Obligation) : Type 0 where
  pub question : o.question.circuit ≡ q
  pub few : length q.nodes ≤ limit
  pub asks : AskWith o.question.unrolled optimize
      (λ made. IsCircuitQuery q 0 optimize (query_with o.question.unrolled made)) o.parts

-- the parts are those, or it is said why there are none
abbrev pub MakesObligation : ℕ → Bool → Circuit → Result Obligation QuestionError → Type 0
MakesObligation limit optimize q (Ok o) = IsObligation limit optimize q o
MakesObligation limit optimize q (Err e) = IsNoQuestion limit q e
