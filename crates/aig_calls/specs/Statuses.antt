-- Part of what is promised.
-- The number by which a call says how it ended: 0, 1 where the answer doesn't fit the caller's
-- memory, and else that of its error. `include/aig.h` has them in words.
use Rattle.std.specs.Prelude.{ℕ, ◌+◌, ◌==◌, nat_lt, if◌then◌else◌, Result, Ok, Err}
use Rattle.aig_answers.specs.declared.error.AnswerError.{AnswerError}
use Rattle.aig_answers.specs.declared.error.AnswerError.TheVariants as answers
use Rattle.aig_bounded.specs.declared.error.BoundedError.TheVariants as questions
use Rattle.aig_answers.specs.declared.bounded_checks.error.BoundedAnswerError.{BoundedAnswerError}
use Rattle.aig_answers.specs.declared.bounded_checks.error.BoundedAnswerError.TheVariants as bounded
use Rattle.aig_answers.specs.declared.goals.error.GoalFault.{GoalFault}
use Rattle.aig_answers.specs.declared.goals.error.GoalFault.TheVariants as goal_faults
use Rattle.aig_answers.specs.declared.goals.goal.Goal.{Goal}
use Rattle.aig_answers.specs.declared.goals.goal.Goal.TheVariants as goals
use Rattle.aig_answers.specs.declared.plans.errors.PlanError.{PlanError}
use Rattle.aig_answers.specs.declared.plans.errors.PlanError.TheVariants as plans
use Rattle.aig_answers.specs.declared.plans.errors.Why.{Why}
use Rattle.aig_answers.specs.declared.plans.errors.Why.TheVariants as whys
use Rattle.aig_witness_circuit_checks.specs.declared.error.ConditionError.{ConditionError}
use Rattle.aig_witness_circuit_checks.specs.declared.error.ConditionError.TheVariants as conditions
use Rattle.aig_witness_circuit_checks.specs.declared.error.SimulationError.{SimulationError}
use Rattle.aig_witness_circuit_checks.specs.declared.error.SimulationError.TheVariants as simulation
use Rattle.aig_witness_circuits.specs.declared.condition.Condition.{Condition}
use Rattle.aig_witness_circuits.specs.declared.condition.Condition.TheVariants.{Reset, Transition, Property, Base, Step}
use Rattle.aig_witness_circuits.specs.declared.error.QuestionError.TheVariants as asking
use Rattle.aig_witness_circuits.specs.declared.sharing.error.SharingError.{SharingError}
use Rattle.aig_witness_circuits.specs.declared.sharing.error.SharingError.TheVariants as sharing
use Rattle.aig_check_commands.specs.declared.error.CheckError.{CheckError}
use Rattle.aig_check_commands.specs.declared.error.CheckError.TheVariants as checks
use Rattle.aig_tool_commands.specs.declared.tool.ToolError.{ToolError}
use Rattle.aig_tool_commands.specs.declared.tool.ToolError.TheVariants as tool
use Rattle.aig_edits.specs.declared.edit_error.EditError.{EditError}
use Rattle.aig_edits.specs.declared.edit_error.EditError.TheVariants as edit
use Rattle.aig_edits.specs.declared.pair_error.PairError.{PairError}
use Rattle.aig_edits.specs.declared.pair_error.PairError.TheVariants as pair
use Rattle.aig_encode.specs.declared.error.EncodeError.{EncodeError}
use Rattle.aig_encode.specs.declared.error.EncodeError.TheVariants as encode
use Rattle.aig_giving.specs.Statuses.{read_status}
use Rattle.aig_giving.specs.declared.status.TheConstants.{DONE, MEMORY as memory}
use Rattle.aig_witness.specs.declared.fair.fault.LassoFault.{LassoFault}
use Rattle.aig_witness.specs.declared.fair.fault.LassoFault.TheVariants as lasso
use Rattle.aig_witness.specs.declared.fair.file.ClaimError.{ClaimError}
use Rattle.aig_witness.specs.declared.fair.file.ClaimError.TheVariants as claims
use Rattle.aig_refutation.specs.declared.error.RefutationError.{RefutationError}
use Rattle.aig_refutation.specs.declared.error.RefutationError.TheVariants as refutation
use Rattle.aig_subjects.specs.declared.error.SubjectError.{SubjectError}
use Rattle.aig_subjects.specs.declared.error.SubjectError.TheVariants as subject_errors
use Rattle.aig_subjects.specs.declared.subject.FileSubject.TheVariants.{Own}
use Rattle.aig_subjects.specs.declared.subject.Subject.{Subject}
use Rattle.aig_subjects.specs.declared.subject.Subject.TheVariants as subjects
use Rattle.aig_witness.specs.declared.solutions.error.SolutionError.{SolutionError}
use Rattle.aig_witness.specs.declared.solutions.error.SolutionError.TheVariants as solution
use Rattle.aig_witness.specs.declared.error.WitnessError.{WitnessError}
use Rattle.aig_witness.specs.declared.error.WitnessError.TheVariants as witness
use Rattle.aig_witness.specs.declared.fault.WitnessFault.{WitnessFault}
use Rattle.aig_witness.specs.declared.fault.WitnessFault.TheVariants as shown
use Rattle.aig_witness.specs.declared.file.ShowError.{ShowError}
use Rattle.aig_witness.specs.declared.file.ShowError.TheVariants as shows

-- ---- names

-- K is 2^32 or more
abbrev pub many_steps : ℕ
many_steps = 4

-- a status with a flag, which says of what it is; one that says nothing has none
abbrev pub flagged : ℕ → ℕ → ℕ
flagged flag status = if nat_lt status 4 then status else flag + status

-- how a call ends that has this result
abbrev pub status_by : {T E : Type 0} → (E → ℕ) → Result T E → ℕ
status_by of (Ok x) = DONE
status_by of (Err e) = of e

-- ---- one file

-- it has no clauses
abbrev pub encode_status : EncodeError → ℕ
encode_status (encode.Read e) = read_status e
encode_status encode.Memory = memory
encode_status encode.TooLarge = 5

-- a command of `aigtool` has no answer
abbrev pub tool_status : ToolError → ℕ
tool_status (tool.Read e) = read_status e
tool_status (tool.Encode e) = encode_status e
tool_status tool.Memory = memory
tool_status (tool.Write e) = memory

-- nothing is made of a file
abbrev pub edit_status : EditError → ℕ
edit_status (edit.Read e) = read_status e
edit_status edit.Memory = memory
edit_status edit.Write = memory
edit_status edit.PassesLimit = 5
edit_status edit.NoBads = 6
edit_status edit.TooLarge = 9
edit_status edit.HasBads = 33
edit_status edit.NoOutput = 34
edit_status edit.QuestionTooLarge = 35
edit_status edit.ManyBads = 36
edit_status edit.NoBad = 37
edit_status edit.NoJustice = 38

-- ---- proofs, witnesses and solvers' answers

-- a proof is refused
abbrev pub refutation_status : RefutationError → ℕ
refutation_status refutation.Memory = memory
refutation_status refutation.Stream = memory
refutation_status refutation.Variable = 40
refutation_status refutation.Line = 41
refutation_status refutation.Literal = 42
refutation_status refutation.Unnamed = 43
refutation_status refutation.Twice = 44
refutation_status refutation.Large = 45
refutation_status refutation.Step = 46
refutation_status refutation.Asymmetry = 47
refutation_status refutation.Binary = 48
refutation_status refutation.Unfinished = 49

-- a question of a file has no answer
abbrev pub answer_status : AnswerError → ℕ
answer_status (answers.Encode e) = encode_status e
answer_status answers.NoBads = 6

-- a witness shows no bad state; which step it is isn't told
abbrev pub fault_status : WitnessFault → ℕ
fault_status shown.Memory = memory
fault_status shown.Latches = 70
fault_status (shown.Inputs step) = 71
fault_status shown.NoStep = 72
fault_status shown.NoBad = 73
fault_status shown.Start = 74
fault_status (shown.Constraint step) = 75
fault_status shown.Bad = 76

-- a witness isn't read
abbrev pub witness_status : WitnessError → ℕ
witness_status witness.Memory = memory
witness_status witness.Stream = memory
witness_status witness.Status = 60
witness_status witness.Property = 61
witness_status witness.Values = 62

-- a file and a witness show no bad state
abbrev pub show_status : ShowError → ℕ
show_status (shows.File e) = read_status e
show_status (shows.Witness e) = witness_status e
show_status shows.NoWitness = 63
show_status (shows.Check fault) = fault_status fault

-- a witness of a justice property shows no fair lasso; which step or literal it is isn't told
abbrev pub lasso_status : LassoFault → ℕ
lasso_status (lasso.Run fault) = fault_status fault
lasso_status lasso.NoJustice = 100
lasso_status lasso.NoLoop = 101
lasso_status (lasso.Literal n) = 102
lasso_status (lasso.Fairness n) = 103

-- the witness is of a bad state property
abbrev pub witness_bad : ℕ
witness_bad = 64

-- a file and a witness show no fair lasso
abbrev pub claim_status : ClaimError → ℕ
claim_status (claims.Show (shows.Check shown.Memory)) = memory
claim_status (claims.Show (shows.Check fault)) = witness_bad
claim_status (claims.Show e) = show_status e
claim_status (claims.Lasso fault) = lasso_status fault

-- a solver's answer is refused
abbrev pub solution_status : SolutionError → ℕ
solution_status solution.Memory = memory
solution_status solution.Stream = memory
solution_status solution.Unsatisfiable = 80
solution_status solution.Unknown = 81
solution_status solution.Answer = 82
solution_status solution.Line = 83
solution_status solution.Literal = 84
solution_status solution.Variable = 85
solution_status solution.Clash = 86
solution_status solution.Unfinished = 87
solution_status solution.NoBad = 88
solution_status (solution.Check fault) = fault_status fault

-- a question up to a step has no answer
abbrev pub bounded_status : BoundedAnswerError → ℕ
bounded_status (bounded.Read e) = read_status e
bounded_status bounded.NoBads = 6
bounded_status (bounded.Question questions.TooLarge) = 35
bounded_status (bounded.Question questions.Memory) = memory
bounded_status (bounded.Solution e) = solution_status e

-- ---- two files

-- no circuit is made of two files
abbrev pub pair_status : PairError → ℕ
pair_status (pair.Read e) = read_status e
pair_status (pair.Other e) = flagged 256 (read_status e)
pair_status (pair.Misfit m) = 8
pair_status pair.TooLarge = 9
pair_status pair.Memory = memory
pair_status pair.Write = memory

-- ---- goals

-- the flag of a certificate of a miter, and of its proofs
abbrev pub certificate_flag : Subject → ℕ
certificate_flag (subjects.MiterCertified comparison) = 8192
certificate_flag subject = 0

-- there is no circuit of the subject
abbrev pub subject_status : Subject → SubjectError → ℕ
subject_status subject (subject_errors.File e) = edit_status e
subject_status subject (subject_errors.Pair e) = pair_status e
subject_status subject (subject_errors.Certificate e) =
    flagged (certificate_flag subject) (pair_status e)

-- a question isn't shown to hold
abbrev pub why_status : Why → ℕ
why_status (whys.Clauses questions.TooLarge) = 35
why_status (whys.Clauses questions.Memory) = memory
why_status (whys.Refutation e) = refutation_status e

-- the flag of the question at a place of the plan: of two proofs that of the first or the second,
-- and none of a question of the file's own circuit that is alone
abbrev pub question_flag : Subject → Goal → ℕ → ℕ
question_flag subject (goals.Safe k form) i = if i == 0 then 2048 else 4096
question_flag subject (goals.SafeBySteps k form) i = if i == 0 then 512 else 1024
question_flag (subjects.File Own) goal i = 0
question_flag subject (goals.RefutedTo k) i = 2048
question_flag subject goal i = 512

-- the flag of a plan for which there is no room: that of the window, if there are first steps, and
-- none where the file's own circuit is too large
abbrev pub room_flag : Subject → Goal → ℕ → ℕ
room_flag (subjects.File Own) goal i = 0
room_flag subject (goals.Safe k form) i = 1024
room_flag subject goal i = question_flag subject goal i

-- the circuit has more nodes than the limit: as its further steps have, where some are asked about
abbrev pub nodes_status : Goal → ℕ
nodes_status (goals.RefutedTo k) = 35
nodes_status (goals.Safe k form) = 5
nodes_status goal = 11

-- the plan isn't shown to hold
abbrev pub plan_status : Subject → Goal → PlanError → ℕ
plan_status subject goal plans.TooMany = room_flag subject goal 0 + nodes_status goal
plan_status subject goal (plans.TooLarge i) = room_flag subject goal i + 5
plan_status subject goal plans.NoBads = room_flag subject goal 0 + 6
plan_status subject goal (plans.Crowded i) = room_flag subject goal i + 7
plan_status subject goal (plans.Refused e) =
    flagged (question_flag subject goal e.index) (why_status e.why)

-- a goal isn't shown of a subject
abbrev pub goal_status : Subject → Goal → GoalFault → ℕ
goal_status subject goal (goal_faults.Subject e) = subject_status subject e
goal_status subject goal goal_faults.Memory = memory
goal_status subject goal (goal_faults.Plan e) =
    flagged (certificate_flag subject) (plan_status subject goal e)

-- ---- a witness circuit

-- the names of its leaves don't say which ones are shared
abbrev pub sharing_status : SharingError → ℕ
sharing_status sharing.Memory = memory
sharing_status (sharing.Unknown n) = 14
sharing_status (sharing.Twice n) = 15

-- a condition isn't shown
abbrev pub condition_status : ConditionError → ℕ
condition_status (conditions.Question asking.Memory) = memory
condition_status (conditions.Question asking.TooLarge) = 35
condition_status (conditions.Refutation e) = refutation_status e

-- its flag
abbrev pub condition_flag : Condition → ℕ
condition_flag Reset = 16384
condition_flag Transition = 32768
condition_flag Property = 65536
condition_flag Base = 2048
condition_flag Step = 4096

-- a file's machine isn't shown to be safe by one
abbrev pub simulation_status : SimulationError → ℕ
simulation_status (simulation.File e) = edit_status e
simulation_status (simulation.Witness e) = flagged 256 (read_status e)
simulation_status simulation.NoBads = 6
simulation_status (simulation.Sharing e) = sharing_status e
simulation_status simulation.Circular = 39
simulation_status (simulation.Condition condition e) =
    flagged (condition_flag condition) (condition_status e)

-- ---- commands of `aigcheck`

-- a command has no answer
abbrev pub check_status : CheckError → ℕ
check_status checks.Open = 10
check_status checks.Memory = memory
check_status checks.Write = memory
check_status (checks.Answer e) = answer_status e
check_status (checks.Solution e) = solution_status e
check_status (checks.Show e) = show_status e
check_status (checks.Lasso e) = lasso_status e
check_status (checks.Bounded e) = bounded_status e
check_status (checks.Goal e) = goal_status e.subject e.goal e.fault
check_status (checks.Unmade e) = edit_status e
check_status (checks.Simulation e) = simulation_status e
