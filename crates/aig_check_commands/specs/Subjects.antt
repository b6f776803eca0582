-- Part of what is promised.
-- What an error is about: a file, or none, and how the place is found where reading it stopped.
use Rattle.std.specs.Prelude.{ℕ, zero}
use Rattle.aig_answers.specs.declared.error.AnswerError.{AnswerError}
use Rattle.aig_answers.specs.declared.error.AnswerError.TheVariants as answers
use Rattle.aig_bounded.specs.declared.error.BoundedError.TheVariants as questions
use Rattle.aig_answers.specs.declared.bounded_checks.error.BoundedAnswerError.{BoundedAnswerError}
use Rattle.aig_answers.specs.declared.bounded_checks.error.BoundedAnswerError.TheVariants as bounded
use Rattle.aig_command_line.specs.declared.tally.Measure.{Measure}
use Rattle.aig_command_line.specs.declared.tally.Measure.TheVariants as measures
use Rattle.aig_edits.specs.declared.edit_error.EditError.{EditError}
use Rattle.aig_edits.specs.declared.edit_error.EditError.TheVariants as edit
use Rattle.aig_edits.specs.declared.pair_error.PairError.{PairError}
use Rattle.aig_edits.specs.declared.pair_error.PairError.TheVariants as pair
use Rattle.aig_encode.specs.declared.error.EncodeError.{EncodeError}
use Rattle.aig_encode.specs.declared.error.EncodeError.TheVariants as encode
use Rattle.aig_witness.specs.declared.fair.fault.LassoFault.{LassoFault}
use Rattle.aig_witness.specs.declared.fair.fault.LassoFault.TheVariants as lassos
use Rattle.aig_reader.specs.declared.error.ReadError.{ReadError}
use Rattle.aig_reader.specs.declared.error.ReadError.TheVariants as read
use Rattle.aig_reader.specs.declared.error.Section.TheVariants as section
use Rattle.aig_refutation.specs.declared.error.RefutationError.{RefutationError}
use Rattle.aig_refutation.specs.declared.error.RefutationError.TheVariants as refutation
use Rattle.aig_answers.specs.declared.goals.error.GoalError.{GoalError}
use Rattle.aig_answers.specs.declared.goals.error.GoalFault.{GoalFault}
use Rattle.aig_answers.specs.declared.goals.error.GoalFault.TheVariants as goal_faults
use Rattle.aig_answers.specs.declared.plans.errors.PlanError.{PlanError}
use Rattle.aig_answers.specs.declared.plans.errors.PlanError.TheVariants as plans
use Rattle.aig_answers.specs.declared.plans.errors.Why.{Why}
use Rattle.aig_answers.specs.declared.plans.errors.Why.TheVariants as whys
use Rattle.aig_witness.specs.declared.solutions.error.SolutionError.{SolutionError}
use Rattle.aig_witness.specs.declared.solutions.error.SolutionError.TheVariants as solution
use Rattle.aig_witness.specs.declared.error.WitnessError.{WitnessError}
use Rattle.aig_witness.specs.declared.error.WitnessError.TheVariants as witness
use Rattle.aig_witness.specs.declared.fault.WitnessFault.{WitnessFault}
use Rattle.aig_witness.specs.declared.fault.WitnessFault.TheVariants as faults
use Rattle.aig_witness.specs.declared.file.ShowError.{ShowError}
use Rattle.aig_witness.specs.declared.file.ShowError.TheVariants as shows
use Rattle.aig_witness_circuit_checks.specs.Simulated.{turn_of}
use Rattle.aig_witness_circuit_checks.specs.declared.error.ConditionError.{ConditionError}
use Rattle.aig_witness_circuit_checks.specs.declared.error.ConditionError.TheVariants as conditions
use Rattle.aig_witness_circuit_checks.specs.declared.error.SimulationError.{SimulationError}
use Rattle.aig_witness_circuit_checks.specs.declared.error.SimulationError.TheVariants as simulation
use Rattle.aig_witness_circuits.specs.declared.condition.Condition.{Condition}
use Rattle.aig_witness_circuits.specs.declared.error.QuestionError.TheVariants as asking
use Rattle.aig_witness_circuits.specs.declared.sharing.error.SharingError.{SharingError}
use Rattle.aig_witness_circuits.specs.declared.sharing.error.SharingError.TheVariants as sharing
use Rattle.aig_subjects.specs.declared.error.SubjectError.{SubjectError}
use Rattle.aig_subjects.specs.declared.error.SubjectError.TheVariants as refusals
use Rattle.aig_subjects.specs.declared.subject.Subject as of
use Rattle.aig_subjects.specs.declared.subject.Subject.TheVariants as asked
use Rattle.aig_check_commands.specs.declared.refusals.subjects.About.{About}
use Rattle.aig_check_commands.specs.declared.refusals.subjects.Search.TheVariants as searches
use Rattle.aig_check_commands.specs.declared.refusals.subjects.Subject.{Subject}
use Rattle.aig_check_commands.specs.declared.refusals.subjects.Subject.TheVariants as subjects
use Rattle.aig_check_commands.specs.declared.error.CheckError.{CheckError}
use Rattle.aig_check_commands.specs.declared.error.CheckError.TheVariants as errors

-- a file as a whole
abbrev pub whole : Subject → About
whole subject = record { subject = subject; search = searches.Nowhere }

-- no file
abbrev pub nothing : About
nothing = whole subjects.Nothing

-- a place that is found by running the command again, and told so
abbrev pub found : Subject → Measure → About
found subject measure = record { subject = subject; search = searches.Run measure }

-- a place that is found by reading the AIGER file again
abbrev pub read_again : Subject → ReadError → About
read_again subject e = record { subject = subject; search = searches.Read e }

-- an AIGER file
abbrev pub about_read : Subject → ReadError → About
about_read subject read.Memory = nothing
about_read subject read.Open = whole subjects.Unopened
about_read subject e = read_again subject e

-- FILE, of which clauses are made
abbrev pub about_encode : EncodeError → About
about_encode (encode.Read e) = about_read subjects.File e
about_encode encode.Memory = nothing
about_encode encode.TooLarge = whole subjects.File

-- a proof
abbrev pub about_refutation : Subject → RefutationError → About
about_refutation subject refutation.Memory = nothing
about_refutation subject refutation.Variable = nothing
about_refutation subject refutation.Stream = whole subject
about_refutation subject refutation.Unfinished = whole subject
about_refutation subject refutation.Binary = found subject measures.Byte
about_refutation subject e = found subject measures.Proof

-- FILE or the proof about it
abbrev pub about_answer : AnswerError → About
about_answer (answers.Encode e) = about_encode e
about_answer answers.NoBads = whole subjects.File

-- values that show no bad state
abbrev pub about_fault : WitnessFault → About
about_fault faults.Memory = nothing
about_fault fault = whole subjects.Given

-- a solver's answer
abbrev pub about_solution : SolutionError → About
about_solution solution.Memory = nothing
about_solution solution.Answer = found subjects.Given measures.Line
about_solution solution.Line = found subjects.Given measures.Line
about_solution solution.Literal = found subjects.Given measures.Line
about_solution solution.Variable = found subjects.Given measures.Line
about_solution solution.Clash = found subjects.Given measures.Line
about_solution (solution.Check fault) = about_fault fault
about_solution e = whole subjects.Given

-- a witness's text
abbrev pub about_witness : WitnessError → About
about_witness witness.Memory = nothing
about_witness witness.Stream = whole subjects.Given
about_witness e = found subjects.Given measures.Line

-- FILE or a witness of it
abbrev pub about_show : ShowError → About
about_show (shows.File e) = about_read subjects.File e
about_show (shows.Witness e) = about_witness e
about_show shows.NoWitness = whole subjects.Given
about_show (shows.Check fault) = about_fault fault

-- values that show no fair lasso
abbrev pub about_lasso : LassoFault → About
about_lasso (lassos.Run fault) = about_fault fault
about_lasso fault = whole subjects.Given

-- FILE, of which something is made
abbrev pub about_edit : EditError → About
about_edit (edit.Read e) = about_read subjects.File e
about_edit edit.Memory = nothing
about_edit edit.Write = nothing
about_edit e = whole subjects.File

-- FILE, or the file behind it, which is this one
abbrev pub about_pair : Subject → PairError → About
about_pair beside (pair.Read e) = about_read subjects.File e
about_pair beside (pair.Other e) = about_read beside e
about_pair beside (pair.Misfit m) = whole beside
about_pair beside pair.TooLarge = whole subjects.File
about_pair beside pair.Memory = nothing
about_pair beside pair.Write = nothing

-- FILE, or what is given beside it
abbrev pub about_bounded : BoundedAnswerError → About
about_bounded (bounded.Read e) = about_read subjects.File e
about_bounded bounded.NoBads = whole subjects.File
about_bounded (bounded.Question questions.TooLarge) = whole subjects.File
about_bounded (bounded.Question questions.Memory) = nothing
about_bounded (bounded.Solution e) = about_solution e

-- the proof of the question at this place of a plan: behind CERT, where that is of a miter
abbrev pub proof_of : of.Subject → ℕ → Subject
proof_of (asked.MiterCertified comparison) zero = subjects.Step
proof_of (asked.MiterCertified comparison) n = subjects.Third
proof_of subject n = subjects.Nth n

-- FILE, of whose question there are no clauses, or the question's proof
abbrev pub about_why : Subject → Why → About
about_why proof (whys.Clauses questions.TooLarge) = whole subjects.File
about_why proof (whys.Clauses questions.Memory) = nothing
about_why proof (whys.Refutation e) = about_refutation proof e

-- FILE, or one of the proofs of a plan
abbrev pub about_plan : of.Subject → PlanError → About
about_plan subject (plans.Refused e) = about_why (proof_of subject e.index) e.why
about_plan subject e = whole subjects.File

-- a certificate: behind FILE, or behind FILE and OTHER
abbrev pub certificate_of : of.Subject → Subject
certificate_of (asked.MiterCertified comparison) = subjects.Given
certificate_of subject = subjects.Other

-- one of the files of what is asked about
abbrev pub about_subject : of.Subject → SubjectError → About
about_subject subject (refusals.File e) = about_edit e
about_subject subject (refusals.Pair e) = about_pair subjects.Other e
about_subject subject (refusals.Certificate e) = about_pair (certificate_of subject) e

-- one of these, or of the proofs
abbrev pub about_goal : GoalError → About
about_goal e = by_fault e.subject e.fault
  where
    by_fault : of.Subject → GoalFault → About
    by_fault subject (goal_faults.Subject e) = about_subject subject e
    by_fault subject goal_faults.Memory = nothing
    by_fault subject (goal_faults.Plan e) = about_plan subject e

-- a witness circuit whose names don't say which leaves it shares
abbrev pub about_sharing : SharingError → About
about_sharing sharing.Memory = nothing
about_sharing e = whole subjects.Other

-- FILE, which is too large with its witness circuit, or the proof for a condition
abbrev pub about_condition : Condition → ConditionError → About
about_condition condition (conditions.Question asking.TooLarge) = whole subjects.File
about_condition condition (conditions.Question asking.Memory) = nothing
about_condition condition (conditions.Refutation e) =
    about_refutation (subjects.Nth (turn_of condition)) e

-- a witness circuit; a place is that where a file is refused, which stops at a reset that is a
-- function
abbrev pub about_witness_circuit : ReadError → About
about_witness_circuit (read.Literal section.Latches) = whole subjects.Other
about_witness_circuit e = about_read subjects.Other e

-- FILE, its witness circuit, or one of the proofs
abbrev pub about_simulation : SimulationError → About
about_simulation (simulation.File e) = about_edit e
about_simulation (simulation.Witness e) = about_witness_circuit e
about_simulation simulation.NoBads = whole subjects.File
about_simulation (simulation.Sharing e) = about_sharing e
about_simulation simulation.Circular = whole subjects.Other
about_simulation (simulation.Condition condition e) = about_condition condition e

-- what an error of the program is about
abbrev pub about_error : CheckError → About
about_error errors.Open = whole subjects.Unopened
about_error errors.Memory = nothing
about_error errors.Write = nothing
about_error (errors.Answer e) = about_answer e
about_error (errors.Solution e) = about_solution e
about_error (errors.Show e) = about_show e
about_error (errors.Bounded e) = about_bounded e
about_error (errors.Goal e) = about_goal e
about_error (errors.Lasso fault) = about_lasso fault
about_error (errors.Unmade e) = about_edit e
about_error (errors.Simulation e) = about_simulation e
