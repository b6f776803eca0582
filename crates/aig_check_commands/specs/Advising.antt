-- Part of what is promised.
-- What is told of a proof that is refused as one of other clauses is.
use Rattle.std.specs.Prelude.{◌≡◌, ℕ, Bool, true, false, List, Option, Some, codes}
use Rattle.aig_command_line.specs.declared.status.Ending.{Ending}
use Rattle.aig_command_line.specs.declared.status.Ending.TheVariants as endings
use Rattle.aig_refutation.specs.declared.error.RefutationError.{RefutationError}
use Rattle.aig_refutation.specs.declared.error.RefutationError.TheVariants as refutation
use Rattle.aig_answers.specs.declared.goals.error.GoalFault.{GoalFault}
use Rattle.aig_answers.specs.declared.goals.error.GoalFault.TheVariants as goal_faults
use Rattle.aig_answers.specs.declared.plans.errors.PlanError.{PlanError}
use Rattle.aig_answers.specs.declared.plans.errors.PlanError.TheVariants as plans
use Rattle.aig_answers.specs.declared.plans.errors.Why.{Why}
use Rattle.aig_answers.specs.declared.plans.errors.Why.TheVariants as whys
use Rattle.aig_witness_circuit_checks.specs.declared.error.ConditionError.{ConditionError}
use Rattle.aig_witness_circuit_checks.specs.declared.error.ConditionError.TheVariants as conditions
use Rattle.aig_witness_circuit_checks.specs.declared.error.SimulationError.TheVariants as simulation
use Rattle.aig_check_commands.specs.declared.error.CheckError.{CheckError}
use Rattle.aig_check_commands.specs.declared.error.CheckError.TheVariants as errors

-- a proof doesn't fit the clauses: a step of it doesn't follow, it names a literal or a clause that
-- is none of theirs, or it ends before the empty clause
abbrev pub is_misfit : RefutationError → Bool
is_misfit refutation.Step = true
is_misfit refutation.Asymmetry = true
is_misfit refutation.Literal = true
is_misfit refutation.Unnamed = true
is_misfit refutation.Unfinished = true
is_misfit e = false

-- so of one of a plan
abbrev pub misfits_why : Why → Bool
misfits_why (whys.Refutation e) = is_misfit e
misfits_why e = false

-- of those of a plan
abbrev pub misfits_plan : PlanError → Bool
misfits_plan (plans.Refused e) = misfits_why e.why
misfits_plan e = false

-- of those of a goal
abbrev pub misfits_fault : GoalFault → Bool
misfits_fault (goal_faults.Plan e) = misfits_plan e
misfits_fault e = false

-- and of one for a condition of a witness circuit
abbrev pub misfits_condition : ConditionError → Bool
misfits_condition (conditions.Question e) = false
misfits_condition (conditions.Refutation e) = is_misfit e

-- the program refuses a proof that doesn't fit the clauses
abbrev pub has_misfit : Ending CheckError → Bool
has_misfit (endings.Refused (errors.Goal e)) = misfits_fault e.fault
has_misfit (endings.Refused (errors.Simulation (simulation.Condition condition e))) =
    misfits_condition e
has_misfit ending = false

-- the line that says what may be the matter
abbrev pub advice : List ℕ
advice = codes "aigcheck: it may be a proof of other clauses: of another K, another file, or the other setting (raw)"

-- the line is told, or nothing
abbrev pub advises_if : {T : Type 0} → (T → Option (List ℕ) → T → Type 0) → Bool → T → T → Type 0
advises_if tells true old new = tells old (Some advice) new
advises_if tells false old new = new ≡ old

-- exactly beside such a refusal it is told
abbrev pub Advises : {T : Type 0} → (T → Option (List ℕ) → T → Type 0) → Ending CheckError → T → T
    → Type 0
Advises tells ending old new = advises_if tells (has_misfit ending) old new
