-- Part of what is promised.
-- Which words give which command.
use Rattle.std.specs.Prelude.{◌≡◌, ◌⊎◌, ◌==◌, ◌+◌, ◌++◌, if◌then◌else◌, option_map, ◌∷◌, [], ℕ, Bool, true, false, not, IsTrue, List, None, Option, Some, codes}
use Rattle.aig_runs.specs.declared.window.Window.{Window}
use Rattle.aig_runs.specs.declared.window.Window.TheVariants.{Plain, Distinct}
use Rattle.aig_answers.specs.Plans.{asked_with}
use Rattle.aig_answers.specs.declared.plans.asking.Ask.TheVariants as asks
use Rattle.aig_command_line.specs.declared.arguments.ArgumentForm.{ArgumentForm}
use Rattle.aig_command_line.specs.declared.arguments.Step.{Step}
use Rattle.aig_command_line.specs.declared.arguments.Step.TheVariants.{Absent, At, UpTo, By, Each}
use Rattle.aig_command_line.specs.Arguments.{Arguments, GivesArguments}
use Rattle.aig_command_line.specs.Limits.{IsLimited}
use Rattle.aig_edits.specs.Words.{AreConstraints}
use Rattle.aig_join.specs.declared.comparison.Comparison.{Comparison}
use Rattle.aig_join.specs.declared.comparison.Constraints.{Constraints}
use Rattle.aig_join.specs.declared.comparison.Constraints.TheVariants.{OfBoth}
use Rattle.aig_join.specs.declared.starts.Matching.TheVariants.{ByName, ByOrder}
use Rattle.aig_join.specs.declared.starts.Starts.{Starts}
use Rattle.aig_join.specs.declared.starts.Starts.TheVariants.{Alike, Apart}
use Rattle.aig_check_commands.specs.declared.command.Action.{Action}
use Rattle.aig_check_commands.specs.declared.command.Action.TheVariants as actions
use Rattle.aig_check_commands.specs.declared.command.WitnessAction.{WitnessAction}
use Rattle.aig_check_commands.specs.declared.command.WitnessAction.TheVariants as witness
use Rattle.aig_check_commands.specs.declared.command.Asked.{Asked}
use Rattle.aig_check_commands.specs.declared.command.Command.{Command}
use Rattle.aig_check_commands.specs.declared.command.Command.TheVariants as commands
use Rattle.aig_check_commands.specs.declared.command.FileCommand.TheVariants as on_file
use Rattle.aig_answers.specs.Goals.{goal_of, last_step, proof_count}
use Rattle.aig_answers.specs.declared.goals.goal.Goal.{Goal}
use Rattle.aig_answers.specs.declared.goals.goal.Goal.TheVariants as goals
use Rattle.aig_subjects.specs.declared.subject.FileSubject.TheVariants.{Own}
use Rattle.aig_subjects.specs.declared.subject.Subject.{Subject}
use Rattle.aig_subjects.specs.declared.subject.Subject.TheVariants as subjects
use Rattle.aig_check_commands.specs.FileSubjects.{GiveSubject, is_asked}
use Rattle.aig_witness_circuits.specs.Names.{condition_name}
use Rattle.aig_witness_circuits.specs.declared.condition.Condition.{Condition}

-- so many paths and a step, so many further paths, `distinct` or nothing where it may be there, and
-- `raw` or nothing
abbrev pub on_step : ℕ → Step → ℕ → Bool → ArgumentForm
on_step paths step further distinct =
    record { paths = paths; step = step; further = further; distinct = distinct; raw = true }

-- FILE, CERT and so many proofs, and `raw` or nothing
abbrev pub on_certificate : ℕ → ArgumentForm
on_certificate further =
    record { paths = 2; step = Absent; further = further; distinct = false; raw = true }

-- the word that names a comparison of machines whose registers with open start begin so
abbrev pub equal_name : Starts → List ℕ
equal_name Apart = codes "equal"
equal_name (Alike ByOrder) = codes "equal-alike-by-order"
equal_name (Alike ByName) = codes "equal-alike-by-name"

-- The word that names a command, and what comes after it: the paths are FILE, and CERT or OTHER;
-- the further ones are PROOF, SOLUTION or WITNESS, or BASE and STEP, behind CERT where that comes
-- after OTHER; or P0 to PK and STEP.
abbrev pub row_of : Action → List ℕ × ArgumentForm
row_of actions.Clauses = (codes "clauses", on_step 1 At 0 false)
row_of actions.Window = (codes "window", on_step 1 At 0 true)
row_of actions.Refuted = (codes "refuted", on_step 1 At 1 false)
row_of actions.Inductive = (codes "inductive", on_step 1 At 1 true)
row_of actions.Witness = (codes "witness", on_step 1 At 1 false)
row_of actions.Run =
    (codes "run", record { paths = 1; step = Absent; further = 1; distinct = false; raw = false })
row_of actions.Certified = (codes "certified", on_certificate 2)
row_of (actions.Equal starts) = (equal_name starts, on_step 2 At 1 false)
row_of actions.Obligations = (codes "obligations", on_certificate 0)
row_of actions.Bounded = (codes "bounded", on_step 1 At 0 false)
row_of actions.RefutedTo = (codes "refuted", on_step 1 UpTo 1 false)
row_of actions.WitnessTo = (codes "witness", on_step 1 UpTo 1 false)
row_of actions.Safe = (codes "safe", on_step 1 UpTo 2 true)
row_of (actions.AlwaysEqual starts) = (equal_name starts, on_step 2 UpTo 2 true)
row_of (actions.EqualBy starts) = (equal_name starts, on_step 2 By 3 false)
row_of actions.SafeBySteps = (codes "safe", on_step 1 Each 1 true)

-- the word
abbrev pub name_of : Action → List ℕ
name_of a = (row_of a).0

-- what comes after it
abbrev pub form_of : Action → ArgumentForm
form_of a = (row_of a).1

-- the comparison of such machines, with constraints that say what is usual: runs meet those of both
abbrev pub of_both : Starts → Comparison
of_both starts = record { starts = starts; constraints = OfBoth }

-- the form of windows
abbrev pub window_of : Bool → Window
window_of true = Distinct
window_of false = Plain

-- the command that checks proofs of a goal, with one setting for all of them
abbrev pub check_of : Subject → Goal → Bool → Command
check_of subject goal optimize = commands.Check subject goal optimize optimize

-- FILE's own circuit
abbrev pub own_file : Subject
own_file = subjects.File Own

-- a certificate is shown by step 0 and a plain window of two steps
abbrev pub certificate_goal : Goal
certificate_goal = goals.SafeBySteps 0 Plain

-- the command, with K and the settings
abbrev pub command_of : Action → ℕ → Bool → Bool → Command
command_of actions.Clauses k distinct optimize = commands.Print (asked_with optimize (asks.Step k))
command_of actions.Window k distinct optimize =
    commands.Print (asked_with optimize (asks.Window k (window_of distinct)))
command_of actions.Refuted k distinct optimize = check_of own_file (goals.Refuted k) optimize
command_of actions.Inductive k distinct optimize =
    check_of own_file (goals.Inductive k (window_of distinct)) optimize
command_of actions.Witness k distinct optimize = commands.File (on_file.Witness k optimize)
command_of actions.Run k distinct optimize = commands.File on_file.Run
command_of actions.Certified k distinct optimize =
    check_of (subjects.Certified Own) certificate_goal optimize
command_of (actions.Equal starts) k distinct optimize =
    check_of (subjects.Miter (of_both starts)) (goals.Refuted k) optimize
command_of actions.Obligations k distinct optimize = commands.Obligations optimize
command_of actions.Bounded k distinct optimize =
    commands.Print (asked_with optimize (asks.UpTo k))
command_of actions.RefutedTo k distinct optimize = check_of own_file (goals.RefutedTo k) optimize
command_of actions.WitnessTo k distinct optimize = commands.File (on_file.WitnessTo k optimize)
command_of actions.Safe k distinct optimize =
    check_of own_file (goals.Safe k (window_of distinct)) optimize
command_of (actions.AlwaysEqual starts) k distinct optimize =
    check_of (subjects.Miter (of_both starts)) (goals.Safe k (window_of distinct)) optimize
command_of (actions.EqualBy starts) k distinct optimize =
    check_of (subjects.MiterCertified (of_both starts)) certificate_goal optimize
command_of actions.SafeBySteps k distinct optimize =
    check_of own_file (goals.SafeBySteps k (window_of distinct)) optimize

-- the word of raw clauses of BASE alone, or of P0 to PK, where those of STEP are optimised, or of
-- STEP alone
abbrev pub raw_word : Bool → List ℕ
raw_word true = codes "raw-base"
raw_word false = codes "raw-step"

-- proofs of steps and of a window may have different settings, but not those of a certificate
abbrev pub has_two_settings : Subject → Goal → Bool
has_two_settings (subjects.File own) (goals.Safe k form) = true
has_two_settings (subjects.File own) (goals.SafeBySteps k form) = true
has_two_settings (subjects.Miter comparison) (goals.Safe k form) = true
has_two_settings (subjects.Miter comparison) (goals.SafeBySteps k form) = true
has_two_settings subject goal = false

-- the command, where the clauses of STEP alone are optimised, or those of BASE alone
abbrev pub raw_alone : Bool → Command → Option Command
raw_alone step (commands.Check subject goal base_optimize step_optimize) =
    if has_two_settings subject goal then Some (commands.Check subject goal (not step) step)
    else None
raw_alone step c = None

-- the words fit the command, with one setting for all its proofs
pub record IsWhole (words : List (List ℕ)) (c : Command) (a : Arguments) : Type 0 where
  pub action : Action
  pub gives : GivesArguments (name_of action) (form_of action) words a
  pub command : c ≡ command_of action a.step a.distinct a.optimize

-- without the last, which says which clauses alone are raw, the words fit one, without `raw`
pub record IsAlone (words : List (List ℕ)) (c : Command) (a : Arguments) : Type 0 where
  pub plain : List (List ℕ)
  pub step : Bool
  pub spelled : words ≡ plain ++ raw_word step ∷ []
  pub usual : Command
  pub whole : IsWhole plain usual a
  pub optimized : IsTrue a.optimize
  pub command : raw_alone step usual ≡ Some c

-- the word that names a command on FILE and a witness circuit
abbrev pub witness_name : WitnessAction → List ℕ
witness_name witness.Certified = codes "certified"
witness_name witness.Obligations = codes "obligations"

-- what comes after it: FILE, WITNESS, and a proof for each condition, or the name of one
abbrev pub witness_form : WitnessAction → ArgumentForm
witness_form witness.Certified = on_certificate 5
witness_form witness.Obligations = on_certificate 1

-- the command by what its words give, and the files that these name beside FILE and WITNESS
abbrev pub IsOf : WitnessAction → Arguments → Command → List (List ℕ) → Type 0
IsOf witness.Certified given c further =
    (c ≡ commands.Simulated given.optimize) × (further ≡ given.further)
IsOf witness.Obligations given c further =
    (condition : Condition) × (c ≡ commands.Obligation condition given.optimize)
    × (given.further ≡ condition_name condition ∷ further)

-- the words fit a command on FILE and a witness circuit
pub record IsOnWitness (words : List (List ℕ)) (c : Command) (a : Arguments) : Type 0 where
  pub action : WitnessAction
  pub given : Arguments
  pub gives : GivesArguments (witness_name action) (witness_form action) words given
  pub command : IsOf action given c a.further
  pub rest : a ≡ record given { further = a.further }

-- the words fit none
abbrev pub FitNone : (Command → Arguments → Type 0) → Type 0
FitNone Fits = (c : Command) (a : Arguments) → ¬ Fits c a

-- the words fit a command; or they fit none, and fit one without such a last word; or they fit none
-- of these either, and fit one on FILE and a witness circuit
abbrev pub AreCommand : List (List ℕ) → Command → Arguments → Type 0
AreCommand words c a =
    IsWhole words c a
    ⊎ (FitNone (IsWhole words)
    × (IsAlone words c a ⊎ (FitNone (IsAlone words) × IsOnWitness words c a)))

-- the files that are compared, with constraints that say this
abbrev pub compared_under : Constraints → Subject → Option Subject
compared_under constraints (subjects.Miter comparison) =
    Some (subjects.Miter (record comparison { constraints = constraints }))
compared_under constraints (subjects.MiterCertified comparison) =
    Some (subjects.MiterCertified (record comparison { constraints = constraints }))
compared_under constraints subject = None

-- the command that compares, with constraints that say this
abbrev pub constrained : Constraints → Command → Option Command
constrained constraints (commands.Check subject goal base_optimize step_optimize) =
    option_map (λ s. commands.Check s goal base_optimize step_optimize)
    (compared_under constraints subject)
constrained constraints c = None

-- the command with constraints that say this: only one that compares has others than the usual ones
abbrev pub under : Constraints → Command → Option Command
under OfBoth c = Some c
under constraints c = constrained constraints c

-- the words give the limit, then the circuit of FILE that is asked about, if it isn't its own, then
-- what constraints say, if it isn't what is usual, and then the command, with its files and what is
-- given beside them
pub record IsCall (words : List (List ℕ)) (limit : ℕ) (c : Asked) (paths further : List (List ℕ))
    : Type 0 where
  pub rest : List (List ℕ)
  pub limited : IsLimited words limit rest
  pub more : List (List ℕ)
  pub asked : GiveSubject c.subject rest more
  pub constraints : Constraints
  pub others : List (List ℕ)
  pub said : AreConstraints constraints more others
  pub usual : Command
  pub arguments : Arguments
  pub gives : AreCommand others usual arguments
  pub command : under constraints usual ≡ Some c.command
  pub allowed : IsTrue (is_asked c.subject c.command)
  pub on : paths ≡ arguments.paths
  pub beside : further ≡ arguments.further

-- the words give the command
abbrev pub Give : List (List ℕ) → Asked → Type 0
Give words c = (limit : ℕ) × (paths : List (List ℕ)) × (further : List (List ℕ))
    × IsCall words limit c paths further

-- ---- commands alone

-- the step that it names, and 0 where it names none
abbrev pub step_of : Command → ℕ
step_of (commands.File (on_file.Witness k optimize)) = k
step_of (commands.File (on_file.WitnessTo k optimize)) = k
step_of (commands.Print q) = last_step (goal_of q.ask)
step_of (commands.Check subject goal base_optimize step_optimize) = last_step goal
step_of c = 0

-- how many files what is asked about has, but for CERT of a miter
abbrev pub path_count : Subject → ℕ
path_count (subjects.File own) = 1
path_count subject = 2

-- on how many files it is
abbrev pub paths_of : Command → ℕ
paths_of (commands.File c) = 1
paths_of (commands.Print q) = 1
paths_of (commands.Obligations optimize) = 2
paths_of (commands.Check subject goal base_optimize step_optimize) = path_count subject
paths_of (commands.Simulated optimize) = 2
paths_of (commands.Obligation condition optimize) = 2

-- how many are given beside these
abbrev pub beside_of : Command → ℕ
beside_of (commands.Print q) = 0
beside_of (commands.Obligations optimize) = 0
beside_of (commands.Check (subjects.MiterCertified comparison) goal base_optimize step_optimize) =
    proof_count goal + 1
beside_of (commands.Check subject goal base_optimize step_optimize) = proof_count goal
beside_of (commands.Simulated optimize) = 5
beside_of (commands.Obligation condition optimize) = 0
beside_of c = 1

-- it prints clauses, and takes nothing beside its files
abbrev pub prints : Command → Bool
prints c = beside_of c == 0
