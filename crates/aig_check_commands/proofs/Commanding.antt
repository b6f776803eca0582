-- Which commands print, and which check what is given beside their files.
use Rattle.aig_check_commands.proofs.Words.{◌≡◌, ◌==◌, ℕ, zero, suc, ◌<◌, eqb-true, Bool, true, false, true≢false, refl, sym, arith, IsTrue, Command, FileCommand, Condition, Question, beside_of, is_asked, prints, FileSubject}
use Rattle.aig_answers.specs.Goals.{proof_count}
use Rattle.aig_answers.specs.declared.goals.goal.Goal.{Goal}
use Rattle.aig_answers.specs.declared.goals.goal.Goal.TheVariants as goals
use Rattle.aig_subjects.specs.declared.subject.Subject.{Subject}
use Rattle.aig_subjects.specs.declared.subject.Subject.TheVariants as subjects
use Rattle.aig_check_commands.specs.declared.command.Command.TheVariants as commands
use Rattle.aig_subjects.specs.declared.subject.FileSubject.TheVariants.{Own}

pub checks_where : (c : Command) → prints c ≡ false → 0 < beside_of c
checks_where c not = from (beside_of c) not
  where
    from : (n : ℕ) → (n == 0) ≡ false → 0 < n
    from zero is = cc
    from (suc n) is = omega arith

-- a goal has a proof
some_proof : (goal : Goal) → ¬ (proof_count goal ≡ 0)
some_proof (goals.SafeBySteps k form) none = omega (arith, none)
some_proof (goals.Safe k form) none = omega (arith, none)
some_proof goal none = omega (arith, none)

no_check : (subject : Subject) (goal : Goal) (base step : Bool)
    → ¬ (beside_of (commands.Check subject goal base step) ≡ 0)
no_check (subjects.MiterCertified comparison) goal base step none = omega (arith, none)
no_check (subjects.File own) goal base step none = some_proof goal none
no_check (subjects.Miter comparison) goal base step none = some_proof goal none
no_check (subjects.Certified own) goal base step none = some_proof goal none

-- each that prints is one of three
pub only_prints : (c : Command) → prints c ≡ true → ((q : Question) → ¬ (c ≡ commands.Print q))
    → ((optimize : Bool) → ¬ (c ≡ commands.Obligations optimize))
    → ((condition : Condition) (optimize : Bool)
    → ¬ (c ≡ commands.Obligation condition optimize))
    → ⊥
only_prints (commands.Print q) is one two three = one q refl
only_prints (commands.Obligations optimize) is one two three = two optimize refl
only_prints (commands.Obligation condition optimize) is one two three = three condition optimize refl
only_prints (commands.Check subject goal base step) is one two three =
    no_check subject goal base step (eqb-true _ 0 is)
only_prints (commands.File c) is one two three = let no : 1 ≡ 0 = eqb-true _ 0 is in omega (arith, no)
only_prints (commands.Simulated optimize) is one two three =
    let no : 5 ≡ 0 = eqb-true _ 0 is in omega (arith, no)

-- and so is each that checks
pub only_checks : (c : Command) → 0 < beside_of c
    → ((subject : Subject) (goal : Goal) (base step : Bool)
    → ¬ (c ≡ commands.Check subject goal base step))
    → ((x : FileCommand) → ¬ (c ≡ commands.File x))
    → ((optimize : Bool) → ¬ (c ≡ commands.Simulated optimize))
    → ⊥
only_checks (commands.Check subject goal base step) some one two three =
    one subject goal base step refl
only_checks (commands.File x) some one two three = two x refl
only_checks (commands.Simulated optimize) some one two three = three optimize refl
only_checks (commands.Print q) some one two three = omega (arith, some)
only_checks (commands.Obligations optimize) some one two three = omega (arith, some)
only_checks (commands.Obligation condition optimize) some one two three = omega (arith, some)

-- a command on FILE itself asks about its own circuit
pub file_alone : (own : FileSubject) (c : FileCommand) → IsTrue (is_asked own (commands.File c))
    → own ≡ Own
file_alone Own c asked = refl
file_alone own c asked = absurd (true≢false (sym asked))
