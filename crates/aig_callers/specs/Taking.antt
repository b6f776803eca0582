-- Serves private clauses alone.
-- Proofs of the clauses of a text, as solvers write them, and the answers that take them. (LRAT;
-- DRAT.)
use Rattle.std.specs.Prelude.{◌≡◌, ℕ, ◌-◌, ◌^◌, [], ◌∷◌, ◌++◌, ◌⊎◌, IsTrue, true, List, Some, All, Result, IfErr, codes}
use Rattle.aig_base.specs.declared.logic.literal.Lit.{Lit}
use Rattle.aig_dimacs.specs.Reading.{parse_formula}
use Rattle.aig_reader.specs.Verdicts.{IsSettled, Verdict}
use Rattle.aig_refutation.specs.Checking.{all_live}
use Rattle.aig_refutation.specs.Forms.{is_binary, is_numbered}
use Rattle.aig_refutation.specs.Proofs.{allowed}
use Rattle.aig_refutation.specs.Rat.{is_rat_refutation}
use Rattle.aig_refutation.specs.Steps.{PlainStep, Refute, Step}
use Rattle.aig_refutation.specs.Written.{AreInOrder, AreWithin, IsBinaryStep, IsNumber, IsPlainStep, IsWrittenStep, binary_text, numbered_text, plain_text, proof_text}
use Rattle.aig_refutation.specs.declared.error.RefutationError.{RefutationError}
use Rattle.aig_refutation.specs.declared.error.RefutationError.TheVariants as refutation
use Rattle.aig_answers.specs.Goals.{fault_of}
use Rattle.aig_answers.specs.declared.goals.error.GoalError.{GoalError}
use Rattle.aig_answers.specs.declared.goals.error.GoalFault.{GoalFault}
use Rattle.aig_answers.specs.declared.goals.error.GoalFault.TheVariants as faults
use Rattle.aig_answers.specs.declared.plans.errors.PlanError.{PlanError}
use Rattle.aig_answers.specs.declared.plans.errors.PlanError.TheVariants as plans
use Rattle.aig_answers.specs.declared.plans.errors.Why.{Why}
use Rattle.aig_answers.specs.declared.plans.errors.Why.TheVariants as whys
use Rattle.aig_check_commands.specs.declared.error.CheckError.{CheckError}
use Rattle.aig_check_commands.specs.declared.error.CheckError.TheVariants as errors
use Rattle.aig_subjects.specs.Subjects.{error_verdicts}
use Rattle.aig_subjects.specs.declared.subject.Subject.{Subject}

-- ---- proofs

-- an LRAT text of steps, whose numbers are in order and which refute the clauses of so many
-- variables, also by the RAT property and with new variables
pub record IsLrat (variables : ℕ) (clauses : List (List Lit)) (bytes : List ℕ) : Type 0 where
  pub last : ℕ
  pub steps : List Step
  pub text : bytes ≡ proof_text last steps
  pub number : IsNumber last
  pub spelled : AreWithin IsWrittenStep (allowed variables) steps
  pub order : AreInOrder (all_live clauses) steps
  pub refutes : IsTrue (is_rat_refutation clauses steps)

-- a DRAT text of steps that refute them
pub record IsDrat (variables : ℕ) (clauses : List (List Lit)) (bytes : List ℕ) : Type 0 where
  pub steps : List PlainStep
  pub text : bytes ≡ plain_text steps
  pub spelled : AreWithin IsPlainStep (allowed variables) steps
  pub refutes : Refute clauses steps

-- a binary DRAT proof of such steps, which is told from a text
pub record IsBinaryDrat (variables : ℕ) (clauses : List (List Lit)) (bytes : List ℕ) : Type 0
  where
    pub steps : List PlainStep
    pub text : bytes ≡ binary_text steps
    pub spelled : AreWithin IsPlainStep (allowed variables) steps
    pub small : All (IsPlainStep (2 ^ 31 - 1)) steps
    pub told : is_binary (binary_text steps) ≡ true
    pub refutes : Refute clauses steps

-- a binary LRAT proof of such steps as a text has, which is told from a text and from binary DRAT
pub record IsBinaryLrat (variables : ℕ) (clauses : List (List Lit)) (bytes : List ℕ) : Type 0
  where
    pub steps : List Step
    pub text : bytes ≡ numbered_text steps
    pub spelled : AreWithin IsWrittenStep (allowed variables) steps
    pub small : All IsBinaryStep steps
    pub told : is_binary (numbered_text steps) ≡ true
    pub numbered : is_numbered (numbered_text steps) ≡ true
    pub order : AreInOrder (all_live clauses) steps
    pub refutes : IsTrue (is_rat_refutation clauses steps)

-- a proof, in any of the four forms, whose steps follow from the clauses
abbrev pub IsProof : ℕ → List (List Lit) → List ℕ → Type 0
IsProof variables clauses bytes =
    IsLrat variables clauses bytes
    ⊎ (IsDrat variables clauses bytes
    ⊎ (IsBinaryDrat variables clauses bytes ⊎ IsBinaryLrat variables clauses bytes))

-- a proof of the clauses that a plain reader reads from the text
pub record IsProofOf (text bytes : List ℕ) : Type 0 where
  pub variables : ℕ
  pub clauses : List (List Lit)
  pub reads : parse_formula text ≡ Some (variables, clauses)
  pub proves : IsProof variables clauses bytes

-- ---- answers

-- memory ran out, or a read failed
abbrev pub IsOutside : RefutationError → Type 0
IsOutside e = (e ≡ refutation.Memory) ⊎ (e ≡ refutation.Stream)

-- a question has no clauses, since memory ran out or what is made for them is too large, or memory
-- ran out or a read failed in the check of its proof
abbrev pub IsOfWhy : Why → Type 0
IsOfWhy (whys.Refutation e) = IsOutside e
IsOfWhy (whys.Clauses e) = Unit {0}

abbrev pub IsOfPlan : PlanError → Type 0
IsOfPlan (plans.Refused e) = IsOfWhy e.why
IsOfPlan e = ⊥

-- one of the verdicts hides what the bytes are: memory ran out, or a read failed
abbrev pub IsHidden : List Verdict → Type 0
IsHidden [] = ⊥
IsHidden (v ∷ said) = (¬ IsSettled v) ⊎ IsHidden said

-- memory ran out, or a read of a file or of a proof failed
abbrev pub IsOfFault : Subject → GoalFault → Type 0
IsOfFault subject (faults.Plan e) = IsOfPlan e
IsOfFault subject (faults.Subject e) = IsHidden (error_verdicts subject e)
IsOfFault subject faults.Memory = Unit {0}

abbrev pub IsHindrance : CheckError → Type 0
IsHindrance (errors.Goal e) = IsOfFault e.subject e.fault
IsHindrance e = ⊥

-- a proof about two files is refused for memory or a read alone
abbrev pub IsOfNoProof : GoalFault → Type 0
IsOfNoProof (faults.Plan (plans.Refused e)) = IsOfWhy e.why
IsOfNoProof e = Unit {0}

-- the text is a title and then that of two formulas, after a line that names each, and proofs of
-- both aren't refused
pub record TakesParts (text base step : List ℕ) (answer : Result (Unit {0}) GoalError)
    : Type 0 where
  pub title : List ℕ
  pub first : List ℕ
  pub second : List ℕ
  pub parted : text ≡ title ++ (codes "c base\n" ++ first) ++ (codes "c step\n" ++ second)
  pub takes : IsProofOf (codes "c base\n" ++ first) base
      → IsProofOf (codes "c step\n" ++ second) step → IfErr (fault_of answer) IsOfNoProof
