-- What the commands on a witness circuit do, at each way out of them.
use Rattle.aig_check_commands.proofs.Words.{◌≡◌, ◌≢◌, ℕ, Bool, Option, None, Some, Ok, Err, List, ◌++◌, length, refl, sym, ap, subst, IfSome, IsErrOf, IsTrue, Result, query_with, clauses_in, Lit, HasClauses, IsFormula, Circuit, lists_circuit, EditError, File, FitsFormat, ReadError, IsOwn, Proofs, proof_for, ReadsWitness, Condition, clauses_with, IsErrorOfObligation, IsErrorOfSimulated, IsObligationText, TellsOfSimulated, refusal_of, IsSum, condition_title, CheckError, summed_text}
use Rattle.aig_dimacs.specs.Text.{dimacs_of}
use Rattle.aig_refutation.specs.declared.error.RefutationError.TheVariants as refutation
use Rattle.aig_witness_circuit_checks.specs.Simulated as simulated
use Rattle.aig_witness_circuit_checks.specs.Simulated.{Certifies, Claims, IsObligation, IsOfClaim, question_in}
use Rattle.aig_witness_circuit_checks.specs.Witnesses.{part_of}
use Rattle.aig_witness_circuit_checks.specs.declared.claim.Claim.{Claim}
use Rattle.aig_witness_circuit_checks.specs.declared.error.ConditionError.TheVariants as conditions
use Rattle.aig_witness_circuit_checks.specs.declared.error.SimulationError.{SimulationError}
use Rattle.aig_witness_circuit_checks.specs.declared.error.SimulationError.TheVariants as simulation
use Rattle.aig_witness_circuit_checks.specs.declared.obligation.Obligation.{Obligation}
use Rattle.aig_witness_circuit_checks.proofs.Reading.{reads_on}
use Rattle.aig_witness_circuit_checks.proofs.Telling.{question_of_model}
use Rattle.aig_witness_circuits.specs.declared.sharing.error.SharingError.TheVariants as sharing
use Rattle.aig_subjects.specs.declared.subject.FileSubject.{FileSubject}
use Rattle.aig_subjects.specs.declared.subject.FileSubject.TheVariants.{Own}
use Rattle.aig_check_commands.specs.Printing.{AnswersClaim}
use Rattle.aig_check_commands.specs.Simulating.{AnswersSimulated, TellsOfObligation, file_error, simulated_line}
use Rattle.aig_check_commands.specs.Titles.{title_text}
use Rattle.aig_check_commands.specs.declared.error.CheckError.TheVariants as errors
use Rattle.aig_check_commands.proofs.line_lemmas.Commenting.{titled_again}
use Rattle.aig_check_commands.proofs.check_lemmas.Outcomes.{err_of, is_error}
use Rattle.aig_check_commands.proofs.check_lemmas.Questioning.{made_fits}

same_simulation : (x y : SimulationError) → errors.Simulation x ≡ errors.Simulation y → x ≡ y
same_simulation x y is = cc

-- the error of a call is the program's, with this in it
inner : (e x : SimulationError)
    → IsErrOf {T = List ℕ} (Err (errors.Simulation e)) (errors.Simulation x)
    → IsErrOf {T = Unit {0}} (Err e) x
inner e x is = err_of e x (same_simulation e x (is_error (List ℕ) CheckError _ _ is))

-- what is said of sources is said of those under them
pub reads_under : {A B R S T E : Type 0} {own : FileSubject}
    {Means : File → File → Result T E → Type 0} {of_file : E → Option EditError}
    {refusal : E → Option ReadError} {Own : E → Type 0} {limit : ℕ}
    {r rest : A} {s other : B} {result : Result T E} (left : R → Option (List ℕ))
    (failed : R → Bool) (left_of : S → Option (List ℕ)) (failed_of : S → Bool) (under : A → R)
    (under_of : B → S)
    → ReadsWitness (λ x. left (under x)) (λ x. failed (under x)) (λ y. left_of (under_of y))
    (λ y. failed_of (under_of y)) limit own Means of_file refusal Own r s result rest other
    → ReadsWitness left failed left_of failed_of limit own Means of_file refusal Own (under r)
    (under_of s) result (under rest) (under_of other)
reads_under {of_file = of_file} {s = s} {other = other} {result = result} left failed left_of
    failed_of under under_of told = record {
      verdict = told.verdict;
      unmade = told.unmade;
      unread = on (part_of of_file result) told.unread;
      made = told.made;
      refused = told.refused;
      whole = told.whole;
      answer = told.answer;
      errors = told.errors;
    }
  where
    on : (o : Option EditError) → IfSome o (λ _. other ≡ s)
        → IfSome o (λ _. under_of other ≡ under_of s)
    on None unread = tt
    on (Some e) unread = ap under_of unread

-- ---- certificates

module _ {R S P : Type 0} (left : R → Option (List ℕ)) (failed : R → Bool)
    (left_of : S → Option (List ℕ)) (failed_of : S → Bool) (given : P → Option (List ℕ))
    (given_failed : P → Bool) (limit : ℕ) (own : FileSubject) (optimize : Bool) (r rest : R)
    (s other : S) (ps used : Proofs P) where
  abbrev texts : Condition → Option (List ℕ)
  texts condition = given (proof_for ps condition)

  abbrev Simulated : Result (Unit {0}) SimulationError → Type 0
  Simulated x =
      ReadsWitness left failed left_of failed_of limit own (Certifies limit optimize texts own)
      simulated.file_error simulated.refusal_of IsOwn r s x rest other

  abbrev Answers : Result (List ℕ) CheckError → Type 0
  Answers =
      AnswersSimulated left failed left_of failed_of given given_failed limit own optimize r s ps rest
      other used

  -- a file is refused, or a proof
  pub simulated_refused : (e : SimulationError) → Simulated (Err e)
      → ((condition : Condition) → simulated.LeavesProof condition (Err e)
      → proof_for used condition ≡ proof_for ps condition)
      → ((condition : Condition) → IsErrOf {T = Unit {0}} (Err e)
      (simulation.Condition condition (conditions.Refutation refutation.Stream))
      → IsTrue (given_failed (proof_for used condition)))
      → Answers (Err (errors.Simulation e))
  simulated_refused e told unread stream = record {
    reads = reads_on left failed left_of failed_of limit own r s rest other
        (TellsOfSimulated limit own optimize texts) file_error refusal_of IsErrorOfSimulated
        (Err (errors.Simulation e)) told refl refl told.errors
        (λ f g bytes others fits also means. means);
    unread = unread;
    stream = λ condition is. stream condition (inner e _ is);
  }

  -- all are taken
  pub simulated_answered : Simulated (Ok tt) → Answers (Ok (simulated_line own))
  simulated_answered told = record {
    reads = reads_on left failed left_of failed_of limit own r s rest other
        (TellsOfSimulated limit own optimize texts) file_error refusal_of IsErrorOfSimulated
        (Ok (simulated_line own)) told refl refl tt
        (λ f g bytes others fits also means. (means, refl));
    unread = tt;
    stream = λ condition is. absurd cc;
  }

-- ---- clauses

-- the text of the clauses that were made
abbrev pub obligation_text : Condition → Bool → List ℕ → List ℕ → Obligation
    → List (List (List Lit)) → List ℕ
obligation_text condition optimize sum beside o lists =
    title_text (condition_title condition optimize sum beside)
    ++ dimacs_of (length lists) (clauses_in lists ++ o.parts.extra)

pub is_obligation_text : (condition : Condition) (optimize : Bool) (limit : ℕ) (q : Circuit)
    (sum beside : List ℕ) (o : Obligation) (lists : List (List (List Lit)))
    → HasClauses o.question.unrolled optimize lists
    → IsFormula (length lists) (clauses_in lists ++ o.parts.extra)
    → IsObligation limit optimize q o
    → IsObligationText condition optimize q sum beside
    (obligation_text condition optimize sum beside o lists)
is_obligation_text condition optimize limit q sum beside o lists has formula is = record {
  query = query_with o.question.unrolled (clauses_with lists o.parts.extra);
  asks = is.asks lists has;
  exact = refl;
  again = titled_again (condition_title condition optimize sum beside) (length lists)
      (clauses_in lists ++ o.parts.extra) formula;
}

-- the model of a claim fits the format, where it isn't the file's own circuit
pub model_fits : (own : FileSubject) (f g : File) (claim : Claim) → Claims own f g (Ok claim)
    → own ≢ Own → FitsFormat (lists_circuit claim.model)
model_fits own f g claim claims made =
    subst FitsFormat (sym claims.2.1) (made_fits own f claims.0 made claims.1)

module _ {R S : Type 0} (left : R → Option (List ℕ)) (failed : R → Bool)
    (left_of : S → Option (List ℕ)) (failed_of : S → Bool) (limit : ℕ) (own : FileSubject)
    (condition : Condition) (optimize : Bool) (r rest : R) (s other : S) where
  abbrev Claimed : Result Claim SimulationError → Type 0
  Claimed x =
      ReadsWitness left failed left_of failed_of limit own (Claims own) simulated.file_error
      simulated.refusal_of IsOfClaim r s x rest other

  abbrev Obliges : Result (List ℕ) CheckError → Type 0
  Obliges x =
      ReadsWitness left failed left_of failed_of limit own
      (TellsOfObligation limit own condition optimize (left r) (left_of s)) file_error refusal_of
      (IsErrorOfObligation condition) r s x rest other

  own_of : (e : SimulationError) → IsOfClaim e → IsErrorOfObligation condition (errors.Simulation e)
  own_of (simulation.File e) own = own
  own_of (simulation.Witness e) own = own
  own_of simulation.NoBads own = tt
  own_of (simulation.Sharing e) own = tt
  own_of simulation.Circular own = tt
  own_of (simulation.Condition failing e) own = absurd own

  not_obliged : (e : SimulationError) (f g : File) → IsOfClaim e → Claims own f g (Err e)
      → TellsOfObligation limit own condition optimize (left r) (left_of s) f g
      (Err (errors.Simulation e))
  not_obliged (simulation.Condition failing e) f g own none = absurd own
  not_obliged e f g own none = none

  -- there is no claim
  pub claim_refused : (e : SimulationError) → Claimed (Err e) → Obliges (Err (errors.Simulation e))
  claim_refused e told =
      reads_on left failed left_of failed_of limit own r s rest other
      (TellsOfObligation limit own condition optimize (left r) (left_of s)) file_error refusal_of
      (IsErrorOfObligation condition) (Err (errors.Simulation e)) told refl refl
      (own_of e told.errors)
      (λ f g bytes others fits also none. not_obliged e f g told.errors none)

  module _ (claim : Claim) (told : Claimed (Ok claim)) where
    -- memory runs out for the sum
    pub sum_refused : Obliges (Err (errors.Simulation (simulation.Sharing sharing.Memory)))
    sum_refused =
        reads_on left failed left_of failed_of limit own r s rest other
        (TellsOfObligation limit own condition optimize (left r) (left_of s)) file_error refusal_of
        (IsErrorOfObligation condition) (Err (errors.Simulation (simulation.Sharing sharing.Memory)))
        told refl refl tt
        (λ f g bytes others fits also claims. (claims.0, claims.1, (claims.2.0, tt)))

    -- it is asked for the condition
    pub claim_answered : (sum beside : List ℕ)
        → IsSum (summed_text own (left r) (lists_circuit claim.model)) sum
        → IsSum (left_of s) beside → (x : Result (List ℕ) CheckError)
        → AnswersClaim limit condition optimize claim sum beside x → Obliges x
    claim_answered sum beside sums sums_beside (Ok text) is =
        reads_on left failed left_of failed_of limit own r s rest other
        (TellsOfObligation limit own condition optimize (left r) (left_of s)) file_error refusal_of
        (IsErrorOfObligation condition) (Ok text) told refl refl tt
        (λ f g bytes others fits also claims. (
          claims.0,
          claims.1,
          (
            claims.2.0,
            (
              question_in condition claim,
              question_of_model _ claims.0 _ claim claims.2 condition,
              (
                sum,
                subst (λ (m : Circuit). IsSum (summed_text own (left r) m) sum) claims.2.1 sums,
                (beside, sums_beside, is),
              ),
            ),
          ),
        ))
    claim_answered sum beside sums sums_beside (Err e) (x, is, none) =
        subst (λ y. Obliges (Err y)) (sym is)
        (reads_on left failed left_of failed_of limit own r s rest other
        (TellsOfObligation limit own condition optimize (left r) (left_of s)) file_error refusal_of
        (IsErrorOfObligation condition)
        (Err (errors.Simulation (simulation.Condition condition (conditions.Question x)))) told refl
        refl (refl, tt)
        (λ f g bytes others fits also claims. (
          claims.0,
          claims.1,
          (
            claims.2.0,
            (
              question_in condition claim,
              question_of_model _ claims.0 _ claim claims.2 condition,
              none,
            ),
          ),
        )))
