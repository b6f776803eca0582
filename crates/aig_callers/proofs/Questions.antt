-- Of each question of two files: a proof of the clauses that were printed is taken.
use Rattle.aig_base.proofs.Words.{◌≡◌, ℕ, zero, suc, Bool, List, [], ◌∷◌, ◌++◌, length, None, Option, Some, Result, Ok, Err, IfErr, refl, same_Some, slice_get, sym, ap, ap₂, subst, ◌∙◌}
use Rattle.aig_base.specs.declared.logic.literal.Lit.{Lit}
use Rattle.aig_circuit.specs.Circuit.{Circuit}
use Rattle.aig_dimacs.specs.Reading.{parse_formula}
use Rattle.aig_dimacs.specs.Text.{dimacs_of}
use Rattle.aig_format.specs.Circuit.{circuit_of, text_of}
use Rattle.aig_format.specs.File.{File}
use Rattle.aig_format.specs.Fits.{Accepts}
use Rattle.aig_reader.specs.Verdicts.{Accepted}
use Rattle.aig_refutation.specs.Checking.{Shows}
use Rattle.aig_refutation.specs.declared.error.RefutationError.{RefutationError}
use Rattle.aig_runs.specs.declared.window.Window.TheVariants.{Plain}
use Rattle.aig_subjects.specs.Reads.{AreReadAs}
use Rattle.aig_subjects.specs.Subjects.{IsSubject}
use Rattle.aig_subjects.specs.declared.subject.FileSubject.TheVariants.{Own}
use Rattle.aig_subjects.specs.declared.subject.Subject.TheVariants as subjects
use Rattle.aig_answers.specs.Answers.{IsCircuitQuery, query_with}
use Rattle.aig_answers.specs.Goals.{ChecksGoal, TellsOfGoal, fault_of}
use Rattle.aig_answers.specs.Plans.{AnswersAt, Asks, IsHeld, Makes, Tells, asked_with}
use Rattle.aig_answers.specs.declared.circuits.CircuitQuery.{CircuitQuery}
use Rattle.aig_answers.specs.declared.goals.error.GoalError.{GoalError}
use Rattle.aig_answers.specs.declared.goals.error.GoalFault.{GoalFault}
use Rattle.aig_answers.specs.declared.goals.error.GoalFault.TheVariants as faults
use Rattle.aig_answers.specs.declared.goals.goal.Goal.TheVariants as goals
use Rattle.aig_answers.specs.declared.plans.asking.Ask.{Ask}
use Rattle.aig_answers.specs.declared.plans.asking.Ask.TheVariants as asks
use Rattle.aig_answers.specs.declared.plans.asking.Question.{Question}
use Rattle.aig_answers.specs.declared.plans.errors.PlanError.TheVariants as plans
use Rattle.aig_answers.specs.declared.plans.errors.Why.{Why}
use Rattle.aig_answers.specs.declared.plans.errors.Why.TheVariants as whys
use Rattle.aig_answers.specs.declared.windows.WindowClauses.{WindowClauses}
use Rattle.aig_check_commands.specs.Pairs.{IsObligationsText, formula_of}
use Rattle.aig_check_commands.specs.Titling.{pair_title}
use Rattle.aig_check_commands.specs.Titles.{title_text}
use Rattle.aig_tool_commands.specs.Running.{IsTextOf}
use Rattle.aig_edits.specs.Joints.{IsJointOf}
use Rattle.aig_edits.specs.declared.pairing.Pairing.{Pairing}
use Rattle.aig_edits.specs.declared.pairing.Pairing.TheVariants.{Miter}
use Rattle.aig_encode.specs.Encoding.{IsQuery}
use Rattle.aig_encode.specs.declared.query_clauses.Query.{Query}
use Rattle.aig_join.specs.Certificate.{certified}
use Rattle.aig_join.specs.Miter.{IsMiter}
use Rattle.aig_callers.specs.Taking.{IsOfNoProof, IsOfWhy, IsOutside, IsProofOf, TakesParts}
use Rattle.aig_callers.specs.Texts.{usual}
use Rattle.aig_callers.proofs.Taken.{Laws, SpellOne, text_taken, told_of}

-- a question has one list of clauses
abbrev pub ClausesAreOne : Type 0
ClausesAreOne =
    (a : Ask) (optimize : Bool) (c : Circuit) (one other : Option WindowClauses)
    → Makes a optimize c one → Makes a optimize c other → one ≡ other

-- ---- a proof of the clauses of a question

-- the text has the clauses, and those that ask the question are just these
pub record IsAskedBy (q : Question) (m : Circuit) (text : List ℕ) : Type 0 where
  pub made : WindowClauses
  pub again : parse_formula text ≡ Some (length made.clauses, formula_of made)
  pub only : (other : WindowClauses) → Asks q.ask q.optimize m other → made ≡ other

module _ (laws : Laws) (limit : ℕ) {P : Type 0} (given : P → Option (List ℕ))
    (given_failed : P → Bool) (q : Question) (m : Circuit) (text proof : List ℕ)
    (asked : IsAskedBy q m text) (proves : IsProofOf text proof) (p : P)
    (known : given p ≡ Some proof) where
  of_refutation : (rest : P) (made : Option WindowClauses) (e : RefutationError)
      → Makes q.ask q.optimize m made → IsHeld given given_failed made p rest (Err e) → IsOutside e
  of_refutation rest None e makes held = let no : Err e ≡ Ok tt = held.0 in cc
  of_refutation rest (Some other) e makes held =
      let made = asked.made in
      text_taken laws text proof (length made.clauses) (formula_of made) e asked.again proves
      (subst (λ t. Shows (length made.clauses) (formula_of made) t (Err e)) known
      (subst (λ (w : WindowClauses). Shows (length w.clauses) (formula_of w) (given p) (Err e))
      (sym (asked.only other makes)) held.0))

  of_why : (rest : P) (why : Why) → Tells given given_failed limit q m p rest (Err why)
      → IsOfWhy why
  of_why rest (whys.Refutation e) tells = of_refutation rest tells.0 e tells.1 tells.2
  of_why rest (whys.Clauses e) tells = tt

  -- it is at this place of a plan, and of the proofs
  at_place : (plan : List Question) (proofs used : List P) (n : ℕ) (why : Why)
      → slice_get plan n ≡ Some q → slice_get proofs n ≡ Some p
      → AnswersAt given given_failed limit plan m proofs used n (Err why) → IsOfWhy why
  at_place plan proofs used n why is_asked has at =
      of_why at.rest why
      (subst (λ x. Tells given given_failed limit q m x at.rest (Err why))
      (same_Some _ _ (sym at.was ∙ has))
      (subst (λ x. Tells given given_failed limit x m at.proof at.rest (Err why))
      (same_Some _ _ (sym at.asked ∙ is_asked)) at.tells))

-- ---- two files

module _ (one : SpellOne) (limit : ℕ) (file beside : List ℕ) (f g : File)
    (accepts : Accepts file limit f) (also : Accepts beside limit g) {S T : Type 0}
    (left : S → Option (List ℕ)) (failed : S → Bool) (r s : S) (is : left r ≡ Some file)
    (is_also : left s ≡ Some beside) (Means : List File → T → Type 0) (value : T) where
  -- what is meant for the files that the bytes are
  of_both : (after : List S)
      → AreReadAs left failed limit Means (Accepted ∷ Accepted ∷ []) (r ∷ s ∷ []) after value
      → Means (f ∷ g ∷ []) value
  of_both [] reads = absurd reads
  of_both (rest ∷ []) reads =
      absurd (told_of one limit file f accepts (λ b. Accepts b limit)
      (λ h. AreReadAs left failed limit (λ files. Means (h ∷ files)) (Accepted ∷ []) (s ∷ []) [])
      (left r) (left rest) value (λ b h holds. holds.0) is (reads.0.whole tt).1 reads.1)
  of_both (rest ∷ other ∷ others) reads =
      let first = told_of one limit file f accepts (λ b. Accepts b limit)
      (λ h. AreReadAs left failed limit (λ files. Means (h ∷ files)) (Accepted ∷ []) (s ∷ [])
      (other ∷ others)) (left r) (left rest) value (λ b h holds. holds.0) is
      (reads.0.whole tt).1 reads.1 in
      (told_of one limit beside g also (λ b. Accepts b limit)
      (λ h. AreReadAs left failed limit (λ files. Means (f ∷ h ∷ files)) [] [] others) (left s)
      (left other) value (λ b h holds. holds.0) is_also (first.0.whole tt).1 first.1).0

module _ (laws : Laws) (one : SpellOne) (limit : ℕ) (file beside : List ℕ) (f g : File)
    (accepts : Accepts file limit f) (also : Accepts beside limit g) {S P : Type 0}
    (left : S → Option (List ℕ)) (failed : S → Bool) (given : P → Option (List ℕ))
    (given_failed : P → Bool) (r s : S) (is : left r ≡ Some file) (is_also : left s ≡ Some beside)
  where
    -- ---- a certificate

    module _ (clauses_are_one : ClausesAreOne) (optimize : Bool) (text base step : List ℕ)
        (m : Circuit) (of : IsSubject (subjects.Certified Own) (f ∷ g ∷ []) m)
        (sum sum_beside : List ℕ)
        (printed : IsObligationsText optimize m sum sum_beside text) (p q : P)
        (base_known : given p ≡ Some base) (step_known : given q ≡ Some step) where
      abbrev IsCertified : Result (Unit {0}) GoalFault → List S → List P → Type 0
      IsCertified x after used =
          ChecksGoal left failed given given_failed limit (subjects.Certified Own)
          (goals.SafeBySteps 0 Plain) optimize optimize (r ∷ s ∷ []) (p ∷ q ∷ []) x after used

      abbrev plan : List Question
      plan = asked_with optimize (asks.Step 0) ∷ asked_with optimize (asks.Window 0 Plain) ∷ []

      -- the clauses that were printed are those of the subject's circuit
      base_asked : IsAskedBy (asked_with optimize (asks.Step 0)) m printed.base
      base_asked = record {
        made = printed.base_clauses;
        again = printed.base_again;
        only = λ other asked. same_Some _ _
            (clauses_are_one (asks.Step 0) optimize m (Some printed.base_clauses)
            (Some other) printed.base_asks asked);
      }

      step_asked : IsAskedBy (asked_with optimize (asks.Window 0 Plain)) m
          printed.step
      step_asked = record {
        made = printed.step_clauses;
        again = printed.step_again;
        only = λ other asked. same_Some _ _
            (clauses_are_one (asks.Window 0 Plain) optimize m
            (Some printed.step_clauses) (Some other) printed.step_asks asked);
      }

      part_taken : (used : List P) (n : ℕ) (why : Why) → IsProofOf printed.base base
          → IsProofOf printed.step step
          → AnswersAt given given_failed limit plan m (p ∷ q ∷ []) used n (Err why)
          → IsOfWhy why
      part_taken used zero why first second at =
          at_place laws limit given given_failed (asked_with optimize (asks.Step 0))
          m printed.base base base_asked first p base_known plan (p ∷ q ∷ []) used 0
          why refl refl at
      part_taken used (suc zero) why first second at =
          at_place laws limit given given_failed (asked_with optimize (asks.Window 0 Plain))
          m printed.step step step_asked second q step_known plan (p ∷ q ∷ [])
          used 1 why refl refl at
      part_taken used (suc (suc n)) why first second at = let no = at.asked in cc

      both_taken : (after : List S) (used : List P) (x : Result (Unit {0}) GoalFault)
          → IsCertified x after used → IsProofOf printed.base base → IsProofOf printed.step step
          → IfErr x IsOfNoProof
      both_taken after used (Ok u) checks first second = tt
      both_taken after used (Err (faults.Plan (plans.Refused e))) checks first second =
          let told = of_both one limit file beside f g accepts also left failed r s is is_also
          (TellsOfGoal given given_failed limit (subjects.Certified Own) (goals.SafeBySteps 0 Plain)
          optimize optimize (p ∷ q ∷ []) used) (Err (faults.Plan (plans.Refused e))) after
          checks.reads.reads in
          let same : told.0 ≡ m = told.1.2.joint
          ∙ ap (λ c. certified c (circuit_of g)) (told.1.1 ∙ sym of.1) ∙ sym of.2.joint in
          part_taken used e.index e.why first second
          (subst (λ c. AnswersAt given given_failed limit plan c (p ∷ q ∷ []) used e.index
          (Err e.why)) same told.2.1.1)
      both_taken after used (Err e) checks first second = tt

      pub parts_taken : (after : List S) (used : List P) (answer : Result (Unit {0}) GoalError)
          → IsCertified (fault_of answer) after used → TakesParts text base step answer
      parts_taken after used answer checks =
          let first = dimacs_of (length printed.base_clauses.clauses)
          (formula_of printed.base_clauses) in
          let second = dimacs_of (length printed.step_clauses.clauses)
          (formula_of printed.step_clauses) in
          let title = title_text (pair_title optimize sum sum_beside) in
          record {
            title = title;
            first = first;
            second = second;
            parted = printed.exact
                ∙ ap₂ (λ a b. title ++ a ++ b) printed.base_exact printed.step_exact;
            takes = λ of_base of_step. both_taken after used (fault_of answer) checks
                (subst (λ t. IsProofOf t base) (sym printed.base_exact) of_base)
                (subst (λ t. IsProofOf t step) (sym printed.step_exact) of_step);
          }

    -- ---- a miter

    -- what is known of miters: two circuits have one, and its text asks for what it asks for
    abbrev pub MitersAreOne : Type 0
    MitersAreOne = (a b m n : Circuit) → IsMiter a b m → IsMiter a b n → m ≡ n

    abbrev pub AskTheSame : Type 0
    AskTheSame =
        (pairing : Pairing) (f g h : File) (m : Circuit) (limit k : ℕ)
        (optimize : Bool) (one : Query) (other : CircuitQuery) → IsJointOf pairing f g m
        → Accepts (text_of m) limit h → IsQuery k optimize h one → IsCircuitQuery m k optimize other
        → (one.encoded.clauses ≡ other.clauses) × (one.extra ≡ other.extra)

    module _ (are_one : MitersAreOne) (ask_the_same : AskTheSame) (k : ℕ) (optimize : Bool)
        (text proof : List ℕ) (p : P) (known : given p ≡ Some proof) (m : Circuit)
        (joint : IsJointOf (Miter usual) f g m) (h : File) (written : Accepts (text_of m) limit h)
        (query : Query) (query_is : IsQuery k optimize h query)
        (printed : IsTextOf query.encoded.clauses query.extra text) where
      abbrev step : Question
      step = asked_with optimize (asks.Step k)

      -- the clauses that were printed are those of the miter's circuit
      query_asked : IsAskedBy step m text
      query_asked = record {
        made = record { clauses = query.encoded.clauses; extra = query.extra };
        again = printed.again;
        only = λ other asked.
            let same = ask_the_same (Miter usual) f g h m limit k optimize query
            (query_with asked.0 other) joint written query_is asked.1 in
            ap₂ (λ (a : List (List (List Lit))) (b : List (List Lit)).
            record { clauses = a; extra = b }) same.0 same.1;
      }

      pub equal_taken : (after : List S) (used : List P) (x : Result (Unit {0}) GoalFault)
          → ChecksGoal left failed given given_failed limit (subjects.Miter usual) (goals.Refuted k)
          optimize optimize (r ∷ s ∷ []) (p ∷ []) x after used
          → IsProofOf text proof → IfErr x IsOfNoProof
      equal_taken after used (Ok u) checks proves = tt
      equal_taken after used (Err (faults.Plan (plans.Refused e))) checks proves =
          let told = of_both one limit file beside f g accepts also left failed r s is is_also
          (TellsOfGoal given given_failed limit (subjects.Miter usual) (goals.Refuted k) optimize
          optimize (p ∷ []) used) (Err (faults.Plan (plans.Refused e))) after checks.reads.reads in
          let same : told.0 ≡ m = are_one (circuit_of f) (circuit_of g) told.0 m told.1.joint
          joint.joint in
          by_place used e.index e.why proves
          (subst (λ c. AnswersAt given given_failed limit (step ∷ []) c (p ∷ []) used e.index
          (Err e.why)) same told.2.1.1)
        where
          by_place : (used : List P) (n : ℕ) (why : Why) → IsProofOf text proof
              → AnswersAt given given_failed limit (step ∷ []) m (p ∷ []) used n (Err why)
              → IsOfWhy why
          by_place used zero why proves at =
              at_place laws limit given given_failed step m text proof query_asked proves p known
              (step ∷ []) (p ∷ []) used 0 why refl refl at
          by_place used (suc n) why proves at = let no = at.asked in cc
      equal_taken after used (Err e) checks proves = tt
