-- Of a question of one file: a proof of the clauses that were printed is taken.
use Rattle.aig_base.proofs.Words.{◌≡◌, ◌≢◌, ℕ, zero, suc, inl, Bool, true, false, List, [], ◌∷◌, length, None, Option, Some, Result, Ok, Err, IfErr, refl, same_Some, slice_get, subst, sym, ◌∙◌}
use Rattle.aig_answers.specs.Goals.{AnswersGoal, ChecksGoal, TellsOfGoal, goal_of, plan_of}
use Rattle.aig_answers.specs.declared.goals.error.GoalError.{GoalError}
use Rattle.aig_answers.specs.declared.goals.error.GoalFault.{GoalFault}
use Rattle.aig_answers.specs.declared.goals.error.GoalFault.TheVariants as faults
use Rattle.aig_answers.specs.Plans.{AnswersAt, ChecksCircuit, IsHeld, Makes, Tells, asked_with, room_of}
use Rattle.aig_answers.specs.declared.plans.asking.Ask.{Ask}
use Rattle.aig_answers.specs.declared.plans.asking.Ask.TheVariants as asks
use Rattle.aig_answers.specs.declared.plans.asking.Question.{Question}
use Rattle.aig_answers.specs.declared.plans.errors.PlanError.{PlanError}
use Rattle.aig_answers.specs.declared.plans.errors.PlanError.TheVariants as plans
use Rattle.aig_answers.specs.declared.plans.errors.Why.{Why}
use Rattle.aig_answers.specs.declared.plans.errors.Why.TheVariants as whys
use Rattle.aig_answers.specs.declared.windows.WindowClauses.{WindowClauses}
use Rattle.aig_circuit.specs.Circuit.{Circuit}
use Rattle.aig_edits.specs.declared.pair_error.PairError.TheVariants as pairs
use Rattle.aig_format.specs.Circuit.{circuit_of}
use Rattle.aig_format.specs.File.{File}
use Rattle.aig_format.specs.Fits.{Accepts}
use Rattle.aig_reader.specs.Verdicts.{Accepted, Crowded, IsSettled, Judges, Memory, NoBads, Refused, Short, Stream, TooLarge, TooMany, Verdict}
use Rattle.aig_refutation.specs.Checking.{Shows}
use Rattle.aig_refutation.specs.declared.error.RefutationError.{RefutationError}
use Rattle.aig_subjects.specs.Reads.{AreReadAs}
use Rattle.aig_subjects.specs.Subjects.{IsUnmade, error_verdicts}
use Rattle.aig_subjects.specs.declared.error.SubjectError.{SubjectError}
use Rattle.aig_subjects.specs.declared.error.SubjectError.TheVariants as subject_errors
use Rattle.aig_subjects.specs.declared.subject.FileSubject.TheVariants.{Own}
use Rattle.aig_subjects.specs.declared.subject.Subject.TheVariants as subjects
use Rattle.aig_check_commands.specs.Checked.{AnswersCheck, answer_of}
use Rattle.aig_check_commands.specs.Pairs.{formula_of}
use Rattle.aig_check_commands.specs.Printed.{EndsWith, Printed}
use Rattle.aig_check_commands.specs.Questions.{ArePrinted, IsQuestionText}
use Rattle.aig_check_commands.specs.declared.error.CheckError.{CheckError}
use Rattle.aig_check_commands.specs.declared.error.CheckError.TheVariants as errors
use Rattle.aig_callers.specs.Taking.{IsHidden, IsHindrance, IsOfFault, IsOfPlan, IsOfWhy, IsOutside, IsProofOf}
use Rattle.aig_callers.proofs.Taken.{Laws, SpellOne, judged, text_taken, told_of}

-- the clauses that are printed are those that are checked
abbrev pub AreChecked : Type 0
AreChecked =
    (a : Ask) (optimize : Bool) (m : Circuit) (comments : List ℕ) (printed checked : WindowClauses)
    → ArePrinted a optimize m comments printed → Makes a optimize m (Some checked)
    → printed ≡ checked

-- the plan of a question's goal is the question
plan_is : (q : Question) → plan_of (goal_of q.ask) q.optimize q.optimize ≡ q ∷ []
plan_is q = by q.ask
  where
    by : (a : Ask) → plan_of (goal_of a) q.optimize q.optimize ≡ asked_with q.optimize a ∷ []
    by (asks.Step k) = refl
    by (asks.UpTo k) = refl
    by (asks.Window k form) = refl

-- what is at a place of one thing is that
only_at : {X : Type 0} (x y : X) (n : ℕ) → slice_get (x ∷ []) n ≡ Some y → y ≡ x
only_at x y zero is = sym (same_Some _ _ is)
only_at x y (suc n) is = cc

-- what is told of a file that was taken, where nothing else was read
module _ (one : SpellOne) (limit : ℕ) (bytes : List ℕ) (f : File) (accepts : Accepts bytes limit f)
    {R T : Type 0} (left : R → Option (List ℕ)) (failed : R → Bool)
    (Means : List File → T → Type 0) (r : R) (is : left r ≡ Some bytes) where
  pub of_first : (after : List R) (value : T)
      → AreReadAs left failed limit Means (Accepted ∷ []) (r ∷ []) after value
      → Means (f ∷ []) value
  of_first [] value read = absurd read
  of_first (rest ∷ others) value (told, read) =
      (told_of one limit bytes f accepts (λ b. Accepts b limit)
      (λ g. AreReadAs left failed limit (λ files. Means (g ∷ files)) [] [] others) (left r)
      (left rest) value (λ b h holds. holds.0) is (told.whole tt).1 read).0

module _ (laws : Laws) (one : SpellOne) (checked : AreChecked) (limit : ℕ) (q : Question)
    (file proof text sum : List ℕ) (f : File) (accepts : Accepts file limit f)
    (room : room_of limit (q ∷ []) (circuit_of f) ≡ Ok tt)
    (printed : IsQuestionText q (circuit_of f) sum text) (proves : IsProofOf text proof) where
  module _ {P : Type 0} (given : P → Option (List ℕ)) (given_failed : P → Bool) (p : P)
      (known : given p ≡ Some proof) where
    refuted : (made : Option WindowClauses) (rest : P) (e : RefutationError)
        → Makes q.ask q.optimize (circuit_of f) made
        → IsHeld given given_failed made p rest (Err e) → IsOutside e
    refuted (Some w) rest e makes held =
        let same = checked q.ask q.optimize (circuit_of f) printed.comments printed.made w
        printed.printed makes in
        text_taken laws text proof (length printed.made.clauses) (formula_of printed.made) e
        printed.again proves
        (subst (λ t. Shows (length printed.made.clauses) (formula_of printed.made) t (Err e)) known
        (subst (λ (x : WindowClauses). Shows (length x.clauses) (formula_of x) (given p) (Err e))
        (sym same) held.0))
    refuted None rest e makes held = let no : Err e ≡ Ok tt = held.0 in cc

    of_why : (rest : P) (why : Why)
        → Tells given given_failed limit q (circuit_of f) p rest (Err why) → IsOfWhy why
    of_why rest (whys.Refutation e) told = refuted told.0 rest e told.1 told.2
    of_why rest (whys.Clauses e) told = tt

    at_first : (used : List P) (n : ℕ) (why : Why)
        → AnswersAt given given_failed limit (q ∷ []) (circuit_of f) (p ∷ []) used n (Err why)
        → IsOfWhy why
    at_first used n why at =
        of_why at.rest why
        (subst (λ (x : P). Tells given given_failed limit q (circuit_of f) x at.rest (Err why))
        (only_at p at.proof n at.was)
        (subst (λ (x : Question). Tells given given_failed limit x (circuit_of f) at.proof at.rest
        (Err why)) (only_at q at.question n at.asked) at.tells))

    of_plan : (used : List P) (e : PlanError)
        → ChecksCircuit given given_failed limit (q ∷ []) (circuit_of f) (p ∷ []) used (Err e)
        → IsOfPlan e
    of_plan used (plans.Refused e) checks = at_first used e.index e.why checks.1.1
    of_plan used e checks = let no = sym checks.0 ∙ room in cc

    module _ {R : Type 0} (left : R → Option (List ℕ)) (failed : R → Bool) (r : R)
        (is : left r ≡ Some file) (after : List R) (used : List P) where
      abbrev Checks : Result (Unit {0}) GoalFault → Type 0
      Checks x = ChecksGoal left failed given given_failed limit (subjects.File Own) (goal_of q.ask)
          q.optimize q.optimize (r ∷ []) (p ∷ []) x after used

      abbrev Means : List File → Result (Unit {0}) GoalFault → Type 0
      Means = TellsOfGoal given given_failed limit (subjects.File Own) (goal_of q.ask) q.optimize
          q.optimize (p ∷ []) used

      answered : (e : PlanError)
          → AnswersGoal given given_failed limit (subjects.File Own) (goal_of q.ask) q.optimize
          q.optimize (p ∷ []) used (f ∷ []) (Err e)
          → IsOfPlan e
      answered e tells =
          of_plan used e
          (subst (λ (m : Circuit). ChecksCircuit given given_failed limit (q ∷ []) m (p ∷ []) used
          (Err e)) tells.1
          (subst (λ plan. ChecksCircuit given given_failed limit plan tells.0 (p ∷ []) used (Err e))
          (plan_is q) tells.2))

      some_said : (e : SubjectError) → error_verdicts (subjects.File Own) e ≢ []
      some_said (subject_errors.File e) is = let no = is in cc
      some_said (subject_errors.Pair (pairs.Read e)) is = let no = is in cc
      some_said (subject_errors.Pair e) is = let no = is in cc
      some_said (subject_errors.Certificate e) is = let no = is in cc

      no_unmade : (e : SubjectError) → ¬ IsUnmade (subjects.File Own) (f ∷ []) e
      no_unmade (subject_errors.File e) made = made
      no_unmade (subject_errors.Pair e) made = made
      no_unmade (subject_errors.Certificate e) made = made

      not_settled : (rest : R) (v : Verdict)
          → Judges (λ _. Accepted) limit (left r) (left rest) (failed rest) v → v ≢ Accepted
          → ¬ IsSettled v
      not_settled rest v told differs settled =
          differs
          (judged one limit file f accepts (λ _. Accepted) (left r) (left rest) (failed rest) v is
          refl told settled)

      no_second : (v : Verdict) (said : List Verdict) (others : List R)
          (value : Result (Unit {0}) GoalFault) (g : File)
          → ¬ AreReadAs left failed limit (λ files. Means (g ∷ files)) (v ∷ said) [] others value
      no_second Accepted said [] value g read = read
      no_second Accepted said (x ∷ others) value g read = read
      no_second TooMany said [] value g read = read
      no_second TooMany said (x ∷ others) value g read = read
      no_second TooLarge said [] value g read = read
      no_second TooLarge said (x ∷ others) value g read = read
      no_second NoBads said [] value g read = read
      no_second NoBads said (x ∷ others) value g read = read
      no_second Crowded said [] value g read = read
      no_second Crowded said (x ∷ others) value g read = read
      no_second Refused said [] value g read = read
      no_second Refused said (x ∷ others) value g read = read
      no_second Short said [] value g read = read
      no_second Short said (x ∷ others) value g read = read
      no_second Memory said [] value g read = read
      no_second Memory said (x ∷ others) value g read = read
      no_second Stream said [] value g read = read
      no_second Stream said (x ∷ others) value g read = read

      hidden : (e : SubjectError) (said : List Verdict) (rests : List R) → said ≢ []
          → AreReadAs left failed limit Means said (r ∷ []) rests (Err (faults.Subject e))
          → IsHidden said
      hidden e [] rests some read = absurd (some refl)
      hidden e (Accepted ∷ []) rests some read =
          absurd (no_unmade e
          (of_first one limit file f accepts left failed Means r is rests (Err (faults.Subject e))
          read))
      hidden e (Accepted ∷ v ∷ said) [] some read = absurd read
      hidden e (Accepted ∷ v ∷ said) (rest ∷ others) some (told, read) =
          absurd (no_second v said others (Err (faults.Subject e)) read.file read.means)
      hidden e (TooMany ∷ said) [] some read = absurd read
      hidden e (TooMany ∷ said) (rest ∷ others) some (told, unmade, same) =
          inl (not_settled rest TooMany told (λ is. let no = is in cc))
      hidden e (TooLarge ∷ said) [] some read = absurd read
      hidden e (TooLarge ∷ said) (rest ∷ others) some (told, unmade, same) =
          inl (not_settled rest TooLarge told (λ is. let no = is in cc))
      hidden e (NoBads ∷ said) [] some read = absurd read
      hidden e (NoBads ∷ said) (rest ∷ others) some (told, unmade, same) =
          inl (not_settled rest NoBads told (λ is. let no = is in cc))
      hidden e (Crowded ∷ said) [] some read = absurd read
      hidden e (Crowded ∷ said) (rest ∷ others) some (told, unmade, same) =
          inl (not_settled rest Crowded told (λ is. let no = is in cc))
      hidden e (Refused ∷ said) [] some read = absurd read
      hidden e (Refused ∷ said) (rest ∷ others) some (told, unmade, same) =
          inl (not_settled rest Refused told (λ is. let no = is in cc))
      hidden e (Short ∷ said) [] some read = absurd read
      hidden e (Short ∷ said) (rest ∷ others) some (told, unmade, same) =
          inl (not_settled rest Short told (λ is. let no = is in cc))
      hidden e (Memory ∷ said) [] some read = absurd read
      hidden e (Memory ∷ said) (rest ∷ others) some (told, unmade, same) =
          inl (not_settled rest Memory told (λ is. let no = is in cc))
      hidden e (Stream ∷ said) [] some read = absurd read
      hidden e (Stream ∷ said) (rest ∷ others) some (told, unmade, same) =
          inl (not_settled rest Stream told (λ is. let no = is in cc))

      hindered : (e : GoalFault) → Checks (Err e) → IsOfFault (subjects.File Own) e
      hindered (faults.Plan e) checks =
          answered e
          (of_first one limit file f accepts left failed Means r is after (Err (faults.Plan e))
          checks.reads.reads)
      hindered (faults.Subject e) checks =
          hidden e (error_verdicts (subjects.File Own) e) after (some_said e) checks.reads.reads
      hindered faults.Memory checks = tt

      abbrev Answers : Result (List ℕ) CheckError → Type 0
      Answers = AnswersCheck left failed given given_failed limit (subjects.File Own) (goal_of q.ask)
          q.optimize q.optimize (r ∷ []) (p ∷ []) after used

      told_hindered : (e : CheckError) → Answers (Err e) → IsHindrance e
      told_hindered e answers = by answers.checked answers.checks answers.told
        where
          by : (x : Result (Unit {0}) GoalFault) → Checks x
              → Err e ≡ answer_of (subjects.File Own) (goal_of q.ask) x → IsHindrance e
          by (Ok u) checks same = absurd cc
          by (Err fault) checks same =
              let is : e ≡ errors.Goal (record {
                subject = subjects.File Own;
                goal = goal_of q.ask;
                fault = fault;
              }) = cc in
              subst IsHindrance (sym is) (hindered fault checks)

      -- the answer of the check is a hindrance at most
      pub question_taken : {W : Type 0} (held : W → Option (List ℕ)) (write_failed : W → Bool)
          (w made : W) (result : Result (Unit {0}) CheckError) → write_failed made ≡ false
          → Printed held write_failed Answers w result made → IfErr result IsHindrance
      question_taken held write_failed w made (Ok u) sound runs = tt
      question_taken held write_failed w made (Err e) sound runs =
          by runs.answer runs.holds runs.ends
        where
          by : (x : Result (List ℕ) CheckError) → Answers x
              → EndsWith held write_failed x w (Err e) made → IsHindrance e
          by (Ok line) holds ends = let no = sym sound ∙ ends.1.has_failed in cc
          by (Err x) holds ends =
              let same : Err e ≡ Err x = ends.0 in
              let one : e ≡ x = cc in
              subst IsHindrance (sym one) (told_hindered x holds)
