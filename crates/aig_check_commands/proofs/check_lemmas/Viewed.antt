-- What a command does is so of what is seen of its files: of their bytes alone.
use Rattle.aig_check_commands.proofs.Words.{◌≡◌, ℕ, ◌+◌, Bool, List, [], ◌∷◌, Option, None, Some, Ok, Err, ap, fun_ext, map, refl, subst, sym, ◌∙◌, IfErr, IfSome, IsTrue, Result, option_map, slice_get-map, Circuit, File, IsReadAs, Asked, Command, FileCommand, CheckError, EditError, RanOn, AnswersAt, AreUnread, ChecksCircuit, IsHeld, Tells, Question, WindowClauses, RefutationError, Printed, AnswersObligations, obligation_verdicts, ChecksFile, LeavesProof, ReadsWitness, IsErrorOfObligation, TellsOfSimulated, Proofs, proof_for, proofs_of, Condition, FileSubject}
use Rattle.aig_check_commands.specs.declared.command.Command.TheVariants as commands
use Rattle.std.specs.List.{drop-map, take-map}
use Rattle.std.specs.Prelude.{drop, take}
use Rattle.aig_reader.specs.Verdicts.{Accepted, Verdict}
use Rattle.aig_subjects.specs.Reads.{AreReadAs}
use Rattle.aig_subjects.specs.Subjects.{file_count}
use Rattle.aig_subjects.specs.declared.subject.FileSubject.{FileSubject}
use Rattle.aig_subjects.specs.declared.subject.Subject.{Subject}
use Rattle.aig_answers.specs.Goals.{ChecksGoal, LeavesProofs, TellsOfGoal, goal_verdicts, plan_of}
use Rattle.aig_answers.specs.declared.goals.error.GoalFault.{GoalFault}
use Rattle.aig_answers.specs.declared.goals.error.GoalFault.TheVariants as goal_faults
use Rattle.aig_answers.specs.declared.goals.goal.Goal.{Goal}
use Rattle.aig_check_commands.specs.Acting.{RanAll}
use Rattle.aig_check_commands.specs.Checked.{AnswersCheck}
use Rattle.aig_check_commands.specs.Simulating.{AnswersSimulated, TellsOfObligation, file_error, refusal_of}
use Rattle.aig_witness_circuit_checks.specs.Witnesses.{part_of}
use Rattle.aig_check_commands.specs.FileSubjects.{subject_of}
use Rattle.aig_check_commands.specs.Pairs.{TellsOfObligations}
use Rattle.aig_answers.specs.declared.plans.errors.PlanError.{PlanError}
use Rattle.aig_answers.specs.declared.plans.errors.PlanError.TheVariants as plans
use Rattle.aig_answers.specs.declared.plans.errors.Why.{Why}
use Rattle.aig_answers.specs.declared.plans.errors.Why.TheVariants as whys
use Rattle.aig_witness_circuits.specs.declared.condition.Condition.TheVariants as conditions
use Rattle.aig_check_commands.proofs.check_lemmas.Outcomes.{file_under, printed_on}
use Rattle.aig_subjects.specs.declared.subject.FileSubject.TheVariants.{Own}

-- a value of the same file, with another meaning
pub read_as : {T U : Type 0} {Holds : List ℕ → File → Type 0} (Means : File → T → Type 0)
    (Other : File → U → Type 0) {old new : Option (List ℕ)}
    {value : T} {another : U} → ((f : File) → Means f value → Other f another)
    → IsReadAs Holds Means old new value → IsReadAs Holds Other old new another
read_as Means Other so was = record {
  file = was.file;
  bytes = was.bytes;
  holds = was.holds;
  means = so was.file was.means;
  taken = was.taken;
}

-- it is printed as before
still_printed : {W : Type 0} {held : W → Option (List ℕ)} {failed : W → Bool}
    {Holds Also : Result (List ℕ) CheckError → Type 0} {w made : W}
    {result : Result (Unit {0}) CheckError}
    → ((x : Result (List ℕ) CheckError) → Holds x → Also x)
    → Printed held failed Holds w result made → Printed held failed Also w result made
still_printed so = printed_on so (λ x ends. ends)

-- what isn't read stays as it is seen
left_as : {P Q : Type 0} (on : P → Q) (Leaves : CheckError → Type 0) (p used : P)
    (result : Result (List ℕ) CheckError) → IfErr result (λ e. Leaves e → used ≡ p)
    → IfErr result (λ e. Leaves e → on used ≡ on p)
left_as on Leaves p used (Ok u) unread = tt
left_as on Leaves p used (Err e) unread = λ is. ap on (unread is)

-- a question is answered so as its proof is seen
module _ {S B : Type 0} (on : S → B) (left : B → Option (List ℕ)) (failed : B → Bool) where
  held_seen : (made : Option WindowClauses) (p rest : S) (x : Result (Unit {0}) RefutationError)
      → IsHeld (λ y. left (on y)) (λ y. failed (on y)) made p rest x
      → IsHeld left failed made (on p) (on rest) x
  held_seen (Some made) p rest x told = told
  held_seen None p rest x told = (told.0, ap on told.1)

  told_of_seen : (limit : ℕ) (q : Question) (c : Circuit) (p rest : S) (x : Result (Unit {0}) Why)
      → Tells (λ y. left (on y)) (λ y. failed (on y)) limit q c p rest x
      → Tells left failed limit q c (on p) (on rest) x
  told_of_seen limit q c p rest (Ok u) told =
      (told.0, told.1, told.2, held_seen told.0 p rest (Ok tt) told.3)
  told_of_seen limit q c p rest (Err (whys.Refutation e)) told =
      (told.0, told.1, held_seen told.0 p rest (Err e) told.2)
  told_of_seen limit q c p rest (Err (whys.Clauses e)) told = (ap on told.0, told.1)

  -- so is a plan
  module _ (limit : ℕ) (plan : List Question) (c : Circuit) (proofs others : List S) where
    at_seen : (n : ℕ) (x : Result (Unit {0}) Why)
        → AnswersAt (λ y. left (on y)) (λ y. failed (on y)) limit plan c proofs others n x
        → AnswersAt left failed limit plan c (map on proofs) (map on others) n x
    at_seen n x at = record {
      question = at.question;
      proof = on at.proof;
      rest = on at.rest;
      asked = at.asked;
      was = slice_get-map on proofs n ∙ ap (option_map on) at.was;
      is = slice_get-map on others n ∙ ap (option_map on) at.is;
      tells = told_of_seen limit at.question c at.proof at.rest x at.tells;
    }

    unread_seen : (n : ℕ) → AreUnread proofs others n
        → AreUnread (map on proofs) (map on others) n
    unread_seen n unread i low =
        slice_get-map on others i ∙ ap (option_map on) (unread i low)
        ∙ sym (slice_get-map on proofs i)

    plan_seen : (x : Result (Unit {0}) PlanError)
        → ChecksCircuit (λ y. left (on y)) (λ y. failed (on y)) limit plan c proofs others x
        → ChecksCircuit left failed limit plan c (map on proofs) (map on others) x
    plan_seen (Ok u) told = (told.0, λ n low. at_seen n (Ok tt) (told.1 n low))
    plan_seen (Err (plans.Refused e)) told = (
      told.0,
      (
        λ n low. at_seen n (Ok tt) (told.1.0 n low),
        at_seen e.index (Err e.why) told.1.1,
        unread_seen (e.index + 1) told.1.2,
      ),
    )
    plan_seen (Err e) told = (told.0, ap (λ (l : List S). map on l) told.1)

-- so are the proofs of a goal
module _ {P B : Type 0} (on : P → B) (given : B → Option (List ℕ)) (given_failed : B → Bool)
    (limit : ℕ) (subject : Subject) (goal : Goal) (base step : Bool) (proofs others : List P)
    (files : List File) where
  goal_told : (x : Result (Unit {0}) GoalFault)
      → TellsOfGoal (λ y. given (on y)) (λ y. given_failed (on y)) limit subject goal base step proofs
      others files x
      → TellsOfGoal given given_failed limit subject goal base step (map on proofs) (map on others)
      files x
  goal_told (Ok u) told = (
    told.0,
    (
      told.1.0,
      told.1.1,
      plan_seen on given given_failed limit (plan_of goal base step) told.1.0 proofs others (Ok tt)
          told.1.2,
    ),
  )
  goal_told (Err (goal_faults.Plan e)) told = (
    told.0,
    told.1,
    plan_seen on given given_failed limit (plan_of goal base step) told.0 proofs others (Err e) told.2,
  )
  goal_told (Err (goal_faults.Subject e)) told = told
  goal_told (Err goal_faults.Memory) told = told

-- and the files
module _ {S A T : Type 0} (to : S → A) (left : A → Option (List ℕ)) (failed : A → Bool) (limit : ℕ)
  where
    files_seen : (said : List Verdict) (Means Also : List File → T → Type 0) (before after : List S)
        (value : T) → ((files : List File) → Means files value → Also files value)
        → AreReadAs (λ y. left (to y)) (λ y. failed (to y)) limit Means said before after value
        → AreReadAs left failed limit Also said (map to before) (map to after) value
    files_seen [] Means Also before after value so told =
        (so [] told.0, ap (λ (l : List S). map to l) told.1)
    files_seen (Accepted ∷ said) Means Also (r ∷ before) (rest ∷ after) value so told = (
      told.0,
      read_as _ _ (λ f. files_seen said (λ files. Means (f ∷ files)) (λ files. Also (f ∷ files)) before
          after value (λ files. so (f ∷ files))) told.1,
    )
    files_seen (v ∷ said) Means Also (r ∷ before) (rest ∷ after) value so told =
        (told.0, so [] told.1, ap (λ (l : List S). map to l) told.2)
    files_seen said Means Also before after value so told = absurd told

module _ {S A P B : Type 0} (to : S → A) (left : A → Option (List ℕ)) (failed : A → Bool)
    (on : P → B) (given : B → Option (List ℕ)) (given_failed : B → Bool) (limit : ℕ)
    (subject : Subject) (goal : Goal) (base step : Bool) (before after : List S)
    (proofs others : List P) where
  proofs_unread : (x : Result (Unit {0}) GoalFault)
      → IfErr x (λ e. LeavesProofs e → others ≡ proofs)
      → IfErr x (λ e. LeavesProofs e → map on others ≡ map on proofs)
  proofs_unread (Ok u) unread = tt
  proofs_unread (Err e) unread = λ is. ap (λ (l : List P). map on l) (unread is)

  goal_seen : (x : Result (Unit {0}) GoalFault)
      → ChecksGoal (λ y. left (to y)) (λ y. failed (to y)) (λ y. given (on y))
      (λ y. given_failed (on y)) limit subject goal base step before proofs x after others
      → ChecksGoal left failed given given_failed limit subject goal base step (map to before)
      (map on proofs) x (map to after) (map on others)
  goal_seen x told = record {
    reads = record {
      reads = files_seen to left failed limit (goal_verdicts subject x)
          (TellsOfGoal (λ y. given (on y)) (λ y. given_failed (on y)) limit subject goal base step
          proofs others)
          (TellsOfGoal given given_failed limit subject goal base step (map on proofs)
          (map on others)) before after x
          (λ files. goal_told on given given_failed limit subject goal base step proofs others files x)
          told.reads.reads;
      own = told.reads.own;
    };
    unread = proofs_unread x told.unread;
  }

  pub check_seen : (x : Result (List ℕ) CheckError)
      → AnswersCheck (λ y. left (to y)) (λ y. failed (to y)) (λ y. given (on y))
      (λ y. given_failed (on y)) limit subject goal base step before proofs after others x
      → AnswersCheck left failed given given_failed limit subject goal base step (map to before)
      (map on proofs) (map to after) (map on others) x
  check_seen x told =
      record { checked = told.checked; checks = goal_seen told.checked told.checks; told = told.told }

-- so are the clauses of a certificate
module _ {S A : Type 0} (to : S → A) (left : A → Option (List ℕ)) (failed : A → Bool) (limit : ℕ)
    (own : FileSubject) (optimize : Bool) (r s rest other : S) where
  obligations_seen : (x : Result (List ℕ) CheckError)
      → AnswersObligations (λ y. left (to y)) (λ y. failed (to y)) limit own optimize r s rest other x
      → AnswersObligations left failed limit own optimize (to r) (to s) (to rest) (to other) x
  obligations_seen x told =
      let Means = TellsOfObligations limit own optimize (left (to r)) (left (to s)) in
      record {
        made = told.made;
        reads = record {
          reads = files_seen to left failed limit (obligation_verdicts own told.made) Means Means
              (r ∷ s ∷ []) (rest ∷ other ∷ []) told.made (λ files is. is) told.reads.reads;
          own = told.reads.own;
        };
        told = told.told;
      }

-- proofs as they are seen
abbrev proofs_seen_as : {S B : Type 0} → (S → B) → Proofs S → Proofs B
proofs_seen_as on p =
    proofs_of (on p.reset) (on p.transition) (on p.property) (on p.base) (on p.step)

module _ {S B : Type 0} (on : S → B) (p : Proofs S) where
  for_seen : (condition : Condition)
      → on (proof_for p condition) ≡ proof_for (proofs_seen_as on p) condition
  for_seen conditions.Reset = refl
  for_seen conditions.Transition = refl
  for_seen conditions.Property = refl
  for_seen conditions.Base = refl
  for_seen conditions.Step = refl

  -- so are their texts
  simulates_seen : (left_of : B → Option (List ℕ)) (limit : ℕ) (own : FileSubject)
      (optimize : Bool) (f g : File) (x : Result (List ℕ) CheckError)
      → TellsOfSimulated limit own optimize (λ condition. left_of (on (proof_for p condition))) f g x
      → TellsOfSimulated limit own optimize
      (λ condition. left_of (proof_for (proofs_seen_as on p) condition)) f g x
  simulates_seen left_of limit own optimize f g x told =
      subst (λ (texts : Condition → Option (List ℕ)). TellsOfSimulated limit own optimize texts f g x)
      (fun_ext (λ condition. ap left_of (for_seen condition))) told

-- those that aren't read
proofs_left : {S B : Type 0} (on : S → B) (p used : Proofs S) (x : Result (List ℕ) CheckError)
    → IfErr x (λ e. (condition : Condition) → LeavesProof condition e
    → proof_for used condition ≡ proof_for p condition)
    → IfErr x (λ e. (condition : Condition) → LeavesProof condition e
    → proof_for (proofs_seen_as on used) condition ≡ proof_for (proofs_seen_as on p) condition)
proofs_left on p used (Ok u) unread = tt
proofs_left on p used (Err e) unread =
    λ condition is. sym (for_seen on used condition) ∙ ap on (unread condition is)
    ∙ for_seen on p condition

-- ---- what is made of files

module _ {R A : Type 0} (to : R → A) (left : A → Option (List ℕ)) (failed : A → Bool) {limit : ℕ}
    {r rest : R} (x : Result (List ℕ) CheckError) where
  pub checks_seen : {P B : Type 0} (on : P → B) (given : B → Option (List ℕ))
      (given_failed : B → Bool) {c : FileCommand} {p used : P}
      → ChecksFile (λ y. left (to y)) (λ y. failed (to y)) (λ y. given (on y)) (λ y. given_failed (on y))
      c limit r p rest used x
      → ChecksFile left failed given given_failed c limit (to r) (on p) (to rest) (on used) x
  checks_seen on given given_failed {p = p} {used = used} told = record {
    verdict = told.verdict;
    own = told.own;
    text = told.text;
    unread = left_as on _ p used x told.unread;
    refusal = told.refusal;
  }

-- ---- what is done

module _ {S B : Type 0} (on : S → B) (left : B → Option (List ℕ)) (failed : B → Bool) (limit : ℕ)
    (own : FileSubject) (r rest s other : S) where
  -- what is read of a file and a witness circuit is read so as these are seen
  witness_seen : {T : Type 0} (Means Also : File → File → Result T CheckError → Type 0)
      (Owned : CheckError → Type 0) (x : Result T CheckError)
      → ((f g : File) → Means f g x → Also f g x)
      → ReadsWitness (λ y. left (on y)) (λ y. failed (on y)) (λ y. left (on y)) (λ y. failed (on y))
      limit own Means file_error refusal_of Owned r s x rest other
      → ReadsWitness left failed left failed limit own Also file_error refusal_of Owned (on r)
      (on s) x
      (on rest) (on other)
  witness_seen Means Also Owned x so told = record {
    verdict = told.verdict;
    unmade = told.unmade;
    unread = unread_on (part_of file_error x) told.unread;
    made = told.made;
    refused = told.refused;
    whole = told.whole;
    answer = λ first second. read_as _ _ (λ f. read_as _ _ (so f)) (told.answer first second);
    errors = told.errors;
  }
    where
      unread_on : (o : Option EditError) → IfSome o (λ _. other ≡ s)
          → IfSome o (λ _. on other ≡ on s)
      unread_on None unread = tt
      unread_on (Some e) unread = ap on unread

  simulated_seen : (optimize : Bool) (p used : Proofs S) (x : Result (List ℕ) CheckError)
      → AnswersSimulated (λ y. left (on y)) (λ y. failed (on y)) (λ y. left (on y))
      (λ y. failed (on y)) (λ y. left (on y)) (λ y. failed (on y)) limit own optimize r s p rest other
      used x
      → AnswersSimulated left failed left failed left failed limit own optimize (on r) (on s)
      (proofs_seen_as on p) (on rest) (on other) (proofs_seen_as on used) x
  simulated_seen optimize p used x told = record {
    reads = witness_seen _ _ _ x (λ f g. simulates_seen on p left limit own optimize f g x)
        told.reads;
    unread = proofs_left on p used x told.unread;
    stream = λ condition is. subst (λ (q : B). IsTrue (failed q)) (for_seen on used condition)
        (told.stream condition is);
  }

-- so on files
module _ {S B : Type 0} (on : S → B) (left : B → Option (List ℕ)) (failed : B → Bool) {W : Type 0}
    (held : W → Option (List ℕ)) (write_failed : W → Bool) (limit : ℕ) (own : FileSubject)
    (w made : W) (x : Result (Unit {0}) CheckError) where
  -- so on one, of FILE's own circuit
  file_seen : (c : FileCommand) (b : FileSubject) (files others : List S)
      → RanAll (λ y. left (on y)) (λ y. failed (on y)) held write_failed limit b (commands.File c)
      files w x others made
      → RanAll left failed held write_failed limit b (commands.File c) (map on files) w x
      (map on others) made
  file_seen c Own (r ∷ p ∷ []) (rest ∷ used ∷ []) ran =
      still_printed (λ y. checks_seen on left failed y on left failed) ran
  file_seen c b files others ran = absurd ran

  all_seen : (c : Command) (files others : List S)
      → RanAll (λ y. left (on y))
      (λ y. failed (on y)) held write_failed limit own c files w x others made
      → RanAll left failed held write_failed limit own c (map on files) w x (map on others) made
  all_seen (commands.Check subject goal base step) files others ran =
      let count = file_count subject in
      rw (
        take-map on count files,
        drop-map on count files,
        take-map on count others,
        drop-map on count others,
      ) (still_printed (check_seen on left failed on left failed limit
      (subject_of own subject) goal base step (take count files) (take count others)
      (drop count files) (drop count others)) ran)
  all_seen (commands.Print q) (r ∷ files) (rest ∷ others) ran =
      still_printed (λ y. file_under left failed on) ran
  all_seen (commands.Obligations optimize) (r ∷ s ∷ []) (rest ∷ other ∷ []) ran =
      still_printed (obligations_seen on left failed limit own optimize r s rest other) ran
  all_seen (commands.Obligation condition optimize) (r ∷ s ∷ []) (rest ∷ other ∷ []) ran =
      still_printed (λ y. witness_seen on left failed limit own r rest s other
      (TellsOfObligation limit own condition optimize (left (on r)) (left (on s)))
      (TellsOfObligation limit own condition optimize (left (on r)) (left (on s)))
      (IsErrorOfObligation condition) y (λ f g told. told)) ran
  all_seen (commands.Simulated optimize) (r ∷ s ∷ p ∷ q ∷ t ∷ b ∷ e ∷ [])
      (rest ∷ other ∷ p_rest ∷ q_rest ∷ t_rest ∷ b_rest ∷ e_rest ∷ []) ran =
      still_printed (simulated_seen on left failed limit own r rest s other optimize
      (proofs_of p q t b e) (proofs_of p_rest q_rest t_rest b_rest e_rest)) ran
  all_seen (commands.File c) files others ran = file_seen c own files others ran
  all_seen c files others ran = absurd ran

pub on_seen : {S B : Type 0} (on : S → B) (left : B → Option (List ℕ)) (failed : B → Bool)
    {W : Type 0} (held : W → Option (List ℕ)) (write_failed : W → Bool) (limit : ℕ) (asked : Asked)
    (w made : W) (x : Result (Unit {0}) CheckError) (files others : List S)
    → RanOn (λ y. left (on y)) (λ y. failed (on y)) held write_failed limit asked files w x others
    made
    → RanOn left failed held write_failed limit asked (map on files) w x (map on others) made
on_seen on left failed held write_failed limit asked w made x files others ran =
    all_seen on left failed held write_failed limit asked.subject w made x asked.command files others ran
