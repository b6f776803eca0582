-- What commands printed of files whose bytes are known.
use Rattle.aig_base.proofs.Words.{◌≡◌, ℕ, Bool, List, [], ◌∷◌, ◌∙◌, Option, Some, Result, Ok, Err, refl, sym, subst}
use Rattle.aig_format.specs.File.{File}
use Rattle.aig_format.specs.Fits.{Accepts}
use Rattle.aig_reader.specs.Verdicts.{Verdict}
use Rattle.aig_tool_commands.specs.declared.command.Command.{Command}
use Rattle.aig_tool_commands.specs.Running as running
use Rattle.aig_edits.specs.Pairs.{ReadsPair}
use Rattle.aig_answers.specs.declared.plans.asking.Question.{Question}
use Rattle.aig_circuit.specs.Circuit.{Circuit}
use Rattle.aig_check_commands.specs.Questions.{IsQuestionText, RunsQuestion}
use Rattle.aig_answers.specs.Goals.{IsGoalOwn}
use Rattle.aig_answers.specs.Plans.{plan_certified, room_of}
use Rattle.aig_answers.specs.declared.goals.error.GoalFault.{GoalFault}
use Rattle.aig_check_commands.specs.Pairs.{IsObligationsText, RunsObligations, TellsOfObligations, obligation_answer, obligation_verdicts}
use Rattle.aig_subjects.specs.Reads.{ReadsFiles}
use Rattle.aig_subjects.specs.Subjects.{IsSubject}
use Rattle.aig_subjects.specs.declared.subject.Subject.TheVariants as subjects
use Rattle.aig_subjects.specs.declared.subject.FileSubject.TheVariants.{Own}
use Rattle.aig_check_commands.specs.Sums.{IsSum}
use Rattle.aig_format.specs.Circuit.{circuit_of}
use Rattle.sha2.specs.Sha256.{sha256}
use Rattle.aig_check_commands.proofs.check_lemmas.Outcomes.{text_of_printed}
use Rattle.aig_callers.proofs.Asking.{all_taken}
use Rattle.aig_callers.proofs.Text.{all_held}

module _ {R W : Type 0} (left : R → Option (List ℕ)) (failed : R → Bool) (held : W
    → Option (List ℕ)) (write_failed : W → Bool) (q : Question) (limit : ℕ) (r rest : R) (w made : W)
    (bytes out : List ℕ) where
  -- the file that the bytes are, of which the question was printed
  pub printed : (u : Unit {0})
      → RunsQuestion left failed held write_failed limit Own q r w (Ok u) rest made
      → left r ≡ Some bytes → held w ≡ Some [] → held made ≡ Some out
      → (f : File) × Accepts bytes limit f × (room_of limit (q ∷ []) (circuit_of f) ≡ Ok tt)
      × IsQuestionText q (circuit_of f) (sha256 bytes) out
  printed u runs is empty all =
      let answer = text_of_printed runs in
      let told = answer.1 in
      let read = told.answer refl in
      let taken = all_taken bytes read.bytes (left r) (left rest) is read.taken
      (told.verdict.whole tt).1 in
      let same : out ≡ answer.0 = all_held (held w) (held made) out answer.0 empty all answer.2 in
      let means = read.means in
      let sum : means.2.0 ≡ sha256 bytes = subst (λ known. IsSum known means.2.0) is means.2.1 in
      let of = means.1 in (
        read.file,
        subst (λ b. Accepts b limit read.file) taken read.holds,
        subst (λ (m : Circuit). room_of limit (q ∷ []) m ≡ Ok tt) of means.2.2.0,
        subst (λ (m : Circuit). IsQuestionText q m (sha256 bytes) out) of
            (subst (λ s. IsQuestionText q means.0 s out) sum
            (subst (IsQuestionText q means.0 means.2.0) (sym same) means.2.2.1)),
      )

-- the files that the bytes are, of whose joint circuit the clauses were printed
module _ {S W : Type 0} (left : S → Option (List ℕ)) (failed : S → Bool) (held : W
    → Option (List ℕ)) (write_failed : W → Bool) (optimize : Bool) (limit : ℕ) (r s rest other : S)
    (w made : W) (bytes others out : List ℕ) (is : left r ≡ Some bytes)
    (also : left s ≡ Some others) where
  abbrev Printed_of : Type 0
  Printed_of =
      (f : File) × (g : File) × Accepts bytes limit f × Accepts others limit g
      × ((m : Circuit) × IsSubject (subjects.Certified Own) (f ∷ g ∷ []) m
      × (room_of limit (plan_certified optimize) m ≡ Ok tt)
      × IsObligationsText optimize m (sha256 bytes) (sha256 others) out)

  read_joint : (text : List ℕ) → out ≡ text → (x : Result (List ℕ) GoalFault)
      → Ok text ≡ obligation_answer Own x
      → ReadsFiles left failed limit (obligation_verdicts Own)
      (TellsOfObligations limit Own optimize (left r) (left s)) IsGoalOwn (r ∷ s ∷ []) x
      (rest ∷ other ∷ []) → Printed_of
  read_joint text all (Err e) same reads = absurd cc
  read_joint text all (Ok t) same reads =
      let first = reads.reads.1 in
      let second = first.means.1 in
      let taken = all_taken bytes first.bytes (left r) (left rest) is first.taken
      (reads.reads.0.whole tt).1 in
      let taken_also = all_taken others second.bytes (left s) (left other) also second.taken
      (first.means.0.whole tt).1 in
      let means = second.means.0 in
      let m = means.0 in
      let sum = means.1.0 in
      let beside = means.1.1.0 in
      let summed = means.1.1.1 in
      let told = means.1.1.2 in
      let one : sum ≡ sha256 bytes = subst (λ known. IsSum known sum) is summed.3 in
      let two : beside ≡ sha256 others = subst (λ known. IsSum known beside) also summed.4 in
      let whole : t ≡ text = cc in (
        first.file,
        second.file,
        subst (λ b. Accepts b limit first.file) taken first.holds,
        subst (λ b. Accepts b limit second.file) taken_also second.holds,
        (
          m,
          (summed.0, summed.1, summed.2),
          told.0,
          subst (λ a. IsObligationsText optimize m a (sha256 others) out) one
              (subst (λ b. IsObligationsText optimize m sum b out) two
              (subst (IsObligationsText optimize m sum beside) (whole ∙ sym all) told.1)),
        ),
      )

  pub obligations_printed : (u : Unit {0})
      → RunsObligations left failed held write_failed limit Own optimize r s w (Ok u) rest other made
      → held w ≡ Some [] → held made ≡ Some out → Printed_of
  obligations_printed u runs empty all =
      let answer = text_of_printed runs in
      read_joint answer.0 (all_held (held w) (held made) out answer.0 empty all answer.2)
      answer.1.made answer.1.told answer.1.reads

-- ---- two files

module _ {R S T E : Type 0} (left : R → Option (List ℕ)) (failed : R → Bool) (left_of : S
    → Option (List ℕ)) (failed_of : S → Bool) (limit : ℕ) (Means : File → File → Result T E
    → Type 0) (first second : E → Verdict) (Own : E → Type 0) (r rest : R) (s other : S)
    (bytes others : List ℕ) where
  -- the files that the bytes are, and what the answer means for these
  pub both_read : (u : T)
      → ReadsPair left failed left_of failed_of limit Means first second Own r s (Ok u) rest other
      → left r ≡ Some bytes → left_of s ≡ Some others
      → (f : File) × (g : File) × Accepts bytes limit f × Accepts others limit g × Means f g (Ok u)
  both_read u reads is also =
      let one = reads.answer refl refl in
      let two = one.means in
      let taken = all_taken bytes one.bytes (left r) (left rest) is one.taken
      (reads.verdict.whole tt).1 in
      let taken_also = all_taken others two.bytes (left_of s) (left_of other) also two.taken
      ((reads.other_verdict refl).whole tt).1 in (
        one.file,
        two.file,
        subst (λ b. Accepts b limit one.file) taken one.holds,
        subst (λ b. Accepts b limit two.file) taken_also two.holds,
        two.means,
      )

-- ---- `aigtool`

module _ {R W : Type 0} (left : R → Option (List ℕ)) (read_failed : R → Bool) (held : W
    → Option (List ℕ)) (write_failed : W → Bool) (c : Command) (limit : ℕ) (r rest : R) (w made : W)
    (bytes out : List ℕ) where
  pub commanded : (u : Unit {0})
      → running.Runs left read_failed held write_failed c limit r w (Ok u) rest made
      → left r ≡ Some bytes → held w ≡ Some [] → held made ≡ Some out
      → (f : File) × Accepts bytes limit f × running.Answers c f out
  commanded u runs is empty all =
      let answer = runs.ok in
      let read = answer.1 in
      let taken = all_taken bytes read.bytes (left r) (left rest) is read.taken
      (runs.verdict.whole tt).1 in
      let whole = all_held (held w) (held made) out answer.0 empty all answer.2.0 in (
        read.file,
        subst (λ b. Accepts b limit read.file) taken read.holds.0,
        subst (running.Answers c read.file) (sym whole) read.means,
      )
