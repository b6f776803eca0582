-- What becomes of a question of FILE's circuit, or of the one that is made of it, whose clauses are
-- printed.
use Rattle.aig_check_commands.proofs.Words.{◌≡◌, ◌<◌, ◌≤◌, ◌^◌, ℕ, Bool, List, [], ◌∷◌, ◌≢◌, Option, Ok, Err, Result, IsErrOf, inl, inr, ap, refl, subst, sym, slice_get_within, BoundedClauses, CanBeAsked, HasNone, Question, asked_with, Circuit, lists_circuit, file_on, IsEditOwn, ReadsFile, edit_verdict, File, CheckError, Printed, IsTextOf, IsTextOfQuestion, AnswersQuestion, GivesSummed, IsQuestionText, TellsOfClauses, room_of, IsSum, summed_text, text_of, IsMadeOwn, made_verdict}
use Rattle.aig_answers.specs.Plans.{IsTooLarge}
use Rattle.aig_answers.specs.declared.plans.asking.Ask.{Ask}
use Rattle.aig_answers.specs.declared.plans.asking.Ask.TheVariants as asks
use Rattle.aig_bounded.specs.declared.error.BoundedError.{BoundedError}
use Rattle.aig_bounded.specs.declared.error.BoundedError.TheVariants.{Memory, TooLarge}
use Rattle.aig_circuit.specs.declared.view.CircuitLists.{CircuitLists}
use Rattle.aig_edit_laws.proofs.Files.{asked_of_some}
use Rattle.aig_edits.specs.declared.edit_error.EditError.TheVariants as edit
use Rattle.aig_answers.specs.Goals.{goal_of, last_step}
use Rattle.aig_format.specs.Writable.{FitsFormat}
use Rattle.sha2.specs.Sha256.{sha256}
use Rattle.aig_subjects.specs.FileSubjects.{IsFileSubject, IsUnmadeFile}
use Rattle.aig_subjects.specs.Subjects.{IsReady}
use Rattle.aig_subjects.specs.declared.subject.FileSubject.{FileSubject}
use Rattle.aig_subjects.specs.declared.subject.FileSubject.TheVariants.{Live, Own, Rounds}
use Rattle.aig_check_commands.specs.declared.error.CheckError.TheVariants as errors
use Rattle.aig_check_commands.proofs.check_lemmas.Outcomes.{printed_on}

-- a question by its parts
pub asked_is : (q : Question) (a : Ask) → q.ask ≡ a → asked_with q.optimize a ≡ q
asked_is q a is = sym (ap (asked_with q.optimize) is)

-- it can be asked of what was made
pub question_asked : (limit : ℕ) (a : Ask) (m : Circuit) → 1 ≤ limit
    → last_step (goal_of a) < 2 ^ 32 → IsReady m → CanBeAsked limit a m
question_asked limit (asks.Step k) m some small ready = tt
question_asked limit (asks.UpTo k) m some small ready = (some, ready.closed, ready.starts)
question_asked limit (asks.Window k form) m some small ready = small

-- why the first steps have no clauses
pub has_none : (limit k : ℕ) (c : Circuit) (e : BoundedError)
    → (IsErrOf {T = BoundedClauses} (Err e) TooLarge → IsTooLarge limit (asks.UpTo k) c)
    → HasNone limit (asks.UpTo k) c e
has_none limit k c Memory large = tt
has_none limit k c TooLarge large = large refl

-- where memory runs out nothing is made of a file, of which something could be
pub unmade_memory : (own : FileSubject) (f : File) (m : Circuit) → own ≢ Own
    → IsFileSubject own f m → IsUnmadeFile own f edit.Memory
unmade_memory Own f m made is = absurd (made refl)
unmade_memory (Live fairness) f m made is =
    asked_of_some f.properties fairness is.literals is.asked
unmade_memory (Rounds fairness rounds) f m made is =
    asked_of_some f.properties fairness is.literals is.asked
unmade_memory own f m made is = (is.edit_of.can, tt)

-- and what is made fits the format
pub made_fits : (own : FileSubject) (f : File) (m : Circuit) → own ≢ Own → IsFileSubject own f m
    → FitsFormat m
made_fits Own f m made is = absurd (made refl)
made_fits (Live fairness) f m made is = is.small
made_fits (Rounds fairness rounds) f m made is = is.small
made_fits own f m made is = is.edit_of.small

-- whose text's sum is that in its title
pub made_sum : (own : FileSubject) (bytes : Option (List ℕ)) (m : Circuit) (sum : List ℕ)
    → own ≢ Own → sum ≡ sha256 (text_of m) → IsSum (summed_text own bytes m) sum
made_sum Own bytes m sum made is = absurd (made refl)
made_sum own bytes m sum made is = is

module _ {W : Type 0} {held : W → Option (List ℕ)} {write_failed : W → Bool} {w made : W}
    {result : Result (Unit {0}) CheckError} (limit : ℕ) (own : FileSubject)
    (q : Question) (m : Circuit) (sum : List ℕ) where
  -- a text that was made without further errors
  pub any_text : Printed held write_failed (IsTextOf (IsQuestionText q m sum)) w result made
      → Printed held write_failed (IsTextOfQuestion limit own q m sum) w result made
  any_text = printed_on by (λ x ends. ends)
    where
      by : (x : Result (List ℕ) CheckError) → IsTextOf (IsQuestionText q m sum) x
          → IsTextOfQuestion limit own q m sum x
      by (Ok text) is = is
      by (Err e) is = inl is

  -- there was room for it
  pub question_answered : room_of limit (q ∷ []) m ≡ Ok tt
      → Printed held write_failed (IsTextOfQuestion limit own q m sum) w result made
      → Printed held write_failed (AnswersQuestion limit own q m sum) w result made
  question_answered room = printed_on by (λ x ends. ends)
    where
      by : (x : Result (List ℕ) CheckError) → IsTextOfQuestion limit own q m sum x
          → AnswersQuestion limit own q m sum x
      by (Ok text) is = (room, is)
      by (Err e) (inl is) =
          subst (λ (y : CheckError). AnswersQuestion limit own q m sum (Err y)) (sym is) refl
      by (Err e) (inr told) =
          subst (λ (y : CheckError). AnswersQuestion limit own q m sum (Err y)) (sym told.1)
          (_, refl, inr (room, (told.0, refl, told.2)))

-- so it is told of FILE
module _ {R : Type 0} (left : R → Option (List ℕ)) (failed : R → Bool) (limit : ℕ)
    (own : FileSubject) (q : Question) (r rest : R) (circuit : CircuitLists) (sum : List ℕ)
    (read : ReadsFile left failed limit (GivesSummed own (left r)) edit_verdict IsEditOwn r
    (Ok (circuit, sum)) rest) where
  abbrev Told : Result (List ℕ) CheckError → Type 0
  Told x = ReadsFile left failed limit (TellsOfClauses limit own q (left r)) made_verdict IsMadeOwn r x
      rest

  memory_told : Told (Err errors.Memory)
  memory_told = file_on left failed limit r rest (TellsOfClauses limit own q (left r)) made_verdict
      IsMadeOwn (Err errors.Memory) read refl tt
      (λ f fits gives. (lists_circuit circuit, gives.0, (sum, gives.1, refl)))

  pub question_told : (x : Result (List ℕ) CheckError)
      → AnswersQuestion limit own q (lists_circuit circuit) sum x → Told x
  question_told (Ok text) is =
      file_on left failed limit r rest (TellsOfClauses limit own q (left r)) made_verdict IsMadeOwn
      (Ok text) read refl tt
      (λ f fits gives. (lists_circuit circuit, gives.0, (sum, gives.1, is)))
  question_told (Err (errors.Goal e)) is =
      file_on left failed limit r rest (TellsOfClauses limit own q (left r)) made_verdict IsMadeOwn
      (Err (errors.Goal e)) read refl tt
      (λ f fits gives. (lists_circuit circuit, gives.0, (sum, gives.1, is)))
  question_told (Err e) is = subst (λ (y : CheckError). Told (Err y)) (sym is) memory_told
