-- What a command that prints the clauses of a certificate does, at each way out of it.
use Rattle.aig_check_commands.proofs.Words.{◌≡◌, ℕ, Bool, Option, Some, Ok, Err, List, [], ◌∷◌, ◌++◌, length, refl, ◌∙◌, Appends, Appends-trans, on_err_weaker, on_ok_weaker, IsErr, Result, WindowClauses, clauses_in, Lit, Circuit, lists_circuit, HasClauses, ArePassed, parse_formula-passed, parse_formula-dimacs_of, IsFormula, IsTextWith, Stops-before, Stops-put, failed_put, Stops, WritesOrStops, Title, IsObligationsText, formula_of, part_text, WritesBehind, clauses_with, pair_title, ReadsFile, IsEditOwn, edit_verdict, file_on, GivesSummed, EditError, Accepted, File}
use Rattle.std.specs.Prelude.{codes}
use Rattle.aig_answers.specs.Goals.{IsGoalOwn}
use Rattle.aig_answers.specs.declared.goals.error.GoalFault.{GoalFault}
use Rattle.aig_answers.specs.declared.goals.error.GoalFault.TheVariants as faults
use Rattle.aig_circuit.specs.declared.view.CircuitLists.{CircuitLists}
use Rattle.aig_dimacs.specs.Reading.{after_comments, parse_formula}
use Rattle.aig_dimacs.specs.Text.{dimacs_of}
use Rattle.aig_edits.specs.Joints.{IsOfBeside, second_verdict}
use Rattle.aig_edits.specs.declared.pair_error.PairError.{PairError}
use Rattle.aig_subjects.proofs.FilesRead.{certificate_read, file_refused, file_taken}
use Rattle.aig_subjects.proofs.InOrder.{files_on}
use Rattle.aig_subjects.specs.Parts as parts
use Rattle.aig_subjects.specs.Parts.{IsOfCertificate, certificate_verdict}
use Rattle.aig_subjects.specs.Reads.{ReadsFiles}
use Rattle.aig_subjects.specs.FileSubjects.{GivesFile}
use Rattle.aig_subjects.specs.Subjects.{IsOwn, error_verdicts, verdicts}
use Rattle.aig_subjects.specs.declared.error.SubjectError.{SubjectError}
use Rattle.aig_subjects.specs.declared.error.SubjectError.TheVariants as refusals
use Rattle.aig_subjects.specs.declared.subject.FileSubject.{FileSubject}
use Rattle.aig_subjects.specs.declared.subject.Subject.TheVariants as subjects
use Rattle.aig_check_commands.specs.Pairs.{TellsOfJoint, TellsOfObligations, obligation_verdicts}
use Rattle.aig_check_commands.specs.Printing.{AreObligationsOf, AsksJoint, GivesBeside, GivesJoint}
use Rattle.aig_check_commands.specs.Titles.{title_text}
use Rattle.aig_check_commands.specs.declared.checks.pairs.Obligations.{Obligations}

-- ---- both files

module _ {S : Type 0} (left : S → Option (List ℕ)) (failed : S → Bool) (limit : ℕ)
    (own : FileSubject) (r rest s : S) where
  abbrev Means : List File → Result (CircuitLists × List ℕ × List ℕ) SubjectError → Type 0
  Means = GivesJoint own (left r) (left s)

  abbrev ReadsBoth : S → Result (CircuitLists × List ℕ × List ℕ) SubjectError → Type 0
  ReadsBoth other x =
      ReadsFiles left failed limit (verdicts (subjects.Certified own)) Means IsOwn (r ∷ s ∷ []) x
      (rest ∷ other ∷ [])

  -- FILE is refused, or nothing is made of it
  pub first_refused : (e : EditError)
      → ReadsFile left failed limit (GivesSummed own (left r)) edit_verdict IsEditOwn r (Err e) rest
      → ReadsBoth s (Err (refusals.File e))
  first_refused e told = record {
    reads = file_refused left failed limit Means (Err (refusals.File e)) own e r rest (s ∷ [])
        (file_on left failed limit r rest (GivesFile own) edit_verdict IsEditOwn (Err e) told refl
        told.own (λ f fits gives. gives))
        (λ f is. is) tt;
    own = told.own;
  }

  module _ (lists : CircuitLists) (sum : List ℕ) (told : ReadsFile left failed limit (GivesSummed own
      (left r)) edit_verdict IsEditOwn r (Ok (lists, sum)) rest) (other : S) where
    abbrev ReadsBeside : Result (CircuitLists × List ℕ) PairError → Type 0
    ReadsBeside x =
        ReadsFile left failed limit (GivesBeside (lists_circuit lists) (left s)) second_verdict
        IsOfBeside s x other

    made : ReadsFile left failed limit (GivesFile own) edit_verdict IsEditOwn r (Ok lists) rest
    made =
        file_on left failed limit r rest (GivesFile own) edit_verdict IsEditOwn (Ok lists) told refl
        tt (λ f fits gives. gives.0)

    -- the certificate is refused, or it doesn't fit
    pub second_refused : (e : PairError) → ReadsBeside (Err e)
        → ReadsBoth other (Err (refusals.Certificate e))
    second_refused e also = record {
      reads = file_taken left failed limit Means (Err (refusals.Certificate e)) own lists r rest
          (second_verdict e ∷ []) (s ∷ []) (other ∷ []) made
          (λ f is. certificate_read left failed limit (λ files. Means (f ∷ files))
          (Err (refusals.Certificate e)) (lists_circuit lists) (Err (refusals.Certificate e)) s other
          [] (file_on left failed limit s other (parts.GivesBeside (lists_circuit lists))
          certificate_verdict IsOfCertificate (Err (refusals.Certificate e)) also refl also.own
          (λ g fits gives. gives)) (λ g gives. (lists_circuit lists, is, gives))
          (λ refused. (lists_circuit lists, is)));
      own = also.own;
    }

    -- both are taken
    pub both_taken : (joint : CircuitLists) (beside : List ℕ) → ReadsBeside (Ok (joint, beside))
        → ReadsBoth other (Ok (joint, sum, beside))
    both_taken joint beside also = record {
      reads = file_taken left failed limit Means (Ok (joint, sum, beside)) own lists r rest
          (Accepted ∷ []) (s ∷ []) (other ∷ []) made
          (λ f is. certificate_read left failed limit (λ files. Means (f ∷ files))
          (Ok (joint, sum, beside)) (lists_circuit lists) (Ok joint) s other []
          (file_on left failed limit s other (parts.GivesBeside (lists_circuit lists))
          certificate_verdict IsOfCertificate (Ok joint) also refl tt (λ g fits gives. gives.0))
          (λ g gives. (
            lists_circuit lists,
            is,
            gives,
            (told.answer refl).means.1,
            (also.answer refl).means.1,
          ))
          (λ refused. absurd (refused refl)));
      own = tt;
    }

-- ---- the joint circuit

-- why there are no clauses of it
pub joint_refused : (limit : ℕ) (optimize : Bool) (m : Circuit) (sum beside : List ℕ)
    (e : GoalFault) → AsksJoint limit optimize m (Err e) → TellsOfJoint limit optimize m sum beside (Err e)
joint_refused limit optimize m sum beside (faults.Plan e) told = told
joint_refused limit optimize m sum beside faults.Memory told = tt
joint_refused limit optimize m sum beside (faults.Subject e) told = absurd told

module _ {S : Type 0} (left : S → Option (List ℕ)) (failed : S → Bool) (limit : ℕ)
    (own : FileSubject) (optimize : Bool) (r s : S) (after : List S) where
  abbrev Tells : Result (List ℕ) GoalFault → Type 0
  Tells made =
      ReadsFiles left failed limit (obligation_verdicts own)
      (TellsOfObligations limit own optimize (left r) (left s)) IsGoalOwn (r ∷ s ∷ []) made after

  -- what is told of it is told of the files
  pub joint_told : (joint : CircuitLists) (sum beside : List ℕ)
      → ReadsFiles left failed limit (verdicts (subjects.Certified own))
      (GivesJoint own (left r) (left s)) IsOwn (r ∷ s ∷ []) (Ok (joint, sum, beside)) after
      → (made : Result (List ℕ) GoalFault)
      → TellsOfJoint limit optimize (lists_circuit joint) sum beside made → Tells made
  joint_told joint sum beside read (Ok text) told = record {
    reads = files_on left failed limit (Accepted ∷ Accepted ∷ []) (GivesJoint own (left r) (left s))
        (TellsOfObligations limit own optimize (left r) (left s)) (r ∷ s ∷ []) after
        (Ok (joint, sum, beside)) (Ok text) read.reads
        (λ files are gives. (lists_circuit joint, (sum, (beside, gives, told))));
    own = tt;
  }
  joint_told joint sum beside read (Err (faults.Subject e)) told = absurd told
  joint_told joint sum beside read (Err e) told = record {
    reads = files_on left failed limit (Accepted ∷ Accepted ∷ []) (GivesJoint own (left r) (left s))
        (TellsOfObligations limit own optimize (left r) (left s)) (r ∷ s ∷ []) after
        (Ok (joint, sum, beside)) (Err e) read.reads
        (λ files are gives. (lists_circuit joint, (sum, (beside, gives, told))));
    own = tt;
  }

  -- there is none
  pub joint_unmade : (e : SubjectError)
      → ReadsFiles left failed limit (verdicts (subjects.Certified own))
      (GivesJoint own (left r) (left s)) IsOwn (r ∷ s ∷ []) (Err e) after
      → Tells (Err (faults.Subject e))
  joint_unmade e read = record {
    reads = files_on left failed limit (error_verdicts (subjects.Certified own) e)
        (GivesJoint own (left r) (left s))
        (TellsOfObligations limit own optimize (left r) (left s)) (r ∷ s ∷ []) after (Err e)
        (Err (faults.Subject e)) read.reads (λ files are is. is);
    own = read.own;
  }

-- ---- texts of clauses

-- one text was written, and then another
pub then_written : {W T E : Type 0} {held : W → Option (List ℕ)} {failed : W → Bool} {a b c : W} {t : List ℕ} {result : Result T E} (s : List ℕ) → Appends (held a) (held b) s
    → WritesOrStops held failed b result t c → WritesOrStops held failed a result (s ++ t) c
then_written {held = held} {a = a} {b = b} {c = c} {t = t} {result = result} s first second = record {
  ok = on_ok_weaker result (λ (more : Appends (held b) (held c) t). Appends-trans (held a) (held b) (held c) s t first more) second.ok;
  sound = second.sound;
  err = on_err_weaker result (Stops-put (held a) (held b) (held c) _ s t first) second.err;
}

-- a front was written, and then clauses, or a beginning of the front alone
module _ {W T E : Type 0} {held : W → Option (List ℕ)} {failed : W → Bool} {a b : W} {c : Circuit}
    {optimize : Bool} {extra : List (List Lit)} {result : Result T E} (front : List ℕ) where
  pub written_behind : {new : W} → Appends (held a) (held b) front
      → (lists : List (List (List Lit))) × HasClauses c optimize lists
      × IsTextWith held failed b result lists extra new
      → WritesBehind held failed front c optimize extra a result new
  written_behind first told = record {
    lists = told.0;
    has = told.1;
    formula = told.2.formula;
    writes = then_written front first told.2.writes;
  }

  pub stopped_before : (lists : List (List (List Lit))) × HasClauses c optimize lists
      × IsFormula (length lists) (clauses_in lists ++ extra)
      → Stops (held a) (held b) (failed b) front → IsErr result
      → WritesBehind held failed front c optimize extra a result b
  stopped_before told stops is = record {
    lists = told.0;
    has = told.1;
    formula = told.2;
    writes = failed_put
        (Stops-before (dimacs_of (length told.0) (clauses_in told.0 ++ extra)) stops) is;
  }

-- behind a line that names them, clauses are read again
part_again : (name : List ℕ) (made : WindowClauses) → ArePassed (name ++ 10 ∷ [])
    → IsFormula (length made.clauses) (formula_of made)
    → parse_formula (part_text name made) ≡ Some (length made.clauses, formula_of made)
part_again name made passed formula =
    parse_formula-passed (name ++ 10 ∷ []) (dimacs_of (length made.clauses) (formula_of made)) passed
    ∙ parse_formula-dimacs_of (length made.clauses) (formula_of made) formula

base_named : ArePassed (codes "c base" ++ 10 ∷ [])
unfolding after_comments
base_named rest = refl

step_named : ArePassed (codes "c step" ++ 10 ∷ [])
unfolding after_comments
step_named rest = refl

-- both texts, one after the other, behind their title
abbrev pub obliged_text : Title → Obligations → List (List (List Lit)) → List (List (List Lit))
    → List ℕ
obliged_text title o base step =
    title_text title ++ part_text (codes "c base") (clauses_with base o.base.extra)
    ++ part_text (codes "c step") (clauses_with step o.step.extra)

pub obligations_text : (optimize : Bool) (m : Circuit) (sum beside : List ℕ) (o : Obligations)
    (base step : List (List (List Lit))) → AreObligationsOf optimize m o
    → HasClauses o.joint.unrolled optimize base → HasClauses (lists_circuit o.stepped) optimize step
    → IsFormula (length base) (clauses_in base ++ o.base.extra)
    → IsFormula (length step) (clauses_in step ++ o.step.extra)
    → IsObligationsText optimize m sum beside
    (obliged_text (pair_title optimize sum beside) o base step)
obligations_text optimize m sum beside o base step are base_has step_has base_formula step_formula =
    record {
      base_clauses = clauses_with base o.base.extra;
      base_asks = (o.joint.unrolled, are.base base base_has);
      step_clauses = clauses_with step o.step.extra;
      step_asks = are.step step step_has;
      base = part_text (codes "c base") (clauses_with base o.base.extra);
      base_exact = refl;
      step = part_text (codes "c step") (clauses_with step o.step.extra);
      step_exact = refl;
      exact = refl;
      base_again = part_again (codes "c base") (clauses_with base o.base.extra) base_named base_formula;
      step_again = part_again (codes "c step") (clauses_with step o.step.extra) step_named step_formula;
    }
