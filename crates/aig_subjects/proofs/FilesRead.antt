-- What is told of the files of a subject, from what is told of each.
use Rattle.aig_base.proofs.Words.{◌≡◌, ◌≢◌, ◌<◌, ◌≤◌, ◌^◌, ◌-◌, ℕ, arith, get_or, length, set, Bool, List, [], ◌∷◌, Option, Result, Ok, Err, All, IfErr, IfOk, ap, refl, subst, sym, ◌++◌, replicate}
use Rattle.aig_circuit.specs.Circuit.{Circuit, IsCircuit, IsClosed}
use Rattle.aig_circuit.specs.Edges.{HasConstantInit}
use Rattle.aig_circuit.specs.View.{lists_circuit}
use Rattle.aig_circuit.specs.declared.view.CircuitLists.{CircuitLists}
use Rattle.aig_edit_laws.specs.declared.fairness.Fairness.{Fairness}
use Rattle.aig_edits.specs.Edits.{AreStepsWithin, GivesEdit, IsEditOwn, IsEditRefusal, IsWrittenEdit, ReadsFile, edit_verdict}
use Rattle.aig_edits.specs.Joints as joints
use Rattle.aig_edits.specs.Joints.{IsJoined, IsJointOf, IsRefusalOf, first_verdict, second_verdict}
use Rattle.aig_edits.proofs.ReadFiles.{file_on}
use Rattle.aig_edits.specs.Lives.{GivesLive}
use Rattle.aig_edits.specs.Pairs.{ReadsPair}
use Rattle.aig_edits.specs.Rounds.{GivesRounds}
use Rattle.aig_edits.specs.declared.edit_error.EditError.{EditError}
use Rattle.aig_edits.specs.declared.edit_error.EditError.TheVariants as edit_errors
use Rattle.aig_edits.specs.declared.editing.Edit.{Edit}
use Rattle.aig_edits.specs.declared.pair_error.PairError.{PairError}
use Rattle.aig_edits.specs.declared.pair_error.PairError.TheVariants as pairs
use Rattle.aig_edits.specs.declared.pairing.Pairing.TheVariants.{Miter}
use Rattle.aig_format.proofs.Words.{File, circuit_of}
use Rattle.aig_format.specs.Fits.{Fits}
use Rattle.aig_format_laws.proofs.Writable.{plain_starts}
use Rattle.aig_join.specs.declared.comparison.Comparison.{Comparison}
use Rattle.aig_reader.specs.Verdicts.{Accepted, IsOfFile, Judges, Verdict, verdict_by, verdict_of}
use Rattle.aig_reader.proofs.Verdicts.{of_no_file}
use Rattle.aig_runs.specs.Safety.{IsCircuitSafeAt, IsSafeAt}
use Rattle.aig_subjects.specs.Parts.{GivesBeside, IsOfCertificate, ReadsMiter, certificate_verdict}
use Rattle.aig_subjects.specs.Reads.{AreAccepted, AreReadAs, ReadsFiles}
use Rattle.aig_subjects.specs.FileSubjects.{GivesFile, IsFileSubject, IsUnmadeFile}
use Rattle.aig_subjects.specs.Subjects.{Gives, IsCircuitOfFile, IsOwn, IsReady, IsSubject, file_count, pair_verdicts, verdicts}
use Rattle.aig_subjects.specs.declared.error.SubjectError.{SubjectError}
use Rattle.aig_subjects.specs.declared.error.SubjectError.TheVariants as errors
use Rattle.aig_subjects.specs.declared.subject.FileSubject.{FileSubject}
use Rattle.aig_subjects.specs.declared.subject.FileSubject.TheVariants.{Live, Rounds}
use Rattle.aig_subjects.specs.declared.subject.Subject.{Subject}
use Rattle.aig_subjects.specs.declared.subject.Subject.TheVariants as subjects
use Rattle.aig_subjects.proofs.InOrder.{all_read, first_said}

-- ---- what can be asked

-- each question can be asked of a circuit that is that of a file, names aside
pub ready : (m : Circuit) → IsCircuit m → (h : File) → IsClosed (circuit_of h) → IsCircuitOfFile m h
    → IsReady m
ready m circuit h closed of = record {
  circuit = circuit;
  closed = subst IsClosed (sym of) closed;
  starts = subst (λ (c : Circuit). All HasConstantInit c.latchs) (sym of) (plain_starts h);
}

-- the laws of the circuits of files and of subjects
pub record Known : Type 0 where
  pub closed : (f : File) (limit : ℕ) → Fits f limit → IsClosed (circuit_of f)
  pub of_files : (subject : Subject) (files : List File) (limit : ℕ) (m : Circuit)
      → limit ≤ 2 ^ 31 → AreAccepted limit files → IsSubject subject files m
      → (h : File) × (bound : ℕ) × Fits h bound × IsCircuitOfFile m h
      × ((k : ℕ) → (IsCircuitSafeAt m k → IsSafeAt h k) × (IsSafeAt h k → IsCircuitSafeAt m k))

pub subject_ready : Known → (subject : Subject) (files : List File) (limit : ℕ) (m : Circuit)
    → limit ≤ 2 ^ 31 → IsCircuit m → AreAccepted limit files → IsSubject subject files m → IsReady m
subject_ready known subject files limit m low circuit are is =
    let of = known.of_files subject files limit m low are is in
    ready m circuit of.0 (known.closed of.0 of.1 of.2) of.3

-- ---- one after the other

module _ {S T : Type 0} (left : S → Option (List ℕ)) (failed : S → Bool) (limit : ℕ)
    (Means : List File → T → Type 0) (value : T) where
  -- FILE is refused, or nothing is made of it
  pub file_refused : (own : FileSubject) (e : EditError) (r rest : S) (more : List S)
      → ReadsFile left failed limit (GivesFile own) edit_verdict IsEditOwn r (Err e) rest
      → ((f : File) → IsUnmadeFile own f e → Means (f ∷ []) value) → Means [] value
      → AreReadAs left failed limit Means (edit_verdict e ∷ []) (r ∷ more) (rest ∷ more) value
  file_refused own e r rest more told so refused =
      first_said left failed limit Means (edit_verdict e) [] r rest more more value told.verdict
      (λ taken.
      let read = told.answer taken in
      record {
        file = read.file;
        bytes = read.bytes;
        holds = read.holds;
        means = (so read.file read.means, refl);
        taken = read.taken;
      }) (λ not. refused) (λ not. refl)

  -- it is taken
  pub file_taken : (own : FileSubject) (lists : CircuitLists) (r rest : S) (said : List Verdict)
      (before after : List S)
      → ReadsFile left failed limit (GivesFile own) edit_verdict IsEditOwn r (Ok lists) rest
      → ((f : File) → IsFileSubject own f (lists_circuit lists)
      → AreReadAs left failed limit (λ files. Means (f ∷ files)) said before after value)
      → AreReadAs left failed limit Means (Accepted ∷ said) (r ∷ before) (rest ∷ after) value
  file_taken own lists r rest said before after told so =
      let read = told.answer refl in (
        told.verdict,
        record {
          file = read.file;
          bytes = read.bytes;
          holds = read.holds;
          means = so read.file read.means;
          taken = read.taken;
        },
      )

  -- a certificate is read
  pub certificate_read : (own : Circuit) (x : Result CircuitLists SubjectError) (s other : S)
      (more : List S)
      → ReadsFile left failed limit (GivesBeside own) certificate_verdict IsOfCertificate s x other
      → ((g : File) → GivesBeside own g x → Means (g ∷ []) value)
      → (verdict_by certificate_verdict x ≢ Accepted → Means [] value)
      → AreReadAs left failed limit Means (verdict_by certificate_verdict x ∷ []) (s ∷ more)
      (other ∷ more) value
  certificate_read own x s other more told so refused =
      first_said left failed limit Means (verdict_by certificate_verdict x) [] s other more more
      value told.verdict
      (λ taken.
      let read = told.answer taken in
      record {
        file = read.file;
        bytes = read.bytes;
        holds = read.holds;
        means = (so read.file read.means, refl);
        taken = read.taken;
      }) refused (λ not. refl)

  module _ (comparison : Comparison) (r s rest other : S) where
    abbrev ReadsTwo : Result CircuitLists PairError → Type 0
    ReadsTwo x =
        ReadsPair left failed left failed limit (IsJoined (Miter comparison)) first_verdict
        second_verdict joints.IsOwn r s x rest other

    -- two files are taken
    pub two_taken : (lists : CircuitLists) (said : List Verdict) (before after : List S)
        → ReadsTwo (Ok lists)
        → ((f g : File) → IsJointOf (Miter comparison) f g (lists_circuit lists)
        → AreReadAs left failed limit (λ files. Means (f ∷ g ∷ files)) said before after value)
        → AreReadAs left failed limit Means (Accepted ∷ Accepted ∷ said) (r ∷ s ∷ before)
        (rest ∷ other ∷ after) value
    two_taken lists said before after told so =
        let f = told.answer refl refl in
        let g = f.means in (
          told.verdict,
          record {
            file = f.file;
            bytes = f.bytes;
            holds = f.holds;
            means = (
              told.other_verdict refl,
              record {
                file = g.file;
                bytes = g.bytes;
                holds = g.holds;
                means = so f.file g.file g.means;
                taken = g.taken;
              },
            );
            taken = f.taken;
          },
        )

    -- the second one is refused, or they have no miter
    second_said : (e : PairError) (v : Verdict) (more : List S) → ReadsTwo (Err e)
        → first_verdict e ≡ Accepted → second_verdict e ≡ v
        → ((f g : File) → IsRefusalOf (Miter comparison) f g e → Means (f ∷ g ∷ []) value)
        → ((f : File) → Means (f ∷ []) value)
        → AreReadAs left failed limit Means (Accepted ∷ v ∷ []) (r ∷ s ∷ more)
        (rest ∷ other ∷ more) value
    second_said e Accepted more told first second so refused =
        let f = told.answer first second in
        let g = f.means in (
          subst (Judges (λ _. Accepted) limit (left r) (left rest) (failed rest)) first told.verdict,
          record {
            file = f.file;
            bytes = f.bytes;
            holds = f.holds;
            means = (
              subst (Judges (λ _. Accepted) limit (left s) (left other) (failed other)) second
                  (told.other_verdict first),
              record {
                file = g.file;
                bytes = g.bytes;
                holds = g.holds;
                means = (so f.file g.file g.means, refl);
                taken = g.taken;
              },
            );
            taken = f.taken;
          },
        )
    second_said e v more told first second so refused =
        let said = subst (Judges (λ _. Accepted) limit (left r) (left rest) (failed rest)) first
        told.verdict in
        let f = said.file tt in (
          said,
          record {
            file = f.file;
            bytes = f.bytes;
            holds = f.holds;
            means = (
              subst (Judges (λ _. Accepted) limit (left s) (left other) (failed other)) second
                  (told.other_verdict first),
              refused f.file,
              refl,
            );
            taken = f.taken;
          },
        )

    pub two_refused : (e : PairError) (more : List S) → ReadsTwo (Err e)
        → ((f g : File) → IsRefusalOf (Miter comparison) f g e → Means (f ∷ g ∷ []) value)
        → Means [] value → ((f : File) → Means (f ∷ []) value)
        → AreReadAs left failed limit Means (pair_verdicts e) (r ∷ s ∷ more) (rest ∷ other ∷ more)
        value
    two_refused (pairs.Read e) more told so refused second =
        first_said left failed limit Means (verdict_of e) [] r rest (s ∷ more) (other ∷ more) value
        told.verdict
        (λ taken. absurd (of_no_file e (subst IsOfFile (sym taken) tt)))
        (λ not. refused) (λ not. ap (λ o. o ∷ more) (told.unread not))
    two_refused e more told so refused second =
        second_said e (second_verdict e) more told refl refl so second

-- ---- of one file

module _ {R : Type 0} (left : R → Option (List ℕ)) (failed : R → Bool) (limit : ℕ) (r rest : R)
    (x : Result CircuitLists EditError) where
  -- the live circuit was made
  pub live_read : (fairness : Fairness)
      → ReadsFile left failed limit (GivesLive fairness) edit_verdict IsEditOwn r x rest
      → ReadsFile left failed limit (GivesFile (Live fairness)) edit_verdict IsEditOwn r x rest
  live_read fairness told =
      file_on left failed limit r rest
      (GivesFile (Live fairness)) edit_verdict IsEditOwn x told refl
      told.own (λ f fits. given x f)
    where
      given : (x : Result CircuitLists EditError) (f : File) → GivesLive fairness f x
          → GivesFile (Live fairness) f x
      given (Ok lists) f gives = gives
      given (Err e) f gives = gives

  pub rounds_read : (fairness : Fairness) (rounds : ℕ)
      → ReadsFile left failed limit (GivesRounds fairness rounds) edit_verdict IsEditOwn r x rest
      → ReadsFile left failed limit
      (GivesFile (Rounds fairness rounds)) edit_verdict IsEditOwn r x rest
  rounds_read fairness rounds told =
      file_on left failed limit r rest (GivesFile (Rounds fairness rounds)) edit_verdict IsEditOwn x
      told refl told.own (λ f fits. given x f)
    where
      given : (x : Result CircuitLists EditError) (f : File) → GivesRounds fairness rounds f x
          → GivesFile (Rounds fairness rounds) f x
      given (Ok lists) f gives = gives
      given (Err e) f gives = gives

  -- that of an edit without further steps was
  pub edit_read : (own : FileSubject) (edit : Edit)
      → ((bound : ℕ) (c : Circuit) → AreStepsWithin edit bound c)
      → ((f : File) (m : Circuit) → IsWrittenEdit edit 0 f m → IsFileSubject own f m)
      → ((f : File) (e : EditError) → IsEditRefusal edit 0 f e → IsUnmadeFile own f e)
      → ReadsFile left failed limit (GivesEdit edit limit) edit_verdict IsEditOwn r x rest
      → ReadsFile left failed limit (GivesFile own) edit_verdict IsEditOwn r x rest
  edit_read own edit free made unmade told =
      file_on left failed limit r rest (GivesFile own) edit_verdict IsEditOwn x told refl told.own
      (λ f fits. given x f)
    where
      refused : (e : EditError) (f : File) → IsEditRefusal edit limit f e → IsEditRefusal edit 0 f e
      refused edit_errors.PassesLimit f is = absurd (is.1 (free limit (circuit_of f)))
      refused edit_errors.TooLarge f is = (is.0, free 0 (circuit_of f), is.2)
      refused edit_errors.Memory f is = (is.0, free 0 (circuit_of f))
      refused e f is = is

      given : (x : Result CircuitLists EditError) (f : File) → GivesEdit edit limit f x
          → GivesFile own f x
      given (Ok lists) f gives = made f (lists_circuit lists) (record {
        edit_of = record {
          can = gives.edit_of.can;
          within = free 0 (circuit_of f);
          edited = gives.edit_of.edited;
          small = gives.edit_of.small;
        };
        again = gives.again;
        shows = gives.shows;
      })
      given (Err e) f gives = unmade f e (refused e f gives)

  pub file_ready : Known → (own : FileSubject) → limit ≤ 2 ^ 31
      → ReadsFile left failed limit (GivesFile own) edit_verdict IsEditOwn r x rest
      → IfOk x (λ lists. IsCircuit (lists_circuit lists))
      → IfOk x (λ lists. IsReady (lists_circuit lists))
  file_ready known own low told circuit = by x told circuit
    where
      by : (y : Result CircuitLists EditError)
          → ReadsFile left failed limit (GivesFile own) edit_verdict IsEditOwn r y rest
          → IfOk y (λ lists. IsCircuit (lists_circuit lists))
          → IfOk y (λ lists. IsReady (lists_circuit lists))
      by (Ok lists) told circuit =
          let read = told.answer refl in
          subject_ready known (subjects.File own) (read.file ∷ []) limit (lists_circuit lists) low
          circuit ((read.bytes, read.holds), tt) read.means
      by (Err e) told circuit = tt

-- ---- of all

module _ {S : Type 0} (left : S → Option (List ℕ)) (failed : S → Bool) (limit : ℕ)
    (subject : Subject) (before after : List S) where
  abbrev Reads : Result CircuitLists SubjectError → Type 0
  Reads x = ReadsFiles left failed limit (verdicts subject) (Gives subject) IsOwn before x after

  pub read_ready : Known → limit ≤ 2 ^ 31 → (x : Result CircuitLists SubjectError) → Reads x
      → IfOk x (λ lists. IsCircuit (lists_circuit lists))
      → IfOk x (λ lists. IsReady (lists_circuit lists))
  read_ready known low (Ok lists) told circuit =
      let all = all_read left failed limit (file_count subject) (Gives subject) before after
      (Ok lists) told.reads in
      subject_ready known subject all.0 limit (lists_circuit lists) low circuit all.1 all.2
  read_ready known low (Err e) told circuit = tt

-- what a certificate's result says, beside what stands before it
module _ (x : Result CircuitLists SubjectError) (own : IfErr x IsOfCertificate) where
  pub certificate_own : IfErr x IsOwn
  certificate_own = by x own
    where
      by : (y : Result CircuitLists SubjectError) → IfErr y IsOfCertificate → IfErr y IsOwn
      by (Ok lists) own = tt
      by (Err (errors.Certificate e)) own = own
      by (Err e) own = absurd own

  said_of : (subject : Subject) (first : List Verdict)
      → replicate (file_count subject) Accepted ≡ first ++ Accepted ∷ []
      → replicate (file_count subject - 1) Accepted ≡ first
      → first ++ verdict_by certificate_verdict x ∷ [] ≡ verdicts subject x
  said_of subject first all but_last = by x own
    where
      by : (y : Result CircuitLists SubjectError) → IfErr y IsOfCertificate
          → first ++ verdict_by certificate_verdict y ∷ [] ≡ verdicts subject y
      by (Ok lists) own = sym all
      by (Err (errors.Certificate e)) own = ap (λ vs. vs ++ second_verdict e ∷ []) (sym but_last)
      by (Err e) own = absurd own

-- the circuit of FILE beside that of a certificate
certified_given : (own : FileSubject) (f g : File) (made : Circuit) → IsFileSubject own f made
    → (x : Result CircuitLists SubjectError) → GivesBeside made g x
    → Gives (subjects.Certified own) (f ∷ g ∷ []) x
certified_given own f g made is (Ok lists) gives = (made, is, gives)
certified_given own f g made is (Err (errors.Certificate e)) gives = (made, is, gives)
certified_given own f g made is (Err e) gives = absurd gives

-- or that circuit alone, where the certificate is refused
certified_begun : (own : FileSubject) (f : File) (made : Circuit) → IsFileSubject own f made
    → (x : Result CircuitLists SubjectError) → verdict_by certificate_verdict x ≢ Accepted
    → Gives (subjects.Certified own) (f ∷ []) x
certified_begun own f made is (Err (errors.Certificate e)) refused = (made, is)
certified_begun own f made is x refused = absurd (refused refl)

-- and a miter's
miter_given : (comparison : Comparison) (f g h : File) (miter : Circuit)
    → IsJointOf (Miter comparison) f g miter
    → (x : Result CircuitLists SubjectError) → GivesBeside miter h x
    → Gives (subjects.MiterCertified comparison) (f ∷ g ∷ h ∷ []) x
miter_given comparison f g h miter is (Ok lists) gives = (miter, is, gives)
miter_given comparison f g h miter is (Err (errors.Certificate e)) gives = (miter, is, gives)
miter_given comparison f g h miter is (Err e) gives = absurd gives

miter_begun : (comparison : Comparison) (f g : File) (miter : Circuit)
    → IsJointOf (Miter comparison) f g miter
    → (x : Result CircuitLists SubjectError) → verdict_by certificate_verdict x ≢ Accepted
    → Gives (subjects.MiterCertified comparison) (f ∷ g ∷ []) x
miter_begun comparison f g miter is (Err (errors.Certificate e)) refused = (miter, is)
miter_begun comparison f g miter is x refused = absurd (refused refl)

module _ {S : Type 0} (left : S → Option (List ℕ)) (failed : S → Bool) (limit : ℕ) where
  -- nothing is made of FILE
  pub unmade : (subject : Subject) (own : FileSubject) (e : EditError) (files : List S) (d rest : S)
      → 0 < length files
      → ReadsFile left failed limit (GivesFile own) edit_verdict IsEditOwn (get_or files 0 d) (Err e)
      rest
      → ((f : File) → IsUnmadeFile own f e → Gives subject (f ∷ []) (Err (errors.File e)))
      → Gives subject [] (Err (errors.File e))
      → ReadsFiles left failed limit (verdicts subject) (Gives subject) IsOwn files
      (Err (errors.File e)) (set files 0 rest)
  unmade subject own e [] d rest some told so refused = absurd (omega (arith, some))
  unmade subject own e (r ∷ more) d rest some told so refused = record {
    reads = file_refused left failed limit (Gives subject) (Err (errors.File e)) own e r rest more
        told so refused;
    own = told.own;
  }

  -- FILE's circuit
  pub file_made : (own : FileSubject) (lists : CircuitLists) (files : List S) (d rest : S)
      → length files ≡ 1
      → ReadsFile left failed limit (GivesFile own) edit_verdict IsEditOwn (get_or files 0 d)
      (Ok lists) rest
      → ReadsFiles left failed limit (verdicts (subjects.File own)) (Gives (subjects.File own)) IsOwn
      files (Ok lists) (set files 0 rest)
  file_made own lists [] d rest one told = absurd (omega (arith, one))
  file_made own lists (r ∷ more) d rest one told = record {
    reads = file_taken left failed limit (Gives (subjects.File own)) (Ok lists) own lists r rest []
        more more told (λ f is. (is, refl));
    own = tt;
  }

  -- FILE's circuit beside that of a certificate
  pub certified_made : (own : FileSubject) (lists : CircuitLists) (files : List S) (d rest : S)
      (e other : S) (x : Result CircuitLists SubjectError) → length files ≡ 2
      → ReadsFile left failed limit (GivesFile own) edit_verdict IsEditOwn (get_or files 0 d)
      (Ok lists) rest
      → ReadsFile left failed limit (GivesBeside (lists_circuit lists)) certificate_verdict
      IsOfCertificate (get_or (set files 0 rest) 1 e) x other
      → ReadsFiles left failed limit (verdicts (subjects.Certified own))
      (Gives (subjects.Certified own)) IsOwn files x (set (set files 0 rest) 1 other)
  certified_made own lists (r ∷ s ∷ more) d rest e other x two told beside = record {
    reads = subst (λ vs. AreReadAs left failed limit (Gives (subjects.Certified own)) vs (r ∷ s ∷ more)
        (rest ∷ other ∷ more) x)
        (said_of x beside.own (subjects.Certified own) (Accepted ∷ []) refl refl)
        (file_taken left failed limit (Gives (subjects.Certified own)) x own lists r rest
        (verdict_by certificate_verdict x ∷ []) (s ∷ more) (other ∷ more) told
        (λ f is. certificate_read left failed limit (λ files. Gives (subjects.Certified own) (f ∷ files))
        x (lists_circuit lists) x s other more beside
        (λ g. certified_given own f g (lists_circuit lists) is x)
        (certified_begun own f (lists_circuit lists) is x)));
    own = certificate_own x beside.own;
  }
  certified_made own lists [] d rest e other x two told beside = absurd (omega (arith, two))
  certified_made own lists (r ∷ []) d rest e other x two told beside = absurd (omega (arith, two))

  -- there is no miter
  pub miter_refused : (subject : Subject) (comparison : Comparison) (e : PairError)
      (files after : List S) → ReadsMiter left failed limit comparison files (Err e) after
      → ((f g : File) → IsRefusalOf (Miter comparison) f g e
      → Gives subject (f ∷ g ∷ []) (Err (errors.Pair e)))
      → Gives subject [] (Err (errors.Pair e))
      → ((f : File) → Gives subject (f ∷ []) (Err (errors.Pair e)))
      → ReadsFiles left failed limit (verdicts subject) (Gives subject) IsOwn files
      (Err (errors.Pair e)) after
  miter_refused subject comparison e (r ∷ s ∷ more) (rest ∷ other ∷ others) told so refused second =
      record {
        reads = subst (λ o. AreReadAs left failed limit (Gives subject) (pair_verdicts e) (r ∷ s ∷ more)
            (rest ∷ other ∷ o) (Err (errors.Pair e))) (sym told.1)
            (two_refused left failed limit (Gives subject) (Err (errors.Pair e)) comparison r s rest other e
            more told.0 so refused second);
        own = told.0.own;
      }
  miter_refused subject comparison e files after told so refused second = absurd told

  -- the miter
  pub miter_made : (comparison : Comparison) (lists : CircuitLists) (files after : List S)
      → ReadsMiter left failed limit comparison files (Ok lists) after
      → ReadsFiles left failed limit (verdicts (subjects.Miter comparison))
      (Gives (subjects.Miter comparison)) IsOwn files (Ok lists) after
  miter_made comparison lists (r ∷ s ∷ more) (rest ∷ other ∷ others) told = record {
    reads = two_taken left failed limit (Gives (subjects.Miter comparison)) (Ok lists) comparison r s
        rest other lists [] more others told.0 (λ f g is. (is, told.1));
    own = tt;
  }
  miter_made comparison lists files after told = absurd told

  -- the miter beside a certificate
  pub miter_certified : (comparison : Comparison) (lists : CircuitLists) (files mid : List S)
      (d last : S) (x : Result CircuitLists SubjectError) → length files ≡ 3
      → ReadsMiter left failed limit comparison files (Ok lists) mid
      → ReadsFile left failed limit (GivesBeside (lists_circuit lists)) certificate_verdict
      IsOfCertificate (get_or mid 2 d) x last
      → ReadsFiles left failed limit (verdicts (subjects.MiterCertified comparison))
      (Gives (subjects.MiterCertified comparison)) IsOwn files x (set mid 2 last)
  miter_certified comparison lists (r ∷ s ∷ c ∷ more) (rest ∷ other ∷ t ∷ others) d last x three told
      beside = record {
        reads = subst (λ vs. AreReadAs left failed limit (Gives (subjects.MiterCertified comparison)) vs
            (r ∷ s ∷ c ∷ more) (rest ∷ other ∷ last ∷ others) x)
            (said_of x beside.own (subjects.MiterCertified comparison) (Accepted ∷ Accepted ∷ []) refl
            refl)
            (two_taken left failed limit (Gives (subjects.MiterCertified comparison)) x comparison r s
            rest other lists (verdict_by certificate_verdict x ∷ []) (c ∷ more) (last ∷ others) told.0
            (λ f g is. subst (λ l. AreReadAs left failed limit
            (λ files. Gives (subjects.MiterCertified comparison) (f ∷ g ∷ files))
            (verdict_by certificate_verdict x ∷ []) l (last ∷ others) x) told.1
            (certificate_read left failed limit
            (λ files. Gives (subjects.MiterCertified comparison) (f ∷ g ∷ files)) x
            (lists_circuit lists) x t last others beside
            (λ h. miter_given comparison f g h (lists_circuit lists) is x)
            (miter_begun comparison f g (lists_circuit lists) is x))));
        own = certificate_own x beside.own;
      }
  miter_certified comparison lists (r ∷ s ∷ []) mid d last x three told beside =
      absurd (omega (arith, three))
  miter_certified comparison lists (r ∷ s ∷ c ∷ more) (rest ∷ other ∷ []) d last x three told beside =
      let no = told.1 in absurd cc
  miter_certified comparison lists files mid d last x three told beside = absurd told
