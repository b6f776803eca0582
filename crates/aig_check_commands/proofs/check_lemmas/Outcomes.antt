-- What a command does, at each way out of it.
use Rattle.aig_check_commands.proofs.Words.{◌≡◌, ◌≢◌, ℕ, Bool, false, Option, Ok, Err, List, refl, sym, ap, subst, Appends, IsErrOf, Result, IsAtEnd, File, IsReadAs, ReadsFile, Accepted, IsOfFile, Judges, Verdict, of_no_file, WritesOrStops, AnswerError, IsOfQuery, BoundedAnswerError, IsOfWitness, IsSum, FileCommand, CheckError, EndsWith, Printed, IsKnownText, IsSolutionOf, after_writing, Answers, ChecksFile, IsAskedBy, IsErrorOf, IsOfFileAlone, Runs, TellsOfGiven, TellsOfSolution, file_verdict, verdict_of}
use Rattle.aig_encode.specs.declared.encoding.Encoded.{Encoded}
use Rattle.aig_answers.specs.Answers as asking
use Rattle.aig_witness.specs.declared.solutions.error.SolutionError.{SolutionError}
use Rattle.aig_witness.specs.Checked.{RefusesSolution}
use Rattle.aig_bounded.specs.Question.{question_size}
use Rattle.aig_answers.specs.declared.bounded_checks.error.BoundedAnswerError.TheVariants as bounded
use Rattle.aig_answers.specs.Asking as bounding
use Rattle.aig_check_commands.specs.declared.command.FileCommand.TheVariants as commands
use Rattle.aig_check_commands.specs.declared.error.CheckError.TheVariants as errors

pub is_error : (T E : Type 0) (e x : E) → IsErrOf {T = T} (Err e) x → e ≡ x
is_error T E e x is = cc

-- what an error of a query tells of a proof: nothing
tells_of_query : (c : FileCommand) (limit : ℕ) (old new given : Option (List ℕ)) (failed : Bool)
    (e : AnswerError) → IsOfQuery e → TellsOfGiven c limit old new given failed (errors.Answer e)
tells_of_query c limit old new given failed e own = tt

-- ---- what is printed

-- how an answer is printed doesn't hang on what holds of it
pub printed_on : {V W : Type 0} {held : V → Option (List ℕ)} {failed : V → Bool}
    {held_so : W → Option (List ℕ)} {failed_so : W → Bool}
    {Holds Also : Result (List ℕ) CheckError → Type 0} {v new : V} {w made : W}
    {result done : Result Unit CheckError}
    → ((x : Result (List ℕ) CheckError) → Holds x → Also x)
    → ((x : Result (List ℕ) CheckError) → EndsWith held failed x v result new
    → EndsWith held_so failed_so x w done made)
    → Printed held failed Holds v result new → Printed held_so failed_so Also w done made
printed_on so ends printed = record {
  answer = printed.answer;
  holds = so printed.answer printed.holds;
  ends = ends printed.answer printed.ends;
}

module _ {W : Type 0} {held : W → Option (List ℕ)} {write_failed : W → Bool}
    {Holds : Result (List ℕ) CheckError → Type 0} {w made : W} where
  -- there is an error in the place of a text
  pub error_printed : (e : CheckError) → Holds (Err e) → made ≡ w
      → Printed held write_failed Holds w (Err e) made
  error_printed e is same = record { answer = Err e; holds = is; ends = (refl, same) }

  -- the text was written, or a beginning of it
  pub text_printed : {E : Type 0} (x : Result (Unit {0}) E) (text : List ℕ) → Holds (Ok text)
      → WritesOrStops held write_failed w x text made
      → Printed held write_failed Holds w (after_writing x) made
  text_printed (Ok u) text is writes =
      record { answer = Ok text; holds = is; ends = (writes.ok, writes.sound) }
  text_printed (Err e) text is writes =
      record { answer = Ok text; holds = is; ends = (refl, writes.err) }

-- a command that was done printed a text
pub text_of_printed : {W : Type 0} {held : W → Option (List ℕ)} {failed : W → Bool}
    {Holds : Result (List ℕ) CheckError → Type 0} {w made : W} {u : Unit {0}}
    → Printed held failed Holds w (Ok u) made
    → (text : List ℕ) × Holds (Ok text) × Appends (held w) (held made) text
    × (failed made ≡ false)
text_of_printed {W} {held} {failed} {Holds} {w} {made} {u} printed =
    on printed.answer printed.holds printed.ends
  where
    on : (x : Result (List ℕ) CheckError) → Holds x → EndsWith held failed x w (Ok u) made
        → (text : List ℕ) × Holds (Ok text) × Appends (held w) (held made) text
        × (failed made ≡ false)
    on (Ok text) holds ends = (text, holds, ends.0, ends.1)
    on (Err e) holds ends = let no = ends.0 in cc

module _ {R P : Type 0} {left : R → Option (List ℕ)} {read_failed : R → Bool}
    {given : P → Option (List ℕ)} {given_failed : P → Bool} {c : FileCommand} {limit : ℕ}
    {r rest : R} {p used : P} where
  -- the file or what is given beside it is refused
  checks_refused : (e : CheckError) → Judges (file_verdict c limit) limit (left r) (left rest)
      (read_failed rest) (verdict_of e) → IsErrorOf c e → (IsOfFileAlone e → used ≡ p)
      → TellsOfGiven c limit (left r) (left rest) (given p) (given_failed used) e
      → ChecksFile left read_failed given given_failed c limit r p rest used (Err e)
  checks_refused e said own unread tells = record {
    verdict = said;
    own = own;
    text = tt;
    unread = unread;
    refusal = tells;
  }

  -- it is answered
  checks_answered : (text : List ℕ)
      → Judges (file_verdict c limit) limit (left r) (left rest) (read_failed rest) Accepted
      → IsReadAs (IsAskedBy c limit) (Answers c (given p)) (left r) (left rest) text
      → ChecksFile left read_failed given given_failed c limit r p rest used (Ok text)
  checks_answered text said answers = record {
    verdict = said;
    own = tt;
    text = answers;
    unread = tt;
    refusal = tt;
  }

module _ {R P W : Type 0} {left : R → Option (List ℕ)} {read_failed : R → Bool} {given : P → Option
    (List ℕ)} {given_failed : P → Bool} {held : W → Option (List ℕ)} {write_failed : W → Bool} {c :
    FileCommand} {limit : ℕ} {r rest : R} {p used : P} {w made : W} where
  -- nothing is printed of what is refused
  pub refused : (e : CheckError) → Judges (file_verdict c limit) limit (left r) (left rest)
      (read_failed rest) (verdict_of e) → IsErrorOf c e → made ≡ w → (IsOfFileAlone e → used ≡ p)
      → TellsOfGiven c limit (left r) (left rest) (given p) (given_failed used) e
      → Runs left read_failed given given_failed held write_failed c limit r p w (Err e) rest used
      made
  refused e said own same unread tells =
      error_printed e (checks_refused e said own unread tells) same

  -- there is no query
  pub query_refused : (e : AnswerError)
      → Judges (file_verdict c limit) limit (left r) (left rest) (read_failed rest)
      (asking.verdict_of e)
      → IsErrorOf c (errors.Answer e) → IsOfQuery e → made ≡ w → used ≡ p
      → Runs left read_failed given given_failed held write_failed c limit r p w
      (Err (errors.Answer e)) rest used made
  query_refused e said own of_query same unread = refused (errors.Answer e) said own same
      (λ alone. unread)
      (tells_of_query c limit (left r) (left rest) (given p) (given_failed used) e of_query)

  -- the answer was written, or a beginning of it
  pub answer_ends : {E : Type 0} (x : Result (Unit {0}) E) (text : List ℕ)
      → Judges (file_verdict c limit) limit (left r) (left rest) (read_failed rest) Accepted
      → IsReadAs (IsAskedBy c limit) (Answers c (given p)) (left r) (left rest) text
      → WritesOrStops held write_failed w x text made
      → Runs left read_failed given given_failed held write_failed c limit r p w (after_writing x)
      rest used made
  answer_ends x text said answers writes =
      text_printed x text (checks_answered text said answers) writes

  -- a witness was printed, or a solver's answer was refused before
  pub solution_ends : (result : Result Unit CheckError) (x : Encoded) (k : ℕ)
      → Judges (file_verdict c limit) limit (left r) (left rest) (read_failed rest) Accepted
      → ((text : List ℕ) → IsKnownText (given p) x k text
      → IsReadAs (IsAskedBy c limit) (Answers c (given p)) (left r) (left rest) text)
      → Printed held write_failed (IsSolutionOf (given p) (given_failed used) x k) w result made
      → ((e : SolutionError) → IsErrorOf c (errors.Solution e))
      → ((e : SolutionError) → RefusesSolution (given p) x k (given_failed used) e
      → TellsOfSolution c limit (left r) (left rest) (given p) (given_failed used) e)
      → Runs left read_failed given given_failed held write_failed c limit r p w result rest used
      made
  solution_ends result x k said answers prints has tells =
      printed_on on (λ y ends. ends) prints
    where
      on : (y : Result (List ℕ) CheckError)
          → IsSolutionOf (given p) (given_failed used) x k y
          → ChecksFile left read_failed given given_failed c limit r p rest used y
      on (Ok text) is = checks_answered text said (answers text is)
      on (Err (errors.Solution e)) is =
          checks_refused (errors.Solution e) said (has e) (λ alone. absurd alone) (tells e is)
      on (Err e) is = absurd is

-- the bytes of a file that was read were summed to their end
pub summed : {of : File → Verdict} {limit : ℕ} {first old new : Option (List ℕ)} {failed : Bool}
    (start : Option (List ℕ)) (sum : List ℕ) → Judges of limit old new failed Accepted
    → first ≡ start → (failed ≡ false → IsAtEnd new → IsSum start sum) → IsSum first sum
summed start sum said same sums =
    let read = said.whole tt in
    subst (λ bytes. IsSum bytes sum) (sym same) (sums read.0 read.1)

-- ---- files

-- what is told of a source is told of the one under it
pub file_under : {A R T E : Type 0} {Means : File → Result T E → Type 0} {said : E → Verdict}
    {Own : E → Type 0} {limit : ℕ} {r rest : A} {result : Result T E} (left : R → Option (List ℕ))
    (failed : R → Bool) (under : A → R)
    → ReadsFile (λ x. left (under x)) (λ x. failed (under x)) limit Means said Own r result rest
    → ReadsFile left failed limit Means said Own (under r) result (under rest)
file_under left failed under told =
    record { verdict = told.verdict; answer = told.answer; own = told.own }

-- what was read is read as something else that is meant for the file
pub read_again : {X Y : Type 0} {Holds : List ℕ → File → Type 0} {Means : File → X → Type 0} {Also :
    File → Y → Type 0} {old new : Option (List ℕ)} {x : X} {y : Y} → IsReadAs Holds Means old new x
    → ((bytes : List ℕ) (f : File) → Holds bytes f → Means f x → Also f y) → IsReadAs Holds Also old
    new y
read_again read so = record {
  file = read.file;
  bytes = read.bytes;
  holds = read.holds;
  means = so
      read.bytes read.file read.holds read.means;
  taken = read.taken;
}

-- ---- errors

-- an error that is this one
pub err_of : {T E : Type 0} (e x : E) → e ≡ x → IsErrOf {T = T} (Err e) x
err_of {T} {E} e x is = let error : E → Result T E = λ y. Err y in ap error is

-- an error of a question up to a step that is of the file alone
pub refuses_bounded : (e : BoundedAnswerError) → IsOfFileAlone (errors.Bounded e) →
    bounding.verdict_of e ≢ Accepted
refuses_bounded (bounded.Read e) alone is = of_no_file e (subst IsOfFile (sym is) tt)
refuses_bounded bounded.NoBads alone is = cc
refuses_bounded (bounded.Question e) alone is = cc
refuses_bounded (bounded.Solution e) alone is = alone

-- what an error tells of a solver's answer
pub tells_of_answer : (k limit : ℕ) (optimize : Bool) (old new given : Option (List ℕ)) (failed :
    Bool) (e : BoundedAnswerError) → IsOfWitness e
    → bounding.TellsOfSolution limit k optimize old new given failed e
    → bounding.TellsOfSize limit (λ c. question_size c k) old new e
    → TellsOfGiven (commands.WitnessTo k optimize) limit old new given failed (errors.Bounded e)
tells_of_answer k limit optimize old new given failed (bounded.Solution e) own told size = told
tells_of_answer k limit optimize old new given failed (bounded.Question e) own told size = size
tells_of_answer k limit optimize old new given failed e own told size = tt
