-- Part of what is promised.
-- What a command does with the bytes of a file and of a proof or a witness: what it puts into its
-- writer, and why it refuses them.
use Rattle.std.specs.Prelude.{◌≡◌, ◌≢◌, ℕ, ◌+◌, Bool, false, List, [], ◌∷◌, ◌++◌, length, Option, None, Result, IfErr, IfOk, codes, decimal}
use Rattle.aig_format.specs.File.{File}
use Rattle.aig_format.specs.Fits.{Accepts}
use Rattle.aig_reader.specs.declared.error.ReadError.TheVariants as read
use Rattle.aig_reader.specs.Reading.{IsReadAs}
use Rattle.aig_reader.specs.Verdicts.{Accepted, Judges, Refused, Short, Verdict, verdict_by}
use Rattle.aig_encode.specs.declared.query_clauses.Query.{Query}
use Rattle.aig_encode.specs.Encoding.{IsQuery}
use Rattle.aig_answers.specs.Answers as asking
use Rattle.aig_answers.specs.Answers.{IsAsked, IsOfQuery, asked_verdict}
use Rattle.aig_witness.specs.Witness.{Witness, witness_text}
use Rattle.aig_witness.specs.declared.file.ShowError.TheVariants as shows
use Rattle.aig_witness.specs.Machine.{ShowsBad}
use Rattle.aig_witness.specs.declared.fair.file.ClaimError.{ClaimError}
use Rattle.aig_witness.specs.declared.fair.file.ClaimError.TheVariants as claims
use Rattle.aig_witness.specs.declared.fair.file.ShownProperty.{ShownProperty}
use Rattle.aig_witness.specs.declared.fair.file.ShownProperty.TheVariants as properties
use Rattle.aig_witness.specs.Claims as showing
use Rattle.aig_witness.specs.Claims.{ShowsClaim}
use Rattle.aig_bounded.specs.Question.{question_size}
use Rattle.aig_answers.specs.declared.bounded_checks.error.BoundedAnswerError.{BoundedAnswerError}
use Rattle.aig_answers.specs.declared.bounded_checks.error.BoundedAnswerError.TheVariants as bounded
use Rattle.aig_answers.specs.Asking as bounding
use Rattle.aig_answers.specs.Asking.{IsAskedWithin, IsOfWitness, bounded_verdict}
use Rattle.aig_edits.specs.Edits.{edit_verdict}
use Rattle.aig_witness.specs.declared.solutions.error.SolutionError.{SolutionError}
use Rattle.aig_witness.specs.Checked.{RefusesSolution, SaysWitness}
use Rattle.aig_check_commands.specs.Printed.{Printed}
use Rattle.aig_check_commands.specs.Bounded.{IsWitnessToText}
use Rattle.aig_check_commands.specs.Comments.{named_text}
use Rattle.aig_check_commands.specs.declared.command.FileCommand.{FileCommand}
use Rattle.aig_check_commands.specs.declared.command.FileCommand.TheVariants as commands
use Rattle.aig_check_commands.specs.declared.error.CheckError.{CheckError}
use Rattle.aig_check_commands.specs.declared.error.CheckError.TheVariants as errors

-- ---- answers

-- the line of a justice property, and of the first and the last step of a loop
abbrev pub lasso_line : ℕ → ℕ → ℕ → List ℕ
lasso_line justice start last =
    codes "j" ++ (decimal justice ++ 32 ∷ []) ++ codes "in a loop from step "
    ++ (decimal start ++ 32 ∷ []) ++ codes "to " ++ (decimal last ++ 10 ∷ [])

-- the line of a property that is shown: of a bad state, and a step, or of justice, and a loop
abbrev pub shown_line : ShownProperty → List ℕ
shown_line (properties.Bad s) = named_text (codes "b") s.bad s.step 10
shown_line (properties.Lasso s) = lasso_line s.justice s.start s.last

-- the line of what the next of the witnesses that are given shows of the file's machine
abbrev pub IsShownLine : Option (List ℕ) → File → List ℕ → Type 0
IsShownLine given f text =
    (shown : ShownProperty) × ShowsClaim given f shown × (text ≡ shown_line shown)

-- the text of a witness of k + 1 steps that shows a bad state of the file's machine; it is the one
-- that the solver's answer to the file's query says
pub record IsWitnessText (given : Option (List ℕ)) (f : File) (k : ℕ) (optimize : Bool)
    (text : List ℕ) : Type 0 where
  pub witness : Witness
  pub steps : length witness.steps ≡ k + 1
  pub shows : ShowsBad f witness
  pub exact : text ≡ witness_text witness
  pub query : Query
  pub asks : IsQuery k optimize f query
  pub said : SaysWitness given query.encoded k witness

-- what the command puts into its writer for what is given and the file, and what is then so of the
-- file's machine
abbrev pub Answers : FileCommand → Option (List ℕ) → File → List ℕ → Type 0
Answers (commands.Witness k optimize) given f text = IsWitnessText given f k optimize text
Answers commands.Run given f text = IsShownLine given f text
Answers (commands.WitnessTo k optimize) given f text = IsWitnessToText given f k optimize text

-- ---- files

-- the bytes are this file, of which the command asks something: within the limit with the further
-- steps that it makes, or alone where these are folded or where it makes none
abbrev pub IsAskedBy : FileCommand → ℕ → List ℕ → File → Type 0
IsAskedBy (commands.Witness k optimize) limit = IsAsked limit k
IsAskedBy commands.Run limit = λ bytes. Accepts bytes limit
IsAskedBy (commands.WitnessTo k optimize) limit = IsAskedWithin limit

-- the verdict on a file that fits
abbrev pub file_verdict : FileCommand → ℕ → File → Verdict
file_verdict (commands.Witness k optimize) limit f = asked_verdict limit k f
file_verdict commands.Run limit f = Accepted
file_verdict (commands.WitnessTo k optimize) limit f = bounded_verdict f

-- ---- errors

-- what an error says of the bytes of the file: one of the writer, or of what is given beside the
-- file, that they are a file that is taken
abbrev pub verdict_of : CheckError → Verdict
verdict_of (errors.Answer e) = asking.verdict_of e
verdict_of (errors.Show e) = showing.verdict_of (claims.Show e)
verdict_of (errors.Solution e) = Accepted
verdict_of (errors.Goal e) = Accepted
verdict_of errors.Write = Accepted
verdict_of errors.Memory = Short
verdict_of errors.Open = Refused
verdict_of (errors.Bounded e) = bounding.verdict_of e
verdict_of (errors.Lasso e) = showing.verdict_of (claims.Lasso e)
verdict_of (errors.Unmade e) = edit_verdict e
verdict_of (errors.Simulation e) = Accepted

-- the error of a witness that is refused
abbrev pub error_of_claim : ClaimError → CheckError
error_of_claim (claims.Show e) = errors.Show e
error_of_claim (claims.Lasso e) = errors.Lasso e

-- the command has this error in the place of an answer
abbrev pub IsErrorOf : FileCommand → CheckError → Type 0
IsErrorOf c errors.Write = ⊥
IsErrorOf (commands.Witness k optimize) (errors.Answer e) = IsOfQuery e
IsErrorOf (commands.Witness k optimize) (errors.Solution e) = Unit {0}
IsErrorOf commands.Run (errors.Show e) = e ≢ shows.File read.Open
IsErrorOf commands.Run (errors.Lasso e) = Unit {0}
IsErrorOf (commands.WitnessTo k optimize) (errors.Bounded e) = IsOfWitness e
IsErrorOf c e = ⊥

-- it is of the file alone: what is given beside it wasn't read
abbrev pub IsOfFileAlone : CheckError → Type 0
IsOfFileAlone (errors.Answer e) = Unit {0}
IsOfFileAlone (errors.Show (shows.File e)) = Unit {0}
IsOfFileAlone (errors.Bounded (bounded.Solution e)) = ⊥
IsOfFileAlone (errors.Bounded e) = Unit {0}
IsOfFileAlone e = ⊥

-- the solver's answer to the query of the file is refused so
pub record RefusesAnswer (given : Option (List ℕ)) (failed : Bool) (k : ℕ) (optimize : Bool)
    (f : File) (e : SolutionError) : Type 0 where
  pub query : Query
  pub asks : IsQuery k optimize f query
  pub refusal : RefusesSolution given query.encoded k failed e

abbrev pub TellsOfSolution : FileCommand → ℕ → Option (List ℕ) → Option (List ℕ) → Option (List ℕ)
    → Bool → SolutionError → Type 0
TellsOfSolution (commands.Witness k optimize) limit old new given failed e =
    IsReadAs (IsAsked limit k) (RefusesAnswer given failed k optimize) old new e
TellsOfSolution c limit old new given failed e = ⊥

-- a solver's answer to a question up to a step is refused so
abbrev pub TellsOfAnswer : FileCommand → ℕ → Option (List ℕ) → Option (List ℕ) → Option (List ℕ)
    → Bool → SolutionError → Type 0
TellsOfAnswer (commands.WitnessTo k optimize) limit old new given failed e =
    IsReadAs (IsAskedWithin limit) (bounding.RefusesSolution given failed k optimize) old new e
TellsOfAnswer c limit old new given failed e = ⊥

-- the question of the file is too large only where the bound of what is made passes the limit
abbrev pub TellsOfQuestion : FileCommand → ℕ → Option (List ℕ) → Option (List ℕ)
    → BoundedAnswerError → Type 0
TellsOfQuestion (commands.WitnessTo k optimize) limit old new e =
    bounding.TellsOfSize limit (λ c. question_size c k) old new e
TellsOfQuestion c limit old new e = ⊥

-- what a refusal tells of the file's question or of what is given beside the file: a read of it is
-- said to have failed only where one did, and a solver's answer or a witness is refused as
-- is promised of these
abbrev pub TellsOfGiven : FileCommand → ℕ → Option (List ℕ) → Option (List ℕ) → Option (List ℕ)
    → Bool → CheckError → Type 0
TellsOfGiven c limit old new given failed (errors.Solution e) =
    TellsOfSolution c limit old new given failed e
TellsOfGiven c limit old new given failed (errors.Show e) =
    showing.RefusesClaim limit old new given failed (claims.Show e)
TellsOfGiven c limit old new given failed (errors.Lasso e) =
    showing.RefusesClaim limit old new given failed (claims.Lasso e)
TellsOfGiven c limit old new given failed (errors.Bounded (bounded.Solution e)) =
    TellsOfAnswer c limit old new given failed e
TellsOfGiven c limit old new given failed (errors.Bounded (bounded.Question e)) =
    TellsOfQuestion c limit old new (bounded.Question e)
TellsOfGiven c limit old new given failed e = Unit {0}

-- ---- runs

-- nothing is given beside the file
abbrev pub nothing_given : Unit {0} → Option (List ℕ)
nothing_given p = None

-- and no read of it fails
abbrev pub nothing_fails : Unit {0} → Bool
nothing_fails p = false

-- What a command makes of its files: r and p are before it the file's reader and that of the proof,
-- the solver's answer or the witness; rest and used are these after it.
pub record ChecksFile {R P : Type 0} (left : R → Option (List ℕ)) (read_failed : R → Bool)
    (given : P → Option (List ℕ)) (given_failed : P → Bool) (c : FileCommand) (limit : ℕ) (r : R)
    (p : P) (rest : R) (used : P) (answer : Result (List ℕ) CheckError) : Type 0 where
  -- what is said of the bytes of the file
  pub verdict : Judges (file_verdict c limit) limit (left r) (left rest) (read_failed rest)
      (verdict_by verdict_of answer)
  -- which errors it has
  pub own : IfErr answer (IsErrorOf c)
  -- the text is its answer to the file that was read
  pub text : IfOk answer
      (IsReadAs (IsAskedBy c limit) (Answers c (given p)) (left r) (left rest))
  -- what is given beside the file is read only where the file is taken
  pub unread : IfErr answer (λ e. IsOfFileAlone e → used ≡ p)
  -- and a refusal of it tells why
  pub refusal : IfErr answer
      (TellsOfGiven c limit (left r) (left rest) (given p) (given_failed used))

-- what a command does: w is the writer before it, and made is it after it
abbrev pub Runs : {R P W : Type 0} → (R → Option (List ℕ)) → (R → Bool) → (P → Option (List ℕ))
    → (P → Bool) → (W → Option (List ℕ)) → (W → Bool) → FileCommand → ℕ → R → P → W
    → Result Unit CheckError → R → P → W → Type 0
Runs left read_failed given given_failed held write_failed c limit r p w result rest used made =
    Printed held write_failed
    (ChecksFile left read_failed given given_failed c limit r p rest used) w result made
