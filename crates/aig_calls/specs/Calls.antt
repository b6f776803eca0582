-- Part of what is promised.
-- What a call does, by the bytes that it is given: what the program's command, or the library's
-- call, of the same name does with them, a status for its result, and what is left in the caller's
-- memory.
use Rattle.std.specs.Prelude.{◌≡◌, ℕ, ◌<◌, ◌≤◌, ◌^◌, if◌then◌else◌, Bool, List, Some, Result, Ok, Err, IfErr, IfOk, ℤ}
use Rattle.aig_answers.specs.Answers as answering
use Rattle.aig_answers.specs.Answers.{IsAsked, IsOfQuery, asked_verdict}
use Rattle.aig_answers.specs.declared.error.AnswerError.{AnswerError}
use Rattle.aig_check_commands.specs.Pairs.{RunsObligations}
use Rattle.aig_answers.specs.declared.plans.asking.Question.{Question}
use Rattle.aig_check_commands.specs.Questions.{RunsQuestion}
use Rattle.aig_subjects.specs.declared.subject.FileSubject.TheVariants as file_subjects
use Rattle.aig_check_commands.specs.Running.{Runs}
use Rattle.aig_check_commands.specs.declared.command.FileCommand.{FileCommand}
use Rattle.aig_check_commands.specs.declared.error.CheckError.{CheckError}
use Rattle.aig_tool_commands.specs.Running as tool
use Rattle.aig_tool_commands.specs.declared.command.Command.{Command}
use Rattle.aig_tool_commands.specs.declared.tool.ToolError.{ToolError}
use Rattle.aig_edit_laws.specs.declared.fairness.Fairness.TheVariants.{Justice}
use Rattle.aig_edits.specs.Edits.{IsEditOwn, PrintsEdit, ReadsFile, edit_verdict}
use Rattle.aig_edits.specs.Info.{PrintsInfo}
use Rattle.aig_edits.specs.Joints.{IsOwn, PrintsJoint, first_verdict, second_verdict}
use Rattle.aig_edits.specs.Lives.{PrintsLive}
use Rattle.aig_edits.specs.Pairs.{ReadsPair}
use Rattle.aig_edits.specs.Questions.{PrintsQuestion}
use Rattle.aig_edits.specs.Reductions.{PrintsReduction}
use Rattle.aig_edits.specs.Rounds.{PrintsRounds}
use Rattle.aig_edits.specs.declared.editing.Edit.{Edit}
use Rattle.aig_edits.specs.declared.edit_error.EditError.{EditError}
use Rattle.aig_edits.specs.declared.pair_error.PairError.{PairError}
use Rattle.aig_edits.specs.declared.pairing.Pairing.{Pairing}
use Rattle.aig_witness.specs.Claims as claiming
use Rattle.aig_witness.specs.Claims.{ShowsClaim}
use Rattle.aig_witness.specs.declared.fair.file.ClaimError.{ClaimError}
use Rattle.aig_witness.specs.declared.fair.file.ShownProperty.{ShownProperty}
use Rattle.aig_witness.specs.declared.fair.file.ShownProperty.TheVariants as properties
use Rattle.aig_format.specs.File.{File}
use Rattle.aig_format.specs.Fits.{Accepts}
use Rattle.aig_giving.specs.Given.{IsGiven}
use Rattle.aig_giving.specs.declared.status.TheConstants.{DONE}
use Rattle.aig_reader.specs.Reading.{IsReadAs}
use Rattle.aig_reader.specs.Verdicts.{Accepted, Judges, Verdict, verdict_by}
use Rattle.aig_runs.specs.declared.window.Window.{Window}
use Rattle.aig_runs.specs.declared.window.Window.TheVariants.{Distinct, Plain}
use Rattle.aig_witness.specs.Files as showing
use Rattle.aig_witness.specs.Files.{ShowsNext}
use Rattle.aig_witness.specs.declared.file.ShowError.{ShowError}
use Rattle.aig_witness.specs.declared.file.Shown.{Shown}
use Rattle.aig_calls.specs.Numbers.{IsListing, Listing}
use Rattle.aig_calls.specs.Memory.{Into, On, Reader, Writer, bytes_of, has_failed, held, write_failed}
use Rattle.aig_calls.specs.Statuses.{answer_status, claim_status, many_steps, show_status, witness_bad}

-- ---- words

-- the form of a window, by whether its states are told apart
abbrev pub form_of : Bool → Window
form_of distinct = if distinct then Distinct else Plain

-- ---- what is done with bytes

-- a command of `aigtool` was run on these bytes
abbrev pub RunsTool : ℕ → Command → List ℕ → Result Unit ToolError → Writer → Writer → Type 0
RunsTool limit c file result w made =
    On file (λ r rest.
    tool.Runs bytes_of has_failed held write_failed c limit r w result rest made)

-- a question's clauses were printed of them
abbrev pub RunsClauses : ℕ → Question → List ℕ → Result Unit CheckError → Writer → Writer → Type 0
RunsClauses limit q file result w made =
    On file (λ r rest.
    RunsQuestion bytes_of has_failed held write_failed limit file_subjects.Own q r w result rest
    made)

-- a command of `aigcheck` was run on them and on those that are given beside them
abbrev pub RunsOn : ℕ → FileCommand → List ℕ → List ℕ → Result Unit CheckError → Writer → Writer
    → Type 0
RunsOn limit c file given result w made =
    On file (λ r rest. On given (λ p used.
    Runs bytes_of has_failed bytes_of has_failed held write_failed c limit r p w result rest used
    made))

-- or the clauses of a certificate were printed of those of two files
abbrev pub RunsCertificate : ℕ → Bool → List ℕ → List ℕ → Result Unit CheckError → Writer → Writer
    → Type 0
RunsCertificate limit optimize file other result w made =
    On file (λ r rest. On other (λ s left.
    RunsObligations bytes_of has_failed held write_failed limit file_subjects.Own optimize r s w
    result rest left made))

-- a call was made that reads these bytes as a file
abbrev pub Reads : {T E : Type 0} → ℕ → (File → Result T E → Type 0) → (E → Verdict)
    → (E → Type 0) → List ℕ → Result T E → Type 0
Reads limit Means said Own file result =
    On file (λ r rest. ReadsFile bytes_of has_failed limit Means said Own r result rest)

-- or these and those as two files
abbrev pub ReadsBoth : {T E : Type 0} → ℕ → (File → File → Result T E → Type 0) → (E → Verdict)
    → (E → Verdict) → (E → Type 0) → List ℕ → List ℕ → Result T E → Type 0
ReadsBoth limit Means first second Own file other result =
    On file (λ r rest. On other (λ s left.
    ReadsPair bytes_of has_failed bytes_of has_failed limit Means first second Own r s result rest
    left))

-- something was made of a file, and its text was written
abbrev pub Makes : ℕ → (Writer → Writer → File → Result Unit EditError → Type 0) → List ℕ
    → Result Unit EditError → Writer → Writer → Type 0
Makes limit Writes file result w made =
    Reads limit (Writes w made) edit_verdict IsEditOwn file result

abbrev pub MakesEdit : ℕ → Edit → List ℕ → Result Unit EditError → Writer → Writer → Type 0
MakesEdit limit edit = Makes limit (PrintsEdit held write_failed edit limit)

abbrev pub MakesReduction : ℕ → List ℕ → Result Unit EditError → Writer → Writer → Type 0
MakesReduction limit = Makes limit (PrintsReduction held write_failed)

abbrev pub MakesQuestion : ℕ → ℕ → List ℕ → Result Unit EditError → Writer → Writer → Type 0
MakesQuestion limit k = Makes limit (PrintsQuestion held write_failed k limit)

abbrev pub MakesInfo : ℕ → List ℕ → Result Unit EditError → Writer → Writer → Type 0
MakesInfo limit = Makes limit (PrintsInfo held write_failed)

abbrev pub MakesLive : ℕ → ℕ → List ℕ → Result Unit EditError → Writer → Writer → Type 0
MakesLive limit j = Makes limit (PrintsLive held write_failed (Justice j))

abbrev pub MakesRounds : ℕ → ℕ → ℕ → List ℕ → Result Unit EditError → Writer → Writer → Type 0
MakesRounds limit j count = Makes limit (PrintsRounds held write_failed (Justice j) count)

-- so of two files
abbrev pub MakesJoint : ℕ → Pairing → List ℕ → List ℕ → Result Unit PairError → Writer → Writer
    → Type 0
MakesJoint limit pairing file other result w made =
    ReadsBoth limit (PrintsJoint held write_failed pairing w made) first_verdict second_verdict
    IsOwn file other result

-- ---- witnesses

-- what a witness shows of a file's machine, or why it shows nothing: of a bad state
pub record ShowsBad (limit : ℕ) (r rest w used : Reader)
    (result : Result Shown ShowError) : Type 0 where
  pub answer : IfOk result
      (IsReadAs (λ bytes. Accepts bytes limit) (ShowsNext (bytes_of w)) (bytes_of r)
      (bytes_of rest))
  pub verdict : Judges (λ _. Accepted) limit (bytes_of r) (bytes_of rest) (has_failed rest)
      (verdict_by showing.verdict_of result)
  pub refusal : IfErr result
      (showing.Refuses limit (bytes_of r) (bytes_of rest) (bytes_of w) (has_failed used))

-- or of what it says
pub record ShowsEither (limit : ℕ) (r rest w used : Reader)
    (result : Result ShownProperty ClaimError) : Type 0 where
  pub answer : IfOk result
      (IsReadAs (λ bytes. Accepts bytes limit) (ShowsClaim (bytes_of w)) (bytes_of r)
      (bytes_of rest))
  pub verdict : Judges (λ _. Accepted) limit (bytes_of r) (bytes_of rest) (has_failed rest)
      (verdict_by claiming.verdict_of result)
  pub refusal : IfErr result
      (claiming.RefusesClaim limit (bytes_of r) (bytes_of rest) (bytes_of w) (has_failed used))

-- the clauses of a file's query were listed
pub record Lists (limit k : ℕ) (optimize : Bool) (r rest : Reader)
    (result : Result Listing AnswerError) : Type 0 where
  pub answer : IfOk result
      (IsReadAs (IsAsked limit k) (IsListing k optimize) (bytes_of r) (bytes_of rest))
  pub verdict : Judges (asked_verdict limit k) limit (bytes_of r) (bytes_of rest)
      (has_failed rest) (verdict_by answering.verdict_of result)
  pub own : IfErr result IsOfQuery

-- ---- what is told

-- the items are given; without an answer the memory stays as it was
abbrev pub GivesItems : {X E : Type 0} → (E → ℕ) → Result (List X) E → ℕ → List X → List X → ℕ → ℕ
    → Type 0
GivesItems of (Ok items) status old new before needed = IsGiven status items old new needed
GivesItems of (Err e) status old new before needed =
    (status ≡ of e) × (new ≡ old) × (needed ≡ before)

-- something was done whose result is given
abbrev pub GivesResult : {X E : Type 0} → (E → ℕ) → (Result (List X) E → Type 0) → ℕ → List X
    → List X
    → ℕ → ℕ → Type 0
GivesResult {X} of Does status old new before needed =
    (result : Result (List X) _) × Does result × GivesItems of result status old new before needed

-- which bad state is shown, and at which step; else both numbers stay
abbrev pub TellsBad : Result Shown ShowError → ℕ → ℕ → ℕ → ℕ → ℕ → Type 0
TellsBad (Ok shown) status had bad before step =
    (status ≡ DONE) × (bad ≡ shown.bad) × (step ≡ shown.step)
TellsBad (Err e) status had bad before step =
    (status ≡ show_status e) × (bad ≡ had) × (step ≡ before)

-- of which justice property a lasso is shown, and between which steps its loop is; else the numbers
-- stay
abbrev pub TellsLasso : Result ShownProperty ClaimError → ℕ → ℕ → ℕ → ℕ → ℕ → ℕ → ℕ → Type 0
TellsLasso (Ok (properties.Lasso shown)) status had justice before start at last =
    (status ≡ DONE) × (justice ≡ shown.justice) × (start ≡ shown.start) × (last ≡ shown.last)
TellsLasso (Ok (properties.Bad shown)) status had justice before start at last =
    (status ≡ witness_bad) × (justice ≡ had) × (start ≡ before) × (last ≡ at)
TellsLasso (Err e) status had justice before start at last =
    (status ≡ claim_status e) × (justice ≡ had) × (start ≡ before) × (last ≡ at)

-- the numbers that are listed are given, how many variables there are, and how many of the numbers
-- are those of the clauses
abbrev pub GivesListing : Result Listing AnswerError → ℕ → List ℤ → List ℤ → ℕ → ℕ → ℕ → ℕ → ℕ → ℕ
    → Type 0
GivesListing (Ok listed) status old new before needed had variables had_len clauses_len =
    IsGiven status listed.numbers old new needed × (variables ≡ listed.variables)
    × (clauses_len ≡ listed.clauses_len)
GivesListing (Err e) status old new before needed had variables had_len clauses_len =
    (status ≡ answer_status e) × (new ≡ old) × (needed ≡ before) × (variables ≡ had)
    × (clauses_len ≡ had_len)

-- the text that a writer holds then that held nothing, where there is no error
abbrev pub Prints : {E : Type 0} → (Result Unit E → Writer → Writer → Type 0)
    → Result (List ℕ) E → Type 0
Prints Does (Ok text) = Into (λ w made. (held made ≡ Some text) × Does (Ok tt) w made)
Prints Does (Err e) = Into (Does (Err e))

-- a call for step K refuses a K of 2^32 or more, and then changes nothing
abbrev pub AtStep : ℕ → ℕ → Type 0 → Type 0 → Type 0
AtStep k status Kept Does = (2 ^ 32 ≤ k → (status ≡ many_steps) × Kept) × (k < 2 ^ 32 → Does)

abbrev pub GivesAt : {X E : Type 0} → ℕ → (E → ℕ) → (Result (List X) E → Type 0) → ℕ → List X
    → List X → ℕ → ℕ → Type 0
GivesAt k of Does status old new before needed =
    AtStep k status ((new ≡ old) × (needed ≡ before))
    (GivesResult of Does status old new before needed)
