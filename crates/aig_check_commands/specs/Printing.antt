-- Serves private clauses alone.
-- What is printed of what was read: a text, or a beginning of it.
use Rattle.std.specs.Prelude.{◌≡◌, ◌⊎◌, ℕ, ◌+◌, Bool, List, [], ◌++◌, length, replicate, Option, Result, Ok, Err, codes}
use Rattle.aig_answers.specs.declared.windows.WindowClauses.{WindowClauses}
use Rattle.aig_base.specs.Formula.{clauses_in}
use Rattle.aig_base.specs.declared.logic.literal.Lit.{Lit}
use Rattle.aig_circuit.specs.Circuit.{Circuit, IsCircuit}
use Rattle.aig_circuit.specs.View.{lists_circuit}
use Rattle.aig_cnf.specs.Cnf.{HasClauses}
use Rattle.aig_dimacs.specs.Text.{IsFormula, dimacs_of}
use Rattle.aig_encode.specs.declared.encoding.Encoded.{Encoded}
use Rattle.aig_output.specs.Sinks.{WritesOrStops}
use Rattle.aig_witness.specs.Checked.{RefusesSolution, SaysWitness}
use Rattle.aig_check_commands.specs.Titles.{title_text}
use Rattle.aig_check_commands.specs.declared.lines.titles.title.Title.{Title}
use Rattle.aig_witness.specs.Witness.{Witness, witness_text}
use Rattle.aig_witness.specs.Shown.{IsKnownWitness}
use Rattle.aig_check_commands.specs.Pairs.{AreSummed, TellsOfJoint, obligation_answer, part_text}
use Rattle.aig_answers.specs.Answers.{AreWrittenFrom, AskWith, IsCircuitQuery, query_with}
use Rattle.aig_answers.specs.Plans.{HasNone, plan_certified, room_of}
use Rattle.aig_answers.specs.declared.goals.error.GoalFault.{GoalFault}
use Rattle.aig_answers.specs.declared.goals.error.GoalFault.TheVariants as faults
use Rattle.aig_answers.specs.declared.plans.asking.Question.{Question}
use Rattle.aig_answers.specs.declared.plans.errors.PlanError.TheVariants as plans
use Rattle.aig_answers.specs.declared.plans.errors.Why.TheVariants as whys
use Rattle.aig_bounded.specs.declared.error.BoundedError.{BoundedError}
use Rattle.aig_circuit.specs.declared.view.CircuitLists.{CircuitLists}
use Rattle.aig_edits.specs.declared.edit_error.EditError.{EditError}
use Rattle.aig_edits.specs.declared.pair_error.PairError.{PairError}
use Rattle.aig_format.specs.File.{File}
use Rattle.aig_runs.specs.WindowClauses.{AsksWindow}
use Rattle.aig_runs.specs.declared.window.Window.TheVariants.{Plain}
use Rattle.aig_subjects.specs.FileSubjects.{IsFileSubject, IsUnmadeFile}
use Rattle.aig_subjects.specs.Subjects.{IsBeside, IsUnjoined, IsUnmade}
use Rattle.aig_subjects.specs.declared.error.SubjectError.{SubjectError}
use Rattle.aig_subjects.specs.declared.subject.FileSubject.{FileSubject}
use Rattle.aig_subjects.specs.declared.subject.Subject.TheVariants as subjects
use Rattle.aig_check_commands.specs.Questions.{IsQuestionText, question_error}
use Rattle.aig_witness_circuit_checks.specs.Simulated.{IsNoQuestion, question_in}
use Rattle.aig_witness_circuit_checks.specs.declared.claim.Claim.{Claim}
use Rattle.aig_witness_circuit_checks.specs.declared.error.ConditionError.TheVariants as conditions
use Rattle.aig_witness_circuit_checks.specs.declared.error.SimulationError.TheVariants as simulation
use Rattle.aig_witness_circuits.specs.declared.condition.Condition.{Condition}
use Rattle.aig_witness_circuits.specs.declared.error.QuestionError.{QuestionError}
use Rattle.aig_check_commands.specs.Simulating.{IsObligationText}
use Rattle.aig_check_commands.specs.Sums.{IsSum, summed_text}
use Rattle.aig_check_commands.specs.declared.error.CheckError.{CheckError}
use Rattle.aig_check_commands.specs.declared.error.CheckError.TheVariants as errors
use Rattle.aig_check_commands.specs.declared.checks.pairs.Obligations.{Obligations}

-- a front is written, and then the clauses of a circuit and further ones, or a beginning of that,
-- and the clauses are a formula
pub record WritesBehind {W T E : Type 0} (held : W → Option (List ℕ)) (failed : W → Bool)
    (front : List ℕ) (c : Circuit) (optimize : Bool) (extra : List (List Lit)) (old : W)
    (result : Result T E) (new : W) : Type 0 where
  pub lists : List (List (List Lit))
  pub has : HasClauses c optimize lists
  pub formula : IsFormula (length lists) (clauses_in lists ++ extra)
  pub writes : WritesOrStops held failed old result
      (front ++ dimacs_of (length lists) (clauses_in lists ++ extra)) new

-- the clauses of a circuit and further ones
abbrev pub clauses_with : List (List (List Lit)) → List (List Lit) → WindowClauses
clauses_with lists extra = record { clauses = lists; extra = extra }

-- they are written behind a title
abbrev pub WritesTitled : {W T E : Type 0} → (W → Option (List ℕ)) → (W → Bool) → Title → Circuit
    → Bool → List (List Lit) → W → Result T E → W → Type 0
WritesTitled held failed title = WritesBehind held failed (title_text title)

-- so is the text of the clauses of which BASE is a proof, behind a title
pub record WritesBase {W T E : Type 0} (held : W → Option (List ℕ)) (failed : W → Bool)
    (title : Title) (c : Circuit) (optimize : Bool) (extra : List (List Lit)) (old : W)
    (result : Result T E) (new : W) : Type 0 where
  pub lists : List (List (List Lit))
  pub has : HasClauses c optimize lists
  pub formula : IsFormula (length lists) (clauses_in lists ++ extra)
  pub writes : WritesOrStops held failed old result
      (title_text title ++ part_text (codes "c base") (clauses_with lists extra)) new

-- so are the texts of the clauses of which the proofs of a certificate are, behind their title
pub record WritesBoth {W T E : Type 0} (held : W → Option (List ℕ)) (failed : W → Bool)
    (title : Title) (o : Obligations) (optimize : Bool) (old : W) (result : Result T E) (new : W)
    : Type 0 where
  pub base : List (List (List Lit))
  pub base_has : HasClauses o.joint.unrolled optimize base
  pub base_formula : IsFormula (length base) (clauses_in base ++ o.base.extra)
  pub step : List (List (List Lit))
  pub step_has : HasClauses (lists_circuit o.stepped) optimize step
  pub step_formula : IsFormula (length step) (clauses_in step ++ o.step.extra)
  pub writes : WritesOrStops held failed old result
      (title_text title ++ part_text (codes "c base") (clauses_with base o.base.extra)
      ++ part_text (codes "c step") (clauses_with step o.step.extra)) new

-- so is that of a circuit's clauses and further ones, which may be of so many free variables behind
-- those of the nodes, behind a title
pub record WritesFree {W T E : Type 0} (held : W → Option (List ℕ)) (failed : W → Bool)
    (title : Title) (c : Circuit) (free : ℕ) (optimize : Bool) (extra : List (List Lit)) (old : W)
    (result : Result T E) (new : W) : Type 0 where
  pub lists : List (List (List Lit))
  pub has : HasClauses c optimize lists
  pub formula : let all = lists ++ replicate free [] in
      IsFormula (length all) (clauses_in all ++ extra)
  pub writes : let all = lists ++ replicate free [] in
      WritesOrStops held failed old result
      (title_text title ++ dimacs_of (length all) (clauses_in all ++ extra)) new

-- how a command ends whose answer was written so
abbrev pub after_writing : {E : Type 0} → Result Unit E → Result Unit CheckError
after_writing (Ok done) = Ok done
after_writing (Err e) = Err errors.Write

-- the text of a witness of k + 1 steps that a solver's answer says and that was checked in three
-- values
pub record IsKnownText (given : Option (List ℕ)) (e : Encoded) (k : ℕ) (text : List ℕ) : Type 0
  where
    pub witness : Witness
    pub said : SaysWitness given e k witness
    pub steps : length witness.steps ≡ k + 1
    pub known : IsKnownWitness e.circuit witness
    pub exact : text ≡ witness_text witness

-- the answer is such a text, or memory for it ran out
abbrev pub IsTextOf : (List ℕ → Type 0) → Result (List ℕ) CheckError → Type 0
IsTextOf IsSuch (Ok text) = IsSuch text
IsTextOf IsSuch (Err e) = e ≡ errors.Memory

-- the answer is the text of a witness, or says why the solver's answer to a query for step k is
-- refused
abbrev pub IsSolutionOf : Option (List ℕ) → Bool → Encoded → ℕ → Result (List ℕ) CheckError → Type 0
IsSolutionOf given failed e k (Ok text) = IsKnownText given e k text
IsSolutionOf given failed e k (Err (errors.Solution error)) =
    RefusesSolution given e k failed error
IsSolutionOf given failed e k (Err error) = ⊥

-- ---- questions

-- these are the lists of the circuit that is asked about, with the sum of its text, or it is said
-- why there are none
abbrev pub GivesSummed : FileSubject → Option (List ℕ) → File
    → Result (CircuitLists × List ℕ) EditError → Type 0
GivesSummed own bytes f (Ok (lists, sum)) =
    IsFileSubject own f (lists_circuit lists)
    × IsSum (summed_text own bytes (lists_circuit lists)) sum
GivesSummed own bytes f (Err e) = IsUnmadeFile own f e

-- the error of a question that has no clauses
abbrev pub clauses_error : FileSubject → Question → BoundedError → CheckError
clauses_error own q e =
    question_error own q (plans.Refused (record { index = 0; why = whys.Clauses e }))

-- the answer is the text of a question for which there is room, or it is said why there is none
abbrev pub IsTextOfQuestion : ℕ → FileSubject → Question → Circuit → List ℕ
    → Result (List ℕ) CheckError → Type 0
IsTextOfQuestion limit own q m sum (Ok text) = IsQuestionText q m sum text
IsTextOfQuestion limit own q m sum (Err e) =
    (e ≡ errors.Memory)
    ⊎ ((x : BoundedError) × (e ≡ clauses_error own q x) × HasNone limit q.ask m x)

-- ---- certificates

-- these are the lists of the circuit beside that of a certificate, with the sum of its bytes, or it
-- is said why there are none
abbrev pub GivesBeside : Circuit → Option (List ℕ) → File
    → Result (CircuitLists × List ℕ) PairError → Type 0
GivesBeside own others g (Ok (lists, sum)) =
    IsBeside own g (lists_circuit lists) × IsSum others sum
GivesBeside own others g (Err e) = IsUnjoined own g e

-- so of both files
abbrev pub GivesJoint : FileSubject → Option (List ℕ) → Option (List ℕ) → List File
    → Result (CircuitLists × List ℕ × List ℕ) SubjectError → Type 0
GivesJoint own bytes others files (Ok (lists, sum, beside)) =
    AreSummed own bytes others files (lists_circuit lists) sum beside
GivesJoint own bytes others files (Err e) = IsUnmade (subjects.Certified own) files e

-- the parts from which the clauses are written, whichever lists are made of them, ask both
-- questions of the joint circuit, and can be written
pub record AreObligationsOf (optimize : Bool) (m : Circuit) (o : Obligations) : Type 0 where
  pub base : AskWith o.joint.unrolled optimize
      (λ made. IsCircuitQuery m 0 optimize (query_with o.joint.unrolled made)) o.base
  pub step : AskWith (lists_circuit o.stepped) optimize
      (λ made. AsksWindow Plain m 0 optimize made.clauses made.extra) o.step
  pub circuit : IsCircuit (lists_circuit o.stepped)
  pub base_written : AreWrittenFrom o.joint.unrolled optimize o.base
  pub step_written : AreWrittenFrom (lists_circuit o.stepped) optimize o.step

-- they are those, and there is room for them, or it is said why there are none
abbrev pub AsksJoint : ℕ → Bool → Circuit → Result Obligations GoalFault → Type 0
AsksJoint limit optimize m (Ok o) =
    (room_of limit (plan_certified optimize) m ≡ Ok tt) × AreObligationsOf optimize m o
AsksJoint limit optimize m (Err (faults.Plan e)) = room_of limit (plan_certified optimize) m ≡ Err e
AsksJoint limit optimize m (Err faults.Memory) = Unit {0}
AsksJoint limit optimize m (Err (faults.Subject e)) = ⊥

-- what is answered of it
abbrev pub AnswersJoint : ℕ → FileSubject → Bool → Circuit → List ℕ → List ℕ
    → Result (List ℕ) CheckError → Type 0
AnswersJoint limit own optimize m sum beside answer =
    (made : Result (List ℕ) GoalFault) × (answer ≡ obligation_answer own made)
    × TellsOfJoint limit optimize m sum beside made

-- ---- witness circuits

-- the answer is the text of the clauses for a condition of a claim, with these sums, or it is said
-- why there are none
abbrev pub AnswersClaim : ℕ → Condition → Bool → Claim → List ℕ → List ℕ
    → Result (List ℕ) CheckError → Type 0
AnswersClaim limit condition optimize claim sum beside (Ok text) =
    IsObligationText condition optimize (question_in condition claim) sum beside text
AnswersClaim limit condition optimize claim sum beside (Err e) =
    (x : QuestionError)
    × (e ≡ errors.Simulation (simulation.Condition condition (conditions.Question x)))
    × IsNoQuestion limit (question_in condition claim) x
