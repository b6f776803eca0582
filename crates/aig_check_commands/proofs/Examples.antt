-- The comments of a small query, computed; and wrong words and lines, of which the definitions are
-- false.
use Rattle.aig_check_commands.proofs.Words.{◌≡◌, ◌≢◌, ◌⊎◌, ℕ, All, Bool, true, false, None, Ok, Option, List, [], ◌∷◌, ◌++◌, length, refl, ap, subst, sym, arith, length-append, ◌∙◌, inl, inr, Some, same_Some, Err, IsTrue, not, slice_get, slice_index, slice_index_or, lit_to, False, Leaf, AigEdge, Properties, only_false, edge_to, lit_of, no_properties, IsNumber, ByName, one_constraints, Comparison, Constraints, Compared, OfBoth, OfFirst, Alike, Apart, Accepted, Judges, RefutationError, BoundedClauses, IsSettled, Condition, TellsOfCondition, Asked, Command, FileCommand, FileSubject, OpenError, CheckError, TellsOfGiven, file_verdict, shown_line, Window, Acts, OnOpening, Arguments, GivesArguments, setting_words, IsLimited, Action, IsObligationsText, always_line, equal_line, starts_text, AreCommand, FitNone, Give, IsAlone, IsOf, IsOnWitness, IsWhole, command_of, form_of, name_of, of_both, raw_alone, under, WitnessAction, AsksOfBads, ArePrinted, HasNoClauses, IsQuestionText, room_of, Question, WindowClauses}
use Rattle.aig_base.proofs.Words.{Result}
use Rattle.std.specs.Prelude.{◌^◌, codes, decimal, if◌then◌else◌}
use Rattle.std.specs.Fmt.{digits}
use Rattle.aig_circuit.proofs.Words.{Circuit}
use Rattle.aig_check_commands.specs.Titles.{title_text}
use Rattle.aig_witness_circuit_checks.specs.Simulated.{ChecksModel}
use Rattle.aig_witness.specs.declared.error.WitnessError.TheVariants as witness
use Rattle.aig_witness.specs.declared.file.ShowError.TheVariants as shows
use Rattle.aig_witness.specs.declared.fair.file.ShownProperty.TheVariants as properties
use Rattle.aig_check_commands.proofs.Calling.{no_subject, undashed}
use Rattle.aig_command_line.specs.declared.files.OpenError.TheVariants as opening
use Rattle.aig_answers.specs.declared.plans.asking.Ask.TheVariants as asks
use Rattle.aig_answers.specs.declared.plans.errors.PlanError.TheVariants as plans
use Rattle.aig_answers.specs.declared.plans.errors.Why.{Why}
use Rattle.aig_answers.specs.declared.plans.errors.PlanError.{PlanError}
use Rattle.aig_answers.specs.declared.plans.errors.Why.TheVariants as whys
use Rattle.aig_check_commands.specs.declared.error.CheckError.TheVariants as errors
use Rattle.aig_answers.specs.declared.goals.error.GoalFault.{GoalFault}
use Rattle.aig_answers.specs.declared.goals.goal.Goal.{Goal}
use Rattle.aig_answers.specs.declared.goals.goal.Goal.TheVariants as goals
use Rattle.aig_edit_laws.specs.declared.fairness.Fairness.TheVariants.{Alone, Justice}
use Rattle.aig_subjects.specs.declared.subject.FileSubject.TheVariants.{Live, Outputs, Own, Possible, Property, Rounds}
use Rattle.aig_subjects.specs.declared.subject.Subject.{Subject}
use Rattle.aig_subjects.specs.declared.subject.Subject.TheVariants as subjects
use Rattle.aig_check_commands.specs.Checked.{AnswersCheck, answer_of}
use Rattle.aig_check_commands.specs.CommandWords.{has_two_settings}
use Rattle.aig_check_commands.specs.FileSubjects.{AskForNone, line_of, subject_word}
use Rattle.aig_check_commands.specs.declared.command.Action.TheVariants as actions
use Rattle.aig_check_commands.specs.declared.command.Command.TheVariants as asked
use Rattle.aig_check_commands.specs.declared.command.FileCommand.TheVariants as commands
use Rattle.aig_check_commands.specs.Comments.{comments_of, input_lines, literal_line}
use Rattle.aig_check_commands.specs.declared.command.WitnessAction.TheVariants as on_witness

-- ---- words

is_run : (a : Action) (k : ℕ) (d o : Bool) → asked.File commands.Run ≡ command_of a k d o → a ≡
    actions.Run
is_run actions.Run k d o is = refl
is_run a k d o is = cc

is_witness : (a : Action) (k m : ℕ) (d o p : Bool) → asked.File (commands.Witness m p) ≡ command_of
    a k d o → a ≡ actions.Witness
is_witness actions.Witness k m d o p is = refl
is_witness a k m d o p is = cc

-- a command of a circuit of FILE
abbrev of_subject : FileSubject → Command → Asked
of_subject own c = record { subject = own; command = c }

-- no command on a file has raw clauses of one proof alone, or is on a witness circuit
whole_of : (words : List (List ℕ)) (c : Command) (d : FileCommand) (x : Arguments)
    → asked.File d ≡ c → AreCommand words c x → IsWhole words c x
whole_of words c d x is (inl whole) = whole
whole_of words c d x is (inr other) = absurd (none other.1)
  where
    never : (step : Bool) (c : Command) → ¬ (raw_alone step c ≡ Some (asked.File d))
    never step (asked.Check subject goal o p) is =
        by (has_two_settings subject goal) (asked.Check subject goal (not step) step) is refl
      where
        by : (two : Bool) (check : Command)
            → (if two then Some check else None) ≡ Some (asked.File d)
            → check ≡ asked.Check subject goal (not step) step → ⊥
        by true check is same = cc
        by false check is same = cc
    never step c is = cc

    no_file : (a : WitnessAction) (given : Arguments) (further : List (List ℕ))
        → ¬ IsOf a given (asked.File d) further
    no_file on_witness.Certified given further of = let no = of.0 in cc
    no_file on_witness.Obligations given further of = let no = of.1 in cc

    none : ¬ (IsAlone words c x ⊎ (FitNone (IsAlone words) × IsOnWitness words c x))
    none (inl alone) = never alone.step alone.usual (alone.command ∙ ap Some (sym is))
    none (inr on) =
        no_file on.1.action on.1.given x.further
        (subst (λ e. IsOf on.1.action on.1.given e x.further) (sym is) on.1.command)

-- words that do not begin with `--limit` stand alone
no_limit : (words : List (List ℕ)) (limit : ℕ) (rest : List (List ℕ))
    → ((more : List (List ℕ)) → ¬ (words ≡ codes "--limit" ∷ more)) → IsLimited words limit rest
    → rest ≡ words
no_limit words limit rest other (inl g) = absurd (other _ g.spelled)
no_limit words limit rest other (inr g) = g.all

-- words that don't begin with a dash begin with no word of a setting
no_setting : (first : List ℕ) (rest : List (List ℕ)) → slice_index first 0 ≢ 45
    → (word : List ℕ) (more : List (List ℕ)) → slice_index word 0 ≡ 45
    → ¬ (first ∷ rest ≡ word ∷ more)
no_setting first rest other word more dash is =
    let same : first ≡ word = cc in other (ap (λ (w : List ℕ). slice_index w 0) same ∙ dash)

-- they are a command on a file whole, where they give one
plain_whole : (first : List ℕ) (rest : List (List ℕ)) (own : FileSubject) (d : FileCommand)
    → slice_index first 0 ≢ 45 → Give (first ∷ rest) (of_subject own (asked.File d))
    → (x : Arguments) × IsWhole (first ∷ rest) (asked.File d) x
plain_whole first rest own d other give =
    let words = first ∷ rest in
    let none = no_setting first rest other in
    let call = give.3 in
    let all = no_limit words give.0 call.rest (λ more. none (codes "--limit") more refl) call.limited in
    let every =
    (no_subject words own call.more (undashed first rest other) (rw all at call.asked)).1 in
    let said = one_constraints words call.constraints OfBoth call.others words (rw every at call.said)
    ((λ more. none (codes "--constraints") more refl), refl) in
    let usual : Some call.usual ≡ Some (asked.File d) =
    ap (λ s. under s call.usual) (sym said.0) ∙ call.command in
    let is = same_Some _ _ usual in
    (call.arguments, whole_of words (asked.File d) d call.arguments refl (rw (is, said.1) at call.gives))

-- a witness, and a word more
no_more_words : (file witness more : List ℕ) (own : FileSubject)
    → ¬ Give (codes "run" ∷ file ∷ witness ∷ more ∷ []) (of_subject own (asked.File commands.Run))
no_more_words file witness more own give =
    let of = plain_whole (codes "run") (file ∷ witness ∷ more ∷ []) own commands.Run
    (λ is. omega (arith, is)) give in
    let x = of.0 in
    let whole = of.1 in
    let run = is_run whole.action x.step x.distinct x.optimize whole.command in
    let gives = subst (λ a. GivesArguments (name_of a) (form_of a)
    (codes "run" ∷ file ∷ witness ∷ more ∷ [])
    x) run whole.gives in
    let settings = setting_words x.distinct x.optimize in
    let count = ap length gives.spelled in
    let parts = length-append x.paths (gives.steps ++ (x.further ++ settings)) in
    let others = length-append gives.steps (x.further ++ settings) in
    let last = length-append x.further settings in
    let none = ap length gives.step.1 in
    let plain = no_settings x.distinct x.optimize gives.distinct gives.raw in
    omega (arith, count, parts, others, last, none, plain, gives.paths, gives.further)
  where
    no_settings : (d o : Bool) → (IsTrue d → IsTrue false) → (IsTrue (not o) → IsTrue false) →
        length (setting_words d o) ≡ 0
    no_settings false true distinct raw = refl
    no_settings true o distinct raw = let no = distinct refl in cc
    no_settings d false distinct raw = let no = raw refl in cc

-- a proof for a witness
no_other_name : (file steps proof : List ℕ) (k : ℕ) (optimize : Bool) (own : FileSubject)
    → ¬ Give (codes "refuted" ∷ file ∷ steps ∷ proof ∷ []) (of_subject own (asked.File
    (commands.Witness k optimize)))
no_other_name file steps proof k optimize own give =
    let of =
    plain_whole (codes "refuted") (file ∷ steps ∷ proof ∷ []) own (commands.Witness k optimize)
    (λ is. omega (arith, is)) give in
    let x = of.0 in
    let whole = of.1 in
    let is = is_witness whole.action x.step k x.distinct x.optimize optimize whole.command
    in
    let letter = ap (λ (words : List (List ℕ)). slice_index (slice_index_or words 0 []) 0)
    whole.gives.spelled in
    let first = ap (λ a. slice_index (name_of a) 0) is in
    omega (arith, letter, first)

-- words with the name of a comparison
abbrev alike_words : List (List ℕ)
alike_words = codes "equal-alike-by-name" ∷ codes "a" ∷ codes "b" ∷ codes "3" ∷ codes "p" ∷ []

number_3 : IsNumber 3 (codes "3")
number_3 = record {
  some = λ none. cc;
  each = ((omega arith, omega arith), tt);
  value = refl;
  small = omega arith;
}

-- they begin with no word of a setting
no_alike_setting : (word : List ℕ) (more : List (List ℕ)) → slice_index word 0 ≡ 45
    → ¬ (alike_words ≡ word ∷ more)
no_alike_setting = no_setting (codes "equal-alike-by-name") _ (λ is. omega (arith, is))

-- what they give
abbrev alike_arguments : Arguments
alike_arguments = record {
  paths = codes "a" ∷ codes "b" ∷ [];
  step = 3;
  further = codes "p" ∷ [];
  distinct = false;
  optimize = true;
}

-- files are compared with registers that are alike by name
abbrev alike : Constraints → Asked
alike constraints = of_subject Own
    (asked.Check (subjects.Miter (record { starts = Alike ByName; constraints = constraints }))
    (goals.Refuted 3) true true)

alike_whole : IsWhole alike_words (alike OfBoth).command alike_arguments
alike_whole = record {
  action = actions.Equal (Alike ByName);
  gives = record {
    steps = codes "3" ∷ [];
    spelled = refl;
    paths = refl;
    step = (codes "3", refl, number_3);
    further = refl;
    distinct = λ is. is;
    raw = λ is. refl;
  };
  command = refl;
}

alike_by_name : Give alike_words (alike OfBoth)
alike_by_name = (
  2 ^ 24,
  alike_arguments.paths,
  alike_arguments.further,
  record {
    rest = alike_words;
    limited = inr (record {
      other = λ more. no_alike_setting (codes "--limit") more refl;
      all = refl;
      usual = refl;
    });
    more = alike_words;
    asked = (undashed _ _ (λ is. omega (arith, is)), refl);
    constraints = OfBoth;
    others = alike_words;
    said = (λ more. no_alike_setting (codes "--constraints") more refl, refl);
    usual = (alike OfBoth).command;
    arguments = alike_arguments;
    gives = inl alike_whole;
    command = refl;
    allowed = refl;
    on = refl;
    beside = refl;
  },
)

-- and their constraints are compared, too
abbrev compared_words : List (List ℕ)
compared_words = codes "--constraints" ∷ codes "compared" ∷ alike_words

no_compared_setting : (word : List ℕ) (more : List (List ℕ)) → slice_index word 2 ≢ 99
    → ¬ (compared_words ≡ word ∷ more)
no_compared_setting word more other is =
    let letter = ap (λ (words : List (List ℕ)). slice_index (slice_index_or words 0 []) 2) is in
    other (sym letter)

compared_asks_for_none : AskForNone compared_words
compared_asks_for_none Own more made is = absurd (made refl)
compared_asks_for_none (Live (Justice property)) more made is =
    no_compared_setting (codes "--justice") more (λ is. omega (arith, is)) is
compared_asks_for_none (Live Alone) more made is =
    no_compared_setting (codes "--endless") more (λ is. omega (arith, is)) is
compared_asks_for_none (Rounds (Justice property) rounds) more made is =
    no_compared_setting (codes "--justice") more (λ is. omega (arith, is)) is
compared_asks_for_none (Rounds Alone rounds) more made is =
    no_compared_setting (codes "--endless") more (λ is. omega (arith, is)) is
compared_asks_for_none own more made is =
    no_compared_setting (subject_word own) more (λ is. omega (arith, is)) is

constraints_compared : Give compared_words (alike Compared)
constraints_compared = (
  2 ^ 24,
  alike_arguments.paths,
  alike_arguments.further,
  record {
    rest = compared_words;
    limited = inr (record {
      other = λ more. no_compared_setting (codes "--limit") more (λ is. omega (arith, is));
      all = refl;
      usual = refl;
    });
    more = compared_words;
    asked = (compared_asks_for_none, refl);
    constraints = Compared;
    others = alike_words;
    said = refl;
    usual = (alike OfBoth).command;
    arguments = alike_arguments;
    gives = inl alike_whole;
    command = refl;
    allowed = refl;
    on = refl;
    beside = refl;
  },
)

-- only a comparison has them
no_first_run : (c : Command) → under OfFirst (asked.File commands.Run) ≢ Some c
no_first_run c is = cc

-- ---- comments

-- Latch 1 keeps what it has, and is bad where it is false. With one step more input 2 is node 3.
abbrev held : Circuit
held = record only_false {
  nodes =
      record { node_id = 0; typ = False } ∷ record { node_id = 1; typ = Leaf }
      ∷ record { node_id = 2; typ = Leaf } ∷ [];
  inputs = 2 ∷ [];
  latchs = record { input = 1; next = edge_to 1 false; init = None } ∷ [];
  properties = record no_properties { bads = edge_to 1 true ∷ [] };
}

abbrev held_once : Circuit
held_once = record held {
  nodes =
      record { node_id = 0; typ = False } ∷ record { node_id = 1; typ = Leaf }
      ∷ record { node_id = 2; typ = Leaf } ∷ record { node_id = 3; typ = Leaf } ∷ [];
  inputs = 2 ∷ 3 ∷ [];
  properties = record no_properties { bads = edge_to 1 true ∷ edge_to 1 true ∷ [] };
}

held-comments : comments_of held held_once 1
    ≡ codes "c i0 at step 0 is 3\nc i0 at step 1 is 4\n"
    ++ codes "c l0 at step 0 is 2\nc b0 at step 1 is -2\n"
unfolding comments_of input_lines literal_line digits
held-comments = refl

-- an input is named inverted
no_inverted_input : literal_line (codes "c i") 0 1 (lit_to 3 true) ≢ codes "c i0 at step 1 is -4\n"
unfolding literal_line digits
no_inverted_input same = let sign = ap (λ text. slice_get text 18) same in cc

-- ---- lines

-- the step as the bad state's number
no_step_as_number : shown_line (properties.Bad (record { bad = 3; step = 5 })) ≢ codes
    "b5 at step 5\n"
unfolding digits
no_step_as_number same =
    let number : 51 ≡ 53 = ap (λ text. slice_index text 1) same in omega (arith, number)

-- a loop's steps are told, the first one first
loop-told : shown_line (properties.Lasso (record { justice = 0; start = 2; last = 15 })) ≡ codes
    "j0 in a loop from step 2 to 15\n"
unfolding digits
loop-told = refl

-- the text of a check that was passed is the goal's line
answered : (subject : Subject) (goal : Goal) (text : List ℕ) (x : Result (Unit {0}) GoalFault)
    → Ok text ≡ answer_of subject goal x → text ≡ line_of subject goal
answered subject goal text (Ok u) is = cc
answered subject goal text (Err e) is = absurd cc

module _ {S P : Type 0} (left : S → Option (List ℕ)) (failed : S → Bool)
    (given : P → Option (List ℕ)) (given_failed : P → Bool) (limit : ℕ) (base step : Bool)
    (before after : List S) (proofs others : List P) where
  abbrev Answers : Subject → Goal → List ℕ → Type 0
  Answers subject goal text =
      AnswersCheck left failed given given_failed limit subject goal base step before proofs after
      others (Ok text)

  -- a proof for one step is told as one for each
  no_window_told : ¬ Answers (subjects.File Own) (goals.Refuted 1)
      (codes "no bad state at any step, if none up to step 1\n")
  unfolding digits
  no_window_told is =
      let told = answered (subjects.File Own) (goals.Refuted 1) _ is.checked is.told in
      let word : 97 ≡ 115 = ap (λ text. slice_index text 16) told in omega (arith, word)

  -- steps up to one are told as that one
  no_one_step_told : ¬ Answers (subjects.File Own) (goals.RefutedTo 1)
      (codes "no bad state at step 1\n")
  unfolding digits
  no_one_step_told is =
      let told = answered (subjects.File Own) (goals.RefutedTo 1) _ is.checked is.told in
      let word : 97 ≡ 117 = ap (λ text. slice_index text 13) told in omega (arith, word)

  -- what is shown of a justice property is told of the bad states
  no_bad_states_told : (property k : ℕ) (form : Window)
      → ¬ Answers (subjects.File (Live (Justice property))) (goals.Safe k form)
      (codes "no bad state at any step\n")
  no_bad_states_told property k form is =
      let told = answered (subjects.File (Live (Justice property))) (goals.Safe k form) _
      is.checked is.told in
      let letter : 98 ≡ 102 = ap (λ text. slice_index text 3) told in omega (arith, letter)

  -- nor what is shown of runs without end of a justice property
  no_justice_told : (k : ℕ) (form : Window)
      → ¬ Answers (subjects.File (Live Alone)) (goals.Safe k form) (codes "no fair run of j0\n")
  unfolding digits
  no_justice_told k form is =
      let told = answered (subjects.File (Live Alone)) (goals.Safe k form) _ is.checked is.told in
      let letter : 102 ≡ 114 = ap (λ text. slice_index text 3) told in omega (arith, letter)

  -- what is shown of one bad literal is told of all, and what is shown of outputs, or of constraints,
  -- of bad states
  no_others_told : (number k : ℕ) (form : Window)
      → ¬ Answers (subjects.File (Property number)) (goals.Safe k form)
      (codes "no bad state at any step\n")
  no_others_told number k form is =
      let told =
      answered (subjects.File (Property number)) (goals.Safe k form) _ is.checked is.told in
      let letter : 110 ≡ 98 = ap (λ text. slice_index text 0) told in omega (arith, letter)

  no_bads_told : (k : ℕ) (form : Window)
      → ¬ Answers (subjects.File Outputs) (goals.Safe k form) (codes "no bad state at any step\n")
  no_bads_told k form is =
      let told = answered (subjects.File Outputs) (goals.Safe k form) _ is.checked is.told in
      let letter : 98 ≡ 111 = ap (λ text. slice_index text 3) told in omega (arith, letter)

  no_states_told : (k : ℕ) (form : Window)
      → ¬ Answers (subjects.File Possible) (goals.Safe k form) (codes "no bad state at any step\n")
  no_states_told k form is =
      let told = answered (subjects.File Possible) (goals.Safe k form) _ is.checked is.told in
      let letter : 98 ≡ 114 = ap (λ text. slice_index text 3) told in omega (arith, letter)

  -- equal machines are told as a safe one
  no_safety_told : (comparison : Comparison) (k : ℕ)
      → ¬ Answers (subjects.Miter comparison) (goals.Refuted k)
      (codes "no bad state at any step\n")
  no_safety_told comparison k is =
      let told = answered (subjects.Miter comparison) (goals.Refuted k) _ is.checked is.told in
      let letter : 110 ≡ 101 = ap (λ text. slice_index text 0) told in omega (arith, letter)

  -- machines whose registers start alike are told as those are whose registers start apart
  no_apart_told : (k : ℕ) → ¬ Answers (subjects.Miter (of_both (Alike ByName))) (goals.Refuted k)
      (equal_line (of_both Apart) k)
  no_apart_told k is =
      let told = answered (subjects.Miter (of_both (Alike ByName))) (goals.Refuted k) _ is.checked
      is.told in
      let count = ap length told in
      let parts = length-append (decimal k) (10 ∷ []) in
      let more = length-append (decimal k) (starts_text (Alike ByName) ++ 10 ∷ []) in
      omega (arith, count, parts, more)

-- what constraints say is told before how registers begin
constraints_told : equal_line (record { starts = Alike ByName; constraints = OfFirst }) 7
    ≡ codes "equal at step 7, under the constraints of the first alone"
    ++ codes ", registers with open start alike by name\n"
unfolding digits
constraints_told = refl

compared_told : always_line (record { starts = Apart; constraints = Compared })
    ≡ codes "equal at every step, constraints too\n"
compared_told = refl

-- the clauses of BASE under the name of those of STEP
no_step_first : (optimize : Bool) (m : Circuit) (sum beside text rest : List ℕ)
    (is : IsObligationsText optimize m sum beside text)
    → is.base ≢ codes "c step" ++ rest
no_step_first optimize m sum beside text rest is same =
    let letter : 115 ≡ 98 = ap (λ text. slice_index text 2) (sym same ∙ is.base_exact) in
    omega (arith, letter)

-- clauses without their title
no_bare_clauses : (optimize : Bool) (m : Circuit) (sum beside rest : List ℕ)
    → ¬ IsObligationsText optimize m sum beside (codes "c base" ++ rest)
unfolding title_text
no_bare_clauses optimize m sum beside rest is =
    let letter : 98 ≡ 97 = ap (λ text. slice_index text 2) is.exact in omega (arith, letter)

-- ---- questions up to a step

-- where no solver is needed, the further clause is that the constant is true
settled_extra : (c : Circuit) (k : ℕ) (optimize : Bool) (made : BoundedClauses)
    → AsksOfBads c k optimize made → IsSettled made → made.extra ≡ (lit_to 0 true ∷ []) ∷ []
settled_extra c k optimize made asks settled =
    let outputs = subst (λ (p : Properties AigEdge). All (λ e. e ≡ edge_to 0 false) p.outputs)
    asks.asks.properties settled in
    asks.exact ∙ ap (λ e. (lit_of e ∷ []) ∷ []) (outputs 0 (edge_to 0 false) (omega arith))

-- nothing is printed, or a line that claims something
no_silent_question : (q : Question) (m : Circuit) (sum : List ℕ) → ¬ IsQuestionText q m sum []
unfolding title_text
no_silent_question q m sum is =
    let letter : 0 ≡ 99 = ap (λ text. slice_index text 0) is.exact in omega (arith, letter)

no_claim : (q : Question) (m : Circuit) (sum : List ℕ) (k : ℕ)
    → ¬ IsQuestionText q m sum (line_of (subjects.File Own) (goals.RefutedTo k))
unfolding title_text
no_claim q m sum k is =
    let letter : 110 ≡ 99 = ap (λ text. slice_index text 0) is.exact in omega (arith, letter)

-- a window has comments
no_window_comments : (k letter : ℕ) (form : Window) (optimize : Bool) (m : Circuit)
    (comments : List ℕ) (made : WindowClauses)
    → ¬ ArePrinted (asks.Window k form) optimize m (letter ∷ comments) made
no_window_comments k letter form optimize m comments made printed =
    let none : letter ∷ comments ≡ [] = printed.1 in cc

-- ---- errors

-- why a question of a plan is refused
abbrev why_in : RefutationError → PlanError → Why
why_in e (plans.Refused refused) = refused.why
why_in e p = whys.Refutation e

-- clauses are refused as a proof would be
no_proof_of_clauses : (limit : ℕ) (q : Question) (m : Circuit) (e : RefutationError)
    → room_of limit (q ∷ []) m ≡ Ok tt
    → ¬ HasNoClauses limit q m (plans.Refused (record { index = 0; why = whys.Refutation e }))
no_proof_of_clauses limit q m e room (inl refused) = let no = sym room ∙ refused in cc
no_proof_of_clauses limit q m e room (inr told) =
    let no : whys.Refutation e ≡ whys.Clauses told.1.0 = ap (why_in e) told.1.1 in cc

-- a witness that is refused is told as a read that failed, where none did
no_failed_read : (limit : ℕ) (old new given : Option (List ℕ))
    → ¬ TellsOfGiven commands.Run limit old new given false (errors.Show (shows.Witness
    witness.Stream))
no_failed_read limit old new given tells = let failed : false ≡ true = tells in cc

-- a file is answered, a read of which failed
no_answer_after_a_failure : (c : FileCommand) (limit : ℕ) (old new : Option (List ℕ))
    → ¬ Judges (file_verdict c limit) limit old new true Accepted
no_answer_after_a_failure c limit old new said =
    let failed : true ≡ false = (said.whole tt).0 in cc

-- a machine is told to be safe, though a condition of the certificate isn't shown
no_condition_left_out : (optimize : Bool) (limit : ℕ) (texts : Condition → Option (List ℕ))
    (node : ℕ → Option ℕ) (m w : Circuit) (condition : Condition)
    → ¬ TellsOfCondition limit optimize texts node m w condition (Ok tt)
    → ¬ ChecksModel limit optimize texts node m w (Ok tt)
no_condition_left_out _ _ _ _ _ _ condition refused told = refused (told.1 condition)

-- memory is told in the place of a file that can't be opened
no_memory_before_files : {F W : Type 0} (left : F → Option (List ℕ)) (failed : F → Bool)
    (held : W → Option (List ℕ)) (write_failed : W → Bool) (limit : ℕ) (c : Asked) (path : List ℕ)
    (paths further : List (List ℕ)) (w made : W) (result : Result (Unit {0}) CheckError)
    → result ≡ Err errors.Memory
    → ¬ Acts (λ p file. file ≡ Err opening.Refused) left failed held write_failed limit c
    (path ∷ paths) further w result made
no_memory_before_files {F} {W} left failed held write_failed limit c path paths further w made
    result memory acts =
    on _ acts.file acts.opened acts.leads
  where
    on : (Holds : F → Type 0) (file : Result F OpenError) → file ≡ Err opening.Refused
        → ¬ OnOpening Holds (λ e. (result ≡ Err e) × (made ≡ w)) file
    on Holds (Ok f) is leads = cc
    on Holds (Err opening.Refused) is leads = let told = leads.0 in cc
