-- What the contract of `aigcheck` says of words and files that are known.
use Rattle.aig_base.proofs.Words.{◌≡◌, ◌≢◌, ℕ, ◌+◌, ◌^◌, ◌<◌, ◌≤◌, Bool, true, false, IsTrue, List, [], ◌∷◌, ◌++◌, inl, inr, length, length-append, Option, None, Some, Result, Ok, Err, IfOk, Appends, IsAtEnd, refl, sym, ap, subst, ◌∙◌, arith, ◌==◌, false≢true, codes}
use Rattle.std.specs.Prelude.{decimal, replicate, slice_index, take}
use Rattle.std.proofs.lemmas.Fmt.{decimal_digit}
use Rattle.aig_format.specs.File.{File}
use Rattle.aig_format.specs.Fits.{Accepts}
use Rattle.aig_format.specs.Text.{IsNumber}
use Rattle.aig_answers.specs.Goals as showing
use Rattle.aig_answers.specs.Goals.{ChecksGoal, TellsOfGoal}
use Rattle.aig_answers.specs.declared.goals.error.GoalFault.{GoalFault}
use Rattle.aig_answers.specs.declared.goals.goal.Goal.{Goal}
use Rattle.aig_reader.specs.Verdicts.{Accepted, Verdict}
use Rattle.aig_subjects.specs.Reads.{AreReadAs}
use Rattle.aig_subjects.specs.Subjects.{file_count}
use Rattle.aig_subjects.specs.declared.subject.Subject.{Subject}
use Rattle.aig_subjects.specs.declared.subject.Subject.TheVariants as subjects
use Rattle.aig_join.specs.declared.comparison.Constraints.TheVariants.{OfBoth}
use Rattle.aig_join.specs.declared.starts.Matching.TheVariants.{ByName, ByOrder}
use Rattle.aig_join.specs.declared.starts.Starts.{Starts}
use Rattle.aig_join.specs.declared.starts.Starts.TheVariants.{Alike, Apart}
use Rattle.aig_reader.specs.Reading.{IsReadAs}
use Rattle.aig_command_line.specs.Arguments.{AreStep, Arguments, GivesArguments, further_of, setting_words}
use Rattle.aig_command_line.specs.declared.status.Ending.TheVariants.{Done}
use Rattle.aig_command_line.specs.declared.files.OpenError.{OpenError}
use Rattle.aig_command_line.specs.Ending.{ended}
use Rattle.aig_check_commands.specs.declared.command.Action.{Action}
use Rattle.aig_check_commands.specs.declared.command.Action.TheVariants as actions
use Rattle.aig_check_commands.specs.declared.command.WitnessAction.TheVariants as witness
use Rattle.aig_check_commands.specs.declared.command.Asked.{Asked}
use Rattle.aig_check_commands.specs.declared.command.Command.{Command}
use Rattle.aig_check_commands.specs.declared.command.Command.TheVariants as commands
use Rattle.aig_check_commands.specs.declared.command.FileCommand.{FileCommand}
use Rattle.aig_check_commands.specs.declared.command.FileCommand.TheVariants as on_file
use Rattle.aig_check_commands.specs.declared.error.CheckError.{CheckError}
use Rattle.aig_check_commands.specs.Acting.{Acts, RanAll, RanOn}
use Rattle.aig_check_commands.specs.CommandWords.{AreCommand, FitNone, IsAlone, IsCall, IsWhole, command_of, equal_name, form_of, name_of, path_count, paths_of, raw_alone, raw_word}
use Rattle.aig_check_commands.specs.FileSubjects.{AskForNone, GiveFairness, GiveSubject, fairness_word, is_asked, line_of}
use Rattle.aig_check_commands.specs.Checked.{RunsGoal, answer_of}
use Rattle.aig_check_commands.specs.Simulating.{RunsSimulated}
use Rattle.aig_witness_circuit_checks.specs.Simulated.{Proofs, proofs_of}
use Rattle.aig_subjects.specs.declared.subject.FileSubject.{FileSubject}
use Rattle.aig_edit_laws.specs.declared.fairness.Fairness.{Fairness}
use Rattle.aig_edit_laws.specs.declared.fairness.Fairness.TheVariants.{Alone, Justice}
use Rattle.aig_subjects.specs.declared.subject.FileSubject.TheVariants.{Live, Own, Rounds}
use Rattle.aig_check_commands.specs.Opening.{AreOpened, OnOpening, OpensAll, unopened}
use Rattle.aig_check_commands.specs.Running.{Answers, IsAskedBy}
use Rattle.aig_check_commands.proofs.check_lemmas.Outcomes.{text_of_printed}
use Rattle.aig_callers.specs.Instances.{AreFilesOf, AreNamed, IsOf, Shows, ShowsAsked, ShowsGoal, ShowsSimulated}
use Rattle.aig_callers.proofs.Asking.{all_taken}
use Rattle.aig_callers.proofs.Text.{all_held}

-- ---- files

-- a file that a command asks about is one within the limit
asked_file : (c : FileCommand) (bytes : List ℕ) (f : File) → IsAskedBy c (2 ^ 24) bytes f
    → Accepts bytes (2 ^ 24) f
asked_file (on_file.Witness k optimize) bytes f is = is.0.0
asked_file on_file.Run bytes f is = is
asked_file (on_file.WitnessTo k optimize) bytes f is = is.0

module _ {F : Type 0} (opens : List ℕ → Result F OpenError → Type 0) where
  -- where no error is told, all files are opened
  all_opened : (paths : List (List ℕ)) (Holds : List F → Type 0) (Fails : CheckError → Type 0)
      → ((e : CheckError) → ¬ Fails e) → OpensAll opens paths Holds Fails
      → (files : List F) × AreOpened opens paths files × Holds files
  all_opened [] Holds Fails never holds = ([], tt, holds)
  all_opened (path ∷ paths) Holds Fails never o =
      by (λ f. all_opened paths (λ fs. Holds (f ∷ fs)) Fails never) o.file o.opened o.leads
    where
      by : ((f : F) → OpensAll opens paths (λ fs. Holds (f ∷ fs)) Fails
          → (files : List F) × AreOpened opens paths files × Holds (f ∷ files))
          → (file : Result F OpenError) → opens path file
          → OnOpening (λ f. OpensAll opens paths (λ fs. Holds (f ∷ fs)) Fails) Fails file
          → (files : List F) × AreOpened opens (path ∷ paths) files × Holds files
      by more (Ok f) is leads = let rest = more f leads in (f ∷ rest.0, (is, rest.1), rest.2)
      by more (Err e) is leads = absurd (never (unopened e) leads)

module _ {F T : Type 0} (left : F → Option (List ℕ)) (failed : F → Bool) (value : T) where
  -- these files are read
  abbrev Read : (List File → T → Type 0) → List Verdict → List F → List F → Type 0
  Read Means said before after = AreReadAs left failed (2 ^ 24) Means said before after value

  -- the first of them is what its bytes are, where these are known
  first_read : (bytes : List ℕ) (Means : List File → T → Type 0) (said : List Verdict) (r : F)
      (before after : List F) → left r ≡ Some bytes
      → Read Means (Accepted ∷ said) (r ∷ before) after
      → IsOf bytes (λ f. (rest : List F) × Read (λ files. Means (f ∷ files)) said before rest)
  first_read bytes Means said r before [] is read = absurd read
  first_read bytes Means said r before (rest ∷ after) is (told, read) = (
    read.file,
    subst (λ b. Accepts b (2 ^ 24) read.file)
        (all_taken bytes read.bytes (left r) (left rest) is read.taken (told.whole tt).1)
        read.holds,
    (after, read.means),
  )

  -- the last is some file
  last_read : (Means : List File → T → Type 0) (before after : List F)
      → Read Means (Accepted ∷ []) before after → (f : File) × Means (f ∷ []) value
  last_read Means [] after read = absurd read
  last_read Means (r ∷ before) [] read = absurd read
  last_read Means (r ∷ before) (rest ∷ after) (told, read) = (read.file, read.means.0)

-- ---- what was printed

module _ {F W : Type 0} (file other : List ℕ) (left : F → Option (List ℕ)) (failed : F → Bool)
    (held : W → Option (List ℕ)) (write_failed : W → Bool) where
  -- what opening a path gives
  abbrev pub OpensFiles : List ℕ → Result F OpenError → Type 0
  OpensFiles path opened = IfOk opened (λ source.
      (path ≡ codes "FILE" → left source ≡ Some file)
      × (path ≡ codes "OTHER" → left source ≡ Some other))

  -- the file beside FILE is OTHER, where there are two
  abbrev Beside : ℕ → List F → Type 0
  Beside count [] = Unit {0}
  Beside count (s ∷ files) = count ≡ 2 → left s ≡ Some other

  no_beside : (count : ℕ) (files : List F) → count ≡ 1 → Beside count files
  no_beside count [] one = tt
  no_beside count (s ∷ files) one = λ two. absurd (omega (arith, one, two))

  -- the files of a subject are what the bytes are
  files_read : {T : Type 0} (value : T) (Means : List File → T → Type 0)
      (Holds : List File → Type 0) → ((fs : List File) → Means fs value → Holds fs)
      → (subject : Subject) (r : F) (files after : List F) → left r ≡ Some file
      → Beside (path_count subject) files
      → AreReadAs left failed (2 ^ 24) Means (replicate (file_count subject) Accepted)
      (take (file_count subject) (r ∷ files)) after value
      → AreFilesOf subject file other Holds
  files_read value Means Holds so (subjects.File own) r files after is beside read =
      let one = first_read left failed value file Means [] r [] after is read in
      (one.0, one.1, so (one.0 ∷ []) one.2.1.0)
  files_read value Means Holds so (subjects.Miter comparison) r [] after is beside read =
      absurd
      (first_read left failed value file Means (Accepted ∷ []) r [] after is read).2.1
  files_read value Means Holds so (subjects.Miter comparison) r (s ∷ files) after is beside read =
      let one = first_read left failed value file Means (Accepted ∷ []) r (s ∷ []) after is read in
      let two = first_read left failed value other (λ fs. Means (one.0 ∷ fs)) [] s [] one.2.0
      (beside refl) one.2.1 in
      (one.0, one.1, (two.0, two.1, so (one.0 ∷ two.0 ∷ []) two.2.1.0))
  files_read value Means Holds so (subjects.Certified own) r [] after is beside read =
      absurd
      (first_read left failed value file Means (Accepted ∷ []) r [] after is read).2.1
  files_read value Means Holds so (subjects.Certified own) r (s ∷ files) after is beside read =
      let one = first_read left failed value file Means (Accepted ∷ []) r (s ∷ []) after is read in
      let two = first_read left failed value other (λ fs. Means (one.0 ∷ fs)) [] s [] one.2.0
      (beside refl) one.2.1 in
      (one.0, one.1, (two.0, two.1, so (one.0 ∷ two.0 ∷ []) two.2.1.0))
  files_read value Means Holds so (subjects.MiterCertified comparison) r [] after is beside read =
      absurd
      (first_read left failed value file Means (Accepted ∷ Accepted ∷ []) r [] after is read).2.1
  files_read value Means Holds so (subjects.MiterCertified comparison) r (s ∷ files) after is beside
      read =
      let one = first_read left failed value file Means (Accepted ∷ Accepted ∷ []) r
      (s ∷ take 1 files) after is read in
      let two = first_read left failed value other (λ fs. Means (one.0 ∷ fs)) (Accepted ∷ []) s
      (take 1 files) one.2.0 (beside refl) one.2.1 in
      let three = last_read left failed value (λ fs. Means (one.0 ∷ two.0 ∷ fs)) (take 1 files)
      two.2.0 two.2.1 in (
        one.0,
        one.1,
        (two.0, two.1, (three.0, so (one.0 ∷ two.0 ∷ three.0 ∷ []) three.1)),
      )

  module _ (w made : W) (out : List ℕ) (empty : held w ≡ Some []) (all : held made ≡ Some out)
    where
      -- a line that was written is all
      whole : (text : List ℕ) → Appends (held w) (held made) text → out ≡ text
      whole text appends = all_held (held w) (held made) out text empty all appends

      -- a file that was read to its end, and what is meant for it
      read_of : {T : Type 0} {Holds : List ℕ → File → Type 0} {Means : File → T → Type 0} {x : T}
          (r rest : F) → left r ≡ Some file → ((bytes : List ℕ) (f : File) → Holds bytes f
          → Accepts bytes (2 ^ 24) f) → IsReadAs Holds Means (left r) (left rest) x
          → IsAtEnd (left rest) → IsOf file (λ f. Means f x)
      read_of r rest is accepts read end =
          let taken = all_taken file read.bytes (left r) (left rest) is read.taken end in (
            read.file,
            subst (λ b. Accepts b (2 ^ 24) read.file) taken
                (accepts read.bytes read.file read.holds),
            read.means,
          )

      -- the line of a goal was written
      goal_shown : (subject : Subject) (goal : Goal) (base step : Bool) (r : F)
          (files after proofs used : List F) (u : Unit {0}) → left r ≡ Some file
          → Beside (path_count subject) files
          → RunsGoal left failed left failed held write_failed (2 ^ 24) subject goal base step
          (take (file_count subject) (r ∷ files)) proofs w (Ok u) after used made
          → ShowsGoal subject goal file other out
      goal_shown subject goal base step r files after proofs used u is beside ran =
          let told = text_of_printed ran in
          by told.0 told.1.checked told.1.told told.1.checks told.2
        where
          by : (text : List ℕ) (x : Result (Unit {0}) GoalFault)
              → Ok text ≡ answer_of subject goal x
              → ChecksGoal left failed left failed (2 ^ 24) subject goal base step
              (take (file_count subject) (r ∷ files)) proofs x after used
              → Appends (held w) (held made) text → ShowsGoal subject goal file other out
          by text (Err e) same checks appends = cc
          by text (Ok done) same checks appends =
              let line : text ≡ line_of subject goal = cc in
              files_read (Ok done)
              (TellsOfGoal left failed (2 ^ 24) subject goal base step proofs used)
              (λ fs. (out ≡ line_of subject goal) × showing.Shows subject goal fs)
              (λ fs tells. (whole text appends ∙ line, tells.0)) subject r files after is beside
              checks.reads.reads

      -- a command on FILE itself was run
      file_shown : (c : FileCommand) (r rest p used : F) (u : Unit {0}) → left r ≡ Some file
          → RanAll left failed held write_failed (2 ^ 24) Own (commands.File c) (r ∷ p ∷ []) w
          (Ok u)
          (rest ∷ used ∷ []) made
          → Shows Own (commands.File c) file other out
      file_shown c r rest p used u is ran =
          let told = text_of_printed ran in
          let of = read_of r rest is (asked_file c) told.1.text (told.1.verdict.whole tt).1 in (
            of.0,
            of.1,
            (left p, subst (Answers c (left p) of.0) (sym (whole told.0 told.2)) of.2),
          )

      -- proofs were checked of a witness circuit
      simulated_shown : (own : FileSubject) (optimize : Bool) (r rest s next : F)
          (ps used : Proofs F) (u : Unit {0}) → left r ≡ Some file
          → RunsSimulated left failed left failed left failed held write_failed (2 ^ 24) own optimize
          r s ps w (Ok u) rest next used made
          → ShowsSimulated own file out
      simulated_shown own optimize r rest s next ps used u is ran =
          let told = text_of_printed ran in
          let of = read_of r rest is (λ bytes f holds. holds) (told.1.reads.answer refl refl)
          (told.1.reads.verdict.whole tt).1 in
          (of.0, of.1, (whole told.0 told.2 ∙ of.2.means.1, of.2.means.0.0))

      -- what was done with the files is so of FILE and OTHER
      all_shown : (own : FileSubject) (c : Command) (r : F) (files others : List F) (u : Unit {0})
          → left r ≡ Some file → Beside (paths_of c) files
          → RanAll left failed held write_failed (2 ^ 24) own c (r ∷ files) w (Ok u) others made
          → Shows own c file other out
      all_shown own (commands.Check (subjects.File f) goal base step) r files others u is beside
          ran =
          goal_shown (subjects.File own) goal base step r files _ _ _ u is beside ran
      all_shown own (commands.Check (subjects.Certified f) goal base step) r files others u is
          beside ran =
          goal_shown (subjects.Certified own) goal base step r files _ _ _ u is beside ran
      all_shown own (commands.Check (subjects.Miter comparison) goal base step) r files others u is
          beside ran =
          goal_shown (subjects.Miter comparison) goal base step r files _ _ _ u is beside ran
      all_shown own (commands.Check (subjects.MiterCertified comparison) goal base step) r files
          others u is beside ran =
          goal_shown (subjects.MiterCertified comparison) goal base step r files _ _ _ u is beside
          ran
      all_shown own (commands.Simulated o) r (s ∷ a ∷ b ∷ c ∷ d ∷ e ∷ [])
          (rest ∷ next ∷ a_rest ∷ b_rest ∷ c_rest ∷ d_rest ∷ e_rest ∷ []) u is beside ran =
          simulated_shown own o r rest s next (proofs_of a b c d e)
          (proofs_of a_rest b_rest c_rest d_rest e_rest) u is ran
      all_shown own (commands.Simulated o) r files others u is beside ran = absurd ran
      all_shown Own (commands.File c) r (p ∷ []) (rest ∷ used ∷ []) u is beside ran =
          file_shown c r rest p used u is ran
      all_shown own (commands.File c) r files others u is beside ran = absurd ran
      all_shown own c r files others u is beside ran = tt

      on_shown : (c : Asked) (paths further : List (List ℕ)) (files others : List F) (u : Unit {0})
          → AreNamed (paths_of c.command) paths → AreOpened OpensFiles (paths ++ further) files
          → RanOn left failed held write_failed (2 ^ 24) c files w (Ok u) others made
          → ShowsAsked c file other out
      on_shown c (path ∷ []) further (r ∷ files) others u named are ran =
          all_shown c.subject c.command r files others u (are.0.0 named.1)
          (no_beside (paths_of c.command) files named.0) ran
      on_shown c (path ∷ next ∷ []) further (r ∷ s ∷ files) others u named are ran =
          all_shown c.subject c.command r (s ∷ files) others u (are.0.0 named.0)
          (λ two. are.1.0.1 named.1) ran
      on_shown c (path ∷ next ∷ []) further (r ∷ []) others u named are ran = absurd are.1
      on_shown c (path ∷ paths) further [] others u named are ran = absurd are
      on_shown c paths further files others u named are ran = absurd named

      -- a program that is done has printed it
      pub printed_done : (c : Asked) (paths further : List (List ℕ))
          → AreNamed (paths_of c.command) paths → (done : Result (Unit {0}) CheckError)
          → Done ≡ ended done
          → Acts OpensFiles left failed held write_failed (2 ^ 24) c paths further w done made
          → ShowsAsked c file other out
      printed_done c paths further named (Ok u) is acts =
          let opened = all_opened OpensFiles (paths ++ further) _ _
          (λ e told. let h = told.0 in cc) acts in
          elim opened.2 [
            | inl ran ↦ on_shown c paths further opened.0 ran.0 u named opened.1 ran.1
            | inr short ↦ (let h = short.0 in cc)
          ]
      printed_done c paths further named (Err e) is acts = cc

-- ---- words

-- whether the first word begins with a dash
abbrev dashed : List (List ℕ) → Bool
dashed ((c ∷ cs) ∷ words) = c == 45
dashed words = false

no_dash : (words : List (List ℕ)) (cs : List ℕ) → dashed words ≡ false
    → (more : List (List ℕ)) → ¬ (words ≡ (45 ∷ cs) ∷ more)
no_dash words cs plain more is = false≢true (sym plain ∙ ap dashed is)

-- nor with a word that asks for another circuit of FILE
no_subject_word : (words : List (List ℕ)) → dashed words ≡ false → AskForNone words
no_subject_word words plain Own more made is = absurd (made refl)
no_subject_word words plain (Live (Justice property)) more made is =
    false≢true (sym plain ∙ ap dashed is)
no_subject_word words plain (Live Alone) more made is = false≢true (sym plain ∙ ap dashed is)
no_subject_word words plain (Rounds (Justice property) rounds) more made is =
    false≢true (sym plain ∙ ap dashed is)
no_subject_word words plain (Rounds Alone rounds) more made is =
    false≢true (sym plain ∙ ap dashed is)
no_subject_word words plain own more made is = false≢true (sym plain ∙ ap dashed is)

-- the words of a command with all its settings left out
abbrev pub plain_words : Action → List (List ℕ) → List (List ℕ) → List (List ℕ)
    → List (List ℕ)
plain_words a paths steps further = name_of a ∷ (paths ++ (steps ++ (further ++ [])))

-- what these give
abbrev pub plainly : List (List ℕ) → ℕ → List (List ℕ) → Arguments
plainly paths k further = record {
  paths = paths;
  step = k;
  further = further;
  distinct = false;
  optimize = true;
}

module _ (own : FileSubject) (words : List (List ℕ)) where
  -- words that give a command, and no limit and no constraints before it
  asked_call : (more : List (List ℕ)) (c : Command) (a : Arguments)
      → ((rest : List (List ℕ)) → ¬ (words ≡ codes "--limit" ∷ rest))
      → GiveSubject own words more
      → dashed more ≡ false → AreCommand more c a → IsTrue (is_asked own c)
      → IsCall words (2 ^ 24) (record { subject = own; command = c }) a.paths a.further
  asked_call more c a no_limit asked plain gives allowed = record {
    rest = words;
    limited = inr (record { other = no_limit; all = refl; usual = refl });
    more = more;
    asked = asked;
    constraints = OfBoth;
    others = more;
    said = (no_dash more _ plain, refl);
    usual = c;
    arguments = a;
    gives = gives;
    command = refl;
    allowed = allowed;
    on = refl;
    beside = refl;
  }

  -- so do those of a command with all its settings left out
  given_call : (a : Action) (paths steps further : List (List ℕ)) (k : ℕ)
      → ((more : List (List ℕ)) → ¬ (words ≡ codes "--limit" ∷ more))
      → GiveSubject own words (plain_words a paths steps further)
      → dashed (plain_words a paths steps further) ≡ false → length paths ≡ (form_of a).paths
      → AreStep (form_of a).step k steps → length further ≡ further_of (form_of a) k
      → IsTrue (is_asked own (command_of a k false true))
      → IsCall words (2 ^ 24) (record { subject = own; command = command_of a k false true })
      paths further
  given_call a paths steps further k no_limit asked plain count step beside allowed =
      asked_call (plain_words a paths steps further) (command_of a k false true)
      (plainly paths k further) no_limit asked plain (inl (record {
        action = a;
        gives = record {
          steps = steps;
          spelled = refl;
          paths = count;
          step = step;
          further = beside;
          distinct = λ is. absurd (false≢true is);
          raw = λ is. absurd (false≢true is);
        };
        command = refl;
      })) allowed

-- of FILE's own circuit
pub plain_call : (a : Action) (paths steps further : List (List ℕ)) (k : ℕ)
    → dashed (plain_words a paths steps further) ≡ false → length paths ≡ (form_of a).paths
    → AreStep (form_of a).step k steps → length further ≡ further_of (form_of a) k
    → IsTrue (is_asked Own (command_of a k false true))
    → IsCall (plain_words a paths steps further) (2 ^ 24)
    (record { subject = Own; command = command_of a k false true }) paths further
plain_call a paths steps further k plain count step beside allowed =
    given_call Own (plain_words a paths steps further) a paths steps further k
    (no_dash (plain_words a paths steps further) _ plain) (
      no_subject_word
          (plain_words a paths steps further) plain,
      refl,
    ) plain count step beside allowed

-- a digit
pub digit : (n : ℕ) → n < 10 → IsNumber n ((48 + n) ∷ [])
digit n low = record {
  some = λ none. cc;
  each = ((omega (arith, low), omega (arith, low)), tt);
  value = omega (arith, low);
  small = omega (arith, low);
}

-- a line that ends with one
pub digit_line : (text : List ℕ) (n : ℕ) → n < 10
    → text ++ (decimal n ++ 10 ∷ []) ≡ text ++ ((48 + n) ∷ 10 ∷ [])
digit_line text n low = ap (λ d. text ++ (d ++ 10 ∷ [])) (decimal_digit n low)

-- a letter of the first word
abbrev letter : List (List ℕ) → ℕ
letter [] = 0
letter (word ∷ words) = slice_index word 2

-- nor is the word of a limit one of those of fair runs
fair_letter : (fairness : Fairness) → slice_index (fairness_word fairness) 2 ≢ 108
fair_letter (Justice property) is = omega (arith, is)
fair_letter Alone is = omega (arith, is)

-- words that ask for another circuit of FILE begin with no limit
no_limit_word : (own : FileSubject) (words rest more : List (List ℕ)) → own ≢ Own
    → GiveSubject own words rest → ¬ (words ≡ codes "--limit" ∷ more)
no_limit_word Own words rest more made given is = absurd (made refl)
no_limit_word (Live fairness) words rest more made given is =
    fair_letter fairness (ap letter (sym given.1 ∙ is))
no_limit_word (Rounds fairness rounds) words rest more made given is =
    fair_letter fairness (ap letter (sym given.1 ∙ is))
no_limit_word own words rest more made given is =
    omega (arith, ap letter (sym given.1 ∙ is))

-- so they give a command about it
pub own_call : (own : FileSubject) (front : List (List ℕ)) (a : Action)
    (paths steps further : List (List ℕ)) (k : ℕ) → own ≢ Own
    → GiveSubject own (front ++ plain_words a paths steps further)
    (plain_words a paths steps further)
    → dashed (plain_words a paths steps further) ≡ false → length paths ≡ (form_of a).paths
    → AreStep (form_of a).step k steps → length further ≡ further_of (form_of a) k
    → IsTrue (is_asked own (command_of a k false true))
    → IsCall (front ++ plain_words a paths steps further) (2 ^ 24)
    (record { subject = own; command = command_of a k false true }) paths further
own_call own front a paths steps further k made given plain count step beside allowed =
    given_call own (front ++ plain_words a paths steps further) a paths steps further k
    (λ more. no_limit_word own _ _ more made given) given plain count step beside allowed

-- about fair runs
pub fair_call : (fairness : Fairness) (front : List (List ℕ)) (a : Action)
    (paths steps further : List (List ℕ)) (k : ℕ)
    → GiveFairness fairness (front ++ plain_words a paths steps further)
    (plain_words a paths steps further)
    → dashed (plain_words a paths steps further) ≡ false → length paths ≡ (form_of a).paths
    → AreStep (form_of a).step k steps → length further ≡ further_of (form_of a) k
    → IsTrue (is_asked (Live fairness) (command_of a k false true))
    → IsCall (fairness_word fairness ∷ (front ++ plain_words a paths steps further)) (2 ^ 24)
    (record { subject = Live fairness; command = command_of a k false true }) paths further
fair_call fairness front a paths steps further k given plain =
    own_call (Live fairness) (fairness_word fairness ∷ front) a paths steps further k (λ is. cc) (
      front ++ plain_words a paths steps further,
      refl,
      (
        plain_words a paths steps further,
        given,
        (no_dash (plain_words a paths steps further) _ plain, refl),
      ),
    ) plain

-- ---- a witness circuit

-- that of the words that name comparisons
equal_letter : (starts : Starts) → slice_index (equal_name starts) 2 ≡ 117
equal_letter Apart = refl
equal_letter (Alike ByOrder) = refl
equal_letter (Alike ByName) = refl

-- of the commands that take no witness circuit one alone has the word `certified`
only_certified : (a : Action) (words : List (List ℕ)) (x : Arguments) → letter words ≡ 114
    → GivesArguments (name_of a) (form_of a) words x → a ≡ actions.Certified
only_certified actions.Certified words x is g = refl
only_certified (actions.Equal starts) words x is g =
    absurd (omega (arith, is, ap letter g.spelled, equal_letter starts))
only_certified (actions.AlwaysEqual starts) words x is g =
    absurd (omega (arith, is, ap letter g.spelled, equal_letter starts))
only_certified (actions.EqualBy starts) words x is g =
    absurd (omega (arith, is, ap letter g.spelled, equal_letter starts))
only_certified a words x is g = absurd (omega (arith, is, ap letter g.spelled))

-- its words are fewer than those of a proof for each condition
few_words : (words : List (List ℕ)) (x : Arguments)
    → GivesArguments (name_of actions.Certified) (form_of actions.Certified) words x
    → length words ≤ 6
few_words words x g = omega (
  arith,
  ap length g.spelled,
  length-append x.paths (g.steps ++ (x.further ++ setting_words x.distinct x.optimize)),
  length-append g.steps (x.further ++ setting_words x.distinct x.optimize),
  length-append x.further (setting_words x.distinct x.optimize),
  ap length g.step.1,
  g.paths,
  g.further,
  settings x.distinct x.optimize g.distinct,
)
  where
    settings : (d o : Bool) → (IsTrue d → IsTrue false) → length (setting_words d o) ≤ 1
    settings true o never = absurd (false≢true (never refl))
    settings false true never = omega arith
    settings false false never = omega arith

-- the words of the command that takes one
abbrev pub witness_words : List (List ℕ) → List (List ℕ) → List (List ℕ)
witness_words paths proofs = codes "certified" ∷ (paths ++ (proofs ++ []))

module _ (paths proofs : List (List ℕ)) (two : length paths ≡ 2) (five : length proofs ≡ 5) where
  abbrev words : List (List ℕ)
  words = witness_words paths proofs

  count : length words ≡ 8
  count = omega (arith, length-append paths (proofs ++ []), length-append proofs [], two, five)

  -- they fit no other
  no_whole : FitNone (IsWhole words)
  no_whole c x g =
      let same = only_certified g.action words x refl g.gives in
      let few = few_words words x (rw same at g.gives) in
      omega (arith, few, count)

  no_alone : FitNone (IsAlone words)
  no_alone c x g = by g.plain g.spelled g.whole g.command
    where
      by : (plain : List (List ℕ)) → words ≡ plain ++ raw_word g.step ∷ []
          → IsWhole plain g.usual x → raw_alone g.step g.usual ≡ Some c → ⊥
      by [] spelled whole alone = omega (arith, ap length spelled, count)
      by (word ∷ plain) spelled whole alone =
          let first : codes "certified" ≡ word = cc in
          let same = only_certified whole.action (word ∷ plain) x
          (sym (ap (λ (w : List ℕ). slice_index w 2) first)) whole.gives in
          let usual = whole.command ∙ ap (λ a. command_of a x.step x.distinct x.optimize) same in
          let none : None ≡ Some c = ap (raw_alone g.step) (sym usual) ∙ alone in
          cc

  -- they give it, about this circuit of FILE
  witness_given : (own : FileSubject) (front : List (List ℕ))
      → ((more : List (List ℕ)) → ¬ (front ++ words ≡ codes "--limit" ∷ more))
      → GiveSubject own (front ++ words) words → dashed words ≡ false
      → IsCall (front ++ words) (2 ^ 24)
      (record { subject = own; command = commands.Simulated true }) paths proofs
  witness_given own front no_limit given plain =
      asked_call own (front ++ words) words (commands.Simulated true) (plainly paths 0 proofs)
      no_limit given plain (inr (
        no_whole,
        inr (
          no_alone,
          record {
            action = witness.Certified;
            given = plainly paths 0 proofs;
            gives = record {
              steps = [];
              spelled = refl;
              paths = two;
              step = (refl, refl);
              further = five;
              distinct = λ is. absurd (false≢true is);
              raw = λ is. absurd (false≢true is);
            };
            command = (refl, refl);
            rest = refl;
          },
        ),
      )) refl

  -- its own
  pub witness_call : dashed words ≡ false
      → IsCall words (2 ^ 24) (record { subject = Own; command = commands.Simulated true }) paths
      proofs
  witness_call plain =
      witness_given Own [] (no_dash words _ plain) (no_subject_word words plain, refl) plain

  -- or another
  pub own_witness_call : (own : FileSubject) (front : List (List ℕ)) → own ≢ Own
      → GiveSubject own (front ++ words) words → dashed words ≡ false
      → IsCall (front ++ words) (2 ^ 24)
      (record { subject = own; command = commands.Simulated true }) paths proofs
  own_witness_call own front made given plain =
      witness_given own front (λ more. no_limit_word own _ _ more made given) given plain
