-- Serves private clauses alone.
-- What `aigcheck` printed of files whose bytes are known, and what is then so of them.
use Rattle.std.specs.Prelude.{◌≡◌, ℕ, ◌^◌, ◌≤◌, List, [], ◌∷◌, codes, Option}
use Rattle.aig_answers.specs.Goals as showing
use Rattle.aig_answers.specs.declared.goals.goal.Goal.{Goal}
use Rattle.aig_format.specs.File.{File}
use Rattle.aig_format.specs.Fits.{Accepts}
use Rattle.aig_subjects.specs.FileSubjects.{FileShowsAlways}
use Rattle.aig_subjects.specs.declared.subject.FileSubject.{FileSubject}
use Rattle.aig_subjects.specs.declared.subject.Subject.{Subject}
use Rattle.aig_subjects.specs.declared.subject.Subject.TheVariants as subjects
use Rattle.aig_check_commands.specs.CommandWords.{IsCall, paths_of}
use Rattle.aig_check_commands.specs.FileSubjects.{line_of, subject_of}
use Rattle.aig_check_commands.specs.Running.{Answers}
use Rattle.aig_check_commands.specs.Simulating.{simulated_line}
use Rattle.aig_check_commands.specs.declared.command.Asked.{Asked}
use Rattle.aig_check_commands.specs.declared.command.Command.{Command}
use Rattle.aig_check_commands.specs.declared.command.Command.TheVariants as commands
use Rattle.aig_edit_laws.specs.Fair.{HasFairLasso}
use Rattle.aig_edit_laws.specs.Shown.{HasRun}
use Rattle.aig_edit_laws.specs.declared.fairness.Fairness.{Fairness}

-- the bytes are a file, and this is so of it
abbrev pub IsOf : List ℕ → (File → Type 0) → Type 0
IsOf bytes Holds = (f : File) × Accepts bytes (2 ^ 24) f × Holds f

-- those are one, too
abbrev pub AreOf : List ℕ → List ℕ → (File → File → Type 0) → Type 0
AreOf bytes others Holds = IsOf bytes (λ f. IsOf others (Holds f))

-- it has no fair lasso of at most k + 1 steps
abbrev pub HasNoLassoTo : File → Fairness → ℕ → Type 0
HasNoLassoTo f fairness k = (n : ℕ) → n ≤ k → ¬ HasFairLasso f fairness n

-- no run of it to a step up to k meets the constraints
abbrev pub HasNoRunTo : File → ℕ → Type 0
HasNoRunTo f k = (n : ℕ) → n ≤ k → ¬ HasRun f n

-- FILE, and what stands beside it, are the files of the subject; the certificate of a miter is any
abbrev pub AreFilesOf : Subject → List ℕ → List ℕ → (List File → Type 0) → Type 0
AreFilesOf (subjects.File own) file other Holds = IsOf file (λ f. Holds (f ∷ []))
AreFilesOf (subjects.Miter comparison) file other Holds =
    AreOf file other (λ f g. Holds (f ∷ g ∷ []))
AreFilesOf (subjects.Certified own) file other Holds = AreOf file other (λ f g. Holds (f ∷ g ∷ []))
AreFilesOf (subjects.MiterCertified comparison) file other Holds =
    AreOf file other (λ f g. (h : File) × Holds (f ∷ g ∷ h ∷ []))

-- the line is that of a goal, which is so of the files
abbrev pub ShowsGoal : Subject → Goal → List ℕ → List ℕ → List ℕ → Type 0
ShowsGoal subject goal file other text =
    AreFilesOf subject file other
    (λ files. (text ≡ line_of subject goal) × showing.Shows subject goal files)

-- the line is that of a witness circuit, which is so of FILE
abbrev pub ShowsSimulated : FileSubject → List ℕ → List ℕ → Type 0
ShowsSimulated own file text = IsOf file (λ f. (text ≡ simulated_line own) × FileShowsAlways own f)

-- what is so of FILE and OTHER after a command about this circuit of FILE printed a text
abbrev pub Shows : FileSubject → Command → List ℕ → List ℕ → List ℕ → Type 0
Shows own (commands.File c) file other text =
    IsOf file (λ f. (given : Option (List ℕ)) × Answers c given f text)
Shows own (commands.Check subject goal base step) file other text =
    ShowsGoal (subject_of own subject) goal file other text
Shows own (commands.Simulated optimize) file other text = ShowsSimulated own file text
Shows own c file other text = Unit {0}

abbrev pub ShowsAsked : Asked → List ℕ → List ℕ → List ℕ → Type 0
ShowsAsked c file other text = Shows c.subject c.command file other text

-- the one file of a command is FILE, or the two are FILE and OTHER
abbrev pub AreNamed : ℕ → List (List ℕ) → Type 0
AreNamed count (file ∷ []) = (count ≡ 1) × (file ≡ codes "FILE")
AreNamed count (file ∷ other ∷ []) = (file ≡ codes "FILE") × (other ≡ codes "OTHER")
AreNamed count paths = ⊥

-- whatever the words give was done, and the text was printed
abbrev pub IsPrinted : List (List ℕ) → List ℕ → List ℕ → List ℕ → Type 0
IsPrinted words file other text =
    (c : Asked) (paths further : List (List ℕ)) → IsCall words (2 ^ 24) c paths further
    → AreNamed (paths_of c.command) paths → ShowsAsked c file other text
