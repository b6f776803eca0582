-- Part of what is promised.
-- Which circuit of FILE a command asks about: the words that give it, what is asked of it, and the
-- line about it. (AIGER 1.9, "Properties": bad states, justice and fairness.)
use Rattle.std.specs.Prelude.{◌≡◌, ◌≢◌, ℕ, ◌+◌, Bool, true, false, List, [], ◌∷◌, ◌++◌, Option, Some, None, codes, decimal, not, ◌&&◌, ◌||◌}
use Rattle.aig_answers.specs.declared.goals.goal.Goal.{Goal}
use Rattle.aig_answers.specs.declared.goals.goal.Goal.TheVariants as goals
use Rattle.aig_edit_laws.specs.declared.fairness.Fairness.{Fairness}
use Rattle.aig_edit_laws.specs.declared.fairness.Fairness.TheVariants.{Alone, Justice}
use Rattle.aig_format.specs.Text.{IsNumber}
use Rattle.aig_join.specs.declared.comparison.Comparison.{Comparison}
use Rattle.aig_subjects.specs.declared.subject.FileSubject.{FileSubject}
use Rattle.aig_subjects.specs.declared.subject.FileSubject.TheVariants.{Live, Outputs, Own, Possible, Property, Rounds}
use Rattle.aig_subjects.specs.declared.subject.Subject.{Subject}
use Rattle.aig_subjects.specs.declared.subject.Subject.TheVariants as subjects
use Rattle.aig_check_commands.specs.EqualLines.{always_line, equal_line}
use Rattle.aig_check_commands.specs.Goals.{fair_line}
use Rattle.aig_check_commands.specs.declared.command.Command.{Command}
use Rattle.aig_check_commands.specs.declared.command.Command.TheVariants as commands

-- ---- words

-- the word that asks for fair runs, those of a justice property or of fairness alone
abbrev pub fairness_word : Fairness → List ℕ
fairness_word (Justice property) = codes "--justice"
fairness_word Alone = codes "--endless"

-- the word that asks for a circuit of FILE other than its own
abbrev pub subject_word : FileSubject → List ℕ
subject_word Own = []
subject_word (Live fairness) = fairness_word fairness
subject_word (Rounds fairness rounds) = fairness_word fairness
subject_word (Property number) = codes "--property"
subject_word Possible = codes "--possible"
subject_word Outputs = codes "--outputs"

-- the first word is this number, and then come the others
abbrev pub IsNumberFirst : ℕ → List (List ℕ) → List (List ℕ) → Type 0
IsNumberFirst n words rest = (word : List ℕ) × IsNumber n word × (words ≡ word ∷ rest)

-- the first word is this one, and a number comes after it, and then the others; or it is another
-- word, or none
abbrev pub IsNumbered : List ℕ → Option ℕ → List (List ℕ) → List (List ℕ) → Type 0
IsNumbered name (Some n) words rest =
    (word : List ℕ) × (words ≡ name ∷ word ∷ rest) × IsNumber n word
IsNumbered name None words rest =
    ((more : List (List ℕ)) → ¬ (words ≡ name ∷ more)) × (rest ≡ words)

-- the words behind that word give the number of a justice property, and then come the others
abbrev pub GiveFairness : Fairness → List (List ℕ) → List (List ℕ) → Type 0
GiveFairness (Justice property) words rest = IsNumberFirst property words rest
GiveFairness Alone words rest = rest ≡ words

-- the circuit for fair runs: the live one, or the one that counts so many rounds
abbrev pub fair_subject : Fairness → Option ℕ → FileSubject
fair_subject fairness None = Live fairness
fair_subject fairness (Some rounds) = Rounds fairness rounds

-- the words behind it give its numbers, and then come the others
abbrev pub GiveNumbers : FileSubject → List (List ℕ) → List (List ℕ) → Type 0
GiveNumbers (Live fairness) words rest =
    (more : List (List ℕ)) × GiveFairness fairness words more
    × IsNumbered (codes "--rounds") None more rest
GiveNumbers (Rounds fairness rounds) words rest =
    (more : List (List ℕ)) × GiveFairness fairness words more
    × IsNumbered (codes "--rounds") (Some rounds) more rest
GiveNumbers (Property number) words rest = IsNumberFirst number words rest
GiveNumbers own words rest = rest ≡ words

-- the first word asks for no such circuit
abbrev pub AskForNone : List (List ℕ) → Type 0
AskForNone words =
    (own : FileSubject) (more : List (List ℕ)) → own ≢ Own → ¬ (words ≡ subject_word own ∷ more)

-- the words give the circuit of FILE, and then come the others
abbrev pub GiveSubject : FileSubject → List (List ℕ) → List (List ℕ) → Type 0
GiveSubject Own words rest = AskForNone words × (rest ≡ words)
GiveSubject own words rest =
    (more : List (List ℕ)) × (words ≡ subject_word own ∷ more) × GiveNumbers own more rest

-- ---- lines

-- what is so at no step
abbrev pub never_text : FileSubject → List ℕ
never_text (Property number) =
    codes "b" ++ (decimal number ++ 58 ∷ []) ++ codes " no bad state"
never_text Outputs = codes "no output is true"
never_text own = codes "no bad state"

-- the steps at which it is told that something isn't so: step k, each up to it, any if none up to
-- it, or any
abbrev pub steps_text : Goal → List ℕ
steps_text (goals.Refuted k) = codes " at step " ++ (decimal k ++ 10 ∷ [])
steps_text (goals.RefutedTo k) = codes " up to step " ++ (decimal k ++ 10 ∷ [])
steps_text (goals.Inductive k form) =
    codes " at any step, if none up to step " ++ (decimal k ++ 10 ∷ [])
steps_text goal = codes " at any step" ++ 10 ∷ []

-- The line about runs that meet the constraints. A run to step k has k + 1 steps, and where no run
-- to step 0 meets them, none does.
abbrev pub unmet_line : Goal → List ℕ
unmet_line (goals.Refuted k) =
    codes "no run of more than " ++ (decimal k ++ 32 ∷ [])
    ++ (codes "steps meets the constraints" ++ 10 ∷ [])
unmet_line (goals.Inductive k form) =
    codes "no run meets the constraints, if none of at most " ++ (decimal (k + 1) ++ 32 ∷ [])
    ++ (codes "steps does" ++ 10 ∷ [])
unmet_line goal = codes "no run meets the constraints" ++ 10 ∷ []

-- the line about FILE
abbrev pub file_line : FileSubject → Goal → List ℕ
file_line (Live fairness) goal = fair_line fairness goal
file_line (Rounds fairness rounds) goal = fair_line fairness goal
file_line Possible goal = unmet_line goal
file_line own goal = never_text own ++ steps_text goal

-- the line about two files
abbrev pub pair_line : Comparison → Goal → List ℕ
pair_line comparison (goals.Refuted k) = equal_line comparison k
pair_line comparison goal = always_line comparison

-- the line that is printed
abbrev pub line_of : Subject → Goal → List ℕ
line_of (subjects.File own) goal = file_line own goal
line_of (subjects.Miter comparison) goal = pair_line comparison goal
line_of (subjects.Certified own) goal = file_line own goal
line_of (subjects.MiterCertified comparison) goal = pair_line comparison goal

-- ---- what is asked

-- it is FILE's own circuit
abbrev pub is_own : FileSubject → Bool
is_own Own = true
is_own own = false

-- it is made for fair runs
abbrev pub is_fair : FileSubject → Bool
is_fair (Live fairness) = true
is_fair (Rounds fairness rounds) = true
is_fair own = false

-- what is asked about, with this circuit of FILE
abbrev pub subject_of : FileSubject → Subject → Subject
subject_of own (subjects.File other) = subjects.File own
subject_of own (subjects.Certified other) = subjects.Certified own
subject_of own subject = subject

-- files are compared by their own circuits alone
abbrev pub compares_files : Subject → Bool
compares_files (subjects.Miter comparison) = true
compares_files (subjects.MiterCertified comparison) = true
compares_files subject = false

-- The goal is asked of the subject: of a live circuit all but proofs of each step, of rounds if
-- there is a fair run, of each other circuit of FILE everything, of a miter a step or all at once,
-- and of a certificate all by steps.
abbrev pub is_asked_of : Subject → Goal → Bool
is_asked_of (subjects.File (Live fairness)) (goals.SafeBySteps k form) = false
is_asked_of (subjects.File (Rounds fairness rounds)) (goals.Safe k form) = true
is_asked_of (subjects.File (Rounds fairness rounds)) goal = false
is_asked_of (subjects.File own) goal = true
is_asked_of (subjects.Miter comparison) (goals.Refuted k) = true
is_asked_of (subjects.Miter comparison) (goals.Safe k form) = true
is_asked_of (subjects.Certified own) (goals.SafeBySteps k form) = true
is_asked_of (subjects.MiterCertified comparison) (goals.SafeBySteps k form) = true
is_asked_of subject goal = false

-- the command is asked of this circuit of FILE
abbrev pub is_asked : FileSubject → Command → Bool
is_asked own (commands.Check subject goal base step) =
    (is_own own || not (compares_files subject)) && is_asked_of (subject_of own subject) goal
is_asked own (commands.File c) = is_own own
is_asked own c = true
