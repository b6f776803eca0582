-- Part of what is promised.
-- What the program does with its words. Files are opened as a trait says; of a file that is read it
-- says the bytes that are left and whether a read failed, and of what is written to the bytes held,
-- whether a write failed, and whether all of them are in their place.
use Rattle.std.specs.Prelude.{◌≡◌, ◌↔◌, ◌⊎◌, ℕ, Bool, IsTrue, List, [], ◌∷◌, ◌++◌, take, drop, Option, Result, Err, OnOk}
use Rattle.aig_command_line.specs.declared.help.Help.{Help}
use Rattle.aig_command_line.specs.Help.{word_of}
use Rattle.aig_command_line.specs.declared.status.Ending.{Ending}
use Rattle.aig_command_line.specs.declared.status.Ending.TheVariants as endings
use Rattle.aig_command_line.specs.Ending.{WritesLine, ended}
use Rattle.aig_command_line.specs.declared.files.OpenError.{OpenError}
use Rattle.aig_check_commands.specs.declared.command.Asked.{Asked}
use Rattle.aig_check_commands.specs.declared.command.Command.{Command}
use Rattle.aig_check_commands.specs.declared.command.Command.TheVariants as commands
use Rattle.aig_check_commands.specs.declared.error.CheckError.{CheckError}
use Rattle.aig_check_commands.specs.declared.error.CheckError.TheVariants as errors
use Rattle.aig_subjects.specs.Subjects.{file_count}
use Rattle.aig_subjects.specs.declared.subject.FileSubject.{FileSubject}
use Rattle.aig_subjects.specs.declared.subject.FileSubject.TheVariants.{Own}
use Rattle.aig_check_commands.specs.Checked.{RunsGoal}
use Rattle.aig_check_commands.specs.FileSubjects.{subject_of}
use Rattle.aig_check_commands.specs.Opening.{OpensAll}
use Rattle.aig_check_commands.specs.Pairs.{RunsObligations}
use Rattle.aig_check_commands.specs.Questions.{RunsQuestion}
use Rattle.aig_check_commands.specs.Running.{Runs}
use Rattle.aig_check_commands.specs.Simulating.{RunsObligation, RunsSimulated}
use Rattle.aig_witness_circuit_checks.specs.Simulated.{proofs_of}
use Rattle.aig_check_commands.specs.CommandWords.{Give, IsCall}

-- What is asked was done with files, of which the first is FILE: proofs of a goal were checked,
-- which come behind the files of what is asked about; or clauses were printed, or proofs checked of
-- a witness circuit, of FILE's circuit that is asked about; or a command was run on FILE itself.
abbrev pub RanAll : {F W : Type 0} → (F → Option (List ℕ)) → (F → Bool) → (W → Option (List ℕ))
    → (W → Bool) → ℕ → FileSubject → Command → List F → W → Result Unit CheckError → List F → W
    → Type 0
RanAll left failed held write_failed limit own (commands.Check subject goal base step) files w
    result others made =
    let count = file_count subject in
    RunsGoal left failed left failed held write_failed limit (subject_of own subject) goal base step
    (take count files) (drop count files) w result (take count others) (drop count others) made
RanAll left failed held write_failed limit own (commands.Print q) (r ∷ files) w result
    (rest ∷ others) made =
    RunsQuestion left failed held write_failed limit own q r w result rest made
RanAll left failed held write_failed limit own (commands.Obligations optimize) (r ∷ s ∷ []) w
    result (rest ∷ other ∷ []) made =
    RunsObligations left failed held write_failed limit own optimize r s w result rest other made
RanAll left failed held write_failed limit own (commands.Obligation condition optimize)
    (r ∷ s ∷ []) w result (rest ∷ other ∷ []) made =
    RunsObligation left failed left failed held write_failed limit own condition optimize r s w
    result rest other made
RanAll left failed held write_failed limit own (commands.Simulated optimize)
    (r ∷ s ∷ reset ∷ transition ∷ property ∷ base ∷ step ∷ []) w result
    (rest ∷ other ∷ reset_rest ∷ transition_rest ∷ property_rest ∷ base_rest ∷ step_rest ∷ [])
    made =
    RunsSimulated left failed left failed left failed held write_failed limit own optimize r s
    (proofs_of reset transition property base step) w result rest other
    (proofs_of reset_rest transition_rest property_rest base_rest step_rest) made
RanAll left failed held write_failed limit Own (commands.File c) (r ∷ p ∷ []) w result
    (rest ∷ used ∷ []) made =
    Runs left failed left failed held write_failed c limit r p w result rest used made
RanAll left failed held write_failed limit own c files w result others made = ⊥

abbrev pub RanOn : {F W : Type 0} → (F → Option (List ℕ)) → (F → Bool) → (W → Option (List ℕ))
    → (W → Bool) → ℕ → Asked → List F → W → Result Unit CheckError → List F → W → Type 0
RanOn left failed held write_failed limit c files w result others made =
    RanAll left failed held write_failed limit c.subject c.command files w result others made

-- What is done with the files at the paths, which are opened first, in order: FILE, the file beside
-- it, and what the words name beside these. Where one isn't opened, that is the error, and nothing
-- is written; nor is where all are opened, and memory for a list of them runs out.
abbrev pub Acts : {F W : Type 0} → (List ℕ → Result F OpenError → Type 0)
    → (F → Option (List ℕ)) → (F → Bool) → (W → Option (List ℕ)) → (W → Bool) → ℕ → Asked
    → List (List ℕ) → List (List ℕ) → W → Result Unit CheckError → W → Type 0
Acts {F} opens left failed held write_failed limit c paths further w result made =
    OpensAll opens (paths ++ further)
    (λ files. ((others : List F)
    × RanOn left failed held write_failed limit c files w result others made)
    ⊎ ((result ≡ Err errors.Memory) × (made ≡ w)))
    (λ e. (result ≡ Err e) × (made ≡ w))

-- what the words ask for was done, and how the program ends by it
pub record Obeys {F W : Type 0} (opens : List ℕ → Result F OpenError → Type 0)
    (left : F → Option (List ℕ)) (failed : F → Bool) (held : W → Option (List ℕ))
    (write_failed flushed : W → Bool) (answer_of : Help → List ℕ) (words : List (List ℕ))
    (w : W) (ending : Ending CheckError) (made : W) : Type 0 where
  -- a question of the program is answered by a line
  pub tells : (q : Help) → words ≡ word_of q ∷ [] → (done : Result Unit CheckError)
      × (ending ≡ ended done)
      × WritesLine held write_failed flushed errors.Write (answer_of q ++ 10 ∷ []) w done made
  -- other words give no command exactly where it ends so
  pub none : (ending ≡ endings.NoCommand) ↔ (((c : Asked) → ¬ Give words c)
      × ((q : Help) → ¬ (words ≡ word_of q ∷ [])))
  pub kept : ending ≡ endings.NoCommand → made ≡ w
  -- and else the command that they give was run on its files, and after Ok what was printed is
  -- flushed
  pub acts : (limit : ℕ) (c : Asked) (paths further : List (List ℕ))
      → IsCall words limit c paths further
      → (done : Result Unit CheckError) × (ending ≡ ended done)
      × Acts opens left failed held write_failed limit c paths further w done made
      × OnOk done (IsTrue (flushed made))
