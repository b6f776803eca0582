-- Part of what is promised.
-- Files that a program opens at paths.
use Rattle.std.specs.Prelude.{ℕ, List, [], ◌∷◌, Result, Ok, Err}
use Rattle.aig_command_line.specs.declared.files.OpenError.{OpenError}
use Rattle.aig_command_line.specs.declared.files.OpenError.TheVariants as opening
use Rattle.aig_check_commands.specs.declared.error.CheckError.{CheckError}
use Rattle.aig_check_commands.specs.declared.error.CheckError.TheVariants as errors

-- what a file that is not opened is refused for
abbrev pub unopened : OpenError → CheckError
unopened opening.Refused = errors.Open

-- what holds of a file that was opened, or of the error where it was not
abbrev pub OnOpening : {F : Type 0} → (F → Type 0) → (CheckError → Type 0) → Result F OpenError
    → Type 0
OnOpening Holds Fails (Ok file) = Holds file
OnOpening Holds Fails (Err e) = Fails (unopened e)

-- the file at the path was opened, and this holds of it, or it was not, and that of the error
pub record Opening {F : Type 0} (opens : List ℕ → Result F OpenError → Type 0) (path : List ℕ)
    (Holds : F → Type 0) (Fails : CheckError → Type 0) : Type 0 where
  pub file : Result F OpenError
  pub opened : opens path file
  pub leads : OnOpening Holds Fails file

-- the files at the paths were opened, in order, and this holds of them, or one was not, and that of
-- the error
abbrev pub OpensAll : {F : Type 0} → (List ℕ → Result F OpenError → Type 0) → List (List ℕ)
    → (List F → Type 0) → (CheckError → Type 0) → Type 0
OpensAll opens [] Holds Fails = Holds []
OpensAll opens (path ∷ paths) Holds Fails =
    Opening opens path
    (λ file. OpensAll opens paths (λ files. Holds (file ∷ files)) Fails) Fails

-- they were opened as these
abbrev pub AreOpened : {F : Type 0} → (List ℕ → Result F OpenError → Type 0) → List (List ℕ)
    → List F → Type 0
AreOpened opens [] [] = Unit {0}
AreOpened opens (path ∷ paths) (file ∷ files) = opens path (Ok file) × AreOpened opens paths files
AreOpened opens paths files = ⊥
