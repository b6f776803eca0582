-- Serves private clauses alone.
-- What words that were read hold, and the files that they name.
use Rattle.std.specs.Prelude.{◌≡◌, ◌<◌, ◌^◌, ℕ, ◌+◌, IsTrue, List, Result, length}
use Rattle.aig_command_line.specs.declared.files.OpenError.{OpenError}
use Rattle.aig_command_line.specs.Limits.{IsLimit}
use Rattle.aig_check_commands.specs.declared.command.Call.{Call}
use Rattle.aig_check_commands.specs.declared.command.Command.{Command}
use Rattle.aig_check_commands.specs.declared.error.CheckError.{CheckError}
use Rattle.aig_check_commands.specs.declared.error.CheckError.TheVariants as errors
use Rattle.aig_check_commands.specs.FileSubjects.{is_asked}
use Rattle.aig_check_commands.specs.CommandWords.{beside_of, paths_of, step_of}
use Rattle.aig_check_commands.specs.Opening.{OpensAll}

-- there is such a command, as many files as it reads, and a step within the bound
pub record Fits (c : Call) : Type 0 where
  pub limit : IsLimit c.limit
  pub asked : IsTrue (is_asked c.asked.subject c.asked.command)
  pub paths : length c.paths.now ≡ paths_of c.asked.command
  pub further : length c.further.now ≡ beside_of c.asked.command
  pub small : step_of c.asked.command < 2 ^ 32

-- the files are those of the command: as many as it reads
abbrev pub AreFor : {S : Type 0} → Command → List S → Type 0
AreFor c files = length files ≡ paths_of c + beside_of c

-- one of the files at the paths isn't opened, and is refused so
abbrev pub LacksOne : {F : Type 0} → (List ℕ → Result F OpenError → Type 0) → List (List ℕ)
    → CheckError → Type 0
LacksOne opens paths e = OpensAll opens paths (λ files. ⊥) (λ x. x ≡ e)

-- why there is no list of the files at the paths: one of them isn't opened, and is refused so, or
-- all are, and memory runs out
abbrev pub AreUnlisted : {F : Type 0} → (List ℕ → Result F OpenError → Type 0) → List (List ℕ)
    → CheckError → Type 0
AreUnlisted opens paths e = OpensAll opens paths (λ files. e ≡ errors.Memory) (λ x. x ≡ e)
