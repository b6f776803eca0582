-- Serves private clauses alone.
-- Files under watch.
use Rattle.std.specs.Prelude.{ℕ, List, Result, Ok, Err}
use Rattle.aig_command_line.specs.declared.files.OpenError.{OpenError}
use Rattle.aig_command_line.specs.declared.watched.Watched.{Watched}

-- the file under the watched one, where it was opened
abbrev pub unwatched : {S : Type 0} → Result (Watched S) OpenError → Result S OpenError
unwatched (Ok file) = Ok file.source
unwatched (Err e) = Err e

-- the file under the watched one was opened at the path
abbrev pub OpensWatched : {S : Type 0} → (List ℕ → Result S OpenError → Type 0) → List ℕ
    → Result (Watched S) OpenError → Type 0
OpensWatched opens path result = opens path (unwatched result)
