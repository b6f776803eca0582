-- Part of what laws say, and of no promise of a call.
-- Inductive invariants of a file's machine. (Unbounded model checking: an invariant that holds in
-- initial states, that each step keeps, and that excludes the bad states, each under the
-- constraints.)
use Rattle.std.specs.Prelude.{◌≡◌, ℕ, ◌/◌, Bool, IfSome, IsTrue}
use Rattle.std.specs.List.{AllByRecursion}
use Rattle.aig_format.specs.File.{File}
use Rattle.aig_format.specs.Machine.{IsStep, Moves, initial_value_of}
use Rattle.aig_runs.specs.Safety.{IsConstrained, IsGood}

-- each latch has the value that it starts with, where it has one
abbrev pub IsStarting : File → (ℕ → Bool) → Type 0
IsStarting f values =
    AllByRecursion (λ l. IfSome (initial_value_of l) (λ b. values (l.literal / 2) ≡ b)) f.latches

-- the invariant, a test of valuations, as a literal of the file is
pub record IsInductive (f : File) (invariant : (ℕ → Bool) → Bool) : Type 0 where
  -- it holds in initial states
  pub base : (values : ℕ → Bool) → IsStep f values → IsStarting f values → IsConstrained f values
      → IsTrue (invariant values)
  -- each step keeps it
  pub step : (values after : ℕ → Bool) → IsStep f values → IsStep f after → Moves f values after
      → IsConstrained f values → IsConstrained f after → IsTrue (invariant values)
      → IsTrue (invariant after)
  -- where it holds, no bad literal does
  pub safe : (values : ℕ → Bool) → IsStep f values → IsConstrained f values
      → IsTrue (invariant values) → IsGood f values
