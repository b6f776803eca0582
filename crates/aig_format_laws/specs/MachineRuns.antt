-- Part of what is promised.
-- Runs of a file's machine beside one another.
use Rattle.std.specs.Prelude.{◌≡◌, ℕ, ◌/◌, ◌≤◌, Bool, IsTrue}
use Rattle.std.specs.List.{AllByRecursion}
use Rattle.aig_format.specs.File.{File}
use Rattle.aig_format.specs.Variables.{is_known}

-- the inputs have the same values at the steps 0 to last, and the latches at step 0
pub record AgreeOnInputs (f : File) (last : ℕ) (run other : ℕ → ℕ → Bool) : Type 0 where
  pub inputs : (t : ℕ) → t ≤ last → AllByRecursion (λ e. run t (e / 2) ≡ other t (e / 2)) f.inputs
  pub latches : AllByRecursion (λ l. run 0 (l.literal / 2) ≡ other 0 (l.literal / 2)) f.latches

-- 0 and every defined variable have the same values at the steps 0 to last
abbrev pub AgreeOnKnown : File → ℕ → (ℕ → ℕ → Bool) → (ℕ → ℕ → Bool) → Type 0
AgreeOnKnown f last run other = (t v : ℕ) → t ≤ last → IsTrue (is_known f v) → run t v ≡ other t v
