-- Part of what is promised.
-- The machine of a file: equations over valuations, with no recursion and no order. (AIGER format
-- 20071012: "Input/Latch/Output/And section"; AIGER 1.9: "Reset logic".)
use Rattle.std.specs.Prelude.{◌≡◌, ℕ, ◌+◌, ◌/◌, ◌%◌, ◌<◌, ◌≤◌, Bool, true, false, not, ◌&&◌, ◌==◌, if◌then◌else◌, Option, Some, None, IfSome, unwrap_or}
use Rattle.std.specs.List.{AllByRecursion}
use Rattle.aig_format.specs.File.{LatchLine, File}

-- the value of a literal, where each variable has one
abbrev pub value_of_literal : (ℕ → Bool) → ℕ → Bool
value_of_literal values e = if e % 2 == 0 then values (e / 2) else not (values (e / 2))

-- variable 0 is false, and each gate's variable is the conjunction of its two literals
pub record IsStep (f : File) (values : ℕ → Bool) : Type 0 where
  pub zero : values 0 ≡ false
  pub gates : AllByRecursion
      (λ g. values (g.lhs / 2) ≡ value_of_literal values g.rhs0 && value_of_literal values g.rhs1)
      f.gates

-- each latch has the value that its next literal had
abbrev pub Moves : File → (ℕ → Bool) → (ℕ → Bool) → Type 0
Moves f values after =
    AllByRecursion (λ l. after (l.literal / 2) ≡ value_of_literal values l.next) f.latches

-- a run of T + 1 steps
pub record IsMachineRun (f : File) (T : ℕ) (run : ℕ → ℕ → Bool) : Type 0 where
  pub steps : (t : ℕ) → t ≤ T → IsStep f (run t)
  pub moves : (t : ℕ) → t < T → Moves f (run t) (run (t + 1))

-- the value that a latch starts with, if it has one: a reset that is missing is 0, its own literal
-- is none
abbrev pub initial_value_of : LatchLine → Option Bool
initial_value_of l =
    let r = unwrap_or l.reset 0 in if r == 0 then Some false else if r == 1 then Some true else None

-- a run is from an initial state
abbrev pub IsMachineInitial : File → (ℕ → ℕ → Bool) → Type 0
IsMachineInitial f run =
    AllByRecursion (λ l. IfSome (initial_value_of l) (λ b. run 0 (l.literal / 2) ≡ b)) f.latches
