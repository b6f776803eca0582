-- Part of what is promised.
-- The levels of variables: how high a gate stands above the variables that no gate defines.
-- (AIGER format 20071012: "Input/Latch/Output/And section".)
use Rattle.std.specs.Prelude.{ℕ, zero, suc, ◌+◌, ◌/◌, max, Bool, false, ◌==◌, IsTrue, List, length, Option, Some, None, is_some}
use Rattle.aig_format.specs.File.{GateLine, File}
use Rattle.aig_format.specs.Variables.{gate_among}

-- one more than the greater of two levels, if both are there
abbrev pub level_above : Option ℕ → Option ℕ → Option ℕ
level_above (Some a) (Some b) = Some (max a b + 1)
level_above (Some a) None = None
level_above None b = None

-- 0 where no gate defines the variable, else one more than the greater level of its gate's operands
abbrev pub level_by : (ℕ → Option ℕ) → Option GateLine → Option ℕ
level_by level None = Some 0
level_by level (Some g) = level_above (level (g.rhs0 / 2)) (level (g.rhs1 / 2))

-- the level of a variable over these gates, if it is at most n
abbrev pub level_within : List GateLine → ℕ → ℕ → Option ℕ
level_within gates zero v = level_by (λ _. None) (gate_among gates v)
level_within gates (suc n) v = level_by (level_within gates n) (gate_among gates v)

-- the level of a variable, if it has one: below a gate there is one of each lesser level, so it is
-- at most the count of gates
abbrev pub level_of : File → ℕ → Option ℕ
level_of f v = level_within f.gates (length f.gates) v

-- whether the level is there and is k
abbrev pub is_level : ℕ → Option ℕ → Bool
is_level k (Some n) = n == k
is_level k None = false

-- whether a gate has a level: it doesn't depend on itself
abbrev pub has_level : File → GateLine → Bool
has_level f g = is_some (level_of f (g.lhs / 2))

-- the gate has a level
abbrev pub HasLevel : File → GateLine → Type 0
HasLevel f g = IsTrue (has_level f g)
