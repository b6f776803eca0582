-- Part of what is promised.
-- Which variables a file defines, and by which gate.
use Rattle.std.specs.Prelude.{ℕ, ◌/◌, Bool, ◌||◌, ◌==◌, IsTrue, List, find, Option}
use Rattle.std.specs.List.{list_any}
use Rattle.aig_format.specs.File.{GateLine, File, defined}

-- whether an input, a latch or a gate defines the variable
abbrev pub is_defined : File → ℕ → Bool
is_defined f v = list_any (λ e. e / 2 == v) (defined f)

-- whether the variable is 0 or defined
abbrev pub is_known : File → ℕ → Bool
is_known f v = v == 0 || is_defined f v

-- the literal's variable is 0 or defined
abbrev pub IsKnown : File → ℕ → Type 0
IsKnown f e = IsTrue (is_known f (e / 2))

-- the gate among these that defines a variable, if one does
abbrev pub gate_among : List GateLine → ℕ → Option GateLine
gate_among gates v = find (λ g. g.lhs / 2 == v) gates

-- the gate that defines a variable, if one does
abbrev pub gate_of_variable : File → ℕ → Option GateLine
gate_of_variable f v = gate_among f.gates v
