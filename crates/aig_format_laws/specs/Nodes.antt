-- Part of what laws say, and of no promise of a call.
-- A run of a file's machine beside the leaf values of a run of its circuit.
use Rattle.std.specs.Prelude.{◌≡◌, ℕ, ◌≤◌, Bool, IsTrue}
use Rattle.aig_circuit.specs.Tree.{node_value}
use Rattle.aig_format.specs.File.{File}
use Rattle.aig_format.specs.Variables.{is_known}
use Rattle.aig_format.specs.Numbering.{node_of_variable}
use Rattle.aig_format.specs.Circuit.{circuit_of}

-- the values of the variables at each step over these leaf values: those of their nodes
abbrev pub values_over : File → (ℕ → ℕ → Bool) → ℕ → ℕ → Bool
values_over f x t v = node_value (circuit_of f).nodes (x t) (node_of_variable f v)

-- the run gives 0 and every defined variable at each step the value of its node over these leaf
-- values
abbrev pub HasNodeValues : File → ℕ → (ℕ → ℕ → Bool) → (ℕ → ℕ → Bool) → Type 0
HasNodeValues f last x run =
    (t v : ℕ) → t ≤ last → IsTrue (is_known f v) → values_over f x t v ≡ run t v
