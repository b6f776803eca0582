-- Part of what is promised.
-- The order in which a file's variables become nodes.
use Rattle.std.specs.Prelude.{ℕ, zero, suc, ◌+◌, ◌/◌, Bool, true, ◌&&◌, nat_lt, ◌==◌, if◌then◌else◌, List, [], ◌∷◌, length, map, filter}
use Rattle.std.specs.List.{list_all, flat_map}
use Rattle.aig_circuit.specs.Renumber.{position_of}
use Rattle.aig_format.specs.File.{GateLine, File, defined}
use Rattle.aig_format.specs.Variables.{is_defined}
use Rattle.aig_format.specs.Levels.{is_level, level_of}

-- ---- whether a file is compact

-- whether each number is smaller than the next
abbrev pub is_increasing : List ℕ → Bool
is_increasing [] = true
is_increasing (a ∷ []) = true
is_increasing (a ∷ b ∷ rest) = nat_lt a b && is_increasing (b ∷ rest)

-- whether an operand's variable is smaller than the gate's
abbrev pub is_above_operands : GateLine → Bool
is_above_operands g = nat_lt (g.rhs0 / 2) (g.lhs / 2) && nat_lt (g.rhs1 / 2) (g.lhs / 2)

-- whether gates rise, each above its operands
abbrev pub are_in_order : List GateLine → Bool
are_in_order gates = is_increasing (map (λ g. g.lhs) gates) && list_all is_above_operands gates

-- whether no variable is missing, and the gates are in order
abbrev pub is_compact : File → Bool
is_compact f = f.greatest == length (defined f) && are_in_order f.gates

-- ---- the order

-- n numbers in a row, from v on
abbrev pub numbers_from : ℕ → ℕ → List ℕ
numbers_from zero v = []
numbers_from (suc n) v = v ∷ numbers_from n (v + 1)

-- the defined variables of level k, in rising order
abbrev pub variables_at : File → ℕ → List ℕ
variables_at f k =
    filter (λ v. is_defined f v && is_level k (level_of f v)) (numbers_from f.greatest 1)

-- the defined variables by level and, within a level, by variable
abbrev pub variables_by_level : File → List ℕ
variables_by_level f = flat_map (variables_at f) (numbers_from (length f.gates + 1) 0)

-- the defined variables in the order of their nodes: in a compact file as they are, else by level
unfoldable pub variables_in_order : File → List ℕ
variables_in_order f =
    if is_compact f then numbers_from (length (defined f)) 1 else variables_by_level f

-- the node of a variable: 0 is 0, and the others are numbered from 1 on
unfoldable pub node_of_variable : File → ℕ → ℕ
node_of_variable f v = position_of (0 ∷ variables_in_order f) v
