-- Serves private clauses alone.
-- Numbers of variables by their places in an order, and nodes under these numbers.
use Rattle.std.specs.Prelude.{ℕ, ◌/◌, ◌%◌, ◌&&◌, if◌then◌else◌, ◌==◌, Bool, true, List, slice_index_or, Option, Some, None, is_some, option_map, unwrap_or}
use Rattle.std.specs.List.{list_any}
use Rattle.aig_circuit.specs.declared.edge.AigEdge.{AigEdge}
use Rattle.aig_circuit.specs.Edge.{edge_to}
use Rattle.aig_circuit.specs.declared.node.AigNodeType.{AigNodeType}
use Rattle.aig_circuit.specs.declared.node.AigNodeType.TheVariants.{False, Leaf, And}
use Rattle.aig_circuit.specs.declared.node.AigNode.{AigNode}
use Rattle.aig_circuit.specs.Renumber.{position_of, renumbered_kind}
use Rattle.aig_ordering.specs.Tables.{entry_value}

-- the place of a variable in an order, if it is there
abbrev pub place_in : List ℕ → ℕ → Option ℕ
place_in order v = if list_any (λ u. u == v) order then Some (position_of order v) else None

-- the number of a variable, if the table records one
abbrev pub number_at : List ℕ → ℕ → Option ℕ
number_at numbers v = entry_value (slice_index_or numbers v 0)

-- whether the table records one
abbrev pub has_number : List ℕ → ℕ → Bool
has_number numbers v = is_some (number_at numbers v)

-- the number that it records
abbrev pub number_in : List ℕ → ℕ → ℕ
number_in numbers v = unwrap_or (number_at numbers v) 0

-- the edge of a literal under the number of its variable, if it has one
abbrev pub numbered_edge : List ℕ → ℕ → Option AigEdge
numbered_edge numbers e =
    option_map (λ n. edge_to n (e % 2 == 1)) (number_at numbers (e / 2))

-- whether the variables of a gate's operands have numbers
abbrev pub has_operands : List ℕ → AigNodeType → Bool
has_operands numbers (And a b) = has_number numbers a.node_id && has_number numbers b.node_id
has_operands numbers Leaf = true
has_operands numbers False = true

-- the node with a gate's operands under their numbers, put in order again
abbrev pub with_numbers : List ℕ → AigNode → AigNode
with_numbers numbers node =
    record node { typ = renumbered_kind (number_in numbers) (Some node.typ) }
