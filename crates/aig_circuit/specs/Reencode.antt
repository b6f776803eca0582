-- Part of what is promised.
-- The numbering of a closed circuit that a binary file has: inputs first, then latches, then gates
-- in rising number.
-- (AIGER format 20071012, "Binary encoding".)
use Rattle.std.specs.Prelude.{◌≡◌, ℕ, ◌+◌, Option, Some, None, List, ◌∷◌, ◌++◌, filter_map, slice_index, EachIndex}
use Rattle.aig_circuit.specs.declared.node.AigNodeType.{AigNodeType}
use Rattle.aig_circuit.specs.declared.node.AigNodeType.TheVariants.{False, Leaf, And}
use Rattle.aig_circuit.specs.declared.node.AigNode.{AigNode}
use Rattle.aig_circuit.specs.Circuit.{Circuit, latch_leaves}
use Rattle.aig_circuit.specs.Renumber.{position_of, renumbered_circuit}

-- the number of a gate
abbrev pub gate_number : AigNode → Option ℕ
gate_number node = by_kind node.typ
  where
    by_kind : AigNodeType → Option ℕ
    by_kind (And a b) = Some node.node_id
    by_kind Leaf = None
    by_kind False = None

-- the old numbers in their new order
abbrev pub order_of : Circuit → List ℕ
order_of c = 0 ∷ c.inputs ++ latch_leaves c.latchs ++ filter_map gate_number c.nodes

-- the new number of a node
abbrev pub new_number : Circuit → ℕ → ℕ
new_number c = position_of (order_of c)

-- the circuit with its nodes in the new order; lists and names follow
abbrev pub reencoded : Circuit → Circuit
reencoded c = renumbered_circuit (new_number c) (order_of c) c

-- inputs and then the leaves of latches are the numbers 1, 2 and so on, in their order
abbrev pub IsReencoded : Circuit → Type 0
IsReencoded c =
    let leaves = c.inputs ++ latch_leaves c.latchs in
    EachIndex leaves (λ i. slice_index leaves i ≡ i + 1)
