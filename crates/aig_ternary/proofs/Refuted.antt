-- Wrong values of a small circuit, which the definition doesn't give.
use Rattle.aig_base.proofs.Words.{◌≢◌, ℕ, true, false, [], ◌∷◌, empty}
use Rattle.aig_base.specs.declared.logic.three.Lbool.{Lbool}
use Rattle.aig_base.specs.declared.logic.three.Lbool.TheVariants.{FALSE, TRUE, NONE}
use Rattle.aig_circuit.specs.declared.node.AigNodeType.{AigNodeType}
use Rattle.aig_circuit.specs.declared.node.AigNodeType.TheVariants.{False, Leaf, And}
use Rattle.aig_circuit.specs.declared.node.AigNode.{AigNode}
use Rattle.aig_circuit.proofs.Words.{edge_to, Circuit, no_properties}
use Rattle.aig_circuit.specs.Tree.{tree_of}
use Rattle.aig_ternary.specs.Ternary.{simulation_of, three_node_value, three_values, values_in}

abbrev node : ℕ → AigNodeType → AigNode
node n kind = record { node_id = n; typ = kind }

-- inputs 1 and 2, a free leaf 3, and the gate 4 = and(1,2)
abbrev gate : Circuit
gate = record { nodes = node 0 False ∷ node 1 Leaf ∷ node 2 Leaf ∷ node 3 Leaf ∷ node 4 (And (edge_to 1 false) (edge_to 2 false)) ∷ []; inputs = 1 ∷ 2 ∷ []; latchs = []; properties = no_properties; names = empty }

abbrev one_false : ℕ → Lbool
one_false n = FALSE

-- unknown everywhere
no_unknowns : three_values gate one_false ≢ NONE ∷ NONE ∷ NONE ∷ NONE ∷ NONE ∷ []
unfolding tree_of three_node_value
no_unknowns e = cc

-- the and of false and unknown unknown
no_unknown_and : values_in (edge_to 4 false) (simulation_of gate []) ((FALSE ∷ NONE ∷ []) ∷ []) ≢ NONE ∷ []
unfolding tree_of three_node_value
no_unknown_and e = cc

-- an inversion ignored
no_ignored_inversion : values_in (edge_to 4 true) (simulation_of gate []) ((FALSE ∷ NONE ∷ []) ∷ []) ≢ FALSE ∷ []
unfolding tree_of three_node_value
no_ignored_inversion e = cc

-- a free leaf false
no_false_leaf : values_in (edge_to 3 false) (simulation_of gate []) ((TRUE ∷ TRUE ∷ []) ∷ []) ≢ FALSE ∷ []
unfolding tree_of three_node_value
no_false_leaf e = cc

-- the values of the first step in the second
no_first_values : values_in (edge_to 4 false) (simulation_of gate []) ((TRUE ∷ TRUE ∷ []) ∷ (FALSE ∷ TRUE ∷ []) ∷ []) ≢ TRUE ∷ TRUE ∷ []
unfolding tree_of three_node_value
no_first_values e = cc
