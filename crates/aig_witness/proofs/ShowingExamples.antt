-- Small witnesses on a small circuit, computed.
use Rattle.aig_base.proofs.Words.{◌≡◌, true, false, List, [], ◌∷◌, Some, refl, empty}
use Rattle.aig_base.specs.declared.logic.three.Lbool.{Lbool}
use Rattle.aig_base.specs.declared.logic.three.Lbool.TheVariants.{FALSE, TRUE, NONE}
use Rattle.aig_circuit.proofs.Words.{no_properties, edge_to, Circuit}
use Rattle.aig_circuit.specs.declared.node.AigNodeType.TheVariants.{False, Leaf}
use Rattle.aig_circuit.specs.Tree.{tree_of}
use Rattle.aig_ternary.specs.Ternary.{three_node_value, value_in}
use Rattle.aig_witness.specs.Witness.{Witness}
use Rattle.aig_witness.specs.Shown.{named_bad, simulated}

-- latch 1 has the next edge !1, from false, and is bad where it is true
abbrev toggle : Circuit
toggle = record {
  nodes = record { node_id = 0; typ = False } ∷ record { node_id = 1; typ = Leaf } ∷ [];
  inputs = [];
  latchs = record { input = 1; next = edge_to 1 true; init = Some (edge_to 0 false) } ∷ [];
  properties = record no_properties { bads = edge_to 1 false ∷ [] };
  names = empty;
}

abbrev from : Lbool → List (List Lbool) → Witness
from value steps = record { bad = 0; state = value ∷ []; steps = steps }

-- it is bad at step 1
reached : value_in (simulated toggle (from FALSE ([] ∷ [] ∷ [])) 1) (named_bad toggle (from FALSE ([] ∷ [] ∷ []))) ≡ TRUE
unfolding tree_of three_node_value
reached = refl

-- not at step 0
too_few : value_in (simulated toggle (from FALSE ([] ∷ [])) 0) (named_bad toggle (from FALSE ([] ∷ []))) ≡ FALSE
unfolding tree_of three_node_value
too_few = refl

-- nor at step 2
too_many : value_in (simulated toggle (from FALSE ([] ∷ [] ∷ [] ∷ [])) 2) (named_bad toggle (from FALSE ([] ∷ [] ∷ [] ∷ []))) ≡ FALSE
unfolding tree_of three_node_value
too_many = refl

-- and it is not known where the state isn't
unknown : value_in (simulated toggle (from NONE ([] ∷ [] ∷ [])) 1) (named_bad toggle (from NONE ([] ∷ [] ∷ []))) ≡ NONE
unfolding tree_of three_node_value
unknown = refl
