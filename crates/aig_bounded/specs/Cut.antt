-- Part of what is promised.
-- The question of the nodes that its output reaches. (Cone of influence.)
use Rattle.std.specs.Prelude.{◌≡◌, ℕ, Bool, false, if◌then◌else◌, List, [], ◌∷◌, slice_index_or}
use Rattle.std.specs.FinMap.{empty}
use Rattle.aig_circuit.specs.declared.edge.AigEdge.{AigEdge}
use Rattle.aig_circuit.specs.Circuit.{Circuit}
use Rattle.aig_circuit.specs.Properties.{no_properties}
use Rattle.aig_circuit.specs.Reach.{IsFanin, IsReached, MarksExactly}
use Rattle.aig_cone.specs.Refine.{AreKept, refined}
use Rattle.aig_bounded.specs.Shared.{Netlist}
use Rattle.aig_bounded.specs.declared.place.Place.{Place}

-- the circuit of all nodes, with one output
abbrev pub whole_question : Netlist → AigEdge → Circuit
whole_question net output =
    record {
      nodes = net.nodes;
      inputs = net.inputs;
      latchs = [];
      properties = record no_properties { outputs = output ∷ [] };
      names = empty;
    }

-- the places of the inputs that are marked
abbrev pub marked_places : List Bool → List ℕ → List Place → List Place
marked_places marks [] places = []
marked_places marks (n ∷ ns) [] = []
marked_places marks (n ∷ ns) (p ∷ ps) =
    if slice_index_or marks n false then p ∷ marked_places marks ns ps
    else marked_places marks ns ps

-- the places of the inputs that the output reaches
pub record KeepsReached (net : Netlist) (output : AigEdge) (kept : List Place) : Type 0 where
  pub marks : List Bool
  pub reached : MarksExactly net.nodes
      (IsReached (IsFanin net.nodes) (output.node_id ∷ [])) marks
  pub exact : kept ≡ marked_places marks net.inputs net.places

-- the circuit of what the properties reach
pub record IsKeptOf (old new : Circuit) : Type 0 where
  pub kept : List ℕ
  pub are_kept : AreKept old kept
  pub exact : new ≡ refined kept old

-- the circuit of what the output reaches, with the places of its inputs
pub record IsCutOf (net : Netlist) (output : AigEdge) (made : Circuit) (places : List Place)
    : Type 0 where
  pub nodes : IsKeptOf (whole_question net output) made
  pub keeps : KeepsReached net output places
