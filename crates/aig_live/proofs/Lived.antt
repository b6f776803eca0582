-- The live circuit, from its parts.
use Rattle.aig_base.proofs.Words.{◌≡◌, List, [], ◌∷◌, ◌++◌, length}
use Rattle.aig_circuit.specs.declared.edge.AigEdge.{AigEdge}
use Rattle.aig_circuit.proofs.Words.{Circuit, no_properties}
use Rattle.aig_live.specs.declared.making.Parts.{Parts}
use Rattle.aig_live.specs.Assembled.{AreParts}
use Rattle.aig_live.specs.Names.{live_names, with_row}
use Rattle.aig_live.specs.Live.{IsLiveOf, copy_leaf, false_latches, save_leaf, saved_leaf, seen_leaf}

pub IsLiveOf-made : (edges : List AigEdge) (c new : Circuit) (p : Parts)
    → AreParts c.nodes new.nodes c.latchs edges p
    → new.inputs ≡ c.inputs ++ save_leaf c ∷ []
    → new.latchs ≡ c.latchs ++ false_latches (saved_leaf c) (p.active ∷ [])
    ++ false_latches (copy_leaf c) p.starts.items ++ false_latches (seen_leaf c) p.seen.items
    → new
    ≡ record c {
      nodes = new.nodes;
      inputs = new.inputs;
      latchs = new.latchs;
      properties = record no_properties {
        bads = p.bad ∷ [];
        constraints = c.properties.constraints;
      };
      names = with_row c.names (length c.nodes) (live_names c (length edges));
    }
    → IsLiveOf edges c new
IsLiveOf-made edges c new p are inputs latchs rest = record {
  nodes = are.grows;
  leaves = are.leaves;
  longer = are.longer;
  few = are.few;
  gates = are.gates;
  inputs = inputs;
  active = p.active;
  starts = p.starts.items;
  seen = p.seen.items;
  bad = p.bad;
  active_there = are.active_there;
  starts_there = are.starts_there;
  seen_there = are.seen_there;
  bad_there = are.bad_there;
  latchs = latchs;
  starts_count = are.starts_count;
  seen_count = are.seen_count;
  active_value = are.active_value;
  start_values = are.start_values;
  seen_values = are.seen_values;
  bad_value = are.bad_value;
  rest = rest;
}
