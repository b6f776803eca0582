-- Serves private clauses alone.
-- Room for the entries of another circuit.
use Rattle.std.specs.Prelude.{◌+◌, ◌≤◌, length, vec_capacity, vec_len}
use Rattle.aig_circuit.specs.declared.view.CircuitLists.{CircuitLists}
use Rattle.aig_circuit.specs.Circuit.{Circuit}
use Rattle.aig_circuit.specs.View.{HasRoomFor}

-- each list but the sets has room for the other circuit's entries
pub record HasRoomForCircuit (lists : CircuitLists) (other : Circuit) : Type 0 where
  pub nodes : vec_len lists.nodes + length other.nodes ≤ vec_capacity lists.nodes
  pub inputs : vec_len lists.inputs + length other.inputs ≤ vec_capacity lists.inputs
  pub latchs : vec_len lists.latchs + length other.latchs ≤ vec_capacity lists.latchs
  pub properties : HasRoomFor lists.properties other.properties
