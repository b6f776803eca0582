-- Part of what is promised.
-- The circuit of lists of the program.
use Rattle.std.specs.Prelude.{ℕ, ◌+◌, ◌≤◌, List, length, map, string_bytes, vec_capacity, vec_len, String}
use Rattle.std.specs.declared.alloc.Global.{Global}
use Rattle.std.specs.Ordering.{nat_cmp}
use Rattle.std.specs.FinMap.{FinMap, from_entries}
use Rattle.aig_circuit.specs.Circuit.{Circuit}
use Rattle.aig_circuit.specs.Properties.{Properties}
use Rattle.aig_circuit.specs.declared.properties.Properties.{Properties as PropertyVecs}
use Rattle.aig_circuit.specs.declared.view.CircuitLists.{CircuitLists}

-- the names that the entries hold, by their bytes
abbrev pub names_of : List (ℕ × String Global) → FinMap nat_cmp (List ℕ)
names_of es = from_entries (map (λ entry. (entry.0, string_bytes entry.1)) es)

-- the lists of properties, by their entries
abbrev pub properties_of : {E : Type 0} → PropertyVecs E → Properties E
properties_of p =
    record {
      outputs = p.outputs.items;
      bads = p.bads.items;
      constraints = p.constraints.items;
      justice = map (λ set. set.items) p.justice.items;
      fairness = p.fairness.items;
    }

-- each list but justice has room for as many entries as the other has
pub record HasRoomFor {E : Type 0} (p : PropertyVecs E) (other : Properties E) : Type 0 where
  pub outputs : vec_len p.outputs + length other.outputs ≤ vec_capacity p.outputs
  pub bads : vec_len p.bads + length other.bads ≤ vec_capacity p.bads
  pub constraints : vec_len p.constraints + length other.constraints ≤ vec_capacity p.constraints
  pub fairness : vec_len p.fairness + length other.fairness ≤ vec_capacity p.fairness

-- the circuit of these lists
abbrev pub lists_circuit : CircuitLists → Circuit
lists_circuit lists = record {
  nodes = lists.nodes.items;
  inputs = lists.inputs.items;
  latchs = lists.latchs.items;
  properties = properties_of lists.properties;
  names = names_of lists.names.entries;
}
