-- Part of what is promised.
-- The four lists of property edges. (AIGER 1.9: "Properties".)
use Rattle.std.specs.Prelude.{List}
use Rattle.aig_circuit.specs.declared.edge.AigEdge.{AigEdge}
use Rattle.aig_circuit.specs.Circuit.{Circuit}
use Rattle.aig_circuit.specs.declared.prop_list.PropList.{PropList}
use Rattle.aig_circuit.specs.declared.prop_list.PropList.TheVariants.{Outputs, Bads, Constraints, Fairness}

-- the edges of the list
abbrev pub edges_of : PropList → Circuit → List AigEdge
edges_of Outputs c = c.properties.outputs
edges_of Bads c = c.properties.bads
edges_of Constraints c = c.properties.constraints
edges_of Fairness c = c.properties.fairness

-- the circuit with these edges as its list
abbrev pub with_edges : PropList → Circuit → List AigEdge → Circuit
with_edges Outputs c es = record c { properties = record c.properties { outputs = es } }
with_edges Bads c es = record c { properties = record c.properties { bads = es } }
with_edges Constraints c es = record c { properties = record c.properties { constraints = es } }
with_edges Fairness c es = record c { properties = record c.properties { fairness = es } }
