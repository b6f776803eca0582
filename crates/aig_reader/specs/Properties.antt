-- Serves private clauses alone.
-- Outputs and properties.
use Rattle.std.specs.Prelude.{◌≡◌, ℕ}
use Rattle.aig_circuit.specs.declared.edge.AigEdge.{AigEdge}
use Rattle.aig_circuit.specs.declared.properties.Properties.{Properties as PropertyVecs}
use Rattle.aig_circuit.specs.Properties.{Properties, map_properties}
use Rattle.aig_circuit.specs.View.{properties_of}
use Rattle.aig_ordering.specs.Lists.{edge_from}

-- the edges were made of these literals
abbrev pub ArePropertiesOf : PropertyVecs AigEdge → Properties ℕ → Type 0
ArePropertiesOf edges literals = properties_of edges ≡ map_properties edge_from literals
