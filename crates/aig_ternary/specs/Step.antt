-- Serves private clauses alone.
-- The parts of a step: values that are written at leaves, and a simulation by its lists.
use Rattle.std.specs.Prelude.{ℕ, List, ◌∷◌, slice_set, slice_index_or}
use Rattle.aig_base.specs.declared.logic.three.Lbool.{Lbool}
use Rattle.aig_base.specs.declared.logic.three.Lbool.TheVariants.{FALSE}
use Rattle.aig_base.specs.Three.{lbool_not_if}
use Rattle.aig_circuit.specs.declared.edge.AigEdge.{AigEdge}
use Rattle.aig_circuit.specs.Circuit.{Circuit}
use Rattle.aig_ternary.specs.Ternary.{Simulation}

-- the values with each given one at its number's place
abbrev pub with_given : List Lbool → List ℕ → List Lbool → List Lbool
with_given values (n ∷ ns) (given ∷ more) = with_given (slice_set values n given) ns more
with_given values ns given = values

-- the value of an edge, by the values of nodes
abbrev pub value_by : List Lbool → AigEdge → Lbool
value_by values e = lbool_not_if e.compl (slice_index_or values e.node_id FALSE)

-- the simulation of a circuit with this state and these values
abbrev pub simulation_at : Circuit → List Lbool → List Lbool → Simulation
simulation_at c state values = record { circuit = c; state = state; values = values }
