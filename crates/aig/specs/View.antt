-- Part of what is promised.
-- What contracts see of a circuit.
use Rattle.aig_circuit.specs.Circuit.{Circuit}
use Rattle.aig_circuit.specs.View.{lists_circuit}
use Rattle.aig.specs.declared.graph.Aig.TheInside.{Inside}

-- the circuit that the fields hold
abbrev pub circuit_of_lists : Inside → Circuit
circuit_of_lists a = lists_circuit a.lists
