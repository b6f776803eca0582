-- Part of what is promised.
-- A simulation by the lists of a moment.
use Rattle.std.specs.Prelude.{◌≡◌, ◌⊎◌, List, [], length}
use Rattle.aig_base.specs.declared.logic.three.Lbool.{Lbool}
use Rattle.aig_circuit.specs.Circuit.{Circuit}
use Rattle.aig_held.specs.declared.stepping.Stepped.{Stepped}
use Rattle.aig_ternary.specs.Ternary.{Simulation}

-- a state and values of a circuit: of each latch, and of each node or, before a step, of none
abbrev pub AreOf : Circuit → List Lbool → List Lbool → Type 0
AreOf c state values =
    (length state ≡ length c.latchs) × ((values ≡ []) ⊎ (length values ≡ length c.nodes))

-- the simulation of a circuit after a step
abbrev pub simulation_then : Circuit → Stepped → Simulation
simulation_then c s = record { circuit = c; state = s.state.items; values = s.values.items }
