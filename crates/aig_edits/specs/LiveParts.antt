-- Serves private clauses alone.
-- What the parts of a live circuit's making do.
use Rattle.std.specs.Prelude.{◌^◌, ◌<◌, ◌≤◌, List, length, Result, Ok, Err}
use Rattle.aig_circuit.specs.declared.edge.AigEdge.{AigEdge}
use Rattle.aig_circuit.specs.declared.view.CircuitLists.{CircuitLists}
use Rattle.aig_circuit.specs.Circuit.{Circuit}
use Rattle.aig_circuit.specs.View.{lists_circuit}
use Rattle.aig_edit_laws.specs.Fair.{AreAsked}
use Rattle.aig_edit_laws.specs.declared.fairness.Fairness.{Fairness}
use Rattle.aig_live.specs.Live.{IsLiveOf, live_size}
use Rattle.aig_edits.specs.Lives.{IsUnasked}
use Rattle.aig_edits.specs.declared.edit_error.EditError.{EditError}
use Rattle.aig_edits.specs.declared.edit_error.EditError.TheVariants as errors

-- the circuit m is the live one of what is asked for of c, by a bound of its size within the format
abbrev pub IsLiveCircuit : Fairness → Circuit → Circuit → Type 0
IsLiveCircuit fairness c m =
    (edges : List AigEdge) × AreAsked c.properties fairness edges
    × (live_size c (length edges) ≤ 2 ^ 31)
    × IsLiveOf edges c m

-- it is made, or it is said why not
abbrev pub MakesLive : Fairness → Circuit → Result CircuitLists EditError → Type 0
MakesLive fairness c (Ok lists) = IsLiveCircuit fairness c (lists_circuit lists)
MakesLive fairness c (Err errors.TooLarge) =
    (edges : List AigEdge) × AreAsked c.properties fairness edges
    × (2 ^ 31 < live_size c (length edges))
MakesLive fairness c (Err e) = IsUnasked c.properties fairness e
