-- Serves private clauses alone.
-- What the parts of the making of a circuit that counts rounds do.
use Rattle.std.specs.Prelude.{ℕ, ◌^◌, ◌<◌, ◌≤◌, List, length, Result, Ok, Err}
use Rattle.aig_circuit.specs.declared.edge.AigEdge.{AigEdge}
use Rattle.aig_circuit.specs.declared.view.CircuitLists.{CircuitLists}
use Rattle.aig_circuit.specs.Circuit.{Circuit}
use Rattle.aig_circuit.specs.View.{lists_circuit}
use Rattle.aig_edit_laws.specs.Fair.{AreAsked}
use Rattle.aig_edit_laws.specs.declared.fairness.Fairness.{Fairness}
use Rattle.aig_live.specs.Rounds.{IsRoundsOf, rounds_size}
use Rattle.aig_edits.specs.Lives.{IsUnasked}
use Rattle.aig_edits.specs.declared.edit_error.EditError.{EditError}
use Rattle.aig_edits.specs.declared.edit_error.EditError.TheVariants as errors

-- the circuit m counts so many rounds of what is asked for of c, and is by a bound of its size
-- within the format
abbrev pub IsRoundsCircuit : Fairness → ℕ → Circuit → Circuit → Type 0
IsRoundsCircuit fairness count c m =
    (edges : List AigEdge) × AreAsked c.properties fairness edges
    × (rounds_size c (length edges) count ≤ 2 ^ 31)
    × IsRoundsOf edges count c m

-- it is made, or it is said why not
abbrev pub MakesRounds : Fairness → ℕ → Circuit → Result CircuitLists EditError → Type 0
MakesRounds fairness count c (Ok lists) = IsRoundsCircuit fairness count c (lists_circuit lists)
MakesRounds fairness count c (Err errors.TooLarge) =
    (edges : List AigEdge) × AreAsked c.properties fairness edges
    × (2 ^ 31 < rounds_size c (length edges) count)
MakesRounds fairness count c (Err e) = IsUnasked c.properties fairness e
