-- Serves private clauses alone.
-- The steps of a check: where the loop starts, and what is met in it.
use Rattle.std.specs.Prelude.{◌≡◌, ◌↔◌, ℕ, ◌<◌, Bool, true, false, IsTrue, List, length, take, slice_index_or, Option, Some, None, All}
use Rattle.aig_base.specs.declared.logic.three.Lbool.{Lbool}
use Rattle.aig_circuit.specs.declared.edge.AigEdge.{AigEdge}
use Rattle.aig_circuit.specs.Circuit.{Circuit}
use Rattle.aig_ternary.specs.Ternary.{Simulation, simulation_of, stepped_all}
use Rattle.aig_witness.specs.Witness.{Witness}
use Rattle.aig_witness.specs.Lassos.{IsMetFrom, IsSameKnown, state_before}

-- the first step whose state is known and is the given one, up to which was simulated; or no step
abbrev pub FindsLoop : Circuit → Witness → List Lbool → Simulation → Option ℕ → Type 0
FindsLoop c w end after (Some l) =
    (l < length w.steps) × IsSameKnown (state_before c w l) end
    × ((t : ℕ) → t < l → ¬ IsSameKnown (state_before c w t) end)
    × (after ≡ stepped_all (simulation_of c w.state) (take l w.steps))
FindsLoop c w end after None =
    (t : ℕ) → t < length w.steps → ¬ IsSameKnown (state_before c w t) end

-- a mark for each edge, which says whether it is met from step l on
pub record AreMarks (c : Circuit) (w : Witness) (l : ℕ) (edges : List AigEdge) (marks : List Bool)
    : Type 0 where
  pub long : length marks ≡ length edges
  pub each : (i : ℕ) (d : AigEdge) → i < length edges
      → IsTrue (slice_index_or marks i false) ↔ IsMetFrom c w l (slice_index_or edges i d)

-- the first place with false, or all are true
abbrev pub IsFirstFalse : List Bool → Option ℕ → Type 0
IsFirstFalse marks (Some n) =
    (n < length marks) × (slice_index_or marks n false ≡ false)
    × ((i : ℕ) → i < n → IsTrue (slice_index_or marks i false))
IsFirstFalse marks None = (i : ℕ) → i < length marks → IsTrue (slice_index_or marks i false)
