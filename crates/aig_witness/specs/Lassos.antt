-- Part of what is promised.
-- Fair lassos of a circuit that a witness shows, by simulation in three values. (AIGER 1.9, "Witness
-- format"; three-valued simulation.)
use Rattle.std.specs.Prelude.{◌≡◌, ◌≢◌, ℕ, ◌<◌, ◌≤◌, List, [], length, take, slice_index_or, All}
use Rattle.aig_base.specs.declared.logic.three.Lbool.{Lbool}
use Rattle.aig_base.specs.declared.logic.three.Lbool.TheVariants.{TRUE, NONE}
use Rattle.aig_circuit.specs.declared.edge.AigEdge.{AigEdge}
use Rattle.aig_circuit.specs.Circuit.{Circuit}
use Rattle.aig_ternary.specs.Ternary.{simulation_of, stepped_all, value_in}
use Rattle.aig_witness.specs.Shown.{AreStarts, HoldsSteps, simulated}
use Rattle.aig_witness.specs.Witness.{Witness}

-- the state before step n, and so after step n - 1
abbrev pub state_before : Circuit → Witness → ℕ → List Lbool
state_before c w n = (stepped_all (simulation_of c w.state) (take n w.steps)).state

-- each value of a state is known, and is that of another one
abbrev pub IsSameKnown : List Lbool → List Lbool → Type 0
IsSameKnown state other =
    (i : ℕ) → i < length state
    → (slice_index_or state i NONE ≢ NONE)
    × (slice_index_or state i NONE ≡ slice_index_or other i NONE)

-- the state before step t is known to come again after the last step
abbrev pub ComesAgain : Circuit → Witness → ℕ → Type 0
ComesAgain c w t = IsSameKnown (state_before c w t) (state_before c w (length w.steps))

-- where the loop starts: the first step whose state is known to come again
pub record IsLoopStart (c : Circuit) (w : Witness) (l : ℕ) : Type 0 where
  pub within : l < length w.steps
  pub again : ComesAgain c w l
  pub first : (t : ℕ) → t < l → ¬ ComesAgain c w t

-- the edge is known to be true at step l or at a later one
abbrev pub IsMetFrom : Circuit → Witness → ℕ → AigEdge → Type 0
IsMetFrom c w l e =
    (t : ℕ) × (l ≤ t) × (t < length w.steps) × (value_in (simulated c w t) e ≡ TRUE)

-- the edges of the justice property that a witness names
abbrev pub named_justice : Circuit → Witness → List AigEdge
named_justice c w = slice_index_or c.properties.justice w.bad []

-- there are a value for each latch, a step, and the named justice property, and each latch has its
-- start
pub record IsLassoStarted (c : Circuit) (w : Witness) : Type 0 where
  pub latches : length w.state ≡ length c.latchs
  pub some : 0 < length w.steps
  pub named : w.bad < length c.properties.justice
  pub start : AreStarts c.latchs w.state

-- There is a value for each latch, and at each step for each input. By these each latch has its
-- start, each constraint is known to hold at each step, the loop starts at step l, and each edge of
-- the named justice property and of fairness is known to be true at one of its steps.
pub record IsKnownLasso (c : Circuit) (w : Witness) (l : ℕ) : Type 0 where
  pub started : IsLassoStarted c w
  pub steps : HoldsSteps c w
  pub loop : IsLoopStart c w l
  pub justice : All (IsMetFrom c w l) (named_justice c w)
  pub fairness : All (IsMetFrom c w l) c.properties.fairness
