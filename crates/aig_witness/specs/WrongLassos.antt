-- Part of what is promised.
-- What a refusal of a witness of a justice property tells. (AIGER 1.9, "Witness format".)
use Rattle.std.specs.Prelude.{◌≡◌, ◌≢◌, ℕ, ◌<◌, ◌≤◌, false, List, length, slice_index_or, Result, Ok, Err, All}
use Rattle.aig_circuit.specs.declared.edge.AigEdge.{AigEdge}
use Rattle.aig_circuit.specs.Circuit.{Circuit}
use Rattle.aig_circuit.specs.Edge.{edge_to}
use Rattle.aig_witness.specs.Answers.{IsWrongStep}
use Rattle.aig_witness.specs.Shown.{AreStarts, HoldsSteps}
use Rattle.aig_witness.specs.Witness.{Witness}
use Rattle.aig_witness.specs.declared.fault.WitnessFault.{WitnessFault}
use Rattle.aig_witness.specs.declared.fault.WitnessFault.TheVariants as witness
use Rattle.aig_witness.specs.declared.fair.fault.LassoFault.{LassoFault}
use Rattle.aig_witness.specs.declared.fair.fault.LassoFault.TheVariants as errors
use Rattle.aig_witness.specs.Lassos.{ComesAgain, IsKnownLasso, IsLassoStarted, IsLoopStart, IsMetFrom, named_justice}

-- edge n of these is the first that isn't known to be true at step l or a later one
pub record IsFirstUnmet (c : Circuit) (w : Witness) (l : ℕ) (edges : List AigEdge) (n : ℕ)
    : Type 0 where
  pub there : n < length edges
  pub unmet : ¬ IsMetFrom c w l (slice_index_or edges n (edge_to 0 false))
  pub before : (i : ℕ) → i < n → IsMetFrom c w l (slice_index_or edges i (edge_to 0 false))

-- what is wrong first of the run; memory is taken only once it is started
abbrev pub IsWrongRun : Circuit → Witness → WitnessFault → Type 0
IsWrongRun c w witness.Memory = IsLassoStarted c w
IsWrongRun c w witness.Latches = length w.state ≢ length c.latchs
IsWrongRun c w witness.NoStep = (length w.state ≡ length c.latchs) × (length w.steps ≡ 0)
IsWrongRun c w witness.Start =
    (length w.state ≡ length c.latchs) × (0 < length w.steps)
    × (w.bad < length c.properties.justice) × (¬ AreStarts c.latchs w.state)
IsWrongRun c w (witness.Inputs t) = IsLassoStarted c w × IsWrongStep c w (witness.Inputs t)
IsWrongRun c w (witness.Constraint t) =
    IsLassoStarted c w × IsWrongStep c w (witness.Constraint t)
IsWrongRun c w witness.NoBad = ⊥
IsWrongRun c w witness.Bad = ⊥

-- what is wrong first of a witness
abbrev pub IsWrongLasso : Circuit → Witness → LassoFault → Type 0
IsWrongLasso c w (errors.Run e) = IsWrongRun c w e
IsWrongLasso c w errors.NoJustice =
    (length w.state ≡ length c.latchs) × (0 < length w.steps)
    × (length c.properties.justice ≤ w.bad)
IsWrongLasso c w errors.NoLoop =
    IsLassoStarted c w × HoldsSteps c w
    × ((t : ℕ) → t < length w.steps → ¬ ComesAgain c w t)
IsWrongLasso c w (errors.Literal n) =
    IsLassoStarted c w × HoldsSteps c w
    × ((l : ℕ) × IsLoopStart c w l × IsFirstUnmet c w l (named_justice c w) n)
IsWrongLasso c w (errors.Fairness n) =
    IsLassoStarted c w × HoldsSteps c w
    × ((l : ℕ) × IsLoopStart c w l × All (IsMetFrom c w l) (named_justice c w)
    × IsFirstUnmet c w l c.properties.fairness n)

-- the values show the lasso whose loop starts at the step, or the first fault is named
abbrev pub ChecksLasso : Circuit → Witness → Result ℕ LassoFault → Type 0
ChecksLasso c w (Ok l) = IsKnownLasso c w l
ChecksLasso c w (Err e) = IsWrongLasso c w e
