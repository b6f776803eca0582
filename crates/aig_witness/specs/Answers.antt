-- Part of what is promised.
-- What a refusal of a witness tells. (AIGER 1.9, "Witness format".)
use Rattle.std.specs.Prelude.{◌≡◌, ◌≢◌, ◌-◌, ◌<◌, ◌≤◌, [], length, slice_index_or, Result, Ok, Err}
use Rattle.aig_base.specs.declared.logic.three.Lbool.TheVariants.{TRUE}
use Rattle.aig_circuit.specs.Circuit.{Circuit}
use Rattle.aig_ternary.specs.Ternary.{value_in}
use Rattle.aig_witness.specs.Witness.{Witness}
use Rattle.aig_witness.specs.declared.fault.WitnessFault.{WitnessFault}
use Rattle.aig_witness.specs.declared.fault.WitnessFault.TheVariants as errors
use Rattle.aig_witness.specs.Shown.{AreStarts, AreTrueIn, HoldsBefore, HoldsSteps, IsKnownWitness, named_bad, simulated}

-- what is wrong first of the steps: it has too few or too many values, or some constraint is not
-- known to hold
abbrev pub IsWrongStep : Circuit → Witness → WitnessFault → Type 0
IsWrongStep c w (errors.Inputs t) =
    HoldsBefore c w t × (t < length w.steps)
    × (length (slice_index_or w.steps t []) ≢ length c.inputs)
IsWrongStep c w (errors.Constraint t) =
    HoldsBefore c w t × (t < length w.steps)
    × (length (slice_index_or w.steps t []) ≡ length c.inputs)
    × (¬ AreTrueIn (simulated c w t) c.properties.constraints)
IsWrongStep c w errors.Memory = Unit {0}
IsWrongStep c w errors.Latches = ⊥
IsWrongStep c w errors.NoStep = ⊥
IsWrongStep c w errors.NoBad = ⊥
IsWrongStep c w errors.Start = ⊥
IsWrongStep c w errors.Bad = ⊥

-- what is looked at before the steps: there are a value for each latch, a step, and the named bad
-- edge, and each latch has its start
pub record IsStarted (c : Circuit) (w : Witness) : Type 0 where
  pub latches : length w.state ≡ length c.latchs
  pub some : 0 < length w.steps
  pub named : w.bad < length c.properties.bads
  pub start : AreStarts c.latchs w.state

-- what is wrong first of a witness; memory is taken only once it is started
abbrev pub IsWrong : Circuit → Witness → WitnessFault → Type 0
IsWrong c w errors.Memory = IsStarted c w
IsWrong c w errors.Latches = length w.state ≢ length c.latchs
IsWrong c w errors.NoStep = (length w.state ≡ length c.latchs) × (length w.steps ≡ 0)
IsWrong c w errors.NoBad =
    (length w.state ≡ length c.latchs) × (0 < length w.steps) × (length c.properties.bads ≤ w.bad)
IsWrong c w errors.Start =
    (length w.state ≡ length c.latchs) × (0 < length w.steps) × (w.bad < length c.properties.bads)
    × (¬ AreStarts c.latchs w.state)
IsWrong c w (errors.Inputs t) = IsStarted c w × IsWrongStep c w (errors.Inputs t)
IsWrong c w (errors.Constraint t) = IsStarted c w × IsWrongStep c w (errors.Constraint t)
IsWrong c w errors.Bad =
    IsStarted c w × HoldsSteps c w
    × (value_in (simulated c w (length w.steps - 1)) (named_bad c w) ≢ TRUE)

-- the values show the witness, or its first fault is named
abbrev pub Checks : {T : Type 0} → Circuit → Witness → Result T WitnessFault → Type 0
Checks c w (Ok x) = IsKnownWitness c w
Checks c w (Err e) = IsWrong c w e
