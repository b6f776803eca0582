-- Part of what is promised.
-- A circuit that is unrolled step by step. (Bounded model checking: time frames.)
use Rattle.std.specs.Prelude.{◌≡◌, ℕ, suc, ◌+◌, ◌-◌, ◌<◌, ◌≤◌, ◌^◌, List, length, Result, Ok, Err}
use Rattle.aig_circuit.specs.Circuit.{Circuit, IsCircuit}
use Rattle.aig_unroll.specs.Frame.{with_steps}
use Rattle.aig_unroll.specs.Places.{leaves_after}
use Rattle.aig_unroll.specs.Unroll.{UnrollsTo}
use Rattle.aig_steps.specs.declared.error.StepError.{StepError}
use Rattle.aig_steps.specs.declared.error.StepError.TheVariants as errors

-- a circuit, and how many further steps it has
pub record SteppedCircuit : Type 0 where
  pub circuit : Circuit
  pub steps : ℕ

-- the circuit with these steps
abbrev pub unrolled_of : SteppedCircuit → Circuit
unrolled_of s = with_steps s.circuit s.steps

-- With each of the steps it is a circuit, and unrolled by so many steps; and each node has a number
-- that the DIMACS format can write.
pub record IsStepped (s : SteppedCircuit) : Type 0 where
  pub circuit : IsCircuit s.circuit
  pub each : (t : ℕ) → t ≤ s.steps
      → IsCircuit (with_steps s.circuit t) × UnrollsTo s.circuit t (with_steps s.circuit t)
  pub few : length (unrolled_of s).nodes < 2 ^ 31

-- the circuit with one step more
abbrev pub with_one_more : SteppedCircuit → SteppedCircuit
with_one_more s = record s { steps = s.steps + 1 }

-- how many nodes there may be after the next step: one more for each gate and each leaf that is no
-- latch's
abbrev pub next_size : SteppedCircuit → ℕ
next_size s =
    length (unrolled_of s).nodes + (length s.circuit.nodes - 1 - length s.circuit.latchs)

-- one step more where there is room for it by that bound, and else nothing
abbrev pub StepsOr : SteppedCircuit → SteppedCircuit → Result (Unit {0}) StepError → Type 0
StepsOr old new (Ok _) = (new ≡ with_one_more old) × (next_size old < 2 ^ 31)
StepsOr old new (Err errors.Memory) = (new ≡ old) × (next_size old < 2 ^ 31)
StepsOr old new (Err errors.TooLarge) = (new ≡ old) × (2 ^ 31 ≤ next_size old)

-- the inputs that step t + 1 adds: the r-th is for the r-th leaf of the circuit that is no latch's,
-- in rising number
abbrev pub inputs_after : Circuit → ℕ → List ℕ
inputs_after c t =
    leaves_after (length (with_steps c t).nodes) (with_steps c (suc t)).nodes
