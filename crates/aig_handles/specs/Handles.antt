-- Part of what is promised.
-- What a call does to the circuit, the simulation or the unrolled circuit that a handle holds.
use Rattle.std.specs.Prelude.{◌≡◌, ◌≤◌, ◌+◌, ◌^◌, ◌⊎◌, ℕ, length, Option, Some, None}
use Rattle.aig_circuit.specs.Circuit.{Circuit}
use Rattle.aig_giving.specs.declared.status.TheConstants.{DONE, EMPTY}
use Rattle.aig_held.specs.declared.handle.Handle.{Handle}
use Rattle.aig_held.specs.declared.held.Held.{Held}
use Rattle.aig_held.specs.declared.held.Held.TheVariants as kinds
use Rattle.aig_held.specs.Kept.{held}
use Rattle.aig_steps.specs.Unrolling.{SteppedCircuit}
use Rattle.aig_ternary.specs.Ternary.{Simulation}

-- what a handle holds, if anything
abbrev pub held_in : Handle → Option Held
held_in h = held h.at h.value

-- the circuit, where what is held is one
abbrev pub circuit_of_held : Option Held → Option Circuit
circuit_of_held None = None
circuit_of_held (Some (kinds.Circuit c)) = Some c
circuit_of_held (Some (kinds.Simulation s)) = None
circuit_of_held (Some (kinds.Unrolling u)) = None

-- the simulation, where what is held is one
abbrev pub simulation_of_held : Option Held → Option Simulation
simulation_of_held None = None
simulation_of_held (Some (kinds.Circuit c)) = None
simulation_of_held (Some (kinds.Simulation s)) = Some s
simulation_of_held (Some (kinds.Unrolling u)) = None

-- the circuit that is unrolled step by step, where what is held is one
abbrev pub unrolling_of_held : Option Held → Option SteppedCircuit
unrolling_of_held None = None
unrolling_of_held (Some (kinds.Circuit c)) = None
unrolling_of_held (Some (kinds.Simulation s)) = None
unrolling_of_held (Some (kinds.Unrolling u)) = Some u

-- the circuit that a handle holds, if it holds one
abbrev pub circuit_in : Handle → Option Circuit
circuit_in h = circuit_of_held (held_in h)

-- Without a value a call says so, and leaves all as it was. Else there is one before and after, and
-- of these two the rest is told.
abbrev pub OnValue : {A : Type 0} → Option A → Option A → ℕ → Type 0 → (A → A → Type 0) → Type 0
OnValue None new status Kept Does = (status ≡ EMPTY) × Kept
OnValue (Some old) None status Kept Does = ⊥
OnValue (Some old) (Some new) status Kept Does = Does old new

-- so it is of the circuit that a handle holds
abbrev pub OnHeld : Handle → Handle → ℕ → Type 0 → (Circuit → Circuit → Type 0) → Type 0
OnHeld old new status Kept =
    OnValue (circuit_in old) (circuit_in new) status ((held_in new ≡ held_in old) × Kept)

-- or of the simulation
abbrev pub OnSimulation : Handle → Handle → ℕ → Type 0 → (Simulation → Simulation → Type 0)
    → Type 0
OnSimulation old new status Kept =
    OnValue (simulation_of_held (held_in old)) (simulation_of_held (held_in new)) status
    ((held_in new ≡ held_in old) × Kept)

-- or of the circuit that is unrolled step by step
abbrev pub OnUnrolling : Handle → Handle → ℕ → Type 0
    → (SteppedCircuit → SteppedCircuit → Type 0) → Type 0
OnUnrolling old new status Kept =
    OnValue (unrolling_of_held (held_in old)) (unrolling_of_held (held_in new)) status
    ((held_in new ≡ held_in old) × Kept)

-- it is done, and this holds; or this stays as it was, and the status is that of a refusal
abbrev pub DoneOr : ℕ → Type 0 → Type 0 → Type 0 → Type 0
DoneOr status Done Kept Refused = ((status ≡ DONE) × Done) ⊎ (Kept × Refused)

-- the circuit is changed so; or it stays, and the status is that of a refusal
abbrev pub ChangesOr : ℕ → Circuit → Circuit → Type 0 → Type 0 → Type 0
ChangesOr status old new Done Refused = DoneOr status Done (new ≡ old) Refused

-- the status is this one, and what is asked doesn't hold
abbrev pub Unmet : ℕ → ℕ → Type 0 → Type 0
Unmet code status Asked = (status ≡ code) × ¬ Asked

-- with so many more nodes the circuit has at most 2^31
abbrev pub HasRoom : Circuit → ℕ → Type 0
HasRoom c more = length c.nodes + more ≤ 2 ^ 31
