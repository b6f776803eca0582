-- Part of what is promised.
-- Circuits that are unrolled step by step.
use Rattle.std.specs.Prelude.{◌≡◌, ◌+◌, ◌-◌, ◌<◌, ◌≤◌, ◌^◌, ◌⊎◌, ℕ, List, OnOk, Result, Err, Some, length, map, ℤ}
use Rattle.std.specs.List.{flat_map}
use Rattle.aig_base.specs.declared.logic.literal.Lit.{Lit}
use Rattle.aig_circuit.specs.Circuit.{Circuit}
use Rattle.aig_circuit.specs.Edge.{literal_of}
use Rattle.aig_giving.specs.Given.{GivesOr}
use Rattle.aig_giving.specs.Numbers.{clause_numbers}
use Rattle.aig_giving.specs.Statuses.{refutation_status, status_by}
use Rattle.aig_giving.specs.declared.status.TheConstants.{DONE, MEMORY}
use Rattle.aig_held.specs.declared.handle.Handle.{Handle}
use Rattle.aig_held.specs.declared.held.Held.TheVariants as kinds
use Rattle.aig_handles.specs.Handles.{DoneOr, Unmet, held_in}
use Rattle.aig_handles.specs.declared.status.TheConstants.{FULL, RANGE}
use Rattle.aig_refutation.specs.Checking.{Shows}
use Rattle.aig_refutation.specs.declared.error.RefutationError.{RefutationError}
use Rattle.aig_refutation.specs.declared.error.RefutationError.TheVariants as errors
use Rattle.aig_runs.specs.Safety.{IsCircuitSafeAt}
use Rattle.aig_steps.specs.Induction.{IsCircuitInductive}
use Rattle.aig_steps.specs.Stepwise.{bads_at, initial_clauses, step_clauses, stepwise_query, stepwise_window}
use Rattle.aig_steps.specs.Unrolling.{SteppedCircuit, inputs_after, next_size, with_one_more}
use Rattle.aig_unroll.specs.Frame.{with_steps}

-- the handle holds the circuit without further steps; or what it held, where the circuit has 2^31
-- nodes or more, or memory was refused
abbrev pub BeginsUnrollingOr : ℕ → Handle → Handle → Circuit → Type 0
BeginsUnrollingOr status old new c =
    DoneOr status ((length c.nodes < 2 ^ 31)
    × (held_in new ≡ Some (kinds.Unrolling (record { circuit = c; steps = 0 }))))
    (new ≡ old) (Unmet FULL status (length c.nodes < 2 ^ 31) ⊎ (status ≡ MEMORY))

-- there is one step more; or all is as it was, where there may be no room for its nodes, or memory
-- was refused
abbrev pub AddsStepOr : ℕ → SteppedCircuit → SteppedCircuit → Type 0
AddsStepOr status old new =
    DoneOr status ((next_size old < 2 ^ 31) × (new ≡ with_one_more old)) (new ≡ old)
    (Unmet FULL status (next_size old < 2 ^ 31) ⊎ (status ≡ MEMORY))

-- the count of further steps is told
abbrev pub TellsSteps : ℕ → ℕ → SteppedCircuit → SteppedCircuit → Type 0
TellsSteps status count old new = (status ≡ DONE) × (new ≡ old) × (count ≡ old.steps)

-- the numbers are those of the clauses
abbrev pub AreNumbersOf : List (List Lit) → List ℤ → Type 0
AreNumbersOf clauses numbers = numbers ≡ flat_map clause_numbers clauses

-- the numbers are those of the clauses of a step, which is there
abbrev pub AreStepClauses : ℕ → SteppedCircuit → List ℤ → Type 0
AreStepClauses step s numbers =
    (step ≤ s.steps) × AreNumbersOf (step_clauses s.circuit step) numbers

-- the literals are those of the bad edges of a step, which is there
abbrev pub AreBads : ℕ → SteppedCircuit → List ℕ → Type 0
AreBads step s literals =
    (step ≤ s.steps) × (literals ≡ map literal_of (bads_at s.circuit step))

-- the step is there, and adds inputs: step 0 has its own
abbrev pub AddsInputs : ℕ → SteppedCircuit → Type 0
AddsInputs step s = (0 < step) × (step ≤ s.steps)

-- there is no such step, or memory was refused
abbrev pub HasNoSuchStep : ℕ → ℕ → SteppedCircuit → Type 0
HasNoSuchStep step status s = Unmet RANGE status (step ≤ s.steps) ⊎ (status ≡ MEMORY)

-- the clauses of a step are given; or there is no such step
abbrev pub GivesStepClauses : ℕ → ℕ → List ℤ → List ℤ → ℕ → ℕ → SteppedCircuit → Type 0
GivesStepClauses step status old new before needed s =
    GivesOr (AreStepClauses step s) status old new before needed (HasNoSuchStep step status s)

-- the clauses of initial values are given
abbrev pub GivesInitialClauses : ℕ → List ℤ → List ℤ → ℕ → ℕ → SteppedCircuit → Type 0
GivesInitialClauses status old new before needed s =
    GivesOr (AreNumbersOf (initial_clauses s.circuit)) status old new before needed
    (status ≡ MEMORY)

-- the bad edges of a step are given; or there is no such step
abbrev pub GivesBads : ℕ → ℕ → List ℕ → List ℕ → ℕ → ℕ → SteppedCircuit → Type 0
GivesBads step status old new before needed s =
    GivesOr (AreBads step s) status old new before needed (HasNoSuchStep step status s)

-- the inputs that a step after the first adds are given; or there is no such step
abbrev pub GivesAddedInputs : ℕ → ℕ → List ℕ → List ℕ → ℕ → ℕ → SteppedCircuit → Type 0
GivesAddedInputs step status old new before needed s =
    GivesOr (λ inputs. AddsInputs step s × (inputs ≡ inputs_after s.circuit (step - 1))) status old
    new before needed (Unmet RANGE status (AddsInputs step s))

-- ---- proofs

-- The bytes are judged as a proof that clauses, of so many variables, can't be satisfied. This
-- holds where they are taken; else the status says why not. No read of memory fails.
pub record JudgesProof (variables : ℕ) (clauses : List (List Lit)) (Holds : Type 0)
    (proof : List ℕ) (status : ℕ) : Type 0 where
  pub result : Result (Unit {0}) RefutationError
  pub shown : Shows variables clauses (Some proof) result
  pub holds : OnOk result Holds
  pub read : ¬ (result ≡ Err errors.Stream)
  pub told : status ≡ status_by refutation_status result

-- it is one that the circuit is safe at a step; or there is no such step
abbrev pub ChecksStepOr : ℕ → List ℕ → ℕ → SteppedCircuit → Type 0
ChecksStepOr step proof status s =
    ((step ≤ s.steps) × JudgesProof (length (with_steps s.circuit step).nodes)
    (stepwise_query s.circuit step) (IsCircuitSafeAt s.circuit step) proof status)
    ⊎ Unmet RANGE status (step ≤ s.steps)

-- it is one that no window of k + 2 steps is bad first at its end; or there aren't so many steps
abbrev pub ChecksWindowOr : ℕ → List ℕ → ℕ → SteppedCircuit → Type 0
ChecksWindowOr k proof status s =
    ((k < s.steps) × JudgesProof (length (with_steps s.circuit (k + 1)).nodes)
    (stepwise_window s.circuit k) (IsCircuitInductive s.circuit k) proof status)
    ⊎ Unmet RANGE status (k < s.steps)
