-- Part of what is promised.
-- Simulation in three values, whose state is the caller's or a handle's.
use Rattle.std.specs.Prelude.{◌≡◌, ◌*◌, ◌<◌, ◌⊎◌, ◌∷◌, ℕ, zero, suc, List, [], All, Some, drop, length, map, take}
use Rattle.aig_base.specs.declared.logic.three.Lbool.{Lbool}
use Rattle.aig_circuit.specs.declared.edge.AigEdge.{AigEdge}
use Rattle.aig_circuit.specs.Circuit.{Circuit, IsInRange}
use Rattle.aig_giving.specs.Given.{GivesOr, IsGiven}
use Rattle.aig_giving.specs.Values.{value_number, value_of}
use Rattle.aig_giving.specs.declared.status.TheConstants.{DONE, MEMORY, SMALL}
use Rattle.aig_held.specs.declared.handle.Handle.{Handle}
use Rattle.aig_held.specs.declared.held.Held.TheVariants as kinds
use Rattle.aig_handles.specs.Handles.{DoneOr, Unmet, held_in}
use Rattle.aig_handles.specs.declared.status.TheConstants.{COUNT, RANGE, VALUE}
use Rattle.aig_ternary.specs.Ternary.{HasValue, Simulation, given_values, simulation_of, stepped, stepped_all, three_values, value_in, values_in}

-- the values of numbers
abbrev pub values_of : List ℕ → List Lbool
values_of = map value_of

-- each number is that of one of the three values
abbrev pub AreValues : List ℕ → Type 0
AreValues = All (λ n. n < 3)

-- there is another count of values; or the count fits, and one is none of the three; or memory was
-- refused
abbrev pub IsRefused : ℕ → Type 0 → Type 0 → Type 0
IsRefused status Counted Valued =
    Unmet COUNT status Counted ⊎ (Counted × Unmet VALUE status Valued) ⊎ (status ≡ MEMORY)

-- there is a value for each input and each latch
abbrev pub CountsFit : List ℕ → List ℕ → Circuit → Type 0
CountsFit inputs latchs c =
    (length inputs ≡ length c.inputs) × (length latchs ≡ length c.latchs)

-- and each is one of the three
abbrev pub AreLeafValues : List ℕ → List ℕ → Circuit → Type 0
AreLeafValues inputs latchs c =
    CountsFit inputs latchs c × AreValues inputs × AreValues latchs

-- or it isn't so, or memory was refused
abbrev pub HasNoValues : List ℕ → List ℕ → ℕ → Circuit → Type 0
HasNoValues inputs latchs status c =
    IsRefused status (CountsFit inputs latchs c) (AreValues inputs × AreValues latchs)

-- the same of a state, which has a value for each latch
abbrev pub IsState : List ℕ → Circuit → Type 0
IsState state c = (length state ≡ length c.latchs) × AreValues state

abbrev pub HasNoState : List ℕ → ℕ → Circuit → Type 0
HasNoState state status c =
    IsRefused status (length state ≡ length c.latchs) (AreValues state)

-- and of the inputs of so many steps, which have a value for each input of each step
abbrev pub AreInputs : List ℕ → ℕ → Circuit → Type 0
AreInputs inputs steps c = (length inputs ≡ steps * length c.inputs) × AreValues inputs

abbrev pub HasNoStep : List ℕ → ℕ → ℕ → Circuit → Type 0
HasNoStep inputs steps status c =
    IsRefused status (length inputs ≡ steps * length c.inputs) (AreValues inputs)

-- the numbers are those of the nodes' values where inputs and latches have these
abbrev pub AreNodeValues : List ℕ → List ℕ → Circuit → List ℕ → Type 0
AreNodeValues inputs latchs c numbers =
    AreLeafValues inputs latchs c
    × (numbers
    ≡ map value_number (three_values c (given_values c (values_of inputs) (values_of latchs))))

-- ---- the caller's state

-- the simulation that begins in this state, after a step with these inputs
abbrev pub after_step : Circuit → List ℕ → List ℕ → Simulation
after_step c state inputs = stepped (simulation_of c (values_of state)) (values_of inputs)

-- the values of the step are given, and the state that follows; where they don't fit, the state
-- stays
pub record GivesStep (c : Circuit) (inputs before after : List ℕ) (status : ℕ) (old new : List ℕ)
    (needed : ℕ) : Type 0 where
  pub asked : AreLeafValues inputs before c
  pub values : IsGiven status (map value_number (after_step c before inputs).values) old new needed
  pub whole : status ≡ DONE → after ≡ map value_number (after_step c before inputs).state
  pub short : status ≡ SMALL → after ≡ before

-- so it is; or nothing is given, and the status is that of a refusal
abbrev pub StepsOr : List ℕ → List ℕ → List ℕ → ℕ → List ℕ → List ℕ → ℕ → ℕ → Circuit → Type 0
StepsOr inputs before after status old new had needed c =
    GivesStep c inputs before after status old new needed
    ⊎ ((after ≡ before) × (new ≡ old) × (needed ≡ had) × HasNoValues inputs before status c)

-- ---- a handle's state

-- the handle holds the simulation that begins in this state; or it holds what it held
abbrev pub BeginsOr : List ℕ → ℕ → Handle → Handle → Circuit → Type 0
BeginsOr state status old new c =
    DoneOr status (IsState state c
    × (held_in new ≡ Some (kinds.Simulation (simulation_of c (values_of state)))))
    (new ≡ old) (HasNoState state status c)

-- the simulation is moved by a step with these inputs; or it stays
abbrev pub SimulatesOr : List ℕ → ℕ → Simulation → Simulation → Type 0
SimulatesOr inputs status old new =
    DoneOr status (AreInputs inputs 1 old.circuit × (new ≡ stepped old (values_of inputs)))
    (new ≡ old) (HasNoStep inputs 1 status old.circuit)

-- the value of an edge in the last step is told; or there is none
abbrev pub TellsValueOr : AigEdge → ℕ → ℕ → ℕ → Simulation → Type 0
TellsValueOr e status before value s =
    DoneOr status (HasValue s e × (value ≡ value_number (value_in s e))) (value ≡ before)
    (Unmet RANGE status (HasValue s e))

-- the state in which the next step begins is given
abbrev pub GivesState : ℕ → List ℕ → List ℕ → ℕ → ℕ → Simulation → Type 0
GivesState status old new before needed s =
    GivesOr (λ items. items ≡ map value_number s.state) status old new before needed
    (status ≡ MEMORY)

-- the lists of so many steps, of which each has so many values
abbrev pub rows_of : ℕ → ℕ → List Lbool → List (List Lbool)
rows_of count zero values = []
rows_of count (suc steps) values = take count values ∷ rows_of count steps (drop count values)

-- the inputs of each of so many steps of a circuit
abbrev pub steps_of : Circuit → ℕ → List ℕ → List (List Lbool)
steps_of c steps inputs = rows_of (length c.inputs) steps (values_of inputs)

-- the values of an edge in steps with these inputs are given, and the simulation is moved; where
-- they don't fit, it stays
pub record GivesSteps (e : AigEdge) (inputs : List (List Lbool)) (before after : Simulation)
    (status : ℕ) (old new : List ℕ) (needed : ℕ) : Type 0 where
  pub values : IsGiven status (map value_number (values_in e before inputs)) old new needed
  pub whole : status ≡ DONE → after ≡ stepped_all before inputs
  pub short : status ≡ SMALL → after ≡ before

-- the edge is there, and so are the inputs of the steps
abbrev pub IsAsked : AigEdge → List ℕ → ℕ → Circuit → Type 0
IsAsked e inputs steps c = IsInRange c.nodes e × AreInputs inputs steps c

-- the edge isn't there; or it is, but the inputs of the steps aren't, or memory was refused
abbrev pub HasNoSteps : AigEdge → List ℕ → ℕ → ℕ → Circuit → Type 0
HasNoSteps e inputs steps status c =
    Unmet RANGE status (IsInRange c.nodes e)
    ⊎ (IsInRange c.nodes e × HasNoStep inputs steps status c)

-- so it is; or nothing is given, and the status is that of a refusal
abbrev pub AllStepsOr : AigEdge → List ℕ → ℕ → ℕ → List ℕ → List ℕ → ℕ → ℕ → Simulation
    → Simulation → Type 0
AllStepsOr e inputs steps status old new had needed before after =
    (IsAsked e inputs steps before.circuit
    × GivesSteps e (steps_of before.circuit steps inputs) before after status old new needed)
    ⊎ ((after ≡ before) × (new ≡ old) × (needed ≡ had)
    × HasNoSteps e inputs steps status before.circuit)
