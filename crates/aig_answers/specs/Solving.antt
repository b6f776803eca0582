-- Serves private clauses alone.
-- The run that values of a question's variables say, and its first bad state.
use Rattle.std.specs.Prelude.{◌≡◌, ◌≢◌, ℕ, ◌+◌, ◌<◌, ◌≤◌, ◌^◌, Bool, true, false, IsTrue, Option, Some, None, List, [], length, take, All, slice_get, slice_index, slice_index_or, slice_set}
use Rattle.aig_base.specs.declared.logic.three.Lbool.{Lbool}
use Rattle.aig_base.specs.declared.logic.three.Lbool.TheVariants.{FALSE, TRUE, NONE}
use Rattle.aig_circuit.specs.declared.edge.AigEdge.{AigEdge}
use Rattle.aig_circuit.specs.declared.node.AigLatch.{AigLatch}
use Rattle.aig_circuit.specs.Circuit.{Circuit}
use Rattle.aig_circuit.specs.Edge.{edge_to}
use Rattle.aig_ternary.specs.Ternary.{Simulation, simulation_of, stepped_all, value_in}
use Rattle.aig_witness.specs.Machine.{IsGiven}
use Rattle.aig_witness.specs.Shown.{AreStarts, AreTrueIn, IsKnownWitness, known_of}
use Rattle.aig_witness.specs.Witness.{Witness}
use Rattle.aig_answers.specs.declared.bounded_checks.naming.Named.{Named}
use Rattle.aig_answers.specs.declared.bounded_checks.simulating.Reached.{Reached}
use Rattle.aig_answers.specs.Asking.{assigned}

-- ---- the run

-- the value of a latch at step 0 by its initial edge, and false where it has none
abbrev pub value_of_init : Option AigEdge → Lbool
value_of_init None = FALSE
value_of_init (Some e) = known_of e.compl

-- the value of a latch at step 0
abbrev pub start_value : AigLatch → Lbool
start_value latch = value_of_init latch.init

-- each latch has a value and its start, each input a value at the steps 0 to k, and all are known
pub record Begins (c : Circuit) (k : ℕ) (w : Witness) : Type 0 where
  pub latches : length w.state ≡ length c.latchs
  pub start : AreStarts c.latchs w.state
  pub count : length w.steps ≡ k + 1
  pub inputs : All (λ row. length row ≡ length c.inputs) w.steps
  pub given : IsGiven w

-- there is room for a latch's value at step 0, or an input's at a step
abbrev pub HasPlace : Bool → Witness → ℕ → ℕ → Type 0
HasPlace true w step number = number < length w.state
HasPlace false w step number =
    (step < length w.steps) × (number < length (slice_index_or w.steps step []))

-- and so for what has this name
abbrev pub HasRoom : Witness → Named → Type 0
HasRoom w name = HasPlace name.is_latch w name.step name.number

-- a latch is given its value at step 0, or an input at a step
abbrev pub put : Bool → Witness → ℕ → ℕ → Lbool → Witness
put true w step number value = record w { state = slice_set w.state number value }
put false w step number value =
    let row = slice_set (slice_index_or w.steps step []) number value in
    record w { steps = slice_set w.steps step row }

-- and so what has this name
abbrev pub with_value : Witness → Named → Lbool → Witness
with_value w name value = put name.is_latch w name.step name.number value

-- a latch's value at step 0, or an input's at a step
abbrev pub value_at : Bool → Witness → ℕ → ℕ → Lbool
value_at true w step number = slice_index_or w.state number NONE
value_at false w step number = slice_index_or (slice_index_or w.steps step []) number NONE

-- and so that of what has this name
abbrev pub value_said : Witness → Named → Lbool
value_said w name = value_at name.is_latch w name.step name.number

-- what has a name has the value of the leaf at its place
abbrev pub SaysAll : List Named → List ℕ → List Lbool → Witness → Type 0
SaysAll named leaves values w =
    (i : ℕ) (d : Named) → i < length named
    → value_said w (slice_index_or named i d) ≡ known_of (assigned values (slice_index leaves i))

-- a latch without initial edge at step 0, or an input at a step
abbrev pub IsOpenAt : Bool → Circuit → ℕ → ℕ → Type 0
IsOpenAt true c step number =
    (step ≡ 0) × ((d : AigLatch) → (slice_index_or c.latchs number d).init ≡ None)
IsOpenAt false c step number = Unit {0}

-- and so what has this name
abbrev pub IsOpen : Circuit → Named → Type 0
IsOpen c name = IsOpenAt name.is_latch c name.step name.number

-- of these nothing is true
abbrev pub IsBlank : Circuit → Witness → Type 0
IsBlank c w = (name : Named) → IsOpen c name → value_said w name ≢ TRUE

-- or just what has a name, and a true value at its place
abbrev pub SaysOnly : Circuit → List Named → List ℕ → List Lbool → Witness → Type 0
SaysOnly c named leaves values w =
    (name : Named) → IsOpen c name → value_said w name ≡ TRUE
    → (j : ℕ) × (slice_get named j ≡ Some name)
    × IsTrue (assigned values (slice_index leaves j))

-- ---- its first bad state

-- the simulation after step t
abbrev pub after : Circuit → List Lbool → List (List Lbool) → ℕ → Simulation
after c state rows t = stepped_all (simulation_of c state) (take (t + 1) rows)

-- each constraint is known to hold at each step up to t
abbrev pub IsConstrained : Circuit → List Lbool → List (List Lbool) → ℕ → Type 0
IsConstrained c state rows t =
    (s : ℕ) → s ≤ t → AreTrueIn (after c state rows s) c.properties.constraints

-- the edge of this number is known to be true
abbrev pub IsTrueIn : Simulation → List AigEdge → ℕ → Type 0
IsTrueIn s edges i =
    (i < length edges) × (value_in s (slice_index_or edges i (edge_to 0 false)) ≡ TRUE)

-- no edge is whose number a witness can name: these are below 2^32
abbrev pub HasNoTrueIn : Simulation → List AigEdge → Type 0
HasNoTrueIn s edges = (i : ℕ) → i < 2 ^ 32 → ¬ IsTrueIn s edges i

-- a step with a bad state, with the constraints up to there; or there is none
abbrev pub IsReached : Circuit → List Lbool → List (List Lbool) → Option Reached → Type 0
IsReached c state rows (Some reached) =
    (reached.step < length rows) × IsConstrained c state rows reached.step
    × IsTrueIn (after c state rows reached.step) c.properties.bads reached.bad
IsReached c state rows None =
    (t : ℕ) → t < length rows → IsConstrained c state rows t
    → HasNoTrueIn (after c state rows t) c.properties.bads

-- ---- results

-- a known witness of at most the steps 0 to k
abbrev pub WitnessWithin : Circuit → ℕ → Witness → Type 0
WitnessWithin c k w = IsKnownWitness c w × (length w.steps ≤ k + 1)
