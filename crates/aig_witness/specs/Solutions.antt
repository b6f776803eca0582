-- Part of what is promised.
-- From values of the variables of a query's clauses to the witness that they say. (Bounded model
-- checking; AIGER 1.9, "Witness format".) A variable of the clauses is a node of the unrolled
-- circuit.
use Rattle.std.specs.Prelude.{◌≡◌, ◌≢◌, ℕ, ◌+◌, ◌<◌, ◌≤◌, ◌^◌, Bool, false, Option, Some, None, List, length, map, slice_get, slice_index_or}
use Rattle.aig_base.specs.declared.logic.three.Lbool.{Lbool}
use Rattle.aig_base.specs.declared.logic.three.Lbool.TheVariants.{TRUE, NONE}
use Rattle.aig_base.specs.Three.{lbool_not_if}
use Rattle.aig_circuit.specs.declared.edge.AigEdge.{AigEdge}
use Rattle.aig_circuit.specs.Edge.{edge_to}
use Rattle.aig_circuit.specs.Circuit.{Circuit}
use Rattle.aig_unroll.specs.Places.{place_at}
use Rattle.aig_runs.specs.Queries.{last_bads}
use Rattle.aig_encode.specs.declared.encoding.Encoded.{Encoded}
use Rattle.aig_witness.specs.declared.witness.Witness as lists
use Rattle.aig_witness.specs.Witness.{Witness, said_by}
use Rattle.aig_witness.specs.Shown.{known_of}

-- the value of variable n: unknown where there is none
abbrev pub value_at : List Lbool → ℕ → Lbool
value_at values n = slice_index_or values n NONE

-- the value of an edge
abbrev pub edge_at : List Lbool → AigEdge → Lbool
edge_at values e = lbool_not_if e.compl (value_at values e.node_id)

-- the first state: the values of the latches' leaves
abbrev pub state_in : Circuit → List Lbool → List Lbool
state_in c values = map (λ latch. value_at values latch.input) c.latchs

-- the inputs at step t: the values at their places
abbrev pub inputs_in : Circuit → Circuit → List Lbool → ℕ → List Lbool
inputs_in c unrolled values t = map (λ n. value_at values (place_at c unrolled t n)) c.inputs

-- the inputs at the steps 0 to k
pub record AreInputsTo (c unrolled : Circuit) (k : ℕ) (values : List Lbool)
    (steps : List (List Lbool)) : Type 0 where
  pub count : length steps ≡ k + 1
  pub each : (t : ℕ) → t ≤ k → slice_get steps t ≡ Some (inputs_in c unrolled values t)

-- the value of the edge of this number
abbrev pub truth_at : List AigEdge → List Lbool → ℕ → Lbool
truth_at edges values i = edge_at values (slice_index_or edges i (edge_to 0 false))

-- the edge of this number is the first that is true
pub record IsFirstTrue (edges : List AigEdge) (values : List Lbool) (i : ℕ) : Type 0 where
  pub there : i < length edges
  pub here : truth_at edges values i ≡ TRUE
  pub first : (j : ℕ) → j < i → truth_at edges values j ≢ TRUE

-- no edge is true whose number a witness can name: these are below 2^32
abbrev pub HasNoTrue : List AigEdge → List Lbool → Type 0
HasNoTrue edges values = (i : ℕ) → i < length edges → i < 2 ^ 32 → truth_at edges values i ≢ TRUE

-- The witness that the values say: the first state, the inputs at the steps 0 to k, and the first
-- bad edge of step k that is true.
pub record IsWitnessIn (c unrolled : Circuit) (k : ℕ) (values : List Lbool) (w : Witness)
    : Type 0 where
  pub state : w.state ≡ state_in c values
  pub steps : AreInputsTo c unrolled k values w.steps
  pub bad : IsFirstTrue (last_bads c k unrolled) values w.bad

-- that witness of a query for step k, or none where no bad edge is true
abbrev pub WitnessOf : Encoded → ℕ → List Lbool → Option lists.Witness → Type 0
WitnessOf e k values (Some w) = IsWitnessIn e.circuit e.unrolled k values (said_by w)
WitnessOf e k values None = HasNoTrue (last_bads e.circuit k e.unrolled) values

-- the values are those of the assignment, for each variable below the count
abbrev pub AreValuesOf : (ℕ → Bool) → ℕ → List Lbool → Type 0
AreValuesOf v count values = (n : ℕ) → n < count → value_at values n ≡ known_of (v n)
