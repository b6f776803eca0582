-- Part of what is promised.
-- Circuits with further steps. (Bounded model checking: time frames; the crate aig: `unroll`,
-- `unroll_to`.)
use Rattle.std.specs.Prelude.{◌≡◌, ℕ, zero, suc, ◌+◌, ◌-◌, ◌*◌, ◌<◌, ◌≤◌, ◌↔◌, ◌⊎◌, Bool, Option, Some, List, ◌++◌, length, map, slice_get, Contains}
use Rattle.std.specs.List.{AllZip}
use Rattle.aig_circuit.specs.declared.edge.AigEdge.{AigEdge}
use Rattle.aig_circuit.specs.declared.node.AigLatch.{AigLatch}
use Rattle.aig_circuit.specs.declared.node.AigNodeType.TheVariants.{And}
use Rattle.aig_circuit.specs.Node.{kind_at}
use Rattle.aig_circuit.specs.Tree.{edge_value}
use Rattle.aig_circuit.specs.Circuit.{Circuit, IsLeaf, latch_leaves}
use Rattle.aig_circuit.specs.Build.{Grows}
use Rattle.aig_circuit.specs.Properties.{Properties, AreProperties, append_properties}
use Rattle.aig_circuit.specs.Runs.{AgreeOnLeaves, HaveSameValues, IsRun, IsInitial, next_edges}
use Rattle.aig_unroll.specs.Frame.{with_step, with_steps}
use Rattle.aig_unroll.specs.Places.{Reads, leaves_after, other_leaves, unrolled_size}

-- the initial edges of the latches, in order
abbrev pub starts_of : List AigLatch → List (Option AigEdge)
starts_of latchs = map (λ latch. latch.init) latchs

-- old nodes, names, latch leaves and initial edges stay, and the added leaves are inputs, in rising
-- number
pub record KeepsCircuit (old new : Circuit) : Type 0 where
  pub nodes : Grows old.nodes new.nodes
  pub inputs : new.inputs ≡ old.inputs ++ leaves_after (length old.nodes) new.nodes
  pub names : new.names ≡ old.names
  pub leaves : latch_leaves new.latchs ≡ latch_leaves old.latchs
  pub starts : starts_of new.latchs ≡ starts_of old.latchs

-- ---- one step

-- Leaf values x of the new step: a latch's leaf has the value of the old next edge, and the r-th
-- other leaf that of the r-th new input.
pub record ReadsNext (from old : Circuit) (added : List ℕ) (y x : ℕ → Bool) : Type 0 where
  pub state : AllZip (λ n e. x n ≡ edge_value old.nodes y e) (latch_leaves from.latchs)
      (next_edges old.latchs)
  pub others : AllZip (λ n input. x n ≡ y input) (other_leaves from) added

-- The circuit old with one step of the circuit from after it: an edge for each edge of a property
-- list, with the value that it has in the new step, and so for next edges.
pub record UnrollsOnce (from old new : Circuit) : Type 0 where
  pub keeps : KeepsCircuit old new
  -- one input for each leaf of from that is no latch's
  pub count : length (leaves_after (length old.nodes) new.nodes) ≡ length (other_leaves from)
  pub added : Properties AigEdge
  pub with_added : new.properties ≡ append_properties old.properties added
  -- every y gives leaf values of the new step
  pub reads : (y : ℕ → Bool)
      → (x : ℕ → Bool) × ReadsNext from old (leaves_after (length old.nodes) new.nodes) y x
  pub values : (y x : ℕ → Bool) → ReadsNext from old (leaves_after (length old.nodes) new.nodes) y x
      → AreProperties (λ e f. edge_value new.nodes y f ≡ edge_value from.nodes x e) from.properties
      added
      × HaveSameValues new.nodes y (next_edges new.latchs) from.nodes x (next_edges from.latchs)
  pub size : length new.nodes ≤ length old.nodes + (length from.nodes - 1 - length from.latchs)
  -- and it is this circuit
  pub exact : new ≡ with_step from old

-- ---- all steps

-- The longer list has k + 1 times the entries: entry j of the p entries has at step t the value of
-- entry t * p + j.
pub record HasValuesAtSteps {E : Type 0} (k : ℕ) (old : ℕ → E → Bool) (entries : List E)
    (new : AigEdge → Bool) (longer : List AigEdge) : Type 0 where
  pub count : length longer ≡ (k + 1) * length entries
  pub each : (t j : ℕ) (entry : E) → t ≤ k → slice_get entries j ≡ Some entry
      → (e : AigEdge) × (slice_get longer (t * length entries + j) ≡ Some e) × (new e ≡ old t entry)

-- the same of sets, set for set and entry for entry
pub record SetsStandAtSteps {E : Type 0} (k : ℕ) (old : ℕ → E → Bool) (sets : List (List E))
    (new : AigEdge → Bool) (longer : List (List AigEdge)) : Type 0 where
  pub count : length longer ≡ (k + 1) * length sets
  pub each : (t j : ℕ) (set : List E) → t ≤ k → slice_get sets j ≡ Some set
      → (es : List AigEdge) × (slice_get longer (t * length sets + j) ≡ Some es)
      × AllZip (λ entry e. new e ≡ old t entry) set es

-- the same of all properties, list for list
pub record PropertiesStandAtSteps {E : Type 0} (k : ℕ) (old : ℕ → E → Bool) (p : Properties E)
    (new : AigEdge → Bool) (longer : Properties AigEdge) : Type 0 where
  pub outputs : HasValuesAtSteps k old p.outputs new longer.outputs
  pub bads : HasValuesAtSteps k old p.bads new longer.bads
  pub constraints : HasValuesAtSteps k old p.constraints new longer.constraints
  pub justice : SetsStandAtSteps k old p.justice new longer.justice
  pub fairness : HasValuesAtSteps k old p.fairness new longer.fairness

-- The edges of the unrolled circuit give each property at each step, and the state after step k,
-- its value on the run x.
pub record HasStepValues (c unrolled : Circuit) (k : ℕ) (value : AigEdge → Bool) (x : ℕ → ℕ → Bool)
    : Type 0 where
  pub properties : PropertiesStandAtSteps k (λ t. edge_value c.nodes (x t)) c.properties value
      unrolled.properties
  pub state : AllZip (λ old new. value new.next ≡ edge_value c.nodes (x k) old.next) c.latchs
      unrolled.latchs

-- The circuit unrolled by k steps: its leaf values are, by their places, exactly the runs of k + 1
-- steps, one for one.
pub record UnrollsTo (c : Circuit) (k : ℕ) (unrolled : Circuit) : Type 0 where
  pub keeps : KeepsCircuit c unrolled
  pub inputs : length unrolled.inputs ≡ length c.inputs + k * length (other_leaves c)
  pub run_of : (y : ℕ → Bool) → (x : ℕ → ℕ → Bool) × IsRun c k x × Reads c unrolled k y x
  pub values_of : (x : ℕ → ℕ → Bool) → IsRun c k x → (y : ℕ → Bool) × Reads c unrolled k y x
  pub one_run : (y : ℕ → Bool) (x z : ℕ → ℕ → Bool) → IsRun c k x → IsRun c k z
      → Reads c unrolled k y x → Reads c unrolled k y z → AgreeOnLeaves c k x z
  pub one_value : (x : ℕ → ℕ → Bool) (y z : ℕ → Bool) → Reads c unrolled k y x
      → Reads c unrolled k z x → (n : ℕ) → IsLeaf unrolled.nodes n → y n ≡ z n
  pub same : (y : ℕ → Bool) (x : ℕ → ℕ → Bool) → IsRun c k x → Reads c unrolled k y x
      → HasStepValues c unrolled k (edge_value unrolled.nodes y) x
  pub starts : (y : ℕ → Bool) (x : ℕ → ℕ → Bool) → IsRun c k x → Reads c unrolled k y x
      → IsInitial unrolled y ↔ IsInitial c (x 0)
  pub size : length unrolled.nodes ≤ unrolled_size c k
  -- and it is this circuit
  pub exact : unrolled ≡ with_steps c k

-- the circuit d is c with so many steps added, one after another
abbrev pub UnrollsBySteps : Circuit → ℕ → Circuit → Type 0
UnrollsBySteps c zero d = d ≡ c
UnrollsBySteps c (suc k) d = (old : Circuit) × UnrollsBySteps c k old × UnrollsOnce c old d

-- What a step adds: inputs and gates alone, and to each list as many entries as the circuit `from`
-- has, to each set of justice too.
pub record AddsExactly (from old new : Circuit) : Type 0 where
  pub nodes : (n : ℕ) → length old.nodes ≤ n → n < length new.nodes
      → (IsLeaf new.nodes n × Contains new.inputs n)
      ⊎ ((a b : AigEdge) × (kind_at new.nodes n ≡ Some (And a b)))
  pub inputs : length new.inputs ≡ length old.inputs + length (other_leaves from)
  pub latchs : length new.latchs ≡ length old.latchs
  pub added : Properties AigEdge
  pub properties : new.properties ≡ append_properties old.properties added
  pub as_many : AreProperties (λ e f. Unit {0}) from.properties added
