-- Part of what is promised.
-- One question about runs: whether some bad state is reached up to a step. (Bounded model checking;
-- AIGER 1.9, "Properties" and "Reset logic".)
use Rattle.std.specs.Prelude.{◌≡◌, ◌≢◌, ℕ, ◌+◌, ◌*◌, ◌≤◌, ◌↔◌, Bool, None, IsTrue, List, [], ◌∷◌, length, All, AllPairs, Contains}
use Rattle.std.specs.List.{AllZip, list_any}
use Rattle.aig_circuit.specs.declared.edge.AigEdge.{AigEdge}
use Rattle.aig_circuit.specs.declared.node.AigLatch.{AigLatch}
use Rattle.aig_circuit.specs.Tree.{edge_value}
use Rattle.aig_circuit.specs.Circuit.{Circuit, IsCircuit, IsClosed, IsLeaf}
use Rattle.aig_circuit.specs.Properties.{no_properties}
use Rattle.aig_circuit.specs.Runs.{IsRun, IsInitial}
use Rattle.aig_bounded.specs.declared.place.Place.{Place}
use Rattle.aig_bounded.specs.Exact.{IsExact}

-- ---- places

-- the place is a leaf at a step; a latch's leaf is one at the start alone, where the latch has no
-- initial edge
pub record IsPlace (c : Circuit) (p : Place) : Type 0 where
  pub leaf : IsLeaf c.nodes p.leaf
  pub start : (latch : AigLatch) → Contains c.latchs latch → latch.input ≡ p.leaf
      → (p.step ≡ 0) × (latch.init ≡ None)

-- y gives each input the run's value at its place
abbrev pub ReadsPlaces : List ℕ → List Place → (ℕ → Bool) → (ℕ → ℕ → Bool) → Type 0
ReadsPlaces inputs places y run = AllZip (λ n p. y n ≡ run p.step p.leaf) inputs places

-- ---- what is asked

-- some bad edge is true at a step up to k, and every constraint at each step up to that one
pub record Reaches (c : Circuit) (k : ℕ) (run : ℕ → ℕ → Bool) : Type 0 where
  pub step : ℕ
  pub within : step ≤ k
  pub constraints : (s : ℕ) → s ≤ step
      → All (λ e. IsTrue (edge_value c.nodes (run s) e)) c.properties.constraints
  pub bad : IsTrue (list_any (edge_value c.nodes (run step)) c.properties.bads)

-- The circuit asks by its one output whether c reaches a bad state at a step up to k, on a run from
-- an initial state. Its inputs stand at these places, one for one.
pub record IsQuestion (c : Circuit) (k : ℕ) (asks : Circuit) (output : AigEdge)
    (places : List Place) : Type 0 where
  pub circuit : IsCircuit asks
  pub closed : IsClosed asks
  pub latchs : asks.latchs ≡ []
  pub properties : asks.properties ≡ record no_properties { outputs = output ∷ [] }
  pub are_places : All (IsPlace c) places
  pub steps : All (λ p. p.step ≤ k) places
  pub distinct : AllPairs (λ p q. p ≢ q) places
  -- on each such run the output says whether a bad state is reached
  pub value : (run : ℕ → ℕ → Bool) (y : ℕ → Bool) → IsRun c k run → IsInitial c (run 0)
      → ReadsPlaces asks.inputs places y run
      → IsTrue (edge_value asks.nodes y output) ↔ Reaches c k run
  -- and every y is read off such a run
  pub runs : (y : ℕ → Bool) → (run : ℕ → ℕ → Bool) × IsRun c k run × IsInitial c (run 0)
      × ReadsPlaces asks.inputs places y run
  -- it is this circuit, and no other
  pub exact : IsExact c k asks places

-- ---- its size

-- how many nodes a step adds at most: one for each node but the constant, each bad edge and each
-- constraint, and two that join it to the steps before
abbrev pub step_size : Circuit → ℕ
step_size c =
    length c.nodes + length c.properties.bads + length c.properties.constraints + 1

-- how many nodes are made for the steps 0 to k at most: the constant, and those of each step
abbrev pub question_size : Circuit → ℕ → ℕ
question_size c k = 1 + (k + 1) * step_size c
