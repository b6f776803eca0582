-- Part of what is promised.
-- One circuit after another. (The crate aig: `merge`.)
use Rattle.std.specs.Prelude.{◌≡◌, ℕ, ◌+◌, ◌-◌, ◌==◌, ◌↔◌, if◌then◌else◌, Bool, List, ◌++◌, length, map, drop, All}
use Rattle.aig_circuit.specs.declared.edge.AigEdge.{AigEdge}
use Rattle.aig_circuit.specs.declared.node.AigNode.{AigNode}
use Rattle.aig_circuit.specs.Circuit.{Circuit, IsInRange, IsLeaf}
use Rattle.aig_circuit.specs.Properties.{append_properties, map_properties}
use Rattle.aig_circuit.specs.Runs.{HaveSameValues, IsRun, IsInitial}
use Rattle.aig_circuit.specs.Renumber.{nodes_in_order, renumbered_edge, renumbered_latch}

-- the number that node n gets after so many nodes: 0 stays 0, and the others follow on
abbrev pub shifted : ℕ → ℕ → ℕ
shifted count n = if n == 0 then 0 else n + count - 1

-- the numbers of the nodes but 0
abbrev pub numbers_but_0 : List AigNode → List ℕ
numbers_but_0 nodes = map (λ node. node.node_id) (drop 1 nodes)

-- the nodes of the second circuit but 0 stand after those of the first, and all its lists after the
-- first one's lists
abbrev pub merged : Circuit → Circuit → Circuit
merged first second =
    let number = shifted (length first.nodes) in
    record {
      nodes =
          first.nodes
          ++ nodes_in_order second.nodes number (length first.nodes) (numbers_but_0 second.nodes);
      inputs = first.inputs ++ map number second.inputs;
      latchs = first.latchs ++ map (renumbered_latch number) second.latchs;
      properties =
          append_properties first.properties
          (map_properties (renumbered_edge number) second.properties);
      names = first.names;
    }

-- A run of the joint circuit is a pair of runs, one of each circuit, and an initial state a pair of
-- initial states. Node n of the first circuit is node n of the joint one, and node n of the second
-- is `number n`. Every pair is met, and every edge keeps its value.
pub record PairsRuns (first second joint : Circuit) (number : ℕ → ℕ) : Type 0 where
  pub runs : (last : ℕ) (z : ℕ → ℕ → Bool)
      → IsRun joint last z ↔ (IsRun first last z × IsRun second last (λ t n. z t (number n)))
  pub starts : (z : ℕ → Bool)
      → IsInitial joint z ↔ (IsInitial first z × IsInitial second (λ n. z (number n)))
  pub each : (x y : ℕ → Bool)
      → (z : ℕ → Bool) × ((n : ℕ) → IsLeaf first.nodes n → z n ≡ x n)
      × ((n : ℕ) → IsLeaf second.nodes n → z (number n) ≡ y n)
  pub first_values : (z : ℕ → Bool) (es : List AigEdge) → All (IsInRange first.nodes) es
      → HaveSameValues first.nodes z es joint.nodes z es
  pub second_values : (z : ℕ → Bool) (es : List AigEdge)
      → HaveSameValues second.nodes (λ n. z (number n)) es joint.nodes z
      (map (renumbered_edge number) es)
