-- Serves private clauses alone.
-- The levels of nodes.
use Rattle.std.specs.Prelude.{◌≡◌, ℕ, ◌<◌, ◌≤◌, List, length, slice_index}
use Rattle.aig_circuit.specs.declared.node.AigNode.{AigNode}
use Rattle.aig_edits.specs.Info.{HasPath}

-- the greatest number of gates on a path that ends at node n
pub record IsLevel (nodes : List AigNode) (n level : ℕ) : Type 0 where
  pub path : HasPath nodes level n
  pub most : (k : ℕ) → HasPath nodes k n → k ≤ level

-- that of each of the first so many nodes
pub record AreLevels (nodes : List AigNode) (count : ℕ) (levels : List ℕ) : Type 0 where
  pub long : length levels ≡ count
  pub each : (m : ℕ) → m < count → IsLevel nodes m (slice_index levels m)
