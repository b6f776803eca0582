-- Part of what is promised.
-- The circuit whose bad states are reached where so many rounds ended. (k-liveness.)
use Rattle.std.specs.Prelude.{◌≡◌, ℕ, zero, suc, ◌+◌, ◌*◌, ◌<◌, ◌≤◌, ◌&&◌, ◌||◌, not, Bool, true, false, List, length, slice_index_or}
use Rattle.aig_circuit.specs.declared.edge.AigEdge.{AigEdge}
use Rattle.aig_circuit.specs.declared.node.AigNode.{AigNode}
use Rattle.aig_circuit.specs.Circuit.{Circuit}
use Rattle.aig_circuit.specs.Edge.{edge_to}
use Rattle.aig_circuit.specs.Tree.{edge_value}
use Rattle.aig_change.specs.Runs.{IsAllowedRun}
use Rattle.aig_live.specs.EndedRounds.{all_below, rounds}
use Rattle.aig_live.specs.Extended.{IsExtended}
use Rattle.aig_live.specs.Names.{rounds_names}

-- the value of edge i of a list
abbrev pub value_of : List AigNode → List AigEdge → (ℕ → Bool) → ℕ → Bool
value_of nodes edges x i = edge_value nodes x (slice_index_or edges i (edge_to 0 false))

-- edge i is true, or was in this round, by the leaf after the nodes
abbrev pub is_met : List AigNode → List AigEdge → (ℕ → Bool) → ℕ → Bool
is_met nodes edges x i = x (length nodes + i) || value_of nodes edges x i

-- a round ends: each edge is true, or was in this round
abbrev pub ends_now : List AigNode → List AigEdge → (ℕ → Bool) → Bool
ends_now nodes edges x = all_below (length edges) (is_met nodes edges x)

-- so many rounds ended before, by the leaves after those of the edges
abbrev pub ended_before : List AigNode → List AigEdge → (ℕ → Bool) → ℕ → Bool
ended_before nodes edges x zero = true
ended_before nodes edges x (suc r) = x (length nodes + length edges + r)

-- so many rounds ended before, or the last of them does now
abbrev pub ended_by : List AigNode → List AigEdge → (ℕ → Bool) → ℕ → Bool
ended_by nodes edges x zero = true
ended_by nodes edges x (suc r) =
    ended_before nodes edges x (suc r)
    || (ends_now nodes edges x && ended_before nodes edges x r)

-- how many nodes there are at most, for so many edges and rounds: a leaf for each of both, and
-- 4 (edges) + 2 (rounds) gates
abbrev pub rounds_size : Circuit → ℕ → ℕ → ℕ
rounds_size c edges count = length c.nodes + 5 * edges + 3 * count

-- The circuit with (edges) + (rounds) latches more, and one bad edge: so many rounds ended, the
-- last of them with this step or before. A round ends with the step by which each edge was true in
-- it. Old names stay, and what is added has its own.
pub record IsRoundsOf (edges : List AigEdge) (count : ℕ) (c new : Circuit) : Type 0 where
  pub nexts : List AigEdge
  pub bad : AigEdge
  pub extended : IsExtended 0 nexts bad (rounds_names (length edges) count) c new
  pub few : length new.nodes ≤ rounds_size c (length edges) count
  pub nexts_count : length nexts ≡ length edges + count
  -- a latch for each edge: it was true in this round
  pub met_values : (i : ℕ) (d : AigEdge) → i < length edges → (x : ℕ → Bool)
      → edge_value new.nodes x (slice_index_or nexts i d)
      ≡ is_met c.nodes edges x i && not (ends_now c.nodes edges x)
  -- and one for each round: so many ended
  pub ended_values : (r : ℕ) (d : AigEdge) → r < count → (x : ℕ → Bool)
      → edge_value new.nodes x (slice_index_or nexts (length edges + r) d)
      ≡ ended_by c.nodes edges x (suc r)
  pub bad_value : (x : ℕ → Bool)
      → edge_value new.nodes x bad ≡ ended_by c.nodes edges x count

-- A run of k + 1 steps from an initial state under the constraints, in which so many rounds end.
pub record IsRoundsRun (edges : List AigEdge) (count : ℕ) (c : Circuit) (k : ℕ)
    (x : ℕ → ℕ → Bool) : Type 0 where
  pub allowed : IsAllowedRun c k x
  pub ended : count ≤ rounds (length edges) (λ i t. value_of c.nodes edges (x t) i) (suc k)

-- there is one
abbrev pub HasRounds : List AigEdge → ℕ → Circuit → ℕ → Type 0
HasRounds edges count c k = (x : ℕ → ℕ → Bool) × IsRoundsRun edges count c k x
