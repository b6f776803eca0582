-- Serves private clauses alone.
-- Edges that are made one after another.
use Rattle.std.specs.Prelude.{◌≡◌, ℕ, ◌+◌, ◌*◌, ◌<◌, ◌≤◌, ◌&&◌, ◌||◌, if◌then◌else◌, Bool, false, None, List, length, slice_index_or}
use Rattle.std.specs.Bool.{beq}
use Rattle.aig_circuit.specs.declared.edge.AigEdge.{AigEdge}
use Rattle.aig_circuit.specs.declared.node.AigLatch.{AigLatch}
use Rattle.aig_circuit.specs.declared.node.AigNode.{AigNode}
use Rattle.aig_circuit.specs.Build.{AddsGates, GivesEdge, Grows}
use Rattle.aig_circuit.specs.Circuit.{IsLeaf}
use Rattle.aig_circuit.specs.Edge.{edge_to}
use Rattle.aig_circuit.specs.Tree.{edge_value}

-- leaves alone are added, so many
pub record AddsLeaves (count : ℕ) (old new : List AigNode) : Type 0 where
  pub grows : Grows old new
  pub long : length new ≡ length old + count
  pub leaves : (n : ℕ) → length old ≤ n → n < length new → IsLeaf new n

-- the value of edge i of a list
abbrev pub value_at : List AigNode → (ℕ → Bool) → List AigEdge → ℕ → Bool
value_at nodes x es i = edge_value nodes x (slice_index_or es i (edge_to 0 false))

-- a latch at a place of a list
abbrev pub latch_at : List AigLatch → ℕ → AigLatch
latch_at latchs i =
    slice_index_or latchs i (record { input = 0; next = edge_to 0 false; init = None })

-- gates alone are added, at most so many for each edge, and edge i of a count has the value that is
-- wanted of it
pub record GivesEach (most : ℕ) (old new : List AigNode) (wanted : ℕ → (ℕ → Bool) → Bool)
    (count : ℕ) (es : List AigEdge) : Type 0 where
  pub gates : AddsGates old new
  pub few : length new ≤ length old + most * count
  pub long : length es ≡ count
  pub each : (i : ℕ) (e : AigEdge) → i < count → GivesEdge new (wanted i) (slice_index_or es i e)

-- where the first edge is true the second, and else the third
abbrev pub choice_of : List AigNode → AigEdge → AigEdge → AigEdge → (ℕ → Bool) → Bool
choice_of nodes which then_edge other x =
    if edge_value nodes x which then edge_value nodes x then_edge else edge_value nodes x other

-- the start of latch i: the copy on leaf i from a number on, where it was saved, and else its value
abbrev pub start_of : List AigNode → AigEdge → ℕ → List AigLatch → ℕ → (ℕ → Bool) → Bool
start_of nodes saved leaf latchs i =
    choice_of nodes saved (edge_to (leaf + i) false) (edge_to (latch_at latchs i).input false)

-- edge i was true, by leaf i from a number on, or is
abbrev pub seen_of : List AigNode → AigEdge → ℕ → List AigEdge → ℕ → (ℕ → Bool) → Bool
seen_of nodes active leaf es i x =
    edge_value nodes x (edge_to (leaf + i) false)
    || (edge_value nodes x active && value_at nodes x es i)

-- the next value of latch i is that of edge i
abbrev pub same_of : List AigNode → List AigLatch → List AigEdge → ℕ → (ℕ → Bool) → Bool
same_of nodes latchs es i x =
    beq (edge_value nodes x (latch_at latchs i).next) (value_at nodes x es i)
