-- Serves private clauses alone.
-- The edges of a live circuit.
use Rattle.std.specs.Prelude.{◌≡◌, ℕ, ◌+◌, ◌*◌, ◌<◌, ◌↔◌, ◌&&◌, ◌||◌, if◌then◌else◌, Bool, IsTrue, List, length, slice_index_or, All, ◌≤◌, ◌≡◌, Some}
use Rattle.aig_circuit.specs.declared.edge.AigEdge.{AigEdge}
use Rattle.aig_circuit.specs.declared.node.AigLatch.{AigLatch}
use Rattle.aig_circuit.specs.declared.node.AigNode.{AigNode}
use Rattle.aig_circuit.specs.Build.{Grows}
use Rattle.aig_circuit.specs.Circuit.{IsInRange, IsLeaf}
use Rattle.aig_circuit.specs.declared.node.AigNodeType.TheVariants.{And}
use Rattle.aig_circuit.specs.Node.{kind_at}
use Rattle.aig_circuit.specs.Tree.{edge_value}
use Rattle.aig_live.specs.declared.making.Parts.{Parts}

-- the edges over old nodes, so many latches and edges, and the leaves that are added
pub record AreParts (old new : List AigNode) (latchs : List AigLatch) (edges : List AigEdge)
    (p : Parts) : Type 0 where
  pub grows : Grows old new
  pub leaves : (n : ℕ) → length old ≤ n → n < length old + (2 + length latchs + length edges)
      → IsLeaf new n
  pub longer : length old + (2 + length latchs + length edges) ≤ length new
  pub few : length new ≤ length old + 3 + 8 * length latchs + 4 * length edges
  pub gates : (n : ℕ) → length old + (2 + length latchs + length edges) ≤ n → n < length new
      → (a b : AigEdge) × (kind_at new n ≡ Some (And a b))
  pub starts_count : length p.starts.items ≡ length latchs
  pub seen_count : length p.seen.items ≡ length edges
  pub active_there : IsInRange new p.active
  pub starts_there : All (IsInRange new) p.starts.items
  pub seen_there : All (IsInRange new) p.seen.items
  pub bad_there : IsInRange new p.bad
  pub active_value : (x : ℕ → Bool)
      → edge_value new x p.active ≡ x (length old + 1) || x (length old)
  pub start_values : (i : ℕ) (d : AigLatch) (e : AigEdge) → i < length latchs → (x : ℕ → Bool)
      → edge_value new x (slice_index_or p.starts.items i e)
      ≡ if x (length old + 1) then x (length old + 2 + i) else x (slice_index_or latchs i d).input
  pub seen_values : (i : ℕ) (d e : AigEdge) → i < length edges → (x : ℕ → Bool)
      → edge_value new x (slice_index_or p.seen.items i e)
      ≡ x (length old + 2 + length latchs + i) || ((x (length old + 1) || x (length old))
      && edge_value old x (slice_index_or edges i d))
  pub bad_value : (x : ℕ → Bool) → IsTrue (edge_value new x p.bad)
      ↔ (IsTrue (x (length old + 1) || x (length old))
      × ((i : ℕ) (d : AigLatch) (e : AigEdge) → i < length latchs
      → edge_value old x (slice_index_or latchs i d).next
      ≡ edge_value new x (slice_index_or p.starts.items i e))
      × ((i : ℕ) (e : AigEdge) → i < length edges
      → IsTrue (edge_value new x (slice_index_or p.seen.items i e))))
