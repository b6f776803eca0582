-- Serves private clauses alone.
-- The edges of a circuit that counts rounds.
use Rattle.std.specs.Prelude.{◌≡◌, ℕ, suc, ◌+◌, ◌-◌, ◌*◌, ◌<◌, ◌≤◌, ◌==◌, ◌&&◌, if◌then◌else◌, not, Bool, true, false, List, length, slice_index_or, All, Some}
use Rattle.aig_circuit.specs.declared.edge.AigEdge.{AigEdge}
use Rattle.aig_circuit.specs.declared.node.AigNode.{AigNode}
use Rattle.aig_circuit.specs.declared.node.AigNodeType.TheVariants.{And}
use Rattle.aig_circuit.specs.Build.{Grows}
use Rattle.aig_circuit.specs.Circuit.{IsInRange, IsLeaf}
use Rattle.aig_circuit.specs.Edge.{edge_to}
use Rattle.aig_circuit.specs.Node.{kind_at}
use Rattle.aig_circuit.specs.Tree.{edge_value}
use Rattle.aig_live.specs.declared.counting.Counted.{Counted}
use Rattle.aig_live.specs.Making.{value_at}
use Rattle.aig_live.specs.Rounds.{ended_by, ends_now, is_met}

-- the edge that is true where so many rounds ended before: the leaf of the last one, from a number
-- on, and true for none
abbrev pub edge_before : ℕ → ℕ → AigEdge
edge_before leaf count =
    if count == 0 then edge_to 0 true else edge_to (leaf + (count - 1)) false

-- of each of the numbers below this one
pub record AreBefores (leaf count : ℕ) (made : List AigEdge) : Type 0 where
  pub long : length made ≡ count
  pub each : (r : ℕ) (d : AigEdge) → r < count → slice_index_or made r d ≡ edge_before leaf r

-- edge i of a list, while another one is false
abbrev pub kept_of : List AigNode → AigEdge → List AigEdge → ℕ → (ℕ → Bool) → Bool
kept_of nodes ends es i x = value_at nodes x es i && not (edge_value nodes x ends)

-- the edges over old nodes and so many rounds, and the leaves that are added
pub record AreCounted (old new : List AigNode) (edges : List AigEdge) (count : ℕ) (p : Counted)
    : Type 0 where
  pub grows : Grows old new
  pub leaves : (n : ℕ) → length old ≤ n → n < length old + (length edges + count) → IsLeaf new n
  pub longer : length old + (length edges + count) ≤ length new
  pub few : length new ≤ length old + 5 * length edges + 3 * count
  pub gates : (n : ℕ) → length old + (length edges + count) ≤ n → n < length new
      → (a b : AigEdge) × (kind_at new n ≡ Some (And a b))
  pub nexts_count : length p.nexts.items ≡ length edges + count
  pub nexts_there : All (IsInRange new) p.nexts.items
  pub bad_there : IsInRange new p.bad
  pub met_values : (i : ℕ) (d : AigEdge) → i < length edges → (x : ℕ → Bool)
      → edge_value new x (slice_index_or p.nexts.items i d)
      ≡ is_met old edges x i && not (ends_now old edges x)
  pub ended_values : (r : ℕ) (d : AigEdge) → r < count → (x : ℕ → Bool)
      → edge_value new x (slice_index_or p.nexts.items (length edges + r) d)
      ≡ ended_by old edges x (suc r)
  pub bad_value : (x : ℕ → Bool) → edge_value new x p.bad ≡ ended_by old edges x count
