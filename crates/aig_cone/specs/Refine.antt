-- Part of what is promised.
-- The circuit of what the properties, the latches and the initial edges that aren't constant reach.
-- (The cone of influence reduction; the crate aig: `coi_refine`.)
use Rattle.std.specs.Prelude.{◌≡◌, ℕ, ◌<◌, ◌==◌, ◌↔◌, if◌then◌else◌, Bool, List, [], ◌∷◌, ◌++◌, length, map, All, AllPairs, Contains, slice_get, slice_index}
use Rattle.std.specs.Ordering.{nat_cmp}
use Rattle.std.specs.List.{flat_map}
use Rattle.std.specs.FinMap.{FinMap, get}
use Rattle.aig_circuit.specs.declared.edge.AigEdge.{AigEdge}
use Rattle.aig_circuit.specs.Circuit.{Circuit, IsLeaf, latch_leaves}
use Rattle.aig_circuit.specs.Edges.{property_edges, initial_edges}
use Rattle.aig_circuit.specs.Runs.{HaveSameProperties, HaveSameValues, IsRun, IsInitial, next_edges}
use Rattle.aig_circuit.specs.Renumber.{position_of, kept_circuit}
use Rattle.aig_circuit.specs.Reach.{IsInCone}

-- the nodes of the edges that aren't constant
abbrev pub variable_nodes : List AigEdge → List ℕ
variable_nodes es = flat_map (λ e. if e.node_id == 0 then [] else e.node_id ∷ []) es

-- the nodes of all properties, the leaves of all latches, and the nodes of the initial edges that
-- aren't constant
abbrev pub refining_roots : Circuit → List ℕ
refining_roots c =
    map (λ e. e.node_id) (property_edges c) ++ latch_leaves c.latchs
    ++ variable_nodes (initial_edges c.latchs)

-- the kept numbers in rising order: exactly 0 and what the roots reach
pub record AreKept (c : Circuit) (kept : List ℕ) : Type 0 where
  pub rising : AllPairs (λ m n. m < n) kept
  pub exactly : (n : ℕ) → Contains kept n ↔ IsInCone c (refining_roots c) n

-- at the place of each kept number stands its own place among the kept, and everywhere else some
-- place among them
pub record ArePlaces (kept : List ℕ) (n : ℕ) (numbers : List ℕ) : Type 0 where
  pub count : length numbers ≡ n
  pub within : All (λ n. n < length kept) numbers
  pub places : (i : ℕ) → i < length kept → slice_index numbers (slice_index kept i) ≡ i

-- the circuit of the kept nodes, in their order; operands, lists and names follow
abbrev pub refined : List ℕ → Circuit → Circuit
refined kept c = kept_circuit (position_of kept) kept c

-- the numbers of all nodes, in a row
abbrev pub all_numbers : Circuit → List ℕ
all_numbers c = map (λ node. node.node_id) c.nodes

-- the map gives each kept node's old number, and nothing else
abbrev pub IsMapOf : List ℕ → FinMap nat_cmp ℕ → Type 0
IsMapOf kept numbers = (n : ℕ) → get numbers n ≡ slice_get kept n

-- leaf values of the old circuit, cut to the kept nodes
abbrev pub cut_to : List ℕ → (ℕ → Bool) → ℕ → Bool
cut_to kept x n = x (slice_index kept n)

-- Every run of the old circuit, cut to the kept leaves, is a run of the new one, and each run of
-- the new one is such a cut.
-- Initial states are initial states, and each property, next edge and initial edge keeps its value.
pub record CutsRuns (old new : Circuit) (kept : List ℕ) : Type 0 where
  pub cut : (last : ℕ) (x : ℕ → ℕ → Bool) → IsRun old last x
      → IsRun new last (λ t. cut_to kept (x t))
  pub each : (last : ℕ) (z : ℕ → ℕ → Bool) → IsRun new last z
      → (x : ℕ → ℕ → Bool) × IsRun old last x
      × ((t n : ℕ) → IsLeaf new.nodes n → cut_to kept (x t) n ≡ z t n)
  pub starts : (x : ℕ → Bool) → IsInitial new (cut_to kept x) ↔ IsInitial old x
  pub properties : (x : ℕ → Bool) → HaveSameProperties old x new (cut_to kept x)
  pub next : (x : ℕ → Bool)
      → HaveSameValues old.nodes x (next_edges old.latchs) new.nodes (cut_to kept x)
      (next_edges new.latchs)
  pub initial : (x : ℕ → Bool)
      → HaveSameValues old.nodes x (initial_edges old.latchs) new.nodes (cut_to kept x)
      (initial_edges new.latchs)
