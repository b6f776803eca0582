-- Part of what is promised.
-- The circuit whose bad states are the fair lassos of another. (Liveness to safety.)
use Rattle.std.specs.Prelude.{◌≡◌, ℕ, ◌+◌, ◌*◌, ◌<◌, ◌≤◌, ◌↔◌, ◌&&◌, ◌||◌, if◌then◌else◌, Bool, false, IsTrue, Some, List, [], ◌∷◌, ◌++◌, length, slice_index_or, All}
use Rattle.aig_circuit.specs.declared.edge.AigEdge.{AigEdge}
use Rattle.aig_circuit.specs.declared.node.AigLatch.{AigLatch}
use Rattle.aig_circuit.specs.Build.{Grows}
use Rattle.aig_circuit.specs.Circuit.{Circuit, IsInRange, IsLeaf}
use Rattle.aig_circuit.specs.declared.node.AigNodeType.TheVariants.{And}
use Rattle.aig_circuit.specs.Node.{kind_at}
use Rattle.aig_circuit.specs.Edge.{edge_to}
use Rattle.aig_circuit.specs.Properties.{no_properties}
use Rattle.aig_circuit.specs.Tree.{edge_value}
use Rattle.aig_live.specs.Names.{live_names, with_row}

-- a latch that is false at the start
abbrev pub false_latch : ℕ → AigEdge → AigLatch
false_latch leaf next = record { input = leaf; next = next; init = Some (edge_to 0 false) }

-- latches with these next edges, on leaves from a number on
abbrev pub false_latches : ℕ → List AigEdge → List AigLatch
false_latches leaf [] = []
false_latches leaf (e ∷ es) = false_latch leaf e ∷ false_latches (leaf + 1) es

-- the numbers of the leaves that are added: the input that saves, the latch that says whether a
-- state was saved, the first copy, and the first latch that says what was seen
abbrev pub save_leaf : Circuit → ℕ
save_leaf c = length c.nodes

abbrev pub saved_leaf : Circuit → ℕ
saved_leaf c = length c.nodes + 1

abbrev pub copy_leaf : Circuit → ℕ
copy_leaf c = length c.nodes + 2

abbrev pub seen_leaf : Circuit → ℕ
seen_leaf c = length c.nodes + 2 + length c.latchs

-- how many nodes there are at most, for so many edges: 2 + (latches) + (edges) leaves more, and
-- 1 + 7 (latches) + 3 (edges) gates
abbrev pub live_size : Circuit → ℕ → ℕ
live_size c count = length c.nodes + 3 + 8 * length c.latchs + 4 * count

-- whether a state is saved now, or was
abbrev pub is_active_in : Circuit → (ℕ → Bool) → Bool
is_active_in c x = x (saved_leaf c) || x (save_leaf c)

-- The circuit with one input and 1 + (latches) + (edges) latches more, and one bad edge: a state is
-- or was saved, the next state is the saved one, and each of the edges was true since then or is.
-- Old names stay, and what is added has its own.
pub record IsLiveOf (edges : List AigEdge) (c new : Circuit) : Type 0 where
  pub nodes : Grows c.nodes new.nodes
  -- 2 + (latches) + (edges) leaves come after the old nodes, and then gates
  pub leaves : (n : ℕ) → length c.nodes ≤ n
      → n < length c.nodes + (2 + length c.latchs + length edges) → IsLeaf new.nodes n
  pub longer : length c.nodes + (2 + length c.latchs + length edges) ≤ length new.nodes
  pub gates : (n : ℕ) → length c.nodes + (2 + length c.latchs + length edges) ≤ n
      → n < length new.nodes → (a b : AigEdge) × (kind_at new.nodes n ≡ Some (And a b))
  pub few : length new.nodes ≤ live_size c (length edges)
  pub inputs : new.inputs ≡ c.inputs ++ save_leaf c ∷ []
  pub active : AigEdge
  pub starts : List AigEdge
  pub seen : List AigEdge
  pub bad : AigEdge
  pub active_there : IsInRange new.nodes active
  pub starts_there : All (IsInRange new.nodes) starts
  pub seen_there : All (IsInRange new.nodes) seen
  pub bad_there : IsInRange new.nodes bad
  pub latchs : new.latchs
      ≡ c.latchs ++ false_latches (saved_leaf c) (active ∷ [])
      ++ false_latches (copy_leaf c) starts ++ false_latches (seen_leaf c) seen
  pub starts_count : length starts ≡ length c.latchs
  pub seen_count : length seen ≡ length edges
  pub active_value : (x : ℕ → Bool) → edge_value new.nodes x active ≡ is_active_in c x
  pub start_values : (i : ℕ) (d : AigLatch) (e : AigEdge) → i < length c.latchs → (x : ℕ → Bool)
      → edge_value new.nodes x (slice_index_or starts i e)
      ≡ if x (saved_leaf c) then x (copy_leaf c + i) else x (slice_index_or c.latchs i d).input
  pub seen_values : (i : ℕ) (d e : AigEdge) → i < length edges → (x : ℕ → Bool)
      → edge_value new.nodes x (slice_index_or seen i e)
      ≡ x (seen_leaf c + i) || (is_active_in c x
      && edge_value c.nodes x (slice_index_or edges i d))
  pub bad_value : (x : ℕ → Bool) → IsTrue (edge_value new.nodes x bad)
      ↔ (IsTrue (is_active_in c x)
      × ((i : ℕ) (d : AigLatch) (e : AigEdge) → i < length c.latchs
      → edge_value c.nodes x (slice_index_or c.latchs i d).next
      ≡ edge_value new.nodes x (slice_index_or starts i e))
      × ((i : ℕ) (e : AigEdge) → i < length edges
      → IsTrue (edge_value new.nodes x (slice_index_or seen i e))))
  pub rest : new
      ≡ record c {
        nodes = new.nodes;
        inputs = new.inputs;
        latchs = new.latchs;
        properties =
            record no_properties {
              bads = bad ∷ [];
              constraints = c.properties.constraints;
            };
        names = with_row c.names (length c.nodes) (live_names c (length edges));
      }
