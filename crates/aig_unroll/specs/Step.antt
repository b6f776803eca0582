-- Serves private clauses alone.
-- One step more: the images of the nodes of a circuit in it, and what is appended to the lists.
-- (The crate aig: `unroll`.)
use Rattle.std.specs.Prelude.{◌≡◌, ◌≢◌, ℕ, ◌+◌, ◌-◌, ◌<◌, ◌≤◌, Bool, false, not, All, Vec, ◌&&◌, ◌||◌, Option, Some, None, List, ◌++◌, length, map, filter, take, Contains, slice_index_or}
use Rattle.std.specs.declared.alloc.Global.{Global}
use Rattle.aig_circuit.specs.declared.edge.AigEdge.{AigEdge}
use Rattle.aig_circuit.specs.declared.node.AigNode.{AigNode}
use Rattle.aig_circuit.specs.declared.node.AigNodeType.TheVariants.{False, Leaf, And}
use Rattle.aig_circuit.specs.declared.node.AigLatch.{AigLatch}
use Rattle.aig_circuit.specs.declared.view.CircuitLists.{CircuitLists}
use Rattle.aig_circuit.specs.Edge.{edge_to, inverted_if}
use Rattle.aig_circuit.specs.Node.{is_gate, kind_at}
use Rattle.aig_circuit.specs.Tree.{edge_value, node_value}
use Rattle.aig_circuit.specs.Circuit.{Circuit, IsCircuit, IsInRange, IsLeaf, latch_leaves}
use Rattle.aig_circuit.specs.Build.{AddsGates, FoldsOrAdds, GivesEdge, Grows, with_node}
use Rattle.aig_circuit.specs.Properties.{Properties, append_properties, map_properties}
use Rattle.aig_circuit.specs.Runs.{next_edges}
use Rattle.aig_circuit.specs.View.{HasRoomFor, lists_circuit, properties_of}
use Rattle.aig_unroll.specs.Places.{is_other_leaf, leaves_after, other_leaves}
pub use Rattle.aig_unroll.specs.Frame.{image_at, image_in}
use Rattle.aig_unroll.specs.Frame.{frame_to, next_of}
use Rattle.aig_unroll.specs.Unroll.{UnrollsBySteps, UnrollsTo, starts_of}

-- ---- images

-- the leaves that are no latch's among these nodes
abbrev pub others_among : Circuit → List AigNode → List ℕ
others_among c nodes = map (λ node. node.node_id) (filter (is_other_leaf c) nodes)

-- the node is false or a latch's leaf: no node is made for it
abbrev pub takes_no_node : Circuit → AigNode → Bool
takes_no_node c node = not (is_gate node.typ || is_other_leaf c node)

-- ---- the table before the step

-- The images of the first so many latches' leaves are next edges, and at every other node stands
-- the edge to node `unset`.
pub record HasLatchImages (latchs current : List AigLatch) (count unset : ℕ) (images : List AigEdge)
    : Type 0 where
  pub each : (k : ℕ) (d e : AigLatch) → k < count
      → image_at images (slice_index_or latchs k d).input ≡ (slice_index_or current k e).next
  pub rest : (n : ℕ) → n < length images
      → ((k : ℕ) (d : AigLatch) → k < count → (slice_index_or latchs k d).input ≢ n)
      → image_at images n ≡ edge_to unset false

-- at latches' leaves stand edges to one of the first nodes, and at other nodes none
pub record MarksLatches (c : Circuit) (count : ℕ) (images : List AigEdge) : Type 0 where
  pub latches : (n : ℕ) → Contains (latch_leaves c.latchs) n → (image_at images n).node_id < count
  pub others : (n : ℕ) → n < length images → ¬ Contains (latch_leaves c.latchs) n
      → count ≤ (image_at images n).node_id

-- ---- one node

-- The edge e is the image of node n, where smaller nodes have these images: false, the old next
-- edge of a latch, a new leaf, or the and of the operands' images.
pub data Copies (from : Circuit) (n start : ℕ) (old new : List AigNode) (images : List AigEdge)
    (e : AigEdge) : Type 0 where
  false_node : kind_at from.nodes n ≡ Some False → e ≡ edge_to 0 false → new ≡ old
      → Copies from n start old new images e
  latch_leaf : IsLeaf from.nodes n → (image_at images n).node_id < start → e ≡ image_at images n
      → new ≡ old → Copies from n start old new images e
  other_leaf : IsLeaf from.nodes n → start ≤ (image_at images n).node_id
      → e ≡ edge_to (length old) false → new ≡ with_node old Leaf
      → Copies from n start old new images e
  gate : (a b : AigEdge) → kind_at from.nodes n ≡ Some (And a b)
      → FoldsOrAdds old new (image_in images a) (image_in images b) e → AddsGates old new
      → length new ≤ length old + 1
      → GivesEdge new
      (λ y. edge_value old y (image_in images a) && edge_value old y (image_in images b)) e
      → Copies from n start old new images e

-- ---- the first nodes

-- the state of a leaf is its image before the step, where that is among the first so many nodes
pub record IsState (from : Circuit) (count : ℕ) (before : List AigEdge) (state : ℕ → Option AigEdge)
    : Type 0 where
  pub low : (n : ℕ) → IsLeaf from.nodes n → (image_at before n).node_id < count
      → state n ≡ Some (image_at before n)
  pub high : (n : ℕ) → IsLeaf from.nodes n → count ≤ (image_at before n).node_id
      → state n ≡ None

-- The first i nodes have their images: each has under leaf values y the value that its node has
-- under the values x of the leaves' images.
pub record CopiesBelow (from : Circuit) (old new : List AigNode) (before images : List AigEdge)
    (i : ℕ) : Type 0 where
  pub grows : Grows old new
  pub count : length images ≡ length from.nodes
  pub there : (n : ℕ) → n < i → IsInRange new (image_at images n)
  pub latches : (n : ℕ) → Contains (latch_leaves from.latchs) n
      → image_at images n ≡ image_at before n
  pub rest : (n : ℕ) → i ≤ n → image_at images n ≡ image_at before n
  pub others : map (image_at images) (others_among from (take i from.nodes))
      ≡ map (λ n. edge_to n false) (leaves_after (length old) new)
  pub value : (y x : ℕ → Bool)
      → ((n : ℕ) → n < i → IsLeaf from.nodes n → x n ≡ edge_value new y (image_at images n))
      → (n : ℕ) → n < i → edge_value new y (image_at images n) ≡ node_value from.nodes x n
  pub size : length new + length (filter (takes_no_node from) (take i from.nodes)) ≤ length old + i
  pub exact : (state : ℕ → Option AigEdge) → IsState from (length old) before state
      → frame_to from.nodes state old i ≡ record { nodes = new; images = take i images }

-- ---- all nodes

-- All nodes have their images: a latch's leaf its old next edge, the r-th other leaf the r-th new
-- leaf, and every node its value.
pub record CopiesAll (from : Circuit) (latchs : List AigLatch) (old new : List AigNode)
    (images : List AigEdge) : Type 0 where
  pub grows : Grows old new
  pub count : length images ≡ length from.nodes
  pub there : (n : ℕ) → n < length from.nodes → IsInRange new (image_at images n)
  pub latches : map (image_at images) (latch_leaves from.latchs) ≡ next_edges latchs
  pub others : map (image_at images) (other_leaves from)
      ≡ map (λ n. edge_to n false) (leaves_after (length old) new)
  pub value : (y x : ℕ → Bool)
      → ((n : ℕ) → n < length from.nodes → IsLeaf from.nodes n
      → x n ≡ edge_value new y (image_at images n)) → (n : ℕ) → n < length from.nodes
      → edge_value new y (image_at images n) ≡ node_value from.nodes x n
  pub size : length new ≤ length old + (length from.nodes - 1 - length from.latchs)
  pub exact : frame_to from.nodes (next_of latchs) old (length from.nodes)
      ≡ record { nodes = new; images = images }

-- ---- the lists

-- the entries of sets
abbrev pub entries_of : List (Vec AigEdge Global) → List (List AigEdge)
entries_of sets = map (λ set. set.items) sets

-- the node of each edge has a place in a table of so many
abbrev pub AreNodesBelow : ℕ → List AigEdge → Type 0
AreNodesBelow count es = All (λ e. e.node_id < count) es

-- the images of the edges stand after the old ones
abbrev pub Appends : List AigEdge → List AigEdge → List AigEdge → List AigEdge → Type 0
Appends images es old new = new ≡ old ++ map (image_in images) es

-- the sets of the images of edges stand after the old sets, a set for each set
abbrev pub AppendsSets : List AigEdge → List (List AigEdge) → List (List AigEdge)
    → List (List AigEdge) → Type 0
AppendsSets images sets old new = new ≡ old ++ map (map (image_in images)) sets

-- the images of the entries stand after the old ones in each list
abbrev pub AppendsProperties : List AigEdge → Properties AigEdge → Properties AigEdge
    → Properties AigEdge → Type 0
AppendsProperties images p old new =
    new ≡ append_properties old (map_properties (image_in images) p)

-- they do but for justice, which stays
abbrev pub AppendsButJustice : List AigEdge → Properties AigEdge → Properties AigEdge
    → Properties AigEdge → Type 0
AppendsButJustice images p old new =
    new
    ≡ record (append_properties old (map_properties (image_in images) p)) {
      justice = old.justice;
    }

-- the latches have their leaves and initial edges, and the images of the next edges of others
pub record HaveNextImages (images : List AigEdge) (others old new : List AigLatch) : Type 0 where
  pub leaves : latch_leaves new ≡ latch_leaves old
  pub starts : starts_of new ≡ starts_of old
  pub next : next_edges new ≡ map (image_in images) (next_edges others)

-- The new leaves are inputs, the image of each entry is appended to its list, and the next edges
-- are the images of next edges.
pub record AppendsImages (from old : Circuit) (images : List AigEdge) (new : Circuit) : Type 0 where
  pub inputs : new.inputs ≡ old.inputs ++ leaves_after (length old.nodes) new.nodes
  pub latchs : HaveNextImages images from.latchs old.latchs new.latchs
  pub properties : AppendsProperties images from.properties old.properties new.properties
  pub names : new.names ≡ old.names

-- the nodes, the inputs and the justice sets of the step stand, the rest is as it was, and there is
-- room for it
pub record IsPrepared (from : Circuit) (old new : CircuitLists) (images : List AigEdge)
    : Type 0 where
  pub copies : CopiesAll from old.latchs.items old.nodes.items new.nodes.items images
  pub inputs : new.inputs.items
      ≡ old.inputs.items ++ leaves_after (length old.nodes.items) new.nodes.items
  pub room : HasRoomFor new.properties from.properties
  pub justice : AppendsSets images from.properties.justice
      (entries_of old.properties.justice.items) (entries_of new.properties.justice.items)
  pub same : record (lists_circuit new) {
    properties =
        record (properties_of new.properties) {
          justice = (properties_of old.properties).justice;
        };
  }
      ≡ record (lists_circuit old) { nodes = new.nodes.items; inputs = new.inputs.items }

-- ---- all steps

-- the circuit d is c with k steps more
pub record IsUnrolled (c : Circuit) (k : ℕ) (d : Circuit) : Type 0 where
  pub circuit : IsCircuit d
  pub steps : UnrollsBySteps c k d
  pub unrolls : UnrollsTo c k d
