-- Part of what is promised.
-- The circuit with further steps, exactly: which node each node is at each step.
-- (Bounded model checking: time frame expansion, with constants folded.)
use Rattle.std.specs.Prelude.{ℕ, zero, suc, ◌==◌, Bool, false, true, if◌then◌else◌, Option, Some, None, List, [], ◌∷◌, ◌++◌, length, map, slice_index_or}
use Rattle.aig_circuit.specs.declared.edge.AigEdge.{AigEdge}
use Rattle.aig_circuit.specs.declared.node.AigNode.{AigNode}
use Rattle.aig_circuit.specs.declared.node.AigNodeType.{AigNodeType}
use Rattle.aig_circuit.specs.declared.node.AigNodeType.TheVariants.{False, Leaf, And}
use Rattle.aig_circuit.specs.declared.node.AigLatch.{AigLatch}
use Rattle.aig_circuit.specs.Edge.{edge_to, inverse, inverted_if, literal_of}
use Rattle.aig_circuit.specs.Node.{and_of, kind_at}
use Rattle.aig_circuit.specs.Build.{with_node}
use Rattle.aig_circuit.specs.Circuit.{Circuit}
use Rattle.aig_circuit.specs.Properties.{append_properties, map_properties}
use Rattle.aig_circuit.specs.Runs.{next_edges}
use Rattle.aig_unroll.specs.Places.{leaves_after}

-- ---- images

-- the image of node n
abbrev pub image_at : List AigEdge → ℕ → AigEdge
image_at images n = slice_index_or images n (edge_to 0 false)

-- the image of an edge: that of its node, inverted as the edge is
abbrev pub image_in : List AigEdge → AigEdge → AigEdge
image_in images e =
    edge_to (image_at images e.node_id).node_id
    (inverted_if e.compl (image_at images e.node_id).compl)

-- the edge that the and of two edges is without a gate of its own, if it is one: true with an edge
-- is that edge, false with an edge is false, an edge with itself is that edge, and with its inverse
-- false
abbrev pub folded : AigEdge → AigEdge → Option AigEdge
folded a b =
    if literal_of a == 1 then Some b else
    if literal_of b == 1 then Some a else
    if literal_of a == 0 then Some (edge_to 0 false) else
    if literal_of b == 0 then Some (edge_to 0 false) else
    if literal_of a == literal_of b then Some a else
    if literal_of a == literal_of (inverse b) then Some (edge_to 0 false) else None

-- ---- one step

-- nodes, and the images in them of the first nodes of a circuit
pub record Frame : Type 0 where
  pub nodes : List AigNode
  pub images : List AigEdge

-- one image more, of a node that is there
abbrev pub with_image : AigEdge → Frame → Frame
with_image e made = record made { images = made.images ++ e ∷ [] }

-- one node more, and the edge to it as an image more
abbrev pub with_new : AigNodeType → Frame → Frame
with_new kind made =
    record {
      nodes = with_node made.nodes kind;
      images = made.images ++ edge_to (length made.nodes) false ∷ [];
    }

-- an image more: the edge that was folded to, or else that to a new node
abbrev pub with_folded : Option AigEdge → AigNodeType → Frame → Frame
with_folded (Some e) kind made = with_image e made
with_folded None kind made = with_new kind made

-- The image of a node of this kind: a leaf with a state has the state, any other leaf is a new one,
-- and a gate is the and of its operands' images, folded or new.
abbrev pub with_copy : Option AigEdge → Option AigNodeType → Frame → Frame
with_copy state (Some False) made = with_image (edge_to 0 false) made
with_copy state (Some Leaf) made = with_folded state Leaf made
with_copy state (Some (And a b)) made =
    let first = image_in made.images a in
    let second = image_in made.images b in
    with_folded (folded first second) (and_of first second) made
with_copy state None made = made

-- the images of the first so many nodes, in rising number, after these nodes
abbrev pub frame_to : List AigNode → (ℕ → Option AigEdge) → List AigNode → ℕ → Frame
frame_to nodes state old zero = record { nodes = old; images = [] }
frame_to nodes state old (suc n) =
    with_copy (state n) (kind_at nodes n) (frame_to nodes state old n)

-- the next edge of the latch whose leaf is node n, if there is one
abbrev pub next_of : List AigLatch → ℕ → Option AigEdge
next_of [] n = None
next_of (latch ∷ latchs) n = if latch.input == n then Some latch.next else next_of latchs n

-- the latches with these next edges
abbrev pub with_next : List AigLatch → List AigEdge → List AigLatch
with_next [] es = []
with_next (latch ∷ latchs) [] = []
with_next (latch ∷ latchs) (e ∷ es) = record latch { next = e } ∷ with_next latchs es

-- The circuit with one step of `from` after it: a latch's leaf is its next edge, any other leaf a
-- new input; images of properties are appended, and latches go on with those of next edges.
abbrev pub with_step : Circuit → Circuit → Circuit
with_step from old =
    let made = frame_to from.nodes (next_of old.latchs) old.nodes (length from.nodes) in
    record {
      nodes = made.nodes;
      inputs = old.inputs ++ leaves_after (length old.nodes) made.nodes;
      latchs = with_next old.latchs (map (image_in made.images) (next_edges from.latchs));
      properties =
          append_properties old.properties
          (map_properties (image_in made.images) from.properties);
      names = old.names;
    }

-- ---- all steps

-- the circuit with k steps more
abbrev pub with_steps : Circuit → ℕ → Circuit
with_steps c zero = c
with_steps c (suc k) = with_step c (with_steps c k)
