-- Part of what is promised.
-- Which question it is, node by node. (Bounded cone of influence: Biere, Clarke, Raimi and Zhu,
-- 1999; constant propagation and structural hashing over all steps; cone of influence.)
use Rattle.std.specs.Prelude.{◌↔◌, ℕ, zero, suc, ◌+◌, ◌-◌, ◌<◌, ◌≤◌, ◌==◌, Bool, true, false, if◌then◌else◌, IsTrue, Option, Some, None, List, [], ◌∷◌, ◌++◌, length, map}
use Rattle.aig_circuit.specs.declared.edge.AigEdge.{AigEdge}
use Rattle.aig_circuit.specs.declared.node.AigLatch.{AigLatch}
use Rattle.aig_circuit.specs.declared.node.AigNodeType.{AigNodeType}
use Rattle.aig_circuit.specs.declared.node.AigNodeType.TheVariants.{False, Leaf, And}
use Rattle.aig_circuit.specs.Build.{with_node}
use Rattle.aig_circuit.specs.Circuit.{Circuit}
use Rattle.aig_circuit.specs.Edge.{edge_to}
use Rattle.aig_circuit.specs.Edges.{ReferTo}
use Rattle.aig_circuit.specs.Node.{kind_at}
use Rattle.aig_circuit.specs.Reach.{IsFanin, IsLatchNext}
use Rattle.aig_unroll.specs.Frame.{image_in}
use Rattle.aig_bounded.specs.declared.place.Place.{Place}
use Rattle.aig_bounded.specs.Cut.{IsCutOf}
use Rattle.aig_bounded.specs.Shared.{Made, Netlist, made_in, shared_and, shared_ands, shared_or, shared_ors}

-- ---- what is read

-- A bad edge or a constraint of a step at most so many steps later reads node n: it is the edge's
-- node, or an operand of what is read, or the next edge of a latch that is read a step later.
pub data IsRead (c : Circuit) : ℕ → ℕ → Type 0 where
  bad : {d n : ℕ} → ReferTo c.properties.bads n → IsRead c d n
  constraint : {d n : ℕ} → ReferTo c.properties.constraints n → IsRead c d n
  operand : {d n m : ℕ} → IsRead c d n → IsFanin c.nodes n m → IsRead c d m
  next : {d n m : ℕ} → IsRead c d n → IsLatchNext c.latchs n m → IsRead c (suc d) m

-- ---- the nodes of one step

-- the image of a leaf: its state, or else a new input at this place
abbrev pub leaf_image : Option AigEdge → Place → Netlist → Made
leaf_image (Some e) place net = made_in net e
leaf_image None place net =
    made_in (record {
      nodes = with_node net.nodes Leaf;
      inputs = net.inputs ++ length net.nodes ∷ [];
      places = net.places ++ place ∷ [];
    }) (edge_to (length net.nodes) false)

-- The image of a node of this kind: false is false, a leaf has its state or is a new input, and a
-- gate is the and of its operands' images.
abbrev pub node_image : Option AigEdge → List AigEdge → Place → Option AigNodeType → Netlist → Made
node_image state images place (Some Leaf) net = leaf_image state place net
node_image state images place (Some (And a b)) net =
    shared_and net (image_in images a) (image_in images b)
node_image state images place (Some False) net = made_in net (edge_to 0 false)
node_image state images place None net = made_in net (edge_to 0 false)

-- and where nothing reads the node, none is made, and false stands for it
abbrev pub image_if : Bool → Option AigEdge → List AigEdge → Place → Option AigNodeType → Netlist
    → Made
image_if true state images place kind net = node_image state images place kind net
image_if false state images place kind net = made_in net (edge_to 0 false)

-- a netlist, and the images in it of the first nodes of a circuit at a step
pub record Frame : Type 0 where
  pub net : Netlist
  pub images : List AigEdge

-- one image more
abbrev pub with_image : List AigEdge → Made → Frame
with_image images made = record { net = made.net; images = images ++ made.edge ∷ [] }

-- the images of the first so many nodes at step t
abbrev pub frame_to : Circuit → ℕ → (ℕ → Bool) → (ℕ → Option AigEdge) → Netlist → ℕ → Frame
frame_to c t read state net zero = record { net = net; images = [] }
frame_to c t read state net (suc n) =
    let before = frame_to c t read state net n in
    with_image before.images
    (image_if (read n) (state n) before.images (record { step = t; leaf = n }) (kind_at c.nodes n)
    before.net)

-- ---- what a step is checked for

-- a netlist, an edge in it that is true where every constraint held so far, and one that is true
-- where a bad state was reached within them
pub record Checks : Type 0 where
  pub net : Netlist
  pub within : AigEdge
  pub reached : AigEdge

-- with one step more, whose nodes have these images: each constraint is one more to hold, some bad
-- edge within them is a bad state, and it is reached now or was before
abbrev pub with_checks : Circuit → List AigEdge → Checks → Checks
with_checks c images before =
    let image = image_in images in
    let within = shared_ands (made_in before.net before.within)
    (map image c.properties.constraints) in
    let bad = shared_ors (made_in within.net (edge_to 0 false)) (map image c.properties.bads) in
    let now = shared_and bad.net within.edge bad.edge in
    let reached = shared_or now.net before.reached now.edge in
    record { net = reached.net; within = within.edge; reached = reached.edge }

-- ---- all steps

-- what is said of the latch of this leaf, if it is one's
abbrev pub state_by : (AigLatch → Option AigEdge) → List AigLatch → ℕ → Option AigEdge
state_by says [] n = None
state_by says (latch ∷ latchs) n = if latch.input == n then says latch else state_by says latchs n

-- the states of latches at a step: at first their constants, and then the images of their next
-- edges at the step before
abbrev pub states_at : Circuit → List AigEdge → ℕ → ℕ → Option AigEdge
states_at c images zero = state_by (λ latch. latch.init) c.latchs
states_at c images (suc t) = state_by (λ latch. Some (image_in images latch.next)) c.latchs

-- what is made of the first so many steps, with the images at the last of them
pub record Steps : Type 0 where
  pub checks : Checks
  pub images : List AigEdge

-- the false node alone
abbrev pub false_net : Netlist
false_net =
    record { nodes = record { node_id = 0; typ = False } ∷ []; inputs = []; places = [] }

-- of the steps 0 to k the first so many, where `read d n` is whether node n is read at most d steps
-- later: of step t what the steps that are left read
abbrev pub steps_to : (ℕ → ℕ → Bool) → Circuit → ℕ → ℕ → Steps
steps_to read c k zero =
    record {
      checks =
          record { net = false_net; within = edge_to 0 true; reached = edge_to 0 false };
      images = [];
    }
steps_to read c k (suc t) =
    let before = steps_to read c k t in
    let frame =
    frame_to c t (read (k - t)) (states_at c before.images t) before.checks.net (length c.nodes) in
    record {
      checks = with_checks c frame.images (record before.checks { net = frame.net });
      images = frame.images;
    }

-- whether a bad state is reached in them
abbrev pub reached_in : Steps → Made
reached_in steps = made_in steps.checks.net steps.checks.reached

-- it is whether a node is read at most so many steps later, up to k
abbrev pub ReadsExactly : Circuit → ℕ → (ℕ → ℕ → Bool) → Type 0
ReadsExactly c k read =
    (d n : ℕ) → d ≤ k → n < length c.nodes → IsTrue (read d n) ↔ IsRead c d n

-- The circuit is the cone of whether a bad state is reached at one of the steps 0 to k, and its
-- inputs stand at these places.
pub record IsExact (c : Circuit) (k : ℕ) (asks : Circuit) (places : List Place) : Type 0 where
  pub read : ℕ → ℕ → Bool
  pub reads : ReadsExactly c k read
  pub cut : let made = reached_in (steps_to read c k (k + 1)) in
      IsCutOf made.net made.edge asks places
