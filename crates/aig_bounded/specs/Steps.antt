-- Serves private clauses alone.
-- The steps of a circuit as nodes of a question.
use Rattle.std.specs.Prelude.{zero, suc, Bool, true, ◌&&◌, ◌||◌, ◌≡◌, ◌≢◌, ℕ, ◌+◌, ◌<◌, ◌≤◌, false, Option, Some, None, List, length, Contains, nat_le, slice_index, slice_index_or}
use Rattle.aig_circuit.specs.declared.edge.AigEdge.{AigEdge}
use Rattle.aig_circuit.specs.declared.node.AigLatch.{AigLatch}
use Rattle.aig_circuit.specs.Circuit.{Circuit, latch_leaves}
use Rattle.aig_circuit.specs.Tree.{edge_value, node_value}
use Rattle.std.specs.List.{list_all, list_any}
use Rattle.aig_unroll.specs.Frame.{image_at}
use Rattle.aig_bounded.specs.declared.frames.Frames.{Frames}
use Rattle.aig_bounded.specs.declared.steps.Sums.{Sums}
use Rattle.aig_bounded.specs.Exact.{Checks, Frame, with_checks}
use Rattle.aig_bounded.specs.Frames.{AreFrames, Extends, Shows, net_of}

-- ---- what is made

-- node n is read at most `left` steps later, by these depths
abbrev pub is_read : List ℕ → ℕ → ℕ → Bool
is_read depths left n = nat_le (slice_index depths n) left

-- the frame's netlist, and its images of the nodes that are read
pub record IsFrame (read : ℕ → Bool) (frame : Frame) (f : Frames) (images : List AigEdge) : Type 0
  where
    pub net : net_of f ≡ frame.net
    pub same : (n : ℕ) → n < length frame.images → read n ≡ true
        → image_at images n ≡ image_at frame.images n

-- the checks that these edges say
abbrev pub checks_of : Frames → Sums → Checks
checks_of f sums = record { net = net_of f; within = sums.within; reached = sums.reached }

-- with the frame the step is made, and the checks are those with one step more
pub record MakesFrame (read : ℕ → Bool) (frame : Frame) (c : Circuit) (sums : Sums)
    (images : List AigEdge) (checks : Checks) : Type 0 where
  pub exact : checks ≡ with_checks c frame.images
      (record { net = frame.net; within = sums.within; reached = sums.reached })
  pub same : (n : ℕ) → n < length frame.images → read n ≡ true
      → image_at images n ≡ image_at frame.images n

-- ---- what the steps say

-- every constraint holds at the first so many steps
abbrev pub within_to : Circuit → (ℕ → ℕ → Bool) → ℕ → Bool
within_to c run zero = true
within_to c run (suc t) =
    within_to c run t && list_all (edge_value c.nodes (run t)) c.properties.constraints

-- a bad state is reached at one of the first so many steps, within the constraints
abbrev pub reached_to : Circuit → (ℕ → ℕ → Bool) → ℕ → Bool
reached_to c run zero = false
reached_to c run (suc t) =
    reached_to c run t
    || (within_to c run (suc t) && list_any (edge_value c.nodes (run t)) c.properties.bads)

-- what is known of the first so many steps
pub record Sum (c : Circuit) (t count : ℕ) (f : Frames) (sums : Sums) : Type 0
  where
    pub within : Shows c t f sums.within (λ run. within_to c run count)
    pub reached : Shows c t f sums.reached (λ run. reached_to c run count)

-- ---- tables

-- the image of node n has the node's value at step t
abbrev pub ShowsNode : Circuit → ℕ → Frames → List AigEdge → ℕ → Type 0
ShowsNode c t f images n = Shows c t f (image_at images n) (λ run. node_value c.nodes (run t) n)

-- The edge e is the image of node id at step t, and nodes are added for nothing else.
pub record MakesImage (c : Circuit) (t id : ℕ) (old new : Frames) (e : AigEdge) : Type 0 where
  pub shows : Shows c t new e (λ run. node_value c.nodes (run t) id)
  pub frames : AreFrames c t (id + 1) new
  pub extends : Extends old new

-- so have the first i nodes, but for those that nothing reads in the steps that are left
abbrev pub HasImages : Circuit → ℕ → List ℕ → ℕ → ℕ → Frames → List AigEdge → Type 0
HasImages c t depths left i f images =
    (n : ℕ) → n < i → slice_index depths n ≤ left → ShowsNode c t f images n

-- what is known of leaves before their step t
pub record HasStates (c : Circuit) (t : ℕ) (depths : List ℕ) (left : ℕ) (f : Frames)
    (states : List (Option AigEdge)) : Type 0 where
  pub count : length states ≡ length c.nodes
  -- a state has the leaf's value
  pub set : (n : ℕ) (e : AigEdge) → n < length c.nodes → slice_index_or states n None ≡ Some e
      → slice_index depths n ≤ left → Shows c t f e (λ run. run t n)
  -- no leaf but a latch's has one
  pub others : (n : ℕ) → ¬ Contains (latch_leaves c.latchs) n → slice_index_or states n None ≡ None
  -- and a latch's leaf that has none is open
  pub free : (n : ℕ) → n < length c.nodes → slice_index_or states n None ≡ None
      → (latch : AigLatch) → Contains c.latchs latch → latch.input ≡ n
      → (t ≡ 0) × (latch.init ≡ None)

-- the leaves of the first so many latches have the states that `state` says of the latches, and all
-- else is as it was
pub record SetsStates (latchs : List AigLatch) (count : ℕ) (state : AigLatch → Option AigEdge)
    (old new : List (Option AigEdge)) : Type 0 where
  pub set : (k : ℕ) (d : AigLatch) → k < count → k < length latchs
      → slice_index_or new (slice_index_or latchs k d).input None
      ≡ state (slice_index_or latchs k d)
  pub others : (n : ℕ)
      → ((k : ℕ) (d : AigLatch) → k < count → k < length latchs
      → (slice_index_or latchs k d).input ≢ n)
      → slice_index_or new n None ≡ slice_index_or old n None
