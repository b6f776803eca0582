-- Serves private clauses alone.
-- After how many steps a bad edge or a constraint reads a node.
use Rattle.std.specs.Prelude.{◌≡◌, ℕ, ◌+◌, ◌<◌, ◌≤◌, Bool, true, false, List, length, sum, All, slice_index}
use Rattle.aig_circuit.specs.declared.edge.AigEdge.{AigEdge}
use Rattle.aig_circuit.specs.declared.node.AigNode.{AigNode}
use Rattle.aig_circuit.specs.declared.node.AigLatch.{AigLatch}
use Rattle.aig_circuit.specs.Circuit.{Circuit}
use Rattle.aig_circuit.specs.Reach.{IsFanin}
use Rattle.aig_bounded.specs.Exact.{IsRead}

-- node n is no deeper than this depth, unless that is greater than `last`
abbrev pub IsNoDeeperThan : ℕ → ℕ → ℕ → List ℕ → Type 0
IsNoDeeperThan n depth last depths = depth ≤ last → slice_index depths n ≤ depth

-- what gate n reads is no deeper than it, unless it is deeper than `last`
abbrev pub HasOperandDepths : List AigNode → ℕ → ℕ → List ℕ → Type 0
HasOperandDepths nodes last n depths =
    (m : ℕ) → IsFanin nodes n m → IsNoDeeperThan m (slice_index depths n) last depths

-- the same of all gates
abbrev pub HaveOperandDepths : List AigNode → ℕ → List ℕ → Type 0
HaveOperandDepths nodes last depths = (n : ℕ) → HasOperandDepths nodes last n depths

-- what the latch reads is at most one step deeper, unless that is deeper than `last`
abbrev pub HasNextDepth : AigLatch → ℕ → List ℕ → Type 0
HasNextDepth latch last depths =
    IsNoDeeperThan latch.next.node_id (slice_index depths latch.input + 1) last depths

-- the same of all latches
abbrev pub HaveNextDepths : List AigLatch → ℕ → List ℕ → Type 0
HaveNextDepths latchs last depths = All (λ latch. HasNextDepth latch last depths) latchs

-- the same of all gates and latches
pub record AreSettled (c : Circuit) (last : ℕ) (depths : List ℕ) : Type 0 where
  pub operands : HaveOperandDepths c.nodes last depths
  pub next : HaveNextDepths c.latchs last depths

-- the nodes of the edges have depth 0
abbrev pub HaveNoDepth : List AigEdge → List ℕ → Type 0
HaveNoDepth es depths = All (λ e. slice_index depths e.node_id ≡ 0) es

-- each depth up to `last` is a number of steps in which its node is read
abbrev pub AreRead : Circuit → ℕ → List ℕ → Type 0
AreRead c last depths =
    (n : ℕ) → n < length depths → slice_index depths n ≤ last → IsRead c (slice_index depths n) n

-- Depths of all nodes: bad edges and constraints have none, and what is read up to `last` steps
-- later is no deeper than that.
pub record AreDepths (c : Circuit) (last : ℕ) (depths : List ℕ) : Type 0 where
  pub count : length depths ≡ length c.nodes
  pub bads : HaveNoDepth c.properties.bads depths
  pub constraints : HaveNoDepth c.properties.constraints depths
  pub settled : AreSettled c last depths
  pub read : AreRead c last depths

-- no depth is greater than before
abbrev pub AreNoDeeper : List ℕ → List ℕ → Type 0
AreNoDeeper old new = (n : ℕ) → slice_index new n ≤ slice_index old n

-- Depths are lowered where P doesn't hold of them: where none is lowered it holds, and otherwise
-- there is less to be lowered.
pub record Lowers (P : List ℕ → Type 0) (old new : List ℕ) (lowered : Bool) : Type 0 where
  pub none : lowered ≡ false → (new ≡ old) × P old
  pub some : lowered ≡ true → sum new < sum old
  pub lower : AreNoDeeper old new
