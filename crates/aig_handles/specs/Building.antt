-- Part of what is promised.
-- Leaves that are added, and what becomes of free ones.
use Rattle.std.specs.Prelude.{◌≡◌, ◌<◌, ◌++◌, ◌∷◌, [], ◌⊎◌, ℕ, Bool, if◌then◌else◌, length, Option, Some, None, IfSome, slice_get, slice_set}
use Rattle.aig_circuit.specs.declared.edge.AigEdge.{AigEdge}
use Rattle.aig_circuit.specs.declared.node.AigLatch.{AigLatch}
use Rattle.aig_circuit.specs.declared.node.AigNodeType.TheVariants.{Leaf}
use Rattle.aig_circuit.specs.Build.{with_node}
use Rattle.aig_circuit.specs.Circuit.{Circuit, IsFree, IsInRange, IsLeaf}
use Rattle.aig_giving.specs.Edges.{edge_of}
use Rattle.aig_handles.specs.declared.building.NewLeaf.{NewLeaf}
use Rattle.aig_handles.specs.declared.building.NewLeaf.TheVariants.{Free, Input, Latch}
use Rattle.aig_giving.specs.declared.status.TheConstants.{MEMORY}
use Rattle.aig_handles.specs.declared.status.TheConstants.{FULL, NOT_FREE, RANGE}
use Rattle.aig_handles.specs.Handles.{ChangesOr, DoneOr, HasRoom, Unmet}

-- the edge of a literal, if there is one
abbrev pub edge_if : Bool → ℕ → Option AigEdge
edge_if is literal = if is then Some (edge_of literal) else None

-- the circuit has the edges of a latch
abbrev pub HasEdges : Circuit → AigEdge → Option AigEdge → Type 0
HasEdges c next init = IsInRange c.nodes next × IfSome init (IsInRange c.nodes)

-- a latch on this leaf
abbrev pub latch_on : ℕ → AigEdge → Option AigEdge → AigLatch
latch_on leaf next init = record { input = leaf; next = next; init = init }

-- ---- new leaves

-- the circuit has the edges of the leaf
abbrev pub HasEdgesOf : Circuit → NewLeaf → Type 0
HasEdgesOf c (Latch next init) = HasEdges c next init
HasEdgesOf c leaf = Unit {0}

-- the circuit with one more leaf: a free one, the last input, or one with the last latch
abbrev pub with_leaf : NewLeaf → Circuit → Circuit
with_leaf Free c = record c { nodes = with_node c.nodes Leaf }
with_leaf Input c =
    record c { nodes = with_node c.nodes Leaf; inputs = c.inputs ++ length c.nodes ∷ [] }
with_leaf (Latch next init) c =
    record c {
      nodes = with_node c.nodes Leaf;
      latchs = c.latchs ++ latch_on (length c.nodes) next init ∷ [];
    }

-- a leaf is added, and its number is told; or circuit and number stay
abbrev pub AddsLeafOr : NewLeaf → ℕ → ℕ → ℕ → Circuit → Circuit → Type 0
AddsLeafOr leaf status before after old new =
    DoneOr status (HasEdgesOf old leaf × HasRoom old 1 × (after ≡ length old.nodes)
    × (new ≡ with_leaf leaf old))
    ((new ≡ old) × (after ≡ before))
    (Unmet RANGE status (HasEdgesOf old leaf)
    ⊎ (HasEdgesOf old leaf × Unmet FULL status (HasRoom old 1)) ⊎ (status ≡ MEMORY))

-- ---- free leaves and latches

-- the node is a free leaf
abbrev pub IsFreeLeaf : Circuit → ℕ → Type 0
IsFreeLeaf c n = IsLeaf c.nodes n × IsFree c.inputs c.latchs n

-- a free leaf becomes the last input
abbrev pub AddsInputOr : ℕ → ℕ → Circuit → Circuit → Type 0
AddsInputOr n status old new =
    ChangesOr status old new
    (IsFreeLeaf old n × (new ≡ record old { inputs = old.inputs ++ n ∷ [] }))
    (Unmet NOT_FREE status (IsFreeLeaf old n) ⊎ (status ≡ MEMORY))

-- a free leaf becomes that of the last latch
abbrev pub AddsLatchOr : ℕ → AigEdge → Option AigEdge → ℕ → Circuit → Circuit → Type 0
AddsLatchOr n next init status old new =
    ChangesOr status old new (IsFreeLeaf old n × HasEdges old next init
    × (new ≡ record old { latchs = old.latchs ++ latch_on n next init ∷ [] }))
    (Unmet NOT_FREE status (IsFreeLeaf old n)
    ⊎ (IsFreeLeaf old n × Unmet RANGE status (HasEdges old next init)) ⊎ (status ≡ MEMORY))

-- latch i is the one that this gives of it, and all else stays
abbrev pub SetsLatch : ℕ → (AigLatch → AigLatch) → Circuit → Circuit → Type 0
SetsLatch i becomes old new =
    (latch : AigLatch) → slice_get old.latchs i ≡ Some latch
    → new ≡ record old { latchs = slice_set old.latchs i (becomes latch) }

-- there is a latch i, and this of the edge
abbrev pub HasLatch : Circuit → ℕ → Type 0 → Type 0
HasLatch c i edge = (i < length c.latchs) × edge

-- latch i has another next edge
abbrev pub SetsNextOr : ℕ → AigEdge → ℕ → Circuit → Circuit → Type 0
SetsNextOr i e status old new =
    ChangesOr status old new (HasLatch old i (IsInRange old.nodes e)
    × SetsLatch i (λ latch. record latch { next = e }) old new)
    (Unmet RANGE status (HasLatch old i (IsInRange old.nodes e)))

-- latch i has another initial edge, or none
abbrev pub SetsInitOr : ℕ → Option AigEdge → ℕ → Circuit → Circuit → Type 0
SetsInitOr i e status old new =
    ChangesOr status old new (HasLatch old i (IfSome e (IsInRange old.nodes))
    × SetsLatch i (λ latch. record latch { init = e }) old new)
    (Unmet RANGE status (HasLatch old i (IfSome e (IsInRange old.nodes))))
