-- Part of what is promised.
-- Marks of nodes: one truth value a node.
use Rattle.std.specs.Prelude.{◌<◌, ◌⊎◌, ◌↔◌, ℕ, Bool, false, IsTrue, List, length, All, slice_index_or}
use Rattle.aig_circuit.specs.declared.edge.AigEdge.{AigEdge}
use Rattle.aig_circuit.specs.Edges.{ReferTo}

-- node n is marked
abbrev pub IsMarked : List Bool → ℕ → Type 0
IsMarked marks n = IsTrue (slice_index_or marks n false)

-- there is a mark for the node of each edge
abbrev pub HasMarks : List Bool → List AigEdge → Type 0
HasMarks marks es = All (λ e. e.node_id < length marks) es

-- what the edges name is marked too, and nothing else
abbrev pub AddsEdgeMarks : List Bool → List Bool → List AigEdge → Type 0
AddsEdgeMarks old new es = (n : ℕ) → IsMarked new n ↔ (IsMarked old n ⊎ ReferTo es n)
