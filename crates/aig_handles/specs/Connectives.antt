-- Part of what is promised.
-- The edge that joins edges, and what is added for it.
use Rattle.std.specs.Bool.{beq}
use Rattle.std.specs.Prelude.{◌≡◌, ℕ, ◌&&◌, ◌||◌, ◌⊎◌, Bool, not, List, map, length, All}
use Rattle.aig_circuit.specs.declared.edge.AigEdge.{AigEdge}
use Rattle.aig_circuit.specs.declared.node.AigNode.{AigNode}
use Rattle.aig_circuit.specs.Build.{AddsGate, AddsGateForEach, AddsOneEach, AddsOnlyGates, Folds, FoldsOrAdds, FoldsOrAddsAll, FoldsOrAddsEq, GivesEdge, JoinsByAnd, JoinsByOr}
use Rattle.aig_circuit.specs.Circuit.{Circuit, IsInRange}
use Rattle.aig_circuit.specs.Edge.{inverse}
use Rattle.aig_circuit.specs.Tree.{edge_value}
use Rattle.aig_giving.specs.Edges.{edge_of}
use Rattle.aig_handles.specs.declared.connectives.Connective.{Connective}
use Rattle.aig_handles.specs.declared.connectives.Connective.TheVariants as two
use Rattle.aig_handles.specs.declared.connectives.ListConnective.{ListConnective}
use Rattle.aig_handles.specs.declared.connectives.ListConnective.TheVariants as many
use Rattle.aig_giving.specs.declared.status.TheConstants.{MEMORY}
use Rattle.aig_handles.specs.declared.status.TheConstants.{FULL, RANGE}
use Rattle.aig_handles.specs.Handles.{DoneOr, HasRoom, Unmet}

-- what is added to join two edges: one gate, or none where they fold
abbrev pub Adds : Connective → List AigNode → List AigNode → AigEdge → AigEdge → AigEdge → Type 0
Adds two.TrivialAnd old new a b e = AddsGate old new a b e
Adds two.And old new a b e = FoldsOrAdds old new a b e
Adds two.TrivialOr old new a b e = AddsGate old new (inverse a) (inverse b) (inverse e)
Adds two.Or old new a b e = FoldsOrAdds old new (inverse a) (inverse b) (inverse e)
Adds two.Imply old new a b e = FoldsOrAdds old new a (inverse b) (inverse e)
Adds two.Equal old new a b e = FoldsOrAddsEq old new a b e

-- the value of the edge
abbrev pub joined : Connective → Bool → Bool → Bool
joined two.TrivialAnd p q = p && q
joined two.And p q = p && q
joined two.TrivialOr p q = p || q
joined two.Or p q = p || q
joined two.Imply p q = not p || q
joined two.Equal p q = beq p q

-- the most gates that are added
abbrev pub gates : Connective → ℕ
gates two.Equal = 3
gates by = 1

-- where two edges fold, no memory is needed
abbrev pub NeedsMemory : Connective → AigEdge → AigEdge → Type 0
NeedsMemory two.And a b = (f : AigEdge) → ¬ Folds a b f
NeedsMemory two.Or a b = (f : AigEdge) → ¬ Folds (inverse a) (inverse b) f
NeedsMemory two.Imply a b = (f : AigEdge) → ¬ Folds a (inverse b) f
NeedsMemory by a b = Unit {0}

-- the edge e joins a and b, and gates alone are added
pub record Joins (by : Connective) (old new : Circuit) (a b e : AigEdge) : Type 0 where
  pub adds : Adds by old.nodes new.nodes a b e
  pub gives : GivesEdge new.nodes
      (λ x. joined by (edge_value old.nodes x a) (edge_value old.nodes x b)) e
  pub gates : AddsOnlyGates old new

-- the circuit has both edges
abbrev pub HasBoth : Circuit → AigEdge → AigEdge → Type 0
HasBoth c a b = IsInRange c.nodes a × IsInRange c.nodes b

-- the edge that joins a and b is told by its literal; or circuit and literal stay
abbrev pub JoinsOr : Connective → AigEdge → AigEdge → ℕ → ℕ → ℕ → Circuit → Circuit → Type 0
JoinsOr by a b status before after old new =
    DoneOr status (HasBoth old a b × HasRoom old (gates by) × Joins by old new a b (edge_of after))
    ((new ≡ old) × (after ≡ before))
    (Unmet RANGE status (HasBoth old a b)
    ⊎ (HasBoth old a b × Unmet FULL status (HasRoom old (gates by)))
    ⊎ ((status ≡ MEMORY) × NeedsMemory by a b))

-- ---- lists of edges

-- what is added to join the edges of a list, from the left
abbrev pub AddsAll : ListConnective → List AigNode → List AigNode → List AigEdge → AigEdge → Type 0
AddsAll many.TrivialAnds old new es e = AddsGateForEach old es new e × AddsOneEach old new es
AddsAll many.Ands old new es e = FoldsOrAddsAll old es new e
AddsAll many.TrivialOrs old new es e =
    AddsGateForEach old (map inverse es) new (inverse e) × AddsOneEach old new es
AddsAll many.Ors old new es e = FoldsOrAddsAll old (map inverse es) new (inverse e)

-- the edge is the and or the or of the edges
abbrev pub IsJoinOf : ListConnective → List AigNode → List AigNode → List AigEdge → AigEdge → Type 0
IsJoinOf many.TrivialAnds = JoinsByAnd
IsJoinOf many.Ands = JoinsByAnd
IsJoinOf many.TrivialOrs = JoinsByOr
IsJoinOf many.Ors = JoinsByOr

-- the edge e joins the edges, and gates alone are added
pub record JoinsAll (by : ListConnective) (old new : Circuit) (es : List AigEdge) (e : AigEdge)
    : Type 0 where
  pub adds : AddsAll by old.nodes new.nodes es e
  pub joins : IsJoinOf by old.nodes new.nodes es e
  pub gates : AddsOnlyGates old new

-- the edge that joins the edges is told by its literal; or circuit and literal stay
abbrev pub JoinsAllOr : ListConnective → List AigEdge → ℕ → ℕ → ℕ → Circuit → Circuit → Type 0
JoinsAllOr by es status before after old new =
    DoneOr status (All (IsInRange old.nodes) es × HasRoom old (length es)
    × JoinsAll by old new es (edge_of after))
    ((new ≡ old) × (after ≡ before))
    (Unmet RANGE status (All (IsInRange old.nodes) es)
    ⊎ (All (IsInRange old.nodes) es × Unmet FULL status (HasRoom old (length es)))
    ⊎ (status ≡ MEMORY))
