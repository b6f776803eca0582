-- Part of what is promised.
-- The first edge of a list joined with another edge.
use Rattle.std.specs.Prelude.{◌≡◌, ◌&&◌, false, Some, List, [], length, drop, All, slice_get}
use Rattle.aig_circuit.specs.declared.edge.AigEdge.{AigEdge}
use Rattle.aig_circuit.specs.declared.node.AigNode.{AigNode}
use Rattle.aig_circuit.specs.declared.node.AigNodeType.TheVariants.{Leaf}
use Rattle.aig_circuit.specs.Edge.{edge_to}
use Rattle.aig_circuit.specs.Tree.{edge_value}
use Rattle.aig_circuit.specs.Circuit.{Circuit, IsInRange}
use Rattle.aig_circuit.specs.Build.{AddsGates, FoldsOrAdds, FoldsOrAddsAll, GivesEdge, JoinsByAnd, with_node}

-- the first edge, where there is one, becomes the and of itself and of the edge `next`; the others
-- stay
pub record JoinsFirst (old new : List AigNode) (next : AigEdge) (edges joined : List AigEdge)
    : Type 0 where
  pub others : drop 1 joined ≡ drop 1 edges
  pub count : length joined ≡ length edges
  pub there : All (IsInRange new) joined
  pub none : edges ≡ [] → new ≡ old
  pub rule : (e f : AigEdge) → slice_get edges 0 ≡ Some e → slice_get joined 0 ≡ Some f
      → FoldsOrAdds old new e next f
  pub gives : (e f : AigEdge) → slice_get edges 0 ≡ Some e → slice_get joined 0 ≡ Some f
      → GivesEdge new (λ x. edge_value old x e && edge_value old x next) f

-- What is added step by step by the builders' rules: a leaf, the and of all constraints, the and
-- `next` of the two, and the joined edges.
pub record JoinsInSteps (old : Circuit) (one two three four : List AigNode)
    (constraint next : AigEdge) (bads outputs : List AigEdge) : Type 0 where
  pub first : AddsGates (with_node old.nodes Leaf) one
  pub joins_rule : FoldsOrAddsAll (with_node old.nodes Leaf) old.properties.constraints one
      constraint
  pub joins : JoinsByAnd (with_node old.nodes Leaf) one old.properties.constraints constraint
  pub second : AddsGates one two
  pub rule : FoldsOrAdds one two (edge_to (length old.nodes) false) constraint next
  pub gives : GivesEdge two
      (λ x. edge_value one x (edge_to (length old.nodes) false) && edge_value one x constraint) next
  pub third : AddsGates two three
  pub joins_bads : JoinsFirst two three next old.properties.bads bads
  pub fourth : AddsGates three four
  pub joins_outputs : JoinsFirst three four next old.properties.outputs outputs
