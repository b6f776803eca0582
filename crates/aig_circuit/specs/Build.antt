-- Part of what is promised.
-- What the builders add to a list of nodes, and the value of the edge that they answer.
-- (The crate aig: `new_leaf_node`, `new_and_node` and its other builders.)
use Rattle.std.specs.Prelude.{◌≡◌, ℕ, ◌+◌, ◌-◌, ◌<◌, ◌≤◌, ◌++◌, ◌∷◌, [], ◌⊎◌, Bool, true, false, List, length, Some}
use Rattle.std.specs.List.{list_all, list_any}
use Rattle.aig_circuit.specs.declared.edge.AigEdge.{AigEdge}
use Rattle.aig_circuit.specs.declared.node.AigNodeType.{AigNodeType}
use Rattle.aig_circuit.specs.declared.node.AigNodeType.TheVariants.{And}
use Rattle.aig_circuit.specs.declared.node.AigNode.{AigNode}
use Rattle.aig_circuit.specs.Edge.{edge_to, inverse}
use Rattle.aig_circuit.specs.Node.{kind_at, and_of}
use Rattle.aig_circuit.specs.Tree.{tree_of, edge_value}
use Rattle.aig_circuit.specs.Circuit.{Circuit, AreNodes, IsInRange}

-- the list with one more node of this kind, numbered by its place
abbrev pub with_node : List AigNode → AigNodeType → List AigNode
with_node nodes kind = nodes ++ record { node_id = length nodes; typ = kind } ∷ []

-- the edge e has its node among these, and its value is `wanted x` for all leaf values x
pub record GivesEdge (nodes : List AigNode) (wanted : (ℕ → Bool) → Bool) (e : AigEdge)
    : Type 0 where
  pub there : IsInRange nodes e
  pub value : (x : ℕ → Bool) → edge_value nodes x e ≡ wanted x

-- the and of the edges a and b is the edge e, with no gate of its own
pub data Folds (a b e : AigEdge) : Type 0 where
  true_first : a ≡ edge_to 0 true → e ≡ b → Folds a b e
  true_second : b ≡ edge_to 0 true → e ≡ a → Folds a b e
  false_first : a ≡ edge_to 0 false → e ≡ edge_to 0 false → Folds a b e
  false_second : b ≡ edge_to 0 false → e ≡ edge_to 0 false → Folds a b e
  same : a ≡ b → e ≡ a → Folds a b e
  opposite : a ≡ inverse b → e ≡ edge_to 0 false → Folds a b e

-- one new gate, the and of a and b, and the edge to it
pub record AddsGate (old new : List AigNode) (a b e : AigEdge) : Type 0 where
  pub gate : new ≡ with_node old (and_of a b)
  pub edge : e ≡ edge_to (length old) false

-- where a and b fold, the edge that they fold to and no new node; else one new gate
abbrev pub FoldsOrAdds : List AigNode → List AigNode → AigEdge → AigEdge → AigEdge → Type 0
FoldsOrAdds old new a b e =
    (Folds a b e × (new ≡ old)) ⊎ (((f : AigEdge) → ¬ Folds a b f) × AddsGate old new a b e)

-- sound nodes, the old ones first: every old node keeps its tree, and every edge to an old node its
-- value for all leaf values
pub record Grows (old new : List AigNode) : Type 0 where
  pub sound : AreNodes new
  pub added : List AigNode
  pub appended : new ≡ old ++ added
  pub longer : length old ≤ length new
  pub trees : (n : ℕ) → n < length old → tree_of new n ≡ tree_of old n
  pub values : (x : ℕ → Bool) (e : AigEdge) → IsInRange old e
      → edge_value new x e ≡ edge_value old x e

-- gates alone are added, after the old nodes
pub record AddsGates (old new : List AigNode) : Type 0 where
  pub grows : Grows old new
  pub gates : (n : ℕ) → length old ≤ n → n < length new
      → (a b : AigEdge) × (kind_at new n ≡ Some (And a b))

-- gates alone are added to the circuit: all its lists and its names stay
pub record AddsOnlyGates (old new : Circuit) : Type 0 where
  pub nodes : AddsGates old.nodes new.nodes
  pub same : new ≡ record old { nodes = new.nodes }

-- a step from some nodes to others that makes an edge of two edges
abbrev pub JoiningStep : Type 1
JoiningStep = List AigNode → List AigNode → AigEdge → AigEdge → AigEdge → Type 0

-- the edge e is made of the edge `all` and the edges es, from the left, by one step for each of es
abbrev pub JoinsFromLeft : JoiningStep → List AigNode → AigEdge → List AigEdge → List AigNode
    → AigEdge → Type 0
JoinsFromLeft Step old all [] new e = (new ≡ old) × (e ≡ all)
JoinsFromLeft Step old all (f ∷ fs) new e =
    (mid : List AigNode) × (next : AigEdge) × Step old mid all f next
    × JoinsFromLeft Step mid next fs new e

-- true and then each of the edges, joined from the left: an edge that folds adds no node, and any
-- other adds one gate
abbrev pub FoldsOrAddsAll : List AigNode → List AigEdge → List AigNode → AigEdge → Type 0
FoldsOrAddsAll old es new e = JoinsFromLeft FoldsOrAdds old (edge_to 0 true) es new e

-- the edges joined from the left by one gate for each edge after the first; of no edges true, and
-- no node is added
abbrev pub AddsGateForEach : List AigNode → List AigEdge → List AigNode → AigEdge → Type 0
AddsGateForEach old [] new e = (new ≡ old) × (e ≡ edge_to 0 true)
AddsGateForEach old (f ∷ fs) new e = JoinsFromLeft AddsGate old f fs new e

-- the three steps of equality: the and of a and b, the and of their inverses, and the or of the two
pub record FoldsOrAddsEq (old new : List AigNode) (a b e : AigEdge) : Type 0 where
  pub one : List AigNode
  pub two : List AigNode
  pub both : AigEdge
  pub neither : AigEdge
  pub is_both : FoldsOrAdds old one a b both
  pub is_neither : FoldsOrAdds one two (inverse a) (inverse b) neither
  pub is_either : FoldsOrAdds two new (inverse both) (inverse neither) (inverse e)

-- the edge e joins the edges es: its value is what `join` gives of theirs, of no edges it is
-- constant, and of one edge it is that one
pub record Joins (join : (AigEdge → Bool) → List AigEdge → Bool) (unit : Bool)
    (old new : List AigNode) (es : List AigEdge) (e : AigEdge) : Type 0 where
  pub gives : GivesEdge new (λ x. join (edge_value old x) es) e
  pub none : es ≡ [] → (e ≡ edge_to 0 unit) × (new ≡ old)
  pub one : (f : AigEdge) → es ≡ f ∷ [] → (e ≡ f) × (new ≡ old)

-- the edge is the and of the edges
abbrev pub JoinsByAnd : List AigNode → List AigNode → List AigEdge → AigEdge → Type 0
JoinsByAnd = Joins list_all true

-- the edge is the or of the edges
abbrev pub JoinsByOr : List AigNode → List AigNode → List AigEdge → AigEdge → Type 0
JoinsByOr = Joins list_any false

-- one node more for each edge after the first
abbrev pub AddsOneEach : List AigNode → List AigNode → List AigEdge → Type 0
AddsOneEach old new es = length new ≡ length old + (length es - 1)
