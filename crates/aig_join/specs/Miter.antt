-- Part of what is promised.
-- The miter of two circuits: both over the same inputs, with a bad edge for each pair of outputs
-- and of bad edges that is true where the two differ. (Equivalence checking.)
use Rattle.std.specs.Prelude.{◌≡◌, ◌≢◌, ℕ, ◌≤◌, ◌↔◌, Bool, IsTrue, List, [], ◌∷◌, ◌++◌, map, length, Some, slice_get}
use Rattle.std.specs.List.{AllZip}
use Rattle.aig_circuit.specs.declared.edge.AigEdge.{AigEdge}
use Rattle.aig_circuit.specs.declared.node.AigNode.{AigNode}
use Rattle.aig_circuit.specs.Build.{AddsGates, FoldsOrAddsEq}
use Rattle.aig_circuit.specs.Circuit.{Circuit, IsInRange, IsLeaf}
use Rattle.aig_circuit.specs.Edge.{inverse}
use Rattle.aig_circuit.specs.Properties.{no_properties}
use Rattle.aig_circuit.specs.Renumber.{renumbered_edge}
use Rattle.aig_circuit.specs.Runs.{IsRun, IsInitial}
use Rattle.aig_circuit.specs.Tree.{edge_value}
use Rattle.aig_change.specs.Runs.{IsAllowedRun}
use Rattle.aig_join.specs.Joined.{joined, number_in_joint}
use Rattle.aig_join.specs.Pairs.{MeetsConstraints}

-- the circuits have as many inputs, as many outputs and as many bad edges
pub record HaveSameCounts (a b : Circuit) : Type 0 where
  pub inputs : length a.inputs ≡ length b.inputs
  pub outputs : length a.properties.outputs ≡ length b.properties.outputs
  pub bads : length a.properties.bads ≡ length b.properties.bads

-- what is compared of a circuit: its outputs, and then its bad edges
abbrev pub compared : Circuit → List AigEdge
compared c = c.properties.outputs ++ c.properties.bads

-- ---- the circuit

-- The edge d is true exactly where e and f differ: it is the inverse of what the builders' rule for
-- equality makes of the two.
pub record Differs (old new : List AigNode) (e f d : AigEdge) : Type 0 where
  pub gates : AddsGates old new
  pub rule : FoldsOrAddsEq old new e f (inverse d)
  pub there : IsInRange new d
  pub value : (x : ℕ → Bool)
      → IsTrue (edge_value new x d) ↔ (edge_value old x e ≢ edge_value old x f)

-- for each pair of edges such an edge, made one after the other
abbrev pub DifferInSteps : List AigNode → List AigEdge → List AigEdge → List AigEdge
    → List AigNode → Type 0
DifferInSteps old [] [] [] new = new ≡ old
DifferInSteps old (e ∷ es) (f ∷ fs) (d ∷ ds) new =
    (mid : List AigNode) × Differs old mid e f d × DifferInSteps mid es fs ds new
DifferInSteps old es fs ds new = ⊥

-- what is compared of the second circuit, in the joint one
abbrev pub moved_compared : Circuit → Circuit → List AigEdge
moved_compared a b =
    let number = number_in_joint 0 a b in
    map (renumbered_edge number) b.properties.outputs
    ++ map (renumbered_edge number) b.properties.bads

-- The joint circuit of a and b, which share their inputs, with gates more. Of its properties only
-- the constraints stay, and there is a bad edge for each pair of outputs and then of bad edges.
pub record IsMiter (a b new : Circuit) : Type 0 where
  pub gates : AddsGates (joined 0 a b).nodes new.nodes
  pub steps : DifferInSteps (joined 0 a b).nodes (compared a) (moved_compared a b)
      new.properties.bads new.nodes
  pub rest : new
      ≡ record (joined 0 a b) {
        nodes = new.nodes;
        properties =
            record no_properties {
              bads = new.properties.bads;
              constraints = (joined 0 a b).properties.constraints;
            };
      }

-- ---- what it says

-- the inputs have the same values, one for one
abbrev pub HaveSameInputs : Circuit → Circuit → (ℕ → Bool) → (ℕ → Bool) → Type 0
HaveSameInputs a b x y = AllZip (λ m n. x m ≡ y n) a.inputs b.inputs

-- The leaf values of the miter m are pairs of leaf values of a and b with the same inputs: those of
-- node n of a are those of node n of m, and those of node n of b are those of node `number n`.
-- Runs are pairs of runs, and initial states and states that meet the constraints are pairs of
-- such. Bad edge j holds exactly where entry j of what is compared differs.
pub record ComparesRuns (a b m : Circuit) (number : ℕ → ℕ) : Type 0 where
  pub runs : (last : ℕ) (z : ℕ → ℕ → Bool)
      → IsRun m last z ↔ (IsRun a last z × IsRun b last (λ t n. z t (number n)))
  pub starts : (z : ℕ → Bool)
      → IsInitial m z ↔ (IsInitial a z × IsInitial b (λ n. z (number n)))
  pub inputs : (z : ℕ → Bool) → HaveSameInputs a b z (λ n. z (number n))
  pub each : (x y : ℕ → Bool) → HaveSameInputs a b x y
      → (z : ℕ → Bool) × ((n : ℕ) → IsLeaf a.nodes n → z n ≡ x n)
      × ((n : ℕ) → IsLeaf b.nodes n → z (number n) ≡ y n)
  pub constraints : (z : ℕ → Bool)
      → MeetsConstraints m z
      ↔ (MeetsConstraints a z × MeetsConstraints b (λ n. z (number n)))
  pub count : length m.properties.bads ≡ length (compared a)
  pub bads : (z : ℕ → Bool) (j : ℕ) (e f d : AigEdge)
      → slice_get (compared a) j ≡ Some e → slice_get (compared b) j ≡ Some f
      → slice_get m.properties.bads j ≡ Some d
      → IsTrue (edge_value m.nodes z d)
      ↔ (edge_value a.nodes z e ≢ edge_value b.nodes (λ n. z (number n)) f)

-- outputs and bad edges have the same values, one for one
abbrev pub CompareEqual : Circuit → Circuit → (ℕ → Bool) → (ℕ → Bool) → Type 0
CompareEqual a b x y =
    AllZip (λ e f. edge_value a.nodes x e ≡ edge_value b.nodes y f) (compared a) (compared b)

-- on all runs of both from initial states that have the same inputs and meet the constraints at
-- each step up to k, outputs and bad edges are the same at step k
abbrev pub AreEqualAt : Circuit → Circuit → ℕ → Type 0
AreEqualAt a b k =
    (x y : ℕ → ℕ → Bool) → IsAllowedRun a k x → IsAllowedRun b k y
    → ((t : ℕ) → t ≤ k → HaveSameInputs a b (x t) (y t)) → CompareEqual a b (x k) (y k)
