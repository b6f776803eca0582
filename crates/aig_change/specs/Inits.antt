-- Part of what is promised.
-- Constraints that say in place of initial edges that aren't constant what those say.
use Rattle.std.specs.Prelude.{◌≡◌, ◌≢◌, ◌==◌, ℕ, ◌++◌, ◌↔◌, Bool, true, false, not, Option, Some, None, IsTrue, IfSome, List, [], ◌∷◌, All, filter}
use Rattle.std.specs.List.{AllZip}
use Rattle.aig_circuit.specs.declared.edge.AigEdge.{AigEdge}
use Rattle.aig_circuit.specs.declared.node.AigLatch.{AigLatch}
use Rattle.aig_circuit.specs.declared.node.AigNode.{AigNode}
use Rattle.aig_circuit.specs.Tree.{edge_value}
use Rattle.aig_circuit.specs.Circuit.{IsInRange}
use Rattle.aig_circuit.specs.Edge.{edge_to, inverse}
use Rattle.aig_circuit.specs.Build.{FoldsOrAdds, FoldsOrAddsEq}

-- an initial edge that isn't constant has the latch's value
abbrev pub MeetsInit : List AigNode → (ℕ → Bool) → AigLatch → Type 0
MeetsInit nodes x latch =
    IfSome latch.init (λ e. e.node_id ≢ 0 → edge_value nodes x e ≡ x latch.input)

-- the initial edge is there and isn't constant
abbrev pub is_variable : Option AigEdge → Bool
is_variable (Some e) = not (e.node_id == 0)
is_variable None = false

-- the latches whose initial edges aren't constant
abbrev pub variable_latchs : List AigLatch → List AigLatch
variable_latchs latchs = filter (λ latch. is_variable latch.init) latchs

-- the constraint holds exactly where the edge `first` implies that the latch has the value of its
-- initial edge
abbrev pub ImpliesInit : List AigNode → List AigNode → AigEdge → AigEdge → AigLatch → Type 0
ImpliesInit old new first constraint latch =
    (x : ℕ → Bool)
    → IsTrue (edge_value new x constraint) ↔ (edge_value old x first ≡ true → MeetsInit old x latch)

-- One latch's constraint by the builders' rules: its leaf equals its initial edge, and the edge
-- `first` implies that.
pub record SaysInSteps (old new : List AigNode) (first constraint : AigEdge) (latch : AigLatch)
    : Type 0 where
  pub start : AigEdge
  pub is_start : latch.init ≡ Some start
  pub mid : List AigNode
  pub equal : AigEdge
  pub compares : FoldsOrAddsEq old mid (edge_to latch.input false) start equal
  pub implies : FoldsOrAdds mid new first (inverse equal) (inverse constraint)

-- the constraints of these latches, made one after the other
abbrev pub SayInSteps : List AigNode → AigEdge → List AigEdge → List AigLatch → List AigNode
    → Type 0
SayInSteps old first [] [] new = new ≡ old
SayInSteps old first [] (latch ∷ latchs) new = ⊥
SayInSteps old first (constraint ∷ constraints) [] new = ⊥
SayInSteps old first (constraint ∷ constraints) (latch ∷ latchs) new =
    (mid : List AigNode) × SaysInSteps old mid first constraint latch
    × SayInSteps mid first constraints latchs new

-- Constraints are appended, one for each latch whose initial edge isn't constant. They all hold
-- exactly where the edge `first` implies that each of these latches has the value of its initial
-- edge.
pub record Constrains (old new : List AigNode) (first : AigEdge) (latchs : List AigLatch)
    (before after : List AigEdge) : Type 0 where
  pub constrained : List AigEdge
  pub appended : after ≡ before ++ constrained
  pub there : All (IsInRange new) constrained
  pub says : (x : ℕ → Bool)
      → All (λ e. IsTrue (edge_value new x e)) constrained
      ↔ (edge_value old x first ≡ true → All (MeetsInit old x) latchs)
  pub each : AllZip (ImpliesInit old new first) constrained (variable_latchs latchs)
  pub steps : SayInSteps old first constrained (variable_latchs latchs) new
