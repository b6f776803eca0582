-- Part of what laws say, and of no promise of a call.
-- Resets that don't depend on one another in a circle. (AIGER 1.9, "Reset logic", has constants
-- alone; functions are those of certificates.)
use Rattle.std.specs.Prelude.{◌≡◌, ℕ, Bool, IfSome, List, [], ◌∷◌, All, Contains}
use Rattle.aig_circuit.specs.declared.edge.AigEdge.{AigEdge}
use Rattle.aig_circuit.specs.declared.node.AigLatch.{AigLatch}
use Rattle.aig_circuit.specs.Circuit.{Circuit, latch_leaves}
use Rattle.aig_circuit.specs.Tree.{edge_value}
use Rattle.aig_witness_circuits.specs.Simulation.{IsOwn, Sharing}

-- the edge's value doesn't depend on these leaves
abbrev pub IsIndependent : Circuit → List ℕ → AigEdge → Type 0
IsIndependent c leaves e =
    (y z : ℕ → Bool) → ((n : ℕ) → ¬ Contains leaves n → y n ≡ z n)
    → edge_value c.nodes y e ≡ edge_value c.nodes z e

-- the initial edge of each of these latches doesn't depend on its own leaf, nor on those of later
-- ones, and no two have one leaf
abbrev pub IsInOrder : Circuit → List AigLatch → Type 0
IsInOrder c [] = Unit {0}
IsInOrder c (latch ∷ later) =
    (¬ Contains (latch_leaves later) latch.input)
    × IfSome latch.init (IsIndependent c (latch_leaves (latch ∷ later))) × IsInOrder c later

-- the witness circuit's own latches stand in such an order
pub record IsStratified (shared : Sharing) (c : Circuit) : Type 0 where
  pub order : List AigLatch
  pub in_order : IsInOrder c order
  pub own : All (λ latch. IsOwn shared latch.input) order
  pub all : All (λ latch. IsOwn shared latch.input → Contains order latch) c.latchs
