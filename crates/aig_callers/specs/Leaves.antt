-- Serves private clauses alone.
-- What leaves say of edges.
use Rattle.std.specs.Prelude.{◌≡◌, ℕ, Bool}
use Rattle.aig_circuit.specs.declared.edge.AigEdge.{AigEdge}
use Rattle.aig_circuit.specs.Circuit.{Circuit, IsInRange, IsLeaf}
use Rattle.aig_circuit.specs.Tree.{edge_value}

-- the value of an edge of the circuit depends on the values of its leaves alone
abbrev pub LeavesFixValues : Circuit → Type 0
LeavesFixValues c =
    (x y : ℕ → Bool) → ((n : ℕ) → IsLeaf c.nodes n → x n ≡ y n) → (e : AigEdge)
    → IsInRange c.nodes e → edge_value c.nodes x e ≡ edge_value c.nodes y e
