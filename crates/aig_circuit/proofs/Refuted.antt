-- Wrong results on small circuits, of which the definitions are false.
use Rattle.aig_base.proofs.Words.{◌≡◌, ◌≢◌, ℕ, false, Option, Some, None, List, [], ◌∷◌, ap, refl, inl, inr, arith, empty}
use Rattle.std.specs.Prelude.{slice_get, unwrap_or, length}
use Rattle.aig_circuit.specs.declared.edge.AigEdge.{AigEdge}
use Rattle.aig_circuit.specs.declared.node.AigNodeType.{AigNodeType}
use Rattle.aig_circuit.specs.declared.node.AigNodeType.TheVariants.{False, Leaf, And}
use Rattle.aig_circuit.specs.declared.node.AigNode.{AigNode}
use Rattle.aig_circuit.specs.declared.node.AigLatch.{AigLatch}
use Rattle.aig_circuit.proofs.Words.{Folds, FoldsOrAdds, true_first, true_second, false_first, false_second, same, opposite, AreNodes, Circuit, edge_to, no_properties, reencoded}

abbrev node : ℕ → AigNodeType → AigNode
node n kind = record { node_id = n; typ = kind }

-- false, the leaves 1 and 2, and 3 = and(1,2)
abbrev one_gate : List AigNode
one_gate = node 0 False ∷ node 1 Leaf ∷ node 2 Leaf ∷ node 3 (And (edge_to 1 false) (edge_to 2 false)) ∷ []

-- ---- builders

-- the gate that is there isn't looked up
no_old_gate : ¬ FoldsOrAdds one_gate one_gate (edge_to 1 false) (edge_to 2 false) (edge_to 3 false)
no_old_gate (inl (folds, stays)) = by folds
  where
    by : ¬ Folds (edge_to 1 false) (edge_to 2 false) (edge_to 3 false)
    by (true_first a e) = let n : ◌≡◌ {A = ℕ} 1 0 = ap (λ (f : AigEdge). f.node_id) a in absurd (omega arith)
    by (true_second b e) = let n : ◌≡◌ {A = ℕ} 2 0 = ap (λ (f : AigEdge). f.node_id) b in absurd (omega arith)
    by (false_first a e) = let n : ◌≡◌ {A = ℕ} 1 0 = ap (λ (f : AigEdge). f.node_id) a in absurd (omega arith)
    by (false_second b e) = let n : ◌≡◌ {A = ℕ} 2 0 = ap (λ (f : AigEdge). f.node_id) b in absurd (omega arith)
    by (same a e) = let n : ◌≡◌ {A = ℕ} 1 2 = ap (λ (f : AigEdge). f.node_id) a in absurd (omega arith)
    by (opposite a e) = let n : ◌≡◌ {A = ℕ} 1 2 = ap (λ (f : AigEdge). f.node_id) a in absurd (omega arith)
no_old_gate (inr (none, adds)) = let n : ◌≡◌ {A = ℕ} 4 5 = ap length adds.gate in absurd (omega arith)

-- and where two edges fold there is no gate of theirs
no_gate_of_one : (old new : List AigNode) (e : AigEdge) → length new ≢ length old → ¬ FoldsOrAdds old new (edge_to 1 false) (edge_to 1 false) e
no_gate_of_one old new e longer (inl (folds, stays)) = longer (ap length stays)
no_gate_of_one old new e longer (inr (none, adds)) = none (edge_to 1 false) (same refl refl)

-- a gate is of nodes before it
no_later_operand : ¬ AreNodes (node 0 False ∷ node 1 Leaf ∷ node 2 (And (edge_to 1 false) (edge_to 3 false)) ∷ node 3 Leaf ∷ [])
no_later_operand are = absurd (omega (arith, are.ordered.second_before 2 (edge_to 1 false) (edge_to 3 false) refl))

-- ---- the binary form's numbering

-- latch 1 with next 1 and initial edge 2, input 2
abbrev latch_first : Circuit
latch_first = record {
  nodes = node 0 False ∷ node 1 Leaf ∷ node 2 Leaf ∷ [];
  inputs = 2 ∷ [];
  latchs = record { input = 1; next = edge_to 1 false; init = Some (edge_to 2 false) } ∷ [];
  properties = no_properties;
  names = empty;
}

-- the node of the first latch's initial edge
abbrev first_start : Circuit → ℕ
first_start c = by (slice_get c.latchs 0)
  where
    by : Option AigLatch → ℕ
    by (Some latch) = (unwrap_or latch.init (edge_to 0 false)).node_id
    by None = 0

-- the initial edge doesn't keep its old number
no_old_start : first_start (reencoded latch_first) ≢ first_start latch_first
no_old_start e = let n : ◌≡◌ {A = ℕ} 1 2 = e in absurd (omega arith)
