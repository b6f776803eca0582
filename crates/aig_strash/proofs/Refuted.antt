-- Wrong results of hashing small circuits, which the definition doesn't give.
use Rattle.aig_base.proofs.Words.{◌≡◌, ◌≢◌, ℕ, Bool, true, false, List, [], ◌∷◌, length, ap, arith, empty}
use Rattle.aig_circuit.specs.declared.edge.AigEdge.{AigEdge}
use Rattle.aig_circuit.specs.declared.node.AigNodeType.{AigNodeType}
use Rattle.aig_circuit.specs.declared.node.AigNodeType.TheVariants.{False, Leaf, And}
use Rattle.aig_circuit.specs.declared.node.AigNode.{AigNode}
use Rattle.aig_circuit.proofs.Words.{edge_to, Circuit, no_properties}
use Rattle.aig_circuit.specs.Tree.{tree_of}
use Rattle.aig_strash.specs.Strash.{strashed}

abbrev node : ℕ → AigNodeType → AigNode
node n kind = record { node_id = n; typ = kind }

abbrev and_of : ℕ → Bool → ℕ → Bool → AigNodeType
and_of a i b j = And (edge_to a i) (edge_to b j)

-- false, inputs 1 and 2, and these gates
abbrev over_two : List AigNode → List AigEdge → Circuit
over_two gates outputs =
    record { nodes = node 0 False ∷ node 1 Leaf ∷ node 2 Leaf ∷ gates; inputs = 1 ∷ 2 ∷ []; latchs = []; properties = record no_properties { outputs = outputs }; names = empty }

nodes-count : {c d : Circuit} → c ≡ d → length c.nodes ≡ length d.nodes
nodes-count e = ap (λ (c : Circuit). length c.nodes) e

-- two gates of one pair of edges
abbrev twice : Circuit
twice = over_two (node 3 (and_of 1 false 2 false) ∷ node 4 (and_of 1 false 2 false) ∷ []) (edge_to 4 false ∷ [])

-- the circuit itself
no_clone : strashed twice ≢ twice
unfolding tree_of
no_clone e = let n : ◌≡◌ {A = ℕ} 4 5 = nodes-count e in absurd (omega arith)

-- gates whose operands differ in an inversion made one
no_merged_inversions : strashed (over_two (node 3 (and_of 1 false 2 false) ∷ node 4 (and_of 1 false 2 true) ∷ []) (edge_to 4 false ∷ [])) ≢ over_two (node 3 (and_of 1 false 2 false) ∷ []) (edge_to 3 false ∷ [])
unfolding tree_of
no_merged_inversions e = let n : ◌≡◌ {A = ℕ} 5 4 = nodes-count e in absurd (omega arith)

-- gate 7 is and(3,4) only once 5 is 3 and its operands are in order again
abbrev crossed : Circuit
crossed = over_two
    (node 3 (and_of 1 false 2 false) ∷ node 4 (and_of 1 false 2 true) ∷ node 5 (and_of 1 false 2 false) ∷ node 6 (and_of 3 false 4 false) ∷ node 7 (and_of 4 false 5 false) ∷ [])
    (edge_to 6 false ∷ edge_to 7 false ∷ [])

-- its operands left as they come
no_crossed_operands : strashed crossed ≢ over_two
    (node 3 (and_of 1 false 2 false) ∷ node 4 (and_of 1 false 2 true) ∷ node 5 (and_of 3 false 4 false) ∷ node 6 (and_of 4 false 3 false) ∷ []) (edge_to 5 false ∷ edge_to 6 false ∷ [])
unfolding tree_of
no_crossed_operands e = let n : ◌≡◌ {A = ℕ} 6 7 = nodes-count e in absurd (omega arith)

-- a gate that nothing reaches dropped
no_dropped_gate : strashed (over_two (node 3 (and_of 1 false 2 false) ∷ []) []) ≢ over_two [] []
unfolding tree_of
no_dropped_gate e = let n : ◌≡◌ {A = ℕ} 4 3 = nodes-count e in absurd (omega arith)

-- a gate of one edge and itself, or of a constant, folded away
no_folded_gate : strashed (over_two (node 3 (and_of 1 false 1 false) ∷ []) (edge_to 3 false ∷ [])) ≢ over_two [] (edge_to 1 false ∷ [])
unfolding tree_of
no_folded_gate e = let n : ◌≡◌ {A = ℕ} 4 3 = nodes-count e in absurd (omega arith)

-- two leaves made one
no_merged_leaves : (strashed (over_two [] [])).nodes ≢ node 0 False ∷ node 1 Leaf ∷ []
unfolding tree_of
no_merged_leaves e = let n : ◌≡◌ {A = ℕ} 3 2 = ap length e in absurd (omega arith)
