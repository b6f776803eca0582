-- A small circuit, renumbered as a binary file has it, by computation.
use Rattle.aig_base.proofs.Words.{◌≡◌, ◌≢◌, ℕ, List, [], ◌∷◌, Some, false, refl, ap, arith, empty}
use Rattle.aig_circuit.specs.declared.node.AigNodeType.{AigNodeType}
use Rattle.aig_circuit.specs.declared.node.AigNodeType.TheVariants.{False, Leaf, And}
use Rattle.aig_circuit.specs.declared.node.AigNode.{AigNode}
use Rattle.aig_circuit.specs.declared.node.AigLatch.{AigLatch}
use Rattle.aig_circuit.proofs.Words.{Circuit, IsReencoded, edge_to, no_properties, order_of, reencoded}

abbrev node : ℕ → AigNodeType → AigNode
node n kind = record { node_id = n; typ = kind }

abbrev latch : ℕ → ℕ → AigLatch
latch input next = record { input = input; next = edge_to next false; init = Some (edge_to 0 false) }

abbrev circuit_with : List AigNode → List ℕ → List AigLatch → Circuit
circuit_with nodes inputs latchs =
    record { nodes = nodes; inputs = inputs; latchs = latchs; properties = no_properties; names = empty }

abbrev two_leaves : List AigNode
two_leaves = node 0 False ∷ node 1 Leaf ∷ node 2 Leaf ∷ []

-- latch 1 with next 3, input 2, node 3 = and(1,2)
abbrev latch_first : Circuit
latch_first = circuit_with
    (node 0 False ∷ node 1 Leaf ∷ node 2 Leaf ∷ node 3 (And (edge_to 1 false) (edge_to 2 false)) ∷ [])
    (2 ∷ [])
    (latch 1 3 ∷ [])

latch_first-order : order_of latch_first ≡ 0 ∷ 2 ∷ 1 ∷ 3 ∷ []
latch_first-order = refl

latch_first-inputs : (reencoded latch_first).inputs ≡ 1 ∷ []
latch_first-inputs = refl

latch_first-latchs : (reencoded latch_first).latchs ≡ latch 2 3 ∷ []
latch_first-latchs = refl

-- the operands of a gate stay in rising order
latch_first-nodes : (reencoded latch_first).nodes
    ≡ node 0 False ∷ node 1 Leaf ∷ node 2 Leaf ∷ node 3 (And (edge_to 1 false) (edge_to 2 false)) ∷ []
latch_first-nodes = refl

-- it isn't in that order before, as its input is node 2
latch_first-refuted : ¬ IsReencoded latch_first
latch_first-refuted is = absurd (omega (arith, is 0 (omega arith)))

-- so it changes
latch_first-changes : reencoded latch_first ≢ latch_first
latch_first-changes same = absurd (omega (arith, ap (λ c. node_of c.inputs) same))
  where
    node_of : List ℕ → ℕ
    node_of [] = 0
    node_of (n ∷ ns) = n
