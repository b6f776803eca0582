-- One step of a latch whose next edge is its inverse: no node is added, the next edge is the leaf itself, and the output is first the leaf
-- and then its inverse.
use Rattle.aig_base.proofs.Words.{◌≡◌, ℕ, Bool, true, false, not, Some, List, [], ◌∷◌, refl, sym, ap, ◌∙◌, arith, empty, All-cons, All-nil}
use Rattle.aig_circuit.specs.declared.edge.AigEdge.{AigEdge}
use Rattle.aig_circuit.specs.declared.node.AigNode.{AigNode}
use Rattle.aig_circuit.specs.declared.node.AigNodeType.TheVariants.{False, Leaf}
use Rattle.aig_circuit.proofs.Words.{edge_to, AreNodes, Circuit, IsCircuit, IsInRange, IsLatch, IsLeaf, only_false, no_properties}
use Rattle.aig_circuit.specs.Tree.{edge_value, node_value, tree_of}
use Rattle.aig_circuit.proofs.Building.{AreNodes-with_node, Grows-itself}
use Rattle.aig_circuit.proofs.Circuits.{IsCircuit-only_false}
use Rattle.aig_circuit.proofs.Listed.{AllProperties-entries_of}
use Rattle.aig_unroll.specs.Unroll.{ReadsNext, UnrollsOnce, UnrollsTo}
use Rattle.aig_unroll.proofs.MoreSteps.{unrolls_more}
use Rattle.aig_unroll.proofs.NoStep.{unrolls-none}

abbrev leaf_alone : List AigNode
leaf_alone = record { node_id = 0; typ = False } ∷ record { node_id = 1; typ = Leaf } ∷ []

abbrev toggle : AigEdge → List AigEdge → Circuit
toggle next outputs = record {
  nodes = leaf_alone;
  inputs = [];
  latchs = record { input = 1; next = next; init = Some (edge_to 0 false) } ∷ [];
  properties = record no_properties { outputs = outputs };
  names = empty;
}

abbrev once : Circuit
once = toggle (edge_to 1 true) (edge_to 1 false ∷ [])

abbrev twice : Circuit
twice = toggle (edge_to 1 false) (edge_to 1 false ∷ edge_to 1 true ∷ [])

not_not : (b : Bool) → not (not b) ≡ b
not_not true = refl
not_not false = refl

toggle-values : (y x : ℕ → Bool) → ReadsNext once once [] y x
    → (edge_value leaf_alone y (edge_to 1 true) ≡ edge_value leaf_alone x (edge_to 1 false)) × (edge_value leaf_alone y (edge_to 1 false) ≡ edge_value leaf_alone x (edge_to 1 true))
unfolding tree_of node_value
toggle-values y x r = let e : x 1 ≡ not (y 1) = r.state.0 in (sym e, sym (ap not e ∙ not_not (y 1)))

toggle-reads : (y : ℕ → Bool) → (x : ℕ → Bool) × ReadsNext once once [] y x
unfolding tree_of node_value
toggle-reads y = (λ n. not (y 1), record { state = (refl, tt); others = tt })

are_nodes : AreNodes leaf_alone
are_nodes = AreNodes-with_node only_false.nodes Leaf IsCircuit-only_false.nodes (λ e. cc) (record { first = λ a b e. cc; second = λ a b e. cc; in_order = λ a b e. cc })

toggle-unrolls : UnrollsOnce once once twice
toggle-unrolls = record {
  keeps = record { nodes = Grows-itself leaf_alone are_nodes; inputs = refl; names = refl; leaves = refl; starts = refl };
  count = refl;
  added = record no_properties { outputs = edge_to 1 true ∷ [] };
  with_added = refl;
  reads = toggle-reads;
  values = λ y x r. let v = toggle-values y x r in (record { outputs = (v.0, tt); bads = tt; constraints = tt; justice = tt; fairness = tt }, (v.1, tt));
  size = omega arith;
  exact = refl;
}

-- it is a circuit
once-is : IsCircuit once
once-is = record {
  nodes = are_nodes;
  inputs = All-nil (IsLeaf leaf_alone);
  inputs_distinct = λ i j d h l. absurd (omega arith);
  latchs = All-cons (IsLatch leaf_alone) _ [] (record { leaf = refl; next = omega arith; init = omega arith }) (All-nil (IsLatch leaf_alone));
  latchs_distinct = λ i j d h l. absurd (omega arith);
  apart = λ k d h has. absurd (omega (arith, has.1));
  properties = AllProperties-entries_of (IsInRange leaf_alone) once.properties (All-cons (IsInRange leaf_alone) (edge_to 1 false) [] (omega arith) (All-nil (IsInRange leaf_alone)));
  named = λ n h. omega (arith, IsCircuit-only_false.named n h);
}

-- no step and then this one unroll by one, with nothing left to suppose
toggle-unrolled : UnrollsTo once 1 twice
toggle-unrolled = unrolls_more once once twice 0 once-is once-is (unrolls-none once once-is) toggle-unrolls
