-- The places of leaves are nodes of the unrolled circuit; and the inputs of a question are
-- variables.
use Rattle.aig_check_commands.proofs.Words.{ℕ, zero, suc, ◌^◌, ◌<◌, ◌≤◌, Bool, length, arith, All, False, Leaf, IsCircuit, IsLeaf, place_at, UnrollsTo, BoundedClauses, AsksOfBads}
use Rattle.aig_circuit.proofs.Words.{Circuit, lists_circuit}
use Rattle.aig_circuit.proofs.Trees.{kind_at-within}
use Rattle.aig_witness.proofs.ShowingSolutions.{get_below}

module _ (c u : Circuit) (k : ℕ) (steps : UnrollsTo c k u) where
  pub leaf_below : (n : ℕ) → IsLeaf c.nodes n → n < length u.nodes
  leaf_below n leaf = omega (arith, kind_at-within c.nodes n Leaf leaf, steps.keeps.nodes.longer)

  pub place_below : IsCircuit u → (t n : ℕ) → IsLeaf c.nodes n → place_at c u t n < length u.nodes
  place_below is zero n leaf = leaf_below n leaf
  place_below is (suc t) n leaf = get_below u.inputs _ (length u.nodes) (λ i d h. kind_at-within u.nodes _ Leaf (is.inputs i d h)) (kind_at-within u.nodes 0 False is.nodes.false_first)

-- the inputs of a file's question are variables
pub inputs_few : (c : Circuit) (k : ℕ) (optimize : Bool) (made : BoundedClauses)
    → AsksOfBads c k optimize made → length made.clauses ≤ 2 ^ 31
    → All (λ n. n < 2 ^ 31) made.question.circuit.inputs.items
inputs_few c k optimize made asks few i d low =
    let within = kind_at-within (lists_circuit made.question.circuit).nodes _ Leaf (asks.asks.circuit.inputs i d low) in
    omega (arith, within, asks.has_clauses.count, few)
