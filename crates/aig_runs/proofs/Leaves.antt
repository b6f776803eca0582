-- The places of a run are leaves of the unrolled circuit.
use Rattle.aig_base.proofs.Words.{ℕ, zero, suc, ◌+◌, ◌*◌, ◌<◌, ◌≤◌, Bool, ◌++◌, length, sym, ◌∙◌, arith, All, Contains, All-append, All-contains, All-same, All-weaker, Contains-get_or}
use Rattle.std.proofs.lemmas.Nat.{mul-add-lt}
use Rattle.aig_circuit.specs.declared.node.AigNodeType.TheVariants.{Leaf}
use Rattle.aig_circuit.proofs.Words.{Circuit, IsCircuit, IsLeaf, latch_leaves, node_value, position_of}
use Rattle.aig_circuit.proofs.Building.{Grows-kept}
use Rattle.aig_circuit.proofs.Trees.{kind_at-within, node_value-leaf}
use Rattle.aig_renumber.proofs.Places.{position_of-within}
use Rattle.aig_unroll.specs.Places.{Reads, leaves_after, other_leaves, place_at}
use Rattle.aig_unroll.specs.Unroll.{UnrollsTo}
use Rattle.aig_unroll.proofs.Added.{following-are}
use Rattle.aig_unroll.proofs.Others.{others-are}
use Rattle.aig_unroll.proofs.Values.{same_values}
use Rattle.aig_runs.specs.Circuits.{AreNodeValues}
use Rattle.aig_circuit.proofs.Circuits.{latch_leaves-leaves}

module _ (c u : Circuit) (k : ℕ) (is : IsCircuit c) (unrolls : UnrollsTo c k u) where
  -- a leaf stays one
  stays : (n : ℕ) → IsLeaf c.nodes n → IsLeaf u.nodes n
  stays n leaf = Grows-kept c.nodes u.nodes unrolls.keeps.nodes n (kind_at-within c.nodes n Leaf leaf) ∙ leaf

  inputs-are : All (IsLeaf u.nodes) u.inputs
  inputs-are =
      let added = leaves_after (length c.nodes) u.nodes in
      let old = All-weaker (IsLeaf c.nodes) (IsLeaf u.nodes) stays c.inputs is.inputs in
      let new = All-weaker (λ n. IsLeaf u.nodes n × (length c.nodes ≤ n)) (IsLeaf u.nodes) (λ n h. h.0) added (following-are u.nodes unrolls.keeps.nodes.sound (length c.nodes)) in
      All-same (IsLeaf u.nodes) u.inputs (c.inputs ++ added) unrolls.keeps.inputs (All-append (IsLeaf u.nodes) c.inputs added old new)

  place-leaf : (t n : ℕ) → t ≤ k → Contains (other_leaves c) n → IsLeaf u.nodes (place_at c u t n)
  place-leaf zero n h has = stays n (All-contains (λ n. IsLeaf c.nodes n × ¬ Contains (latch_leaves c.latchs) n) (other_leaves c) n (others-are c is.nodes) has).0
  place-leaf (suc t) n h has =
      let others = other_leaves c in
      let i = position_of others n in
      let low : t < k = omega arith in
      inputs-are (length c.inputs + t * length others + i) 0 (omega (arith, unrolls.inputs, mul-add-lt t (length others) i k low (position_of-within others n has)))

  -- so what the leaf values read the node values under them read too
  pub values_read : (y : ℕ → Bool) (x : ℕ → ℕ → Bool) → Reads c u k y x → Reads c u k (node_value u.nodes y) x
  values_read y x reads = record {
    state = λ i d h. reads.state i d h ∙ sym (node_value-leaf u.nodes y _ (stays _ (latch_leaves-leaves c is i d h)));
    others = λ t h i d l. reads.others t h i d l ∙ sym (node_value-leaf u.nodes y _ (place-leaf t _ h (Contains-get_or (other_leaves c) i d l)));
  }

  -- and they are the values under themselves
  pub are_node_values : (y : ℕ → Bool) → AreNodeValues u (node_value u.nodes y)
  are_node_values y = same_values u.nodes unrolls.keeps.nodes.sound.ordered y (node_value u.nodes y) (λ n leaf. sym (node_value-leaf u.nodes y n leaf))
