-- Small circuits, refined by computation.
use Rattle.aig_base.proofs.Words.{◌≡◌, ◌≢◌, nat_cmp, ℕ, zero, suc, ◌<◌, false, Some, List, [], ◌∷◌, refl, sym, ap, subst, ◌∙◌, inl, inr, arith, All, AllPairs, Contains, is_some, slice_get, empty, get-empty, false≢true, same_Some}
use Rattle.aig_circuit.specs.declared.edge.AigEdge.{AigEdge}
use Rattle.aig_circuit.specs.declared.node.AigNodeType.{AigNodeType}
use Rattle.aig_circuit.specs.declared.node.AigNodeType.TheVariants.{False, Leaf, And}
use Rattle.aig_circuit.specs.declared.node.AigNode.{AigNode}
use Rattle.aig_circuit.specs.declared.node.AigLatch.{AigLatch}
use Rattle.aig_circuit.proofs.Words.{edge_to, kind_at, AreNodes, Circuit, IsCircuit, IsInRange, IsLeaf, no_properties, DependsOn, IsInCone, IsFanin, IsReached, root, step}
use Rattle.aig_circuit.proofs.Listed.{AllProperties-entries_of}
use Rattle.aig_cone.specs.Refine.{AreKept, refined, refining_roots}
use Rattle.aig_cone.proofs.Keeping.{reached_within}

abbrev node : ℕ → AigNodeType → AigNode
node n kind = record { node_id = n; typ = kind }

-- a circuit of these nodes, inputs, latches and outputs
abbrev circuit_with : List AigNode → List ℕ → List AigLatch → List AigEdge → Circuit
circuit_with nodes inputs latchs outputs =
    record { nodes = nodes; inputs = inputs; latchs = latchs; properties = record no_properties { outputs = outputs }; names = empty }

abbrev two_leaves : List AigNode
two_leaves = node 0 False ∷ node 1 Leaf ∷ node 2 Leaf ∷ []

-- inputs 1 and 2, output 2: 0 and 2 are kept
abbrev one_of_two : Circuit
one_of_two = circuit_with two_leaves (1 ∷ 2 ∷ []) [] (edge_to 2 false ∷ [])

one_of_two-roots : refining_roots one_of_two ≡ 2 ∷ []
one_of_two-roots = refl

one_of_two-nodes : (refined (0 ∷ 2 ∷ []) one_of_two).nodes ≡ node 0 False ∷ node 1 Leaf ∷ []
one_of_two-nodes = refl

one_of_two-inputs : (refined (0 ∷ 2 ∷ []) one_of_two).inputs ≡ 1 ∷ []
one_of_two-inputs = refl

one_of_two-outputs : (refined (0 ∷ 2 ∷ []) one_of_two).properties.outputs ≡ edge_to 1 false ∷ []
one_of_two-outputs = refl

-- input 1, latch 2 with next 2 and initial edge 1: the initial edge's node is a root
abbrev started_by_input : Circuit
started_by_input = circuit_with two_leaves (1 ∷ []) (record { input = 2; next = edge_to 2 false; init = Some (edge_to 1 false) } ∷ []) []

started_by_input-roots : refining_roots started_by_input ≡ 2 ∷ 1 ∷ []
started_by_input-roots = refl

-- all its nodes are kept, and nothing changes
started_by_input-lists : (refined (0 ∷ 1 ∷ 2 ∷ []) started_by_input).latchs ≡ started_by_input.latchs
started_by_input-lists = refl

-- latch 1 with next 1 and input 2, no properties: the input is dropped
abbrev only_latch : Circuit
only_latch = circuit_with two_leaves (2 ∷ []) (record { input = 1; next = edge_to 1 false; init = Some (edge_to 0 false) } ∷ []) []

-- a constant initial edge is no root
only_latch-roots : refining_roots only_latch ≡ 1 ∷ []
only_latch-roots = refl

only_latch-nodes : (refined (0 ∷ 1 ∷ []) only_latch).nodes ≡ node 0 False ∷ node 1 Leaf ∷ []
only_latch-nodes = refl

only_latch-inputs : (refined (0 ∷ 1 ∷ []) only_latch).inputs ≡ []
only_latch-inputs = refl

only_latch-latchs : (refined (0 ∷ 1 ∷ []) only_latch).latchs ≡ only_latch.latchs
only_latch-latchs = refl

-- ---- what is reached

-- the one number of a list
pub only_one : (m n : ℕ) → Contains (m ∷ []) n → n ≡ m
only_one m n (zero, h, is) = sym is
only_one m n (suc k, h, is) = absurd (omega arith)

-- input 1, latch 2 with next 3, node 3 = and(1,2)
abbrev next_of : AigLatch
next_of = record { input = 2; next = edge_to 3 false; init = Some (edge_to 0 false) }

abbrev latched : Circuit
latched = circuit_with (node 0 False ∷ node 1 Leaf ∷ node 2 Leaf ∷ node 3 (And (edge_to 1 false) (edge_to 2 false)) ∷ []) (1 ∷ []) (next_of ∷ []) []

-- over time latch 2 reaches its next edge, and the operands of that
latched-root : IsReached (DependsOn latched) (2 ∷ []) 2
latched-root = root (0, omega arith, refl)

latched-next : IsReached (DependsOn latched) (2 ∷ []) 3
latched-next = step latched-root (inr (next_of, (0, omega arith, refl), refl, refl))

latched-operand : IsReached (DependsOn latched) (2 ∷ []) 1
latched-operand = step latched-next (inl (edge_to 1 false, edge_to 2 false, refl, inl refl))

-- along operands alone the leaf 2 reaches itself and nothing else
latched-cone : (n : ℕ) → IsReached (IsFanin latched.nodes) (2 ∷ []) n → n ≡ 2
latched-cone = reached_within (λ n. n ≡ 2) (only_one 2) (λ n m is below. absurd (leaf_ends m (subst (λ k. IsFanin latched.nodes k m) is below)))
  where
    leaf_ends : (m : ℕ) → IsFanin latched.nodes 2 m → ⊥
    leaf_ends m (a, b, kind, which) = cc

-- initial edges aren't followed
started_by_input-cone : (n : ℕ) → IsReached (DependsOn started_by_input) (2 ∷ []) n → n ≡ 2
started_by_input-cone = reached_within (λ n. n ≡ 2) (only_one 2) (λ n m is before. goes m (subst (λ k. DependsOn started_by_input k m) is before))
  where
    only_latch_of : (m : ℕ) (latch : AigLatch) → Contains started_by_input.latchs latch → m ≡ latch.next.node_id → m ≡ 2
    only_latch_of m latch (zero, h, is) to = to ∙ ap (λ (l : AigLatch). l.next.node_id) (sym is)
    only_latch_of m latch (suc k, h, is) to = absurd (omega arith)

    goes : (m : ℕ) → DependsOn started_by_input 2 m → m ≡ 2
    goes m (inl (a, b, kind, which)) = cc
    goes m (inr (latch, has, from, to)) = only_latch_of m latch has to

-- 0 and the output's node are what is kept of two inputs
one_of_two-kept : AreKept one_of_two (0 ∷ 2 ∷ [])
one_of_two-kept = record { rising = is_increasing; exactly = λ n. (forth n, back n) }
  where
    is_increasing : AllPairs (λ m n. m < n) (0 ∷ 2 ∷ [])
    is_increasing zero (suc zero) d lt h = omega arith
    is_increasing i zero d lt h = absurd (omega arith)
    is_increasing zero (suc (suc j)) d lt h = absurd (omega arith)
    is_increasing (suc i) (suc j) d lt h = absurd (omega arith)

    forth : (n : ℕ) → Contains (0 ∷ 2 ∷ []) n → IsInCone one_of_two (2 ∷ []) n
    forth n (zero, h, is) = inl (sym is)
    forth n (suc zero, h, is) = inr (root (0, omega arith, is))
    forth n (suc (suc k), h, is) = absurd (omega arith)

    ends : (m : ℕ) → DependsOn one_of_two 2 m → m ≡ 2
    ends m (inl (a, b, kind, which)) = cc
    ends m (inr (latch, (k, h, is), from, to)) = absurd (omega arith)

    back : (n : ℕ) → IsInCone one_of_two (2 ∷ []) n → Contains (0 ∷ 2 ∷ []) n
    back n (inl is) = (0, omega arith, sym is)
    back n (inr reached) = (1, omega arith, sym (reached_within (λ n. n ≡ 2) (only_one 2) (λ k m is before. ends m (subst (λ j. DependsOn one_of_two j m) is before)) n reached))

-- two inputs are a circuit
two_leaves-nodes : AreNodes two_leaves
two_leaves-nodes = record { false_first = refl; false_once = once; numbered = own; ordered = record { first_before = λ n a b kind. absurd (no_gate n a b kind); second_before = λ n a b kind. absurd (no_gate n a b kind); in_order = λ n a b kind. absurd (no_gate n a b kind) } }
  where
    once : (n : ℕ) → kind_at two_leaves n ≡ Some False → n ≡ 0
    once zero e = refl
    once (suc zero) e = cc
    once (suc (suc zero)) e = cc
    once (suc (suc (suc n))) e = cc

    own : (n : ℕ) (x : AigNode) → slice_get two_leaves n ≡ Some x → x.node_id ≡ n
    own zero x e = ap (λ (y : AigNode). y.node_id) (sym (same_Some _ _ e))
    own (suc zero) x e = ap (λ (y : AigNode). y.node_id) (sym (same_Some _ _ e))
    own (suc (suc zero)) x e = ap (λ (y : AigNode). y.node_id) (sym (same_Some _ _ e))
    own (suc (suc (suc n))) x e = cc

    no_gate : (n : ℕ) (a b : AigEdge) → kind_at two_leaves n ≡ Some (And a b) → ⊥
    no_gate zero a b e = cc
    no_gate (suc zero) a b e = cc
    no_gate (suc (suc zero)) a b e = cc
    no_gate (suc (suc (suc n))) a b e = cc

one_of_two-circuit : IsCircuit one_of_two
one_of_two-circuit = record {
  nodes = two_leaves-nodes;
  inputs = leaves;
  inputs_distinct = differ;
  latchs = λ k d h. absurd (omega arith);
  latchs_distinct = λ i j d lt h. absurd (omega arith);
  apart = λ k d h. absurd (omega arith);
  properties = AllProperties-entries_of (IsInRange two_leaves) one_of_two.properties outputs;
  named = λ n named. absurd (false≢true (sym (ap is_some (get-empty nat_cmp n)) ∙ named));
}
  where
    leaves : All (IsLeaf two_leaves) (1 ∷ 2 ∷ [])
    leaves zero d h = refl
    leaves (suc zero) d h = refl
    leaves (suc (suc k)) d h = absurd (omega arith)

    differ : AllPairs {X = ℕ} (λ m n. m ≢ n) (1 ∷ 2 ∷ [])
    differ zero (suc zero) d lt h = λ e. absurd (omega arith)
    differ i zero d lt h = absurd (omega arith)
    differ zero (suc (suc j)) d lt h = absurd (omega arith)
    differ (suc i) (suc j) d lt h = absurd (omega arith)

    outputs : All (IsInRange two_leaves) (edge_to 2 false ∷ [])
    outputs zero d h = omega arith
    outputs (suc k) d h = absurd (omega arith)
