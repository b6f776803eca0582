-- Wrong results of refining small circuits, of which the definitions are false.
use Rattle.aig_base.proofs.Words.{◌≡◌, ◌≢◌, ℕ, zero, suc, false, Some, List, [], ◌∷◌, sym, subst, refl, arith, inl, inr, Contains, empty}
use Rattle.aig_circuit.specs.declared.edge.AigEdge.{AigEdge}
use Rattle.aig_circuit.specs.declared.node.AigNodeType.{AigNodeType}
use Rattle.aig_circuit.specs.declared.node.AigNodeType.TheVariants.{False, Leaf}
use Rattle.aig_circuit.specs.declared.node.AigNode.{AigNode}
use Rattle.aig_circuit.specs.declared.node.AigLatch.{AigLatch}
use Rattle.aig_circuit.proofs.Words.{edge_to, Circuit, no_properties, DependsOn, IsInCone, IsReached, root}
use Rattle.aig_cone.specs.Refine.{AreKept}
use Rattle.aig_cone.proofs.Keeping.{reached_within}
use Rattle.aig_cone.proofs.Examples.{only_one}

abbrev node : ℕ → AigNodeType → AigNode
node n kind = record { node_id = n; typ = kind }

-- false and the leaves 1 and 2
abbrev over_two : List ℕ → List AigLatch → List AigEdge → Circuit
over_two inputs latchs outputs =
    record { nodes = node 0 False ∷ node 1 Leaf ∷ node 2 Leaf ∷ []; inputs = inputs; latchs = latchs; properties = record no_properties { outputs = outputs }; names = empty }

-- inputs 1 and 2, and the output 2, which reaches 2 alone
abbrev one_of_two : Circuit
one_of_two = over_two (1 ∷ 2 ∷ []) [] (edge_to 2 false ∷ [])

reaches_two : (n : ℕ) → IsReached (DependsOn one_of_two) (2 ∷ []) n → n ≡ 2
reaches_two = reached_within (λ n. n ≡ 2) (only_one 2) (λ n m is before. ends m (subst (λ k. DependsOn one_of_two k m) is before))
  where
    ends : (m : ℕ) → DependsOn one_of_two 2 m → m ≡ 2
    ends m (inl (a, b, kind, which)) = cc
    ends m (inr (latch, (k, h, is), from, to)) = absurd (omega arith)

-- every node kept
not_every_node : ¬ AreKept one_of_two (0 ∷ 1 ∷ 2 ∷ [])
not_every_node kept = wrong ((kept.exactly 1).0 (1, omega arith, refl))
  where
    wrong : IsInCone one_of_two (2 ∷ []) 1 → ⊥
    wrong (inl is) = absurd (omega arith)
    wrong (inr reached) = let is = reaches_two 1 reached in absurd (omega arith)

-- a number that isn't in a list of one
none_of_one : (m n : ℕ) → n ≢ m → ¬ Contains (m ∷ []) n
none_of_one m n other has = other (only_one m n has)

-- the output's node dropped
not_zero_alone : ¬ AreKept one_of_two (0 ∷ [])
not_zero_alone kept = none_of_one 0 2 (λ (e : 2 ≡ 0). absurd (omega arith)) ((kept.exactly 2).1 (inr (root (0, omega arith, refl))))

-- a latch that no property reaches dropped
not_without_latches : ¬ AreKept (over_two [] (record { input = 1; next = edge_to 1 false; init = Some (edge_to 0 false) } ∷ []) []) (0 ∷ [])
not_without_latches kept = none_of_one 0 1 (λ (e : 1 ≡ 0). absurd (omega arith)) ((kept.exactly 1).1 (inr (root (0, omega arith, refl))))

-- a number that isn't in a list of two
none_of_two : (l m n : ℕ) → n ≢ l → n ≢ m → ¬ Contains (l ∷ m ∷ []) n
none_of_two l m n first second (zero, h, is) = first (sym is)
none_of_two l m n first second (suc zero, h, is) = second (sym is)
none_of_two l m n first second (suc (suc k), h, is) = absurd (omega arith)

-- the node of an initial edge dropped
not_without_starts : ¬ AreKept (over_two (1 ∷ []) (record { input = 2; next = edge_to 2 false; init = Some (edge_to 1 false) } ∷ []) []) (0 ∷ 2 ∷ [])
not_without_starts kept = none_of_two 0 2 1 (λ (e : 1 ≡ 0). absurd (omega arith)) (λ (e : 1 ≡ 2). absurd (omega arith)) ((kept.exactly 1).1 (inr (root (1, omega arith, refl))))
