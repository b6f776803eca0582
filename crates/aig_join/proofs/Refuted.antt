-- Wrong results, which the definitions refuse.
use Rattle.aig_base.proofs.Words.{◌≡◌, ◌↔◌, ℕ, Bool, true, false, not, ◌&&◌, Option, None, Some, List, [], ◌∷◌, length, refl, sym, ap, ◌∙◌, arith, IsTrue, length-append, codes, slice_index_or, false≢true}
use Rattle.aig_circuit.specs.declared.edge.AigEdge.{AigEdge}
use Rattle.aig_circuit.specs.declared.node.AigLatch.{AigLatch}
use Rattle.aig_circuit.specs.declared.node.AigNode.{AigNode}
use Rattle.aig_circuit.specs.declared.node.AigNodeType.TheVariants.{False, Leaf}
use Rattle.aig_circuit.proofs.Words.{Circuit, edge_to, inverse, no_properties}
use Rattle.aig_circuit.specs.Tree.{edge_value, node_value, tree_of}
use Rattle.aig_circuit.proofs.Joining.{edge_value-inverse}
use Rattle.aig_change.specs.Merge.{merged}
use Rattle.aig_change.specs.Runs.{IsAllowedRun}
use Rattle.aig_join.specs.Certificate.{certified}
use Rattle.aig_join.specs.Joined.{joined}
use Rattle.aig_join.specs.Miter.{AreEqualAt, Differs, IsMiter, compared, moved_compared}
use Rattle.aig_join.specs.Names.{other_name}
use Rattle.aig_join.proofs.Differing.{DifferInSteps-count}
use Rattle.aig_join.proofs.Examples.{circuit_with, first_xor, gate, invariant, node, outputs_only, second_xor, toggles}

-- inputs of the second circuit beside those of the first
not_merged : joined 0 first_xor second_xor ≡ merged first_xor second_xor → ⊥
not_merged same = let counts : 2 ≡ 4 = ap (λ (c : Circuit). length c.inputs) same in absurd
    (omega (arith, counts))

-- next edges of the witness circuit in place of the model's
not_its_latches : (c : Circuit) → c ≡ certified toggles invariant → c.latchs ≡ invariant.latchs → ⊥
not_its_latches c same latches =
    let next = λ (ls : List AigLatch). (slice_index_or ls 0
    (record { input = 0; next = edge_to 0 false; init = None })).next.node_id in
    let numbers : 1 ≡ 0 = ap (λ (d : Circuit). next d.latchs) (sym same) ∙ ap next latches in
    absurd (omega (arith, numbers))

-- a constraint that isn't inverted
not_the_constraint : (certified toggles invariant).properties.bads
    ≡ edge_to 3 false ∷ edge_to 5 false ∷ edge_to 7 false ∷ [] → ⊥
not_the_constraint same = absurd (false≢true (sym
    (ap (λ (es : List AigEdge). (slice_index_or es 2 (edge_to 0 false)).compl) same)))

-- the witness circuit's constraints, as constraints
not_its_constraints : (certified toggles invariant).properties.constraints ≡ edge_to 7 false ∷ []
    → ⊥
not_its_constraints same = let counts : 0 ≡ 1 = ap length same in absurd (omega (arith, counts))

-- no bad edge
not_without_bads : (nodes : List AigNode)
    → IsMiter first_xor second_xor (record (joined 0 first_xor second_xor)
    { nodes = nodes; properties = no_properties }) → ⊥
not_without_bads nodes miters = miters.steps

-- bad edges of which none is compared
not_outputs_alone : (a b m : Circuit) → IsMiter a b m
    → length m.properties.bads ≡ length a.properties.outputs → length a.properties.bads ≡ 0
not_outputs_alone a b m miters few =
    let count = DifferInSteps-count (joined 0 a b).nodes (compared a) (moved_compared a b)
    m.properties.bads m.nodes miters.steps in
    omega (arith, length-append a.properties.outputs a.properties.bads)

-- a taken name, given all the same
not_taken : other_name (λ text. true) (Some (codes "q")) ≡ Some (codes "other.q") → ⊥
not_taken same = cc

-- a name without the prefix
abbrev name_length : Option (List ℕ) → ℕ
name_length (Some name) = length name
name_length None = 0

not_bare : other_name (λ text. false) (Some (codes "q")) ≡ Some (codes "q") → ⊥
not_bare same = let counts : 7 ≡ 1 = ap name_length same in absurd
    (omega (arith, counts))

-- outputs that are left
no_outputs : (a b m : Circuit) → IsMiter a b m → m.properties.outputs ≡ []
no_outputs a b m miters = ap (λ (c : Circuit). c.properties.outputs) miters.rest

-- the edge that is true where the two are equal
not_equality : (old new : List AigNode) (e f d : AigEdge) → Differs old new e f d
    → Differs old new e f (inverse d) → ⊥
not_equality old new e f d here turned =
    let x : ℕ → Bool = λ n. false in
    by_value (edge_value new x d) (edge_value new x (inverse d)) (edge_value-inverse new x d)
    (here.value x) (turned.value x)
  where
    by_value : {P : Type 0} (v w : Bool) → w ≡ not v → IsTrue v ↔ P → IsTrue w ↔ P → ⊥
    by_value true w same says also = absurd (false≢true (sym same ∙ also.1 (says.0 refl)))
    by_value false w same says also = absurd (false≢true (says.1 (also.0 same)))

-- ---- which circuits are equal

-- an and
abbrev and_gate : Circuit
and_gate = circuit_with (node 0 False ∷ node 1 Leaf ∷ node 2 Leaf ∷ gate 3 (edge_to 1 false)
    (edge_to 2 false) ∷ []) (1 ∷ 2 ∷ []) [] (outputs_only (edge_to 3 false ∷ []))

-- a circuit without latches and constraints allows all
allowed : (nodes : List AigNode) (inputs : List ℕ) (outputs : List AigEdge) (k : ℕ)
    (x : ℕ → ℕ → Bool) → IsAllowedRun (circuit_with nodes inputs [] (outputs_only outputs)) k x
allowed nodes inputs outputs k x = record {
  from_start = record {
    run = λ t h i d l. absurd (omega arith);
    start = λ i d l. absurd
        (omega arith);
  };
  allowed = λ s h i d l. absurd (omega arith);
}

-- the two exclusive ors are
same_xors : (p q : Bool) → not (not (p && not q) && not (not p && q))
    ≡ (not (q && p) && not (not q && not p))
same_xors true true = refl
same_xors true false = refl
same_xors false true = refl
same_xors false false = refl

xors-equal : (k : ℕ) → AreEqualAt first_xor second_xor k
unfolding tree_of node_value
xors-equal k x y first second inputs =
    let here = inputs k (omega arith) in
    let one : x k 1 ≡ y k 2 = here.0 in
    let two : x k 2 ≡ y k 1 = here.1.0 in (
      same_xors (x k 1) (x k 2) ∙ ap (λ p. not (x k 2 && p) && not (not (x k 2) && not p)) one
          ∙ ap (λ q. not (q && y k 2) && not (not q && not (y k 2))) two,
      tt,
    )

-- an exclusive or and an and are not
not_equal : AreEqualAt first_xor and_gate 0 → ⊥
unfolding tree_of node_value
not_equal equal =
    let x : ℕ → ℕ → Bool = λ t n. true in
    let same = equal x x (allowed first_xor.nodes first_xor.inputs first_xor.properties.outputs 0 x)
    (allowed and_gate.nodes and_gate.inputs and_gate.properties.outputs 0 x)
    (λ t h. (refl, (refl, tt))) in
    absurd (false≢true same.0)
