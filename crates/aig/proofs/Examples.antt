-- Wrong verdicts, gates and lists of small circuits, of which the definitions are false.
use Rattle.aig_base.proofs.Words.{◌≡◌, ◌≢◌, ℕ, zero, suc, false, None, Some, Option, Ok, Err, List, [], ◌∷◌, refl, ap, arith, Contains, option_map, slice_get, slice_index_or, slice_set}
use Rattle.aig_circuit.specs.declared.edge.AigEdge.{AigEdge}
use Rattle.aig_circuit.specs.declared.node.AigNodeType.{AigNodeType}
use Rattle.aig_circuit.specs.declared.node.AigNodeType.TheVariants.{False, Leaf, And}
use Rattle.aig_circuit.specs.declared.node.AigNode.{AigNode}
use Rattle.aig_circuit.specs.declared.node.AigLatch.{AigLatch}
use Rattle.aig_circuit.specs.declared.prop_list.PropList.TheVariants.{Bads}
use Rattle.aig_circuit.specs.Circuit.{BeginsWith, Circuit, IsFree, IsLeaf, only_false}
use Rattle.aig_circuit.proofs.Words.{edge_to, edges_of, with_edges, no_properties}
use Rattle.aig.specs.declared.aiger.WriteError.TheVariants as errors
use Rattle.aig.specs.Gates.{IsGateOf}
use Rattle.aig.specs.Writing.{IsVerdictOf}

abbrev node : ℕ → AigNodeType → AigNode
node n kind = record { node_id = n; typ = kind }

-- leaves 1 and 2, of which these are inputs and latches
abbrev over_two : List ℕ → List AigLatch → Circuit
over_two inputs latchs =
    record only_false {
      nodes = node 0 False ∷ node 1 Leaf ∷ node 2 Leaf ∷ [];
      inputs = inputs;
      latchs = latchs;
    }

-- a latch that keeps what it has
abbrev keeping : ℕ → Option AigEdge → AigLatch
keeping n init = record { input = n; next = edge_to n false; init = init }

-- ---- whether a circuit can be written

-- leaf 2 is neither an input nor a latch's, and that is passed over
no_free_leaf_passed : ¬ IsVerdictOf (over_two (1 ∷ []) []) (Ok tt)
no_free_leaf_passed writable = only_1 (writable.closed 2 refl)
  where
    only_1 : Contains {X = ℕ} (1 ∷ []) 2 → ⊥
    only_1 (zero, low, is) = omega (arith, is)
    only_1 (suc k, low, is) = omega arith

-- latch 2 starts as input 1, and that is passed over
abbrev started : Circuit
started = over_two (1 ∷ []) (keeping 2 (Some (edge_to 1 false)) ∷ [])

no_initial_edge_passed : ¬ IsVerdictOf started (Ok tt)
no_initial_edge_passed writable =
    let constant : 1 ≡ 0 = writable.start 0 (keeping 0 None) (omega arith) in
    omega (arith, constant)

-- or is told as a free leaf
no_free_leaf_told : ¬ IsVerdictOf started (Err errors.FreeLeaf)
no_free_leaf_told (n, leaf, free) = by n leaf free
  where
    by : (n : ℕ) → IsLeaf started.nodes n → IsFree started.inputs started.latchs n → ⊥
    by zero leaf free = cc
    by (suc zero) leaf free = free.no_input (0, omega arith, refl)
    by (suc (suc zero)) leaf free = free.no_latch (0, omega arith, refl)
    by (suc (suc (suc n))) leaf free = cc

-- ---- beginnings, gates and lists

-- as many latches, of another leaf
no_other_latches : ¬ BeginsWith (over_two [] (keeping 1 None ∷ []))
    (over_two [] (keeping 2 None ∷ []))
no_other_latches begins = let leaf = ap (λ leaves. slice_get leaves 0) begins.leaves in cc

-- a gate that stands elsewhere
abbrev with_gate : List AigNode
with_gate =
    node 0 False ∷ node 1 Leaf ∷ node 2 Leaf ∷ node 3 (And (edge_to 1 false) (edge_to 2 false)) ∷ []

no_gate_elsewhere : ¬ IsGateOf with_gate (node 2 (And (edge_to 1 false) (edge_to 2 false)))
no_gate_elsewhere is =
    let kind : Some Leaf ≡ Some (And (edge_to 1 false) (edge_to 2 false)) =
    ap (option_map (λ (node : AigNode). node.typ)) is.there in
    cc

-- the first bad edge is changed in place of the second
abbrev two_bads : Circuit
two_bads =
    record (over_two (1 ∷ 2 ∷ []) []) {
      properties = record no_properties { bads = edge_to 1 false ∷ edge_to 2 false ∷ [] };
    }

no_first_changed : with_edges Bads two_bads (slice_set (edges_of Bads two_bads) 1 (edge_to 1 false))
    ≢ with_edges Bads two_bads (slice_set (edges_of Bads two_bads) 0 (edge_to 1 false))
no_first_changed same =
    let second = λ (c : Circuit). (slice_index_or c.properties.bads 1 (edge_to 0 false)).node_id in
    let node : 1 ≡ 2 = ap second same in
    omega (arith, node)
