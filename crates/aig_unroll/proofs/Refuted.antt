-- Wrong unrolled circuits, of which the definitions are false.
use Rattle.aig_base.proofs.Words.{◌≡◌, ◌≢◌, ℕ, Bool, true, false, not, Some, None, Err, List, [], ◌∷◌, length, refl, sym, ap, ◌∙◌, arith, empty, false≢true}
use Rattle.std.specs.Prelude.{◌==◌, ◌++◌, OnErr}
use Rattle.aig_base.specs.declared.memory.MemoryError.{MemoryError}
use Rattle.aig_base.specs.declared.memory.MemoryError.TheVariants.{Memory}
use Rattle.aig_circuit.specs.declared.edge.AigEdge.{AigEdge}
use Rattle.aig_circuit.specs.declared.node.AigNodeType.{AigNodeType}
use Rattle.aig_circuit.specs.declared.node.AigNodeType.TheVariants.{False, Leaf, And}
use Rattle.aig_circuit.specs.declared.node.AigNode.{AigNode}
use Rattle.aig_circuit.specs.declared.node.AigLatch.{AigLatch}
use Rattle.aig_circuit.proofs.Words.{edge_to, Circuit, no_properties}
use Rattle.aig_circuit.specs.Tree.{tree_of, node_value}
use Rattle.aig_unroll.specs.Places.{unrolled_size}
use Rattle.aig_unroll.specs.Unroll.{UnrollsOnce, UnrollsTo}

abbrev node : ℕ → AigNodeType → AigNode
node n kind = record { node_id = n; typ = kind }

abbrev circuit_with : List AigNode → List ℕ → List AigLatch → List AigEdge → Circuit
circuit_with nodes inputs latchs outputs =
    record {
      nodes = nodes;
      inputs = inputs;
      latchs = latchs;
      properties = record no_properties { outputs = outputs };
      names = empty;
    }

abbrev latch_to : ℕ → AigEdge → AigLatch
latch_to leaf next = record { input = leaf; next = next; init = None }

-- two latches that exchange their values
abbrev swap : Circuit
swap =
    circuit_with (node 0 False ∷ node 1 Leaf ∷ node 2 Leaf ∷ []) []
    (latch_to 1 (edge_to 2 false) ∷ latch_to 2 (edge_to 1 false) ∷ []) (edge_to 1 false ∷ [])

-- the second next edge is mapped through the first, which is replaced already
abbrev swap_in_turn : Circuit
swap_in_turn =
    circuit_with (node 0 False ∷ node 1 Leaf ∷ node 2 Leaf ∷ []) []
    (latch_to 1 (edge_to 1 false) ∷ latch_to 2 (edge_to 1 false) ∷ [])
    (edge_to 1 false ∷ edge_to 2 false ∷ [])

abbrev first_alone : ℕ → Bool
first_alone n = n == 1

no_swap_in_turn : ¬ UnrollsOnce swap swap swap_in_turn
unfolding node_value tree_of
no_swap_in_turn u =
    let y = first_alone in
    let r = u.reads y in
    let v = u.values y r.0 r.1 in
    let nexts = v.1 in
    let one : true ≡ r.0 1 = nexts.1.0 in
    let two : r.0 1 ≡ false = r.1.state.0 in
    false≢true (sym (one ∙ two))

-- nor is it what one further step leads to
no_swap_in_turn-to : ¬ UnrollsTo swap 1 swap_in_turn
unfolding node_value tree_of
no_swap_in_turn-to u =
    let y = first_alone in
    let r = u.run_of y in
    let s = u.same y r.0 r.1 r.2 in
    let state = s.state in
    let one : true ≡ r.0 1 1 = state.1.0 in
    let run : r.0 1 1 ≡ r.0 0 2 =
    r.1 0 (omega arith) 0 (latch_to 1 (edge_to 0 false)) (omega arith) in
    let start : r.0 0 2 ≡ false = r.2.state 1 0 (omega arith) in
    false≢true (sym (one ∙ run ∙ start))

-- by no step: the output is inverted
abbrev one_input : List AigEdge → Circuit
one_input outputs = circuit_with (node 0 False ∷ node 1 Leaf ∷ []) (1 ∷ []) [] outputs

no_inverted_output : ¬ UnrollsTo (one_input (edge_to 1 false ∷ [])) 0
    (one_input (edge_to 1 true ∷ []))
unfolding node_value tree_of
no_inverted_output u =
    let y = first_alone in
    let r = u.run_of y in
    let s = u.same y r.0 r.1 r.2 in
    let o = s.properties.outputs.each 0 0 (edge_to 1 false) (omega arith) refl in
    let there : Some (edge_to 1 true) ≡ Some o.0 = o.1 in
    let e : edge_to 1 true ≡ o.0 = cc in
    let value : not (first_alone 1) ≡ r.0 0 1 = rw (sym e) at o.2 in
    let read : r.0 0 1 ≡ true = r.2.others 0 (omega arith) 0 0 (omega arith) in
    false≢true (value ∙ read)

-- ---- half a step

-- where memory is refused, a leaf of the further step is left
no_half_step : ¬ OnErr {T = Unit {0}} {E = MemoryError} (Err Memory)
    (record swap { nodes = swap.nodes ++ node 3 Leaf ∷ [] } ≡ swap)
no_half_step same =
    let n : ◌≡◌ {A = ℕ} 4 3 = ap (λ (c : Circuit). length c.nodes) same in absurd (omega arith)

-- ---- the size is that of all gates, folding or not, and doesn't grow without gates and inputs

-- gate 2 is the and of input 1 and of false: of its copies none is a node, and the size counts them
abbrev folds_away : Circuit
folds_away =
    circuit_with
    (node 0 False ∷ node 1 Leaf ∷ node 2 (And (edge_to 0 false) (edge_to 1 false)) ∷ []) (1 ∷ [])
    [] (edge_to 2 false ∷ [])

size_of_folded : unrolled_size folds_away 1 ≢ 4
size_of_folded e = absurd (omega arith)

size_of_latches : unrolled_size swap 1000 ≡ 3
size_of_latches = refl
